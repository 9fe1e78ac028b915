pub mod Appends
pub mod Words
pub mod Named
pub mod Reads
pub mod Once
pub mod Draws
pub mod Owners
