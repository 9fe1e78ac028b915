pub mod Owners
pub mod Entries
pub mod Written
pub mod Maps
pub mod Keys
pub mod Taken
pub mod Areas
