pub mod Putting
pub mod FieldBytes
pub mod Marks
pub mod Records
pub mod Parsing
