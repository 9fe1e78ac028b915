pub mod Entries
pub mod Rows
pub mod Nested
pub mod Spots
pub mod Sought
pub mod Removes
