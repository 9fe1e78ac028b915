pub mod Counting
pub mod Showing
pub mod Mapping
pub mod Stepping
pub mod Noting
pub mod Told
pub mod Asked
pub mod Summing
