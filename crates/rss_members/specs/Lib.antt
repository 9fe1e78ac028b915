pub mod Members
pub mod Calls
