pub mod Store
pub mod Turns
pub mod Calls
pub mod LogLaws
