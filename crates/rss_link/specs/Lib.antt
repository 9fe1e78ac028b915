pub mod Blocks
pub mod Chains
pub mod Links
pub mod Calls
pub mod Prefixed
pub mod Edits
pub mod Checking
