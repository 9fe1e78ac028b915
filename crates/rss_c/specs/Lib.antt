pub mod Texts
pub mod Ends
pub mod Steps
pub mod Stores
pub mod Kept
pub mod Handles
