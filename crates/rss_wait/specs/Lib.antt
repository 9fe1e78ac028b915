pub mod Waits
pub mod Kept
pub mod Held
pub mod Queues
