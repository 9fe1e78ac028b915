pub mod Tasks
pub mod GoodWords
pub mod Named
pub mod Taken
