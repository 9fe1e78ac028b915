pub mod Rooms
pub mod Moving
pub mod Images
pub mod Keyed
pub mod Seeking
pub mod Building
