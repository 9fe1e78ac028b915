pub mod Streams
pub mod Passing
pub mod Seeking
