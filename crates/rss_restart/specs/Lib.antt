pub mod Events
pub mod Reading
pub mod Surveys
pub mod Restarting
pub mod Opened
pub mod Walks
