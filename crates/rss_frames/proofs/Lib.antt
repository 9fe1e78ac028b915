mod Lists
mod Ring
mod Chain
mod Table
pub mod Entries
pub mod Changes
pub mod Halves
pub mod Shown
pub mod Looked
pub mod Both
pub mod Follows
pub mod Marks
pub mod BlockSteps
pub mod Lodged
pub mod Moves
