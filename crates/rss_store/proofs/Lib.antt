mod Places
pub mod Spelled
mod Pieces
mod Selected
pub mod Nexts
mod Ended
mod Checkpointed
mod Passed
pub mod FirstOwners
pub mod FirstStore
pub mod Formats
pub mod Resting
pub mod RoomsAtRest
pub mod Read
pub mod Begun
pub mod Unopened
pub mod Definitions
pub mod Growing
pub mod Ways
pub mod Altered
pub mod Making
pub mod Turning
pub mod Cutting
