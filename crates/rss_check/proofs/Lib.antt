mod Bared
mod Laying
mod FirstFaults
mod NoFaults
mod Faultless
mod Firsts
pub mod Refused
pub mod Empties
pub mod Made
pub mod Rows
pub mod Found
pub mod Census
pub mod SameHeld
pub mod FirstWrong
pub mod Marks
pub mod SpelledPaths
pub mod LookedImages
pub mod LookedLinks
pub mod Looked
pub mod Orders
pub mod SegmentFirst
pub mod SegmentsFirst
pub mod Completing
pub mod TupleFaults
pub mod PathFaults
pub mod NamedImages
pub mod NamedLinks
pub mod LookedThrough
