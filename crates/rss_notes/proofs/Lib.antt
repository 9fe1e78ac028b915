pub mod Marking
mod Trees
