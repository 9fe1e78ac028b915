pub mod Nodes
pub mod Pairs
