pub mod Transactions
pub mod Tallies
pub mod Tables
pub mod Told
