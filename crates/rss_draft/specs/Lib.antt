pub mod Fitting
pub mod Views
pub mod Drafts
pub mod Lookups
pub mod Looks
pub mod FitLooks
