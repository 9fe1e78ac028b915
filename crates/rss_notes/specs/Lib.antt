pub mod Notes
pub mod Marks
pub mod Maxima
