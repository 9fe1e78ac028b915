pub use Rattle.rss_base.specs.PageMap
pub mod Content
pub mod Marks
pub mod Slotted
pub mod Surveyed
