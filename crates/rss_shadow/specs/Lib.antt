pub use Rattle.rss_base.specs.PageMap
pub use Rattle.rss_base.specs.Paged
pub mod Numbers
pub mod Maps
pub mod Index
pub mod Shadow
