pub use Rattle.rss_base.specs.DiskRule
pub use Rattle.rss_base.specs.Faults
pub use Rattle.rss_base.specs.Sizes
pub use Rattle.rss_base.specs.Layout
pub use Rattle.rss_base.specs.PageMap
pub mod Places
pub mod Spelling
pub mod Taking
