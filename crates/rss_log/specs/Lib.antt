pub use Rattle.rss_base.specs.LogRecords
pub use Rattle.rss_base.specs.LogPages
pub mod Rings
pub mod Logs
pub mod Inside
