pub use Rattle.rss_base.specs.LogRecords
pub mod Reading
pub mod Writing
