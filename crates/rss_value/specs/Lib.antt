pub use Rattle.rss_base.specs.TupleTypes
pub mod ValueRefs
pub mod Reads
pub mod Numbers
pub mod Spelled
