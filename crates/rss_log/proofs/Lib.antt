pub mod RingBytes
pub mod RingWrites
pub mod LogRing
pub mod LogViews
pub mod LogReads
pub mod Growth
