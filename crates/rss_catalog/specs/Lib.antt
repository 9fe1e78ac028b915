pub use Rattle.rss_base.specs.Listings
pub mod Catalogs
pub mod Defined
pub mod Reading
pub mod Loading
pub mod Checking
