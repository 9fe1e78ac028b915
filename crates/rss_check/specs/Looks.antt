-- What a look through the pages of a store finds.
use Rattle.std.specs.Prelude.{◌≡◌, ℕ, true, is_some}
use Rattle.rss_base.specs.DiskRule.{IsTold}
use Rattle.rss_base.specs.Paged.{Held}
use Rattle.rss_base.specs.Steps.{PagesView}
use Rattle.rss_base.specs.Listings.{Listing, HoldsListing, segment_at}
use Rattle.rss_base.specs.declared.key.PageKey.{PageKey}
use Rattle.rss_base.specs.declared.place.Place.{Place}
use Rattle.rss_base.specs.declared.place.Place.TheVariants.{Room}
use Rattle.rss_tuple.specs.Heaps.{AreHeaps}
use Rattle.rss_tuple.specs.Checked.{AreNoted}
use Rattle.rss_catalog.specs.Catalogs.{CatalogView, Loads}
use Rattle.rss_model.specs.Tables.{Tables}
use Rattle.rss_model.specs.Fits.{Fits}
use Rattle.rss_stored.specs.Store.{IsStorePage, SpellsTables, AreNodesWithin}

-- ---- what the pages hold

-- the pages spell tables that fit, whose definitions are listed so
pub record HoldsTables (held : Held) (slots : ℕ) (listing : Listing) : Type 0 where
  pub tables : Tables
  pub system : HoldsListing held listing
  pub spells : SpellsTables held listing tables
  pub nodes : AreNodesWithin slots held listing
  pub fit : Fits slots tables

-- they spell no tables that fit, or identifiers in nodes of images are none of the store
abbrev pub HoldsNone : Held → ℕ → Type 0
HoldsNone held slots =
    (listing : Listing) (tables : Tables) → HoldsListing held listing
    → SpellsTables held listing tables → AreNodesWithin slots held listing → Fits slots tables → ⊥

-- the pages of each segment that is listed are those of a tuple store, and the note on each is its room
abbrev pub AreAllNoted : Listing → PagesView → Type 0
AreAllNoted listing view =
    (segment : ℕ) → is_some (segment_at listing segment) ≡ true → AreNoted segment view

-- The pages were looked through, and spell tables with these definitions.
pub record FindsTables (old new : PagesView) (catalog : CatalogView) : Type 0 where
  pub loaded : Loads old catalog
  pub only : (key : PageKey) → old.mapped key ≡ true → IsStorePage catalog.listing key
  pub holds : IsTold old.disk → HoldsTables old.held old.slots catalog.listing
  pub heaps : IsTold old.disk → AreHeaps new
  pub noted : IsTold old.disk → AreAllNoted catalog.listing new

-- They spell none, which shows at this place.
pub record FindsNone (pages : PagesView) (place : Place) : Type 0 where
  pub none : IsTold pages.disk → HoldsNone pages.held pages.slots
  pub elsewhere : IsTold pages.disk → place ≡ Room → ⊥
