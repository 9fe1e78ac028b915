-- The listing that the pages of the system space spell.
use Rattle.std.specs.Prelude.{ℕ}
use Rattle.rss_base.specs.DiskRule.{Pages}
use Rattle.rss_base.specs.Listings.{Listing, HoldsListing, SuitsVersion}
use Rattle.rss_base.specs.Paged.{Held}
use Rattle.rss_catalog.specs.Defined.{IsListable, AreDefined, up_to}
use Rattle.rss_check.specs.Layouts.{Laid, held_in}

-- the pages up to this one spell definitions that a store of this version may have
pub record AreSuited (held : Held) (version page : ℕ) : Type 0 where
  pub defined : AreDefined held page
  pub suit : SuitsVersion version (up_to page defined.listing)

-- They spell this listing and no other.
pub record IsSpelling (held : Held) (listing : Listing) : Type 0 where
  pub spells : HoldsListing held listing
  pub listable : IsListable listing

-- the layout is sound, and this is the listing
pub record Spelling (pages : Pages) : Type 0 where
  pub laid : Laid pages
  pub listing : Listing
  pub is : IsSpelling (held_in pages laid) listing

abbrev pub held_of : (pages : Pages) → Spelling pages → Held
held_of pages at = held_in pages at.laid
