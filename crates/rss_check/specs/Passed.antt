-- What a look at the first lines of a check finds, where its pages are those that a device has.
use Rattle.std.specs.Prelude.{◌≡◌, ℕ, Option}
use Rattle.rss_base.specs.DiskRule.{Pages}
use Rattle.rss_base.specs.Listings.{Listing}
use Rattle.rss_base.specs.Steps.{PagesView}
use Rattle.rss_catalog.specs.Catalogs.{CatalogView}
use Rattle.rss_catalog.specs.Defined.{IsCatalogOf}
use Rattle.rss_check.specs.Lines.{Counts}
use Rattle.rss_check.specs.Layouts.{Laid, held_in}
use Rattle.rss_check.specs.Spellings.{Spelling}
use Rattle.rss_check.specs.Faults.{ArePassed}

-- The layout is sound, and the view has the pages of its map.
pub record IsViewOf (pages : Pages) (view : PagesView) : Type 0 where
  pub laid : Laid pages
  pub slots : view.slots ≡ laid.root.slots
  pub held : view.held ≡ held_in pages laid

-- All is sound up to the counts, and the catalog is that of the listing that is spelled.
pub record PassesTuples (pages : Pages) (catalog : CatalogView) (image link : Option ℕ) : Type 0 where
  pub passed : ArePassed pages Counts
  pub at : Spelling pages
  pub of : IsCatalogOf at.listing catalog image link

-- It is so of each listing that has this catalog, and this one as the first image that is wrong by itself.
abbrev pub OfWrongImage : CatalogView → Option ℕ → (Listing → Type 0) → Type 0
OfWrongImage catalog image property =
    (listing : Listing) (link : Option ℕ) → IsCatalogOf listing catalog image link → property listing

-- the same of a link
abbrev pub OfWrongLink : CatalogView → Option ℕ → (Listing → Type 0) → Type 0
OfWrongLink catalog link property =
    (listing : Listing) (image : Option ℕ) → IsCatalogOf listing catalog image link → property listing
