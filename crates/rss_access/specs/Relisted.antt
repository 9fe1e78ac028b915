-- What changes of tuples leave of the catalog.
use Rattle.std.specs.Prelude.{◌≡◌, ℕ, ◌<◌, List, length, map, Option, option_map, Some, None}
use Rattle.rss_base.specs.Sizes.{system_pages}
use Rattle.rss_base.specs.Listings.{Listing, ListingFits, catalog_page, relation_at, with_relation, with_count}
use Rattle.rss_base.specs.declared.change.Change as told
use Rattle.rss_base.specs.declared.change.Change.TheVariants.{Insert, Delete, Update, Connect, Disconnect}
use Rattle.rss_base.specs.declared.relation.RelationEntry.{RelationEntry}
use Rattle.rss_catalog.specs.Catalogs.{CatalogView, IsPending}
use Rattle.rss_model.specs.Meanings.{rootless, endless}
use Rattle.rss_access.specs.Told.{number_told, count_after}

-- Each page of the catalog that was to be written still is, and each that isn't is spelled as it was.
pub record KeepsSpelled (old new : CatalogView) : Type 0 where
  pub places : length new.pending ≡ length old.pending
  pub still : (page : ℕ) → IsPending old page → IsPending new page
  pub same : length old.pending ≡ system_pages → (page : ℕ) → page < system_pages → (IsPending new page → ⊥)
      → catalog_page new.listing page ≡ catalog_page old.listing page

-- All is listed as it was, but for where the trees of images begin and how many levels they have.
pub record Rerooted (old new : CatalogView) : Type 0 where
  pub segments : new.listing.segments ≡ old.listing.segments
  pub relations : new.listing.relations ≡ old.listing.relations
  pub images : map (option_map rootless) new.listing.images ≡ map (option_map rootless) old.listing.images
  pub links : new.listing.links ≡ old.listing.links
  pub keeps : KeepsSpelled old new
  pub fits : ListingFits old.listing → ListingFits new.listing

-- And the relation of this number has so many tuples.
pub record Recounted (number live : ℕ) (relation : RelationEntry) (old new : CatalogView) : Type 0 where
  pub segments : new.listing.segments ≡ old.listing.segments
  pub relations : new.listing.relations
      ≡ (with_relation old.listing number (Some (with_count live relation))).relations
  pub images : map (option_map rootless) new.listing.images ≡ map (option_map rootless) old.listing.images
  pub links : new.listing.links ≡ old.listing.links
  pub keeps : KeepsSpelled old new
  pub fits : ListingFits old.listing → ListingFits new.listing

-- ---- by the change

-- the relations, where that of the change's tuple has as many tuples as it leaves
abbrev pub counted_at : told.Change → Listing → Option RelationEntry → List (Option RelationEntry)
counted_at change listing None = listing.relations
counted_at change listing (Some relation) =
    (with_relation listing (number_told change) (Some (with_count (count_after change relation.live) relation))).relations

abbrev pub relations_after : told.Change → Listing → List (Option RelationEntry)
relations_after (Insert relation tid values) listing =
    counted_at (Insert relation tid values) listing (relation_at listing relation)
relations_after (Delete relation tid values) listing =
    counted_at (Delete relation tid values) listing (relation_at listing relation)
relations_after (Update relation tid old new) listing =
    counted_at (Update relation tid old new) listing (relation_at listing relation)
relations_after (Connect link parent child left) listing = listing.relations
relations_after (Disconnect link parent child left) listing = listing.relations

-- A relation has as many tuples as the change leaves, and all else is listed as it was, but for where the trees of images begin and where the chains of links end.
pub record Relists (change : told.Change) (old new : CatalogView) : Type 0 where
  pub segments : new.listing.segments ≡ old.listing.segments
  pub relations : new.listing.relations ≡ relations_after change old.listing
  pub images : map (option_map rootless) new.listing.images ≡ map (option_map rootless) old.listing.images
  pub links : map (option_map endless) new.listing.links ≡ map (option_map endless) old.listing.links
  pub keeps : KeepsSpelled old new
  pub fits : ListingFits old.listing → ListingFits new.listing
