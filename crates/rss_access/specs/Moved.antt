-- The entries of a tuple are moved in the images of its relation, one image after another.
use Rattle.std.specs.Prelude.{◌≡◌, ℕ, ◌+◌, ◌*◌, ◌≤◌, List, Option, Some}
use Rattle.rss_base.specs.Steps.{PagesStep, no_page}
use Rattle.rss_base.specs.TupleTypes.{kinds}
use Rattle.rss_base.specs.Listings.{Listing, image_at, with_image, with_root}
use Rattle.rss_base.specs.declared.image.ImageEntry.{ImageEntry}
use Rattle.rss_base.specs.declared.relation.RelationEntry.{RelationEntry}
use Rattle.rss_base.specs.declared.value.Value.{Value}
use Rattle.rss_base.specs.declared.change.Change as told
use Rattle.rss_catalog.specs.Catalogs.{CatalogView}
use Rattle.rss_model.specs.Tables.{Tables}
use Rattle.rss_stored.specs.Store.{IsListedImage}
use Rattle.rss_entries.specs.Rooms.{images_room, image_places}
use Rattle.rss_entries.specs.Moving.{AreSpelled}
use Rattle.rss_entries.specs.Keyed.{IsOneKey}
use Rattle.rss_entries.specs.Images.{TupleMove, CanMove, ShowBelow, key_of}
use Rattle.rss_access.specs.Told.{number_told, tid_told, values_before, values_after}
use Rattle.rss_access.specs.Relisted.{Rerooted}
use Rattle.rss_access.specs.Changes.{AccessView, NodesStay, TellsMove}

-- how many pages are asked for at most where an entry is moved in one image, and how many may leave memory
abbrev pub image_cost : ℕ
image_cost = 10 * 255 + 2

-- the image of this number is one of this relation
pub record IsImageOf (listing : Listing) (number relation : ℕ) : Type 0 where
  pub image : ImageEntry
  pub at : image_at listing number ≡ Some image
  pub of : image.relation ≡ relation

-- The images below a number show tables after the change, and the others those before it, in which the tuple can change so; and there is room for its entries.
pub record ShowsMoveBelow (k : ℕ) (at : AccessView) (change : told.Change) (move : TupleMove) (tables : Tables) : Type 0 where
  pub tells : TellsMove change move
  pub can : CanMove at.catalog.listing move tables
  pub images : ShowBelow k at.pages.held at.catalog.listing move tables
  pub room : images_room at.catalog.listing move.number ≤ image_places at.pages

-- there are such tables
pub record MayMoveAt (k : ℕ) (at : AccessView) (change : told.Change) : Type 0 where
  pub move : TupleMove
  pub tables : Tables
  pub shows : ShowsMoveBelow k at change move tables

-- all such tables are shown after the change by one image more
abbrev pub MovesAt : ℕ → AccessView → AccessView → told.Change → Type 0
MovesAt k old new change = (move : TupleMove) (tables : Tables) → ShowsMoveBelow k old change move tables
    → ShowsMoveBelow (k + 1) new change move tables

-- and the identifiers in the nodes of images stay below a number of slots
abbrev pub NodesStayAt : ℕ → AccessView → AccessView → told.Change → Type 0
NodesStayAt k old new change = (move : TupleMove) (tables : Tables) → ShowsMoveBelow k old change move tables
    → NodesStay (tid_told change) old new

-- The image of this number begins here now, and all else is listed as it was.
pub record Reroots (number root levels : ℕ) (image : ImageEntry) (old new : CatalogView) : Type 0 where
  pub is : new.listing ≡ with_image old.listing number (Some (with_root root levels image))
  pub rerooted : Rerooted old new

-- ---- where keys stay

-- In each image of its relation the change leaves the tuple's key, or there is no tuple before it and after it.
pub record KeepsKeys (listing : Listing) (change : told.Change) : Type 0 where
  pub each : (number : ℕ) (image : ImageEntry) (relation : RelationEntry)
      → IsListedImage listing number image relation → image.relation ≡ number_told change
      → (was next : Option (List Value)) → AreSpelled (kinds relation.fields) (values_before change) was
      → AreSpelled (kinds relation.fields) (values_after change) next → IsOneKey (key_of image relation) was next

-- No page was asked for, and the catalog is as it was.
pub record StaysAsItWas (old new : AccessView) : Type 0 where
  pub pages : PagesStep no_page 0 0 old.pages new.pages
  pub catalog : new.catalog ≡ old.catalog
