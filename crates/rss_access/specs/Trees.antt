-- The tree of a listed image is built, or taken away.
use Rattle.std.specs.Prelude.{◌≡◌, ℕ, ◌≤◌, true, List, [], Some, None}
use Rattle.rss_base.specs.DiskRule.{IsTold}
use Rattle.rss_base.specs.Steps.{PagesView}
use Rattle.rss_base.specs.Listings.{ListingFits, image_at, with_image, with_root}
use Rattle.rss_base.specs.declared.refusal.Kind.TheVariants.{Image as ImageKind}
use Rattle.rss_base.specs.declared.image.ImageEntry.{ImageEntry}
use Rattle.rss_base.specs.declared.relation.RelationEntry.{RelationEntry}
use Rattle.rss_levels.specs.Entries.{Each}
use Rattle.rss_image.specs.Images.{has_page, AreAllMade, Becomes, DestroysImage}
use Rattle.rss_image.specs.declared.image.Image.{Image}
use Rattle.rss_catalog.specs.Catalogs.{Lists, page_of}
use Rattle.rss_stored.specs.Store.{IsListedImage}
use Rattle.rss_entries.specs.Images.{image_of}
use Rattle.rss_access.specs.Changes.{AccessView}

-- The image has these pairs, in pages that weren't mapped. Where their identifiers have pages below the number of slots, so have those in its nodes.
pub record BuildsTree (image : Image) (pairs : List (List ℕ)) (old new : PagesView) : Type 0 where
  pub becomes : Becomes image image old new [] pairs
  pub within : Each (λ p. has_page image.width new.slots p ≡ true) pairs
      → AreAllMade (has_page image.width new.slots) image new.held

-- The catalog lists where the image of this number begins, and there its tree is built of these pairs.
pub record FillsImage (number : ℕ) (pairs : List (List ℕ)) (old new : AccessView) : Type 0 where
  pub root : ℕ
  pub levels : ℕ
  pub low : 1 ≤ levels
  pub lists : (image : ImageEntry) → image_at old.catalog.listing number ≡ Some image
      → Lists (with_image old.catalog.listing number (Some (with_root root levels image)))
      (page_of ImageKind number) old.catalog new.catalog
  pub fits : ListingFits old.catalog.listing → ListingFits new.catalog.listing
  pub builds : IsTold old.pages.disk → (image : ImageEntry) (relation : RelationEntry)
      → IsListedImage new.catalog.listing number image relation
      → BuildsTree (image_of number image relation) pairs old.pages new.pages

-- The image of this number isn't listed any longer, and all its pages are given.
pub record TakesImage (number : ℕ) (old new : AccessView) : Type 0 where
  pub lists : Lists (with_image old.catalog.listing number None) (page_of ImageKind number)
      old.catalog new.catalog
  pub fits : ListingFits old.catalog.listing → ListingFits new.catalog.listing
  pub destroys : IsTold old.pages.disk → (image : ImageEntry) (relation : RelationEntry)
      → IsListedImage old.catalog.listing number image relation
      → DestroysImage (image_of number image relation) old.pages new.pages
