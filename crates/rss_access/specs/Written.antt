-- Which pages there are, and which of the catalog's are written.
use Rattle.std.specs.Prelude.{◌≡◌, ◌⊎◌, ℕ, ◌+◌, ◌<◌, Bool, false, ◌==◌, ◌&&◌, List, slice_index_or, Some}
use Rattle.rss_base.specs.Sizes.{system_pages}
use Rattle.rss_base.specs.Paged.{Held, page_key, mapped_of}
use Rattle.rss_base.specs.Listings.{Listing, image_at, catalog_page}
use Rattle.rss_base.specs.declared.image.ImageEntry.{ImageEntry}
use Rattle.rss_base.specs.Steps.{PagesView, Keys}
use Rattle.rss_base.specs.declared.key.PageKey.{PageKey}
use Rattle.rss_base.specs.declared.key.Space.{Space}
use Rattle.rss_base.specs.declared.key.Space.TheVariants.{System, Home, Overflow, Image}
use Rattle.rss_page.specs.Slotted.{IsHeapKey}
use Rattle.rss_catalog.specs.Catalogs.{CatalogView, IsPending}

-- how many home and overflow pages there are
abbrev pub heap_now : PagesView → ℕ
heap_now pages = mapped_of pages.mapped Home pages.slots + mapped_of pages.mapped Overflow pages.slots

-- an image is listed
pub record HasImage (listing : Listing) : Type 0 where
  pub number : ℕ
  pub image : ImageEntry
  pub at : image_at listing number ≡ Some image

-- the pages that tuples may have, and where an image is listed, those that images may have
abbrev pub content_of : Listing → Keys
content_of listing key = IsHeapKey key ⊎ ((key.space ≡ Image) × HasImage listing)

-- ---- pages of the catalog

-- the page of this number and this space is one of the system space that isn't as the catalog spells it
abbrev pub is_pending_in : List Bool → Space → ℕ → Bool
is_pending_in pending Home number = false
is_pending_in pending Overflow number = false
is_pending_in pending Image number = false
is_pending_in pending System number = slice_index_or pending number false

abbrev pub is_pending : CatalogView → PageKey → Bool
is_pending catalog key =
    (key.segment == 0) && is_pending_in catalog.pending key.space key.number

-- each page of the system space that isn't to be written is as the catalog spells it
abbrev pub AreWritten : Held → CatalogView → Type 0
AreWritten held catalog =
    (page : ℕ) → page < system_pages → (IsPending catalog page → ⊥)
    → held (page_key 0 System page) ≡ Some (catalog_page catalog.listing page)
