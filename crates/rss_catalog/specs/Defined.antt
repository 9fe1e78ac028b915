-- What the pages of the system space define, one page after another, and the first page that is no definition of a store.
use Rattle.std.specs.Prelude.{◌≡◌, ℕ, ◌+◌, ◌-◌, ◌*◌, ◌^◌, ◌<◌, ◌≤◌, ◌++◌, ◌&&◌, true, false, Bool, nat_le, if◌then◌else◌, List, map, option_map, take, replicate, Option, Some, None, is_some, IfSome, IfNone}
use Rattle.rss_base.specs.Sizes.{relations_most, images_most, links_most, system_pages, page_entries}
use Rattle.rss_base.specs.DiskRule.{IsTold}
use Rattle.rss_base.specs.Paged.{Held, page_key}
use Rattle.rss_base.specs.Steps.{PagesView}
use Rattle.rss_base.specs.Listings.{Listing, ListingFits, HoldsListing, catalog_page, numbered, relation_at, image_at, link_at, relations_of_page, relation_pages, images_of_page}
use Rattle.rss_base.specs.declared.tid.Tid.{Tid}
use Rattle.rss_base.specs.declared.relation.RelationEntry.{RelationEntry}
use Rattle.rss_base.specs.declared.image.ImageEntry.{ImageEntry}
use Rattle.rss_base.specs.declared.link.LinkEntry.{LinkEntry}
use Rattle.rss_base.specs.declared.place.Place.{Place}
use Rattle.rss_base.specs.declared.place.Place.TheVariants.{Catalog as CatalogPlace}
use Rattle.rss_base.specs.declared.key.Space.TheVariants.{System}
use Rattle.rss_catalog.specs.Catalogs.{CatalogView, HasSystemPages, none_pending}

-- ---- definitions, whatever the trees of images and the chains of links

-- the image with one level and another root
abbrev pub unrooted : ImageEntry → ImageEntry
unrooted image = record image { root = 0; levels = 1 }

-- the link without ends
abbrev pub endless : LinkEntry → LinkEntry
endless link = record link { first = None; last = None }

-- whatever the roots and the levels of its images, and the ends of its links
abbrev pub settled : Listing → Listing
settled listing = record listing {
  images = map (option_map unrooted) listing.images;
  links = map (option_map endless) listing.links;
}

-- how many tuples a relation may have
abbrev pub tuples_most : ℕ
tuples_most = 2 ^ 20

-- no relation has more tuples
abbrev pub HasFewTuples : Listing → Type 0
HasFewTuples listing = (number : ℕ) (relation : RelationEntry) → relation_at listing number ≡ Some relation → relation.live ≤ tuples_most

-- the root and the levels of an image have as many bytes as the catalog has for them
pub record IsRooted (image : ImageEntry) : Type 0 where
  pub levels : image.levels < 2 ^ 8
  pub root : image.root < 2 ^ 32

-- the identifier whose bytes say that there is none
abbrev pub no_tid : Tid
no_tid = record { page = 4294967295; slot = 65535 }

-- an identifier that six bytes spell
pub record IsInBytes (tid : Tid) : Type 0 where
  pub page : tid.page < 2 ^ 32
  pub slot : tid.slot < 2 ^ 16
  pub some : tid ≡ no_tid → ⊥

pub record IsEnded (link : LinkEntry) : Type 0 where
  pub first : IfSome link.first IsInBytes
  pub last : IfSome link.last IsInBytes

-- A listing as a store may have it, whatever its counts, the roots and levels of its images, and the ends of its links.
pub record IsListable (listing : Listing) : Type 0 where
  pub fit : ListingFits (settled listing)
  pub rooted : (number : ℕ) (image : ImageEntry) → image_at listing number ≡ Some image → IsRooted image
  pub ended : (number : ℕ) (link : LinkEntry) → link_at listing number ≡ Some link → IsEnded link

-- Definitions that a store may have, as far as the pages of the system space say.
pub record AreDefinitions (listing : Listing) : Type 0 where
  pub listable : IsListable listing
  pub few : HasFewTuples listing

-- ---- page by page

-- so many of these, and nothing at the other places
abbrev pub front : {X : Type 0} → ℕ → ℕ → List (Option X) → List (Option X)
front most count items = take count items ++ replicate (most - count) None

-- The definitions on the pages up to this one. A definition names others on earlier pages alone.
abbrev pub up_to : ℕ → Listing → Listing
up_to page listing = record {
  segments = listing.segments;
  relations = front relations_most (relations_of_page * page) listing.relations;
  images = front images_most (images_of_page * (page - relation_pages)) listing.images;
  links = if nat_le (system_pages - 1) page then listing.links else replicate links_most None;
}

-- the pages up to this one spell definitions that a store may have
pub record AreDefined (held : Held) (page : ℕ) : Type 0 where
  pub listing : Listing
  pub spells : (p : ℕ) → p ≤ page → held (page_key 0 System p) ≡ Some (catalog_page listing p)
  pub are : AreDefinitions (up_to page listing)

-- a page of the system space is there
abbrev pub IsThere : Held → ℕ → Type 0
IsThere held page = is_some (held (page_key 0 System page)) ≡ true

-- The first page that isn't there, or, if all are there, the first one up to which they spell no definitions.
pub data IsFirstFlaw (held : Held) (page : ℕ) : Type 0 where
  unmapped : page < system_pages → held (page_key 0 System page) ≡ None
      → ((p : ℕ) → p < page → IsThere held p) → IsFirstFlaw held page
  undefined : page < system_pages → (AreDefined held page → ⊥)
      → ((p : ℕ) → p < system_pages → IsThere held p)
      → ((p : ℕ) → p < page → AreDefined held p) → IsFirstFlaw held page

-- ---- what is loaded

-- an image has a level at least
abbrev pub has_level : ImageEntry → Bool
has_level image = nat_le 1 image.levels

-- the image with one level, if it has none
abbrev pub leveled : ImageEntry → ImageEntry
leveled image = if has_level image then image else record image { levels = 1 }

-- an end, if there is one, is an identifier of a page's entry
abbrev pub is_end : Option Tid → Bool
is_end None = true
is_end (Some tid) = nat_le (1 + tid.slot) page_entries

abbrev pub has_ends : LinkEntry → Bool
has_ends link = is_end link.first && is_end link.last

-- the link without ends, if they are none
abbrev pub mended : LinkEntry → LinkEntry
mended link = if has_ends link then link else endless link

-- the one at a place, if there is one, is right
abbrev pub is_fine : {X : Type 0} → (X → Bool) → Option X → Bool
is_fine right None = true
is_fine right (Some item) = right item

-- all that have a number are right
abbrev pub AreRight : {X : Type 0} → (X → Bool) → List (Option X) → Type 0
AreRight right items = (number : ℕ) (item : _) → numbered items number ≡ Some item → right item ≡ true

-- the number of the first one that isn't
pub record IsFirstWrong {X : Type 0} (right : X → Bool) (items : List (Option X)) (number : ℕ) : Type 0 where
  pub item : X
  pub at : numbered items number ≡ Some item
  pub wrong : right item ≡ false
  pub lesser : (k : ℕ) (other : X) → k < number → numbered items k ≡ Some other → right other ≡ true

-- each image with a level, and no link with an end that is none
abbrev pub completed : Listing → Listing
completed listing = record listing {
  images = map (option_map leveled) listing.images;
  links = map (option_map mended) listing.links;
}

-- The catalog of a listing, and the first image and the first link that can't be as it says.
pub record IsCatalogOf (listing : Listing) (catalog : CatalogView) (image link : Option ℕ) : Type 0 where
  pub is : catalog ≡ record { listing = completed listing; pending = none_pending }
  pub fits : ListingFits (completed listing)
  pub image_first : IfSome image (IsFirstWrong has_level listing.images)
  pub images_right : IfNone image (AreRight has_level listing.images)
  pub link_first : IfSome link (IsFirstWrong has_ends listing.links)
  pub links_right : IfNone link (AreRight has_ends listing.links)

-- The pages spell definitions of which this is the catalog.
pub record LoadsDefined (pages : PagesView) (catalog : CatalogView) (image link : Option ℕ) : Type 0 where
  pub mapped : HasSystemPages pages.mapped
  pub listing : Listing
  pub are : AreDefinitions listing
  pub spells : IsTold pages.disk → HoldsListing pages.held listing
  pub of : IsCatalogOf listing catalog image link

-- the place is that of the first flaw
pub record NamesFirst (held : Held) (place : Place) : Type 0 where
  pub page : ℕ
  pub is : place ≡ CatalogPlace page
  pub first : IsFirstFlaw held page
