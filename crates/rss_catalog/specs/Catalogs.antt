-- What there is to see of a catalog, and what the calls on it do.
use Rattle.std.specs.Prelude.{◌≡◌, ◌≢◌, ℕ, ◌+◌, ◌-◌, ◌/◌, ◌<◌, ◌≤◌, Bool, true, false, List, length, All, replicate, slice_set, slice_index_or, Option, Some, None, is_some, IfSome}
use Rattle.rss_base.specs.Sizes.{segments, roles_most, system_pages}
use Rattle.rss_base.specs.DiskRule.{IsTold}
use Rattle.rss_base.specs.Paged.{Mapped, page_key}
use Rattle.rss_base.specs.Steps.{PagesView}
use Rattle.rss_base.specs.TupleTypes.{kinds, width, key_width, chosen, most_fields, most_width, most_key_width, are_kinds}
use Rattle.rss_base.specs.Listings.{Listing, ListingFits, IsNumberOf, IsFieldNumber, HoldsListing, catalog_page, relation_at, image_at, link_at, field_numbers, IsSpelled, has_role, roles_of, with_segment, with_relation, with_image, with_link, relations_of_page, relation_pages, images_of_page, image_pages}
use Rattle.rss_base.specs.declared.relation.RelationEntry.{RelationEntry}
use Rattle.rss_base.specs.declared.image.ImageEntry.{ImageEntry}
use Rattle.rss_base.specs.declared.link.LinkEntry.{LinkEntry}
use Rattle.rss_base.specs.declared.tid.Tid.{Tid}
use Rattle.rss_base.specs.declared.refusal.Kind.{Kind}
use Rattle.rss_base.specs.declared.refusal.Kind.TheVariants.{Segment, Relation, Image, Link, Field, Scan}
use Rattle.rss_base.specs.declared.name.Name.{Name}
use Rattle.rss_base.specs.declared.place.Place.{Place}
use Rattle.rss_base.specs.declared.place.Place.TheVariants.{Catalog as CatalogPlace}
use Rattle.rss_base.specs.declared.key.PageKey.{PageKey}
use Rattle.rss_base.specs.declared.key.Space.TheVariants.{System}

-- listing: what is defined.
-- pending: for each page of the system space, whether what it spells has changed since it was written.
pub record CatalogView : Type 0 where
  pub listing : Listing
  pub pending : List Bool

abbrev pub none_pending : List Bool
none_pending = replicate system_pages false

-- the page of this number has changed
abbrev pub IsPending : CatalogView → ℕ → Type 0
IsPending catalog page = slice_index_or catalog.pending page false ≡ true

-- the pages of the system space that have changed
pub record pending_pages (catalog : CatalogView) (key : PageKey) : Type 0 where
  pub page : ℕ
  pub is : key ≡ page_key 0 System page
  pub pending : IsPending catalog page

-- ---- the pages of the system space

-- all of them are mapped
abbrev pub HasSystemPages : Mapped → Type 0
HasSystemPages mapped = (page : ℕ) → page < system_pages → mapped (page_key 0 System page) ≡ true

-- The catalog is that of these pages.
pub record Loads (pages : PagesView) (catalog : CatalogView) : Type 0 where
  pub mapped : HasSystemPages pages.mapped
  pub fits : ListingFits catalog.listing
  pub holds : IsTold pages.disk → HoldsListing pages.held catalog.listing
  pub written : catalog.pending ≡ none_pending

-- a page of the system space is named
pub record IsCatalogPlace (place : Place) : Type 0 where
  pub page : ℕ
  pub low : page < system_pages
  pub is : place ≡ CatalogPlace page

-- Each page that has changed is written.
pub record StoresListing (catalog : CatalogView) (old new : PagesView) : Type 0 where
  pub mapped : new.mapped ≡ old.mapped
  pub wrote : IsTold old.disk → (page : ℕ) → IsPending catalog page
      → new.held (page_key 0 System page) ≡ Some (catalog_page catalog.listing page)

-- ---- changes

-- the page of the links, behind those of the images
abbrev pub link_page : ℕ
link_page = 1 + relation_pages + image_pages

-- the page that spells the definition of a number
abbrev pub page_of : Kind → ℕ → ℕ
page_of Segment number = 0
page_of Relation number = 1 + (number - 1) / relations_of_page
page_of Image number = 1 + relation_pages + (number - 1) / images_of_page
page_of Link number = link_page
page_of Field number = 0
page_of Scan number = 0

-- The catalog lists this now, and one page more may have changed.
pub record Lists (listing : Listing) (page : ℕ) (old new : CatalogView) : Type 0 where
  pub is : new.listing ≡ listing
  pub pending : new.pending ≡ slice_set old.pending page true

-- the listing without the definition of this number
abbrev pub without : Kind → Listing → ℕ → Listing
without Segment listing number = with_segment listing number None
without Relation listing number = with_relation listing number None
without Image listing number = with_image listing number None
without Link listing number = with_link listing number None
without Field listing number = listing
without Scan listing number = listing

-- a relation of this segment is listed
pub record HasRelationIn (listing : Listing) (segment : ℕ) : Type 0 where
  pub number : ℕ
  pub relation : RelationEntry
  pub at : relation_at listing number ≡ Some relation
  pub within : relation.segment ≡ segment

-- an image of this relation is listed
pub record HasImageOf (listing : Listing) (relation : ℕ) : Type 0 where
  pub number : ℕ
  pub image : ImageEntry
  pub at : image_at listing number ≡ Some image
  pub of : image.relation ≡ relation

-- the relation has a part in a link
pub record HasLinkOf (listing : Listing) (relation : ℕ) : Type 0 where
  pub number : ℕ
  pub link : LinkEntry
  pub at : link_at listing number ≡ Some link
  pub of : has_role relation (Some link) ≡ true

-- each relation of the link may have a part in one link more
pub record HasRoleLeft (listing : Listing) (link : LinkEntry) : Type 0 where
  pub child : roles_of listing link.child < roles_most
  pub parent : IfSome link.parent (λ number. roles_of listing number < roles_most)

-- a link that a listing may have, as far as its numbers go
pub record IsSafeLink (listing : Listing) (link : LinkEntry) : Type 0 where
  pub child : is_some (relation_at listing link.child) ≡ true
  pub parent : IfSome link.parent (λ number. (is_some (relation_at listing number) ≡ true) × (number ≢ link.child))
  pub first : IfSome link.first IsSpelled
  pub last : IfSome link.last IsSpelled

-- the link with other ends of its chain
abbrev pub with_ends : Option Tid → Option Tid → LinkEntry → LinkEntry
with_ends first last link = record link { first = first; last = last }

-- a relation of this segment has this name
pub record IsNamedIn (listing : Listing) (segment : ℕ) (name : Name) : Type 0 where
  pub number : ℕ
  pub relation : RelationEntry
  pub at : relation_at listing number ≡ Some relation
  pub within : relation.segment ≡ segment
  pub named : relation.name ≡ name

-- a relation that a listing may have, as far as its numbers go
pub record IsSafe (relation : RelationEntry) : Type 0 where
  pub segment_low : 1 ≤ relation.segment
  pub segment_high : relation.segment ≤ segments
  pub few : length relation.fields ≤ most_fields
  pub narrow : width (kinds relation.fields) ≤ most_width
  pub formed : are_kinds (kinds relation.fields) ≡ true

-- no lesser number of a kind has this name
abbrev pub HasNoLesser : Kind → Listing → Name → ℕ → Type 0
HasNoLesser kind listing name number = (k : ℕ) → k < number → IsNumberOf kind listing name k → ⊥

-- an image that a listing may have, as far as its numbers go
pub record IsSafeImage (listing : Listing) (image : ImageEntry) : Type 0 where
  pub relation : RelationEntry
  pub listed : relation_at listing image.relation ≡ Some relation
  pub some : 1 ≤ image.count
  pub few : image.count ≤ most_fields
  pub within : All (IsFieldNumber (length relation.fields)) (field_numbers image)
  pub narrow : key_width (kinds (chosen (field_numbers image) relation.fields)) ≤ most_key_width
  pub low : 1 ≤ image.levels
