-- What the pages of the system space are found to hold, as far as they were read.
use Rattle.std.specs.Prelude.{◌≡◌, ◌↔◌, ℕ, Bool, false, IsTrue, ◌+◌, ◌*◌, ◌≤◌, ◌<◌, ◌++◌, true, List, length, map, flat_map, take, drop, Option, Some}
use Rattle.rss_base.specs.Names.{name_bytes}
use Rattle.rss_base.specs.Sizes.{page_bytes, segments, links_most, system_pages}
use Rattle.rss_base.specs.DiskRule.{IsTold}
use Rattle.rss_base.specs.Paged.{Mapped, page_key}
use Rattle.rss_base.specs.Steps.{PagesView}
use Rattle.rss_base.specs.Listings.{Listing, catalog_page, padded, segment_spelled, relation_spelled, image_spelled, link_spelled}
use Rattle.rss_base.specs.Listings.{relation_bytes, relations_of_page, image_bytes, images_of_page, link_bytes}
use Rattle.rss_base.specs.declared.name.Name.{Name}
use Rattle.rss_base.specs.declared.relation.RelationEntry.{RelationEntry}
use Rattle.rss_base.specs.declared.image.ImageEntry.{ImageEntry}
use Rattle.rss_base.specs.declared.link.LinkEntry.{LinkEntry}
use Rattle.rss_base.specs.declared.place.Place.{Place}
use Rattle.rss_base.specs.declared.key.Space.TheVariants.{System}
use Rattle.rss_catalog.specs.Catalogs.{IsCatalogPlace}
use Rattle.rss_catalog.specs.Defined.{IsListable}
use Rattle.rss_catalog.specs.Reading.{pieces, segment_of, relation_of, image_of, link_of}

-- A page of them can't be read, which no device says that tells its contents.
pub record IsUnread (pages : PagesView) (place : Place) : Type 0 where
  pub named : IsCatalogPlace place
  pub untold : IsTold pages.disk → ⊥

-- the first page that isn't there
pub record IsFirstUnmapped (mapped : Mapped) (page : ℕ) : Type 0 where
  pub within : page < system_pages
  pub is : mapped (page_key 0 System page) ≡ false
  pub before : (p : ℕ) → p < page → mapped (page_key 0 System p) ≡ true

-- the page is there, and holds these bytes
pub record HasPage (pages : PagesView) (page : ℕ) (bytes : List ℕ) : Type 0 where
  pub mapped : pages.mapped (page_key 0 System page) ≡ true
  pub holds : IsTold pages.disk → pages.held (page_key 0 System page) ≡ Some bytes

-- ---- entries

-- How entries of a kind stand on pages: how many a page has, what a page reads as, and how an entry is spelled; and which entries a listing has.
pub record Form (X : Type 0) : Type 0 where
  pub count : ℕ
  pub read : List ℕ → List (Option X)
  pub spelled : Option X → List ℕ
  pub listed : Listing → List (Option X)

-- all segments stand on one page
abbrev pub segment_form : Form Name
segment_form = record {
  count = segments;
  read = λ page. map segment_of (pieces name_bytes segments page);
  spelled = segment_spelled;
  listed = λ listing. listing.segments;
}

abbrev pub relation_form : Form RelationEntry
relation_form = record {
  count = relations_of_page;
  read = λ page. map relation_of (pieces relation_bytes relations_of_page page);
  spelled = relation_spelled;
  listed = λ listing. listing.relations;
}

abbrev pub image_form : Form ImageEntry
image_form = record {
  count = images_of_page;
  read = λ page. map image_of (pieces image_bytes images_of_page page);
  spelled = image_spelled;
  listed = λ listing. listing.images;
}

-- all links stand on one page
abbrev pub link_form : Form LinkEntry
link_form = record {
  count = links_most;
  read = λ page. map link_of (pieces link_bytes links_most page);
  spelled = link_spelled;
  listed = λ listing. listing.links;
}

-- the page that spells these entries
abbrev pub page_with : {X : Type 0} → Form X → List (Option X) → List ℕ
page_with form items = padded page_bytes (flat_map form.spelled items)

-- the entries of one page, among those of all: so many pages stand before it
abbrev pub part : {X : Type 0} → Form X → ℕ → List (Option X) → List (Option X)
part form before items = take form.count (drop (form.count * before) items)

-- the page of this number of a listing is what its entries are spelled by, as they are read
abbrev pub IsFormed : {X : Type 0} → Form X → ℕ → Type 0
IsFormed form page =
    (listing : Listing) → IsListable listing
    → catalog_page listing page ≡ page_with form (form.read (catalog_page listing page))

-- so many pages, from this one on, have entries of this form, and read as those of the listing
pub record HasForm {X : Type 0} (form : Form X) (first count : ℕ) : Type 0 where
  pub within : first + count ≤ system_pages
  pub long : (bytes : List ℕ) → length (form.read bytes) ≡ form.count
  pub formed : (before : ℕ) → before < count → IsFormed form (first + before)
  pub back : (before : ℕ) → before < count → (listing : Listing) → IsListable listing
      → form.read (catalog_page listing (first + before)) ≡ part form before (form.listed listing)

-- The page reads as these entries. So many pages, from the first one on, are in form, and the next one isn't.
pub record ReadsPage {X : Type 0} (form : Form X) (pages : PagesView) (page : ℕ) (items : List (Option X)) (right : ℕ) : Type 0 where
  pub bytes : List ℕ
  pub has : HasPage pages page bytes
  pub read : items ≡ form.read bytes
  pub formed : page < right → bytes ≡ page_with form items
  pub unlike : page ≡ right → bytes ≡ page_with form items → ⊥

-- the page reads as what stands behind what was there, and is in form or not
pub record AddsPage {X : Type 0} (form : Form X) (pages : PagesView) (page : ℕ) (old new : List (Option X)) (is : Bool) : Type 0 where
  pub bytes : List ℕ
  pub has : HasPage pages page bytes
  pub added : new ≡ old ++ form.read bytes
  pub formed : IsTrue is ↔ (bytes ≡ page_with form (form.read bytes))

-- so many pages were in form, from the first one on, and so many are after one page more was read
pub record GoesRight (number was : ℕ) (is : Bool) (right : ℕ) : Type 0 where
  pub all : right ≡ number + 1 → (was ≡ number) × IsTrue is
  pub stays : (right ≡ number + 1 → ⊥) → right ≡ was
  pub goes : IsTrue is → was ≡ number → right ≡ number + 1

-- so many pages, from this one on, read as these entries
pub record LoadsEntries {X : Type 0} (form : Form X) (first count : ℕ) (pages : PagesView) (items : List (Option X)) (was right : ℕ) : Type 0 where
  pub places : length items ≡ form.count * count
  pub reads : (before : ℕ) → before < count → ReadsPage form pages (first + before) (part form before items) right
  pub low : was ≤ right
  pub high : right ≤ first + count
  pub stays : was < first → right ≡ was

-- the first page reads as these segments
pub record LoadsSegments (pages : PagesView) (items : List (Option Name)) (right : ℕ) : Type 0 where
  pub places : length items ≡ segments
  pub reads : ReadsPage segment_form pages 0 items right
  pub high : right ≤ 1
