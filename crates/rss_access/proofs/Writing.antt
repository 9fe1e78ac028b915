-- Pages of the catalog that are written: what all others hold stays as it was.
use Rattle.std.proofs.Common.{◌≡◌, ◌≢◌, inl, inr, ℕ, Bool, true, false, refl, sym, ◌∙◌, ap, subst}
use Rattle.std.specs.Prelude.{Some, is_some, slice_index_or}
use Rattle.rss_base.specs.DiskRule.{IsTold}
use Rattle.rss_base.specs.Listings.{Listing, HoldsListing, catalog_page}
use Rattle.rss_base.specs.Paged.{Held, page_key}
use Rattle.rss_base.specs.Steps.{PagesView, PagesStep}
use Rattle.rss_base.specs.declared.key.Space.{Space}
use Rattle.rss_base.specs.declared.key.Space.TheVariants.{System, Home, Overflow, Image}
use Rattle.rss_base.specs.declared.key.PageKey.{PageKey}
use Rattle.rss_page.specs.Slotted.{IsHeapKey}
use Rattle.rss_tuple.specs.Directory.{Bodies}
use Rattle.rss_tuple.specs.Heaps.{AreHeaps}
use Rattle.rss_catalog.specs.Catalogs.{CatalogView, IsPending, pending_pages, StoresListing}
use Rattle.rss_model.specs.Tables.{Tables}
use Rattle.rss_stored.specs.Store.{SpellsTables, SpellsContents, IsStorePage}
use Rattle.rss_access.specs.Written.{AreWritten, is_pending}
use Rattle.rss_access.proofs.Heaped.{SameHeaps, bodies_alike, linked_alike, heaps_alike}
use Rattle.rss_access.proofs.Imaged.{SameImages, images_kept}

-- pages that hold the same, but for those of the system space
abbrev pub SameOffSystem : (old new : Held) → Type 0
SameOffSystem old new = (key : PageKey) → (key.space ≡ System → ⊥) → new key ≡ old key

-- a home or overflow page is none of the system space
pub off_system : (key : PageKey) → IsHeapKey key → key.space ≢ System
off_system key (inl home) system = let not : Home ≡ System = sym home ∙ system in absurd (cc)
off_system key (inr over) system = let not : Overflow ≡ System = sym over ∙ system in absurd (cc)

same_heaps : {old new : Held} → SameOffSystem old new → SameHeaps old new
same_heaps same key heap = same key (off_system key heap)

module _ {old new : Held} (same : SameOffSystem old new) where
  same_images : SameImages old new
  same_images key image = same key (λ system. let not : Image ≡ System = sym image ∙ system in absurd (cc))

  -- they spell the same tables
  pub spells_same : {listing : Listing} {tables : Tables} → SpellsTables old listing tables → SpellsTables new listing tables
  spells_same {listing = listing} {tables = tables} spells = record {
    only = λ key there. by_space key there key.space refl;
    formed = λ key bytes heap is. spells.formed key bytes heap (sym (same key (off_system key heap)) ∙ is);
    linked = λ segment. linked_alike (same_heaps same) segment (spells.linked segment);
    listed = spells.listed;
    defines = spells.defines;
    counts = spells.counts;
    contents = subst (λ (b : Bodies). SpellsContents listing b tables.contents) (sym (bodies_alike (same_heaps same))) spells.contents;
    images = images_kept same_images spells.images;
  }
    where
      kept : (key : PageKey) → is_some (new key) ≡ true → key.space ≢ System → IsStorePage listing key
      kept key there off = spells.only key (ap is_some (sym (same key off)) ∙ there)

      by_space : (key : PageKey) → is_some (new key) ≡ true → (space : Space) → key.space ≡ space → IsStorePage listing key
      by_space key there System is = inl is
      by_space key there Home is = kept key there (λ system. let not : Home ≡ System = sym is ∙ system in absurd (cc))
      by_space key there Overflow is = kept key there (λ system. let not : Overflow ≡ System = sym is ∙ system in absurd (cc))
      by_space key there Image is = kept key there (λ system. let not : Image ≡ System = sym is ∙ system in absurd (cc))

-- pages of a tuple store that hold and note the same are in form
pub heaps_same : {old new : PagesView} → SameOffSystem old.held new.held → ((key : PageKey) → (key.space ≡ System → ⊥) → new.notes key ≡ old.notes key) → AreHeaps old → AreHeaps new
heaps_same same notes heaps = heaps_alike (same_heaps same) (λ key heap. notes key (off_system key heap)) heaps

-- ---- the pages that are written

-- a page that is pending is one of the system space
pub pending_system : {catalog : CatalogView} (key : PageKey) → (key.space ≡ System → ⊥) → pending_pages catalog key → ⊥
pending_system key off written = off (ap (λ (k : PageKey). k.space) written.is)

pub pending_is : {catalog : CatalogView} {key : PageKey} → pending_pages catalog key → is_pending catalog key ≡ true
pending_is {catalog = catalog} written = ap (is_pending catalog) written.is ∙ written.pending

-- a page of the system space that isn't pending is none of those
pub not_pending : {catalog : CatalogView} (page : ℕ) → (IsPending catalog page → ⊥) → pending_pages catalog (page_key 0 System page) → ⊥
not_pending {catalog = catalog} page not written = not (subst (IsPending catalog) (sym (ap (λ (k : PageKey). k.number) written.is)) written.pending)

module _ {old new : PagesView} {catalog : CatalogView} {asks outs : ℕ} (step : PagesStep (pending_pages catalog) asks outs old new) where
  pub held_off_system : IsTold old.disk → SameOffSystem old.held new.held
  held_off_system told key off = step.held_off told key (pending_system key off)

  pub notes_off_system : (key : PageKey) → (key.space ≡ System → ⊥) → new.notes key ≡ old.notes key
  notes_off_system key off = step.notes_off key (pending_system key off)

  -- all pages of the system space spell the catalog then
  pub all_written : IsTold old.disk → StoresListing catalog old new → AreWritten old.held catalog → HoldsListing new.held catalog.listing
  all_written told stores written page low = by_pending (slice_index_or catalog.pending page false) refl
    where
      by_pending : (b : Bool) → slice_index_or catalog.pending page false ≡ b → new.held (page_key 0 System page) ≡ Some (catalog_page catalog.listing page)
      by_pending true is = stores.wrote told page is
      by_pending false is =
          let not : IsPending catalog page → ⊥ = λ pending. let both : true ≡ false = sym pending ∙ is in absurd (cc) in
          step.held_off told (page_key 0 System page) (not_pending page not) ∙ written page low not
