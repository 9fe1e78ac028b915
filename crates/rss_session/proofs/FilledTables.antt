-- The tree of a planned image is built of its entries: what the session is then.
use Rattle.std.proofs.Common.{◌≡◌, ℕ, List, sym, ◌∙◌, subst, arith}
use Rattle.std.specs.Prelude.{Some}
use Rattle.std.specs.FinMap.{empty}
use Rattle.std.proofs.Math.Logic.{∥∥₁_map}
use Rattle.std.proofs.lemmas.Option.{same_Some}
use Rattle.rss_base.specs.DiskRule.{IsTold}
use Rattle.rss_base.specs.Listings.{Listing, ListingFits, IsLeastUnused, field_numbers, relation_at, with_image as with_listed, with_root}
use Rattle.rss_base.specs.Steps.{PagesView, PagesStep, pages_in}
use Rattle.rss_base.specs.declared.image.ImageEntry.{ImageEntry}
use Rattle.rss_base.specs.declared.key.Space.TheVariants.{Image as ImageSpace}
use Rattle.rss_base.specs.declared.refusal.Kind.TheVariants.{Image as ImageKind}
use Rattle.rss_base.specs.declared.relation.RelationEntry.{RelationEntry}
use Rattle.rss_base.specs.declared.tid.Tid.{Tid}
use Rattle.rss_catalog.specs.Catalogs.{CatalogView, Lists, page_of}
use Rattle.rss_model.specs.Defining.{with_definitions, with_image}
use Rattle.rss_stored.specs.Store.{SpellsTables, image_definition}
use Rattle.rss_entries.specs.Building.{pair_list}
use Rattle.rss_access.specs.Changes.{both, CanAlter}
use Rattle.rss_access.specs.Filling.{AreEntries}
use Rattle.rss_access.specs.Trees.{FillsImage as FillsTree}
use Rattle.rss_access.proofs.ImageTables.{Filled, AreBytes, entries_bytes, filled_tables, filled_written, filled_shows}
use Rattle.rss_access.proofs.ImageTouched.{AreLawful, heaps_stay}
use Rattle.rss_session.specs.Filling.{ListsImage, FillsImage, MakesImage}
use Rattle.rss_session.specs.Sessions.{SessionView, IsReady, CanSave}
use Rattle.rss_session.proofs.FilledLists.{image_free, image_listed, number_high, set_again}
use Rattle.rss_session.proofs.FilledStates.{image_redefined}
use Rattle.rss_session.proofs.Touched.{with_tables, pending_long, touches_images, store_touched, can_save_touched, base_spelled, base_shown}

-- The entry was listed by the least number that was not in use, and its tree was built of these entries.
pub record Builds (old : SessionView) (entry : ImageEntry) (entries : List (List ℕ × Tid)) (pages : PagesView) (catalog : CatalogView) : Type 0 where
  pub number : ℕ
  pub mid : CatalogView
  pub least : IsLeastUnused ImageKind old.store.catalog.listing number
  pub lists : Lists (with_listed old.store.catalog.listing number (Some (with_root 0 1 entry))) (page_of ImageKind number) old.store.catalog mid
  pub fits : ListingFits old.store.catalog.listing → ListingFits mid.listing
  pub fills : FillsTree number (pair_list entries) (both old.store.pages mid) (both pages catalog)
  pub relation : RelationEntry
  pub within : relation_at old.store.catalog.listing entry.relation ≡ Some relation
  pub asks : ℕ
  pub outs : ℕ
  pub step : PagesStep (pages_in relation.segment ImageSpace) asks outs old.store.pages pages
  pub before : AreLawful old.store.pages
  pub after : AreLawful pages

module _ {old : SessionView} {entry : ImageEntry} {entries : List (List ℕ × Tid)} {pages : PagesView} {catalog : CatalogView} (builds : Builds old entry entries pages catalog) where
  abbrev listing : Listing
  listing = old.store.catalog.listing

  abbrev new : SessionView
  new = with_tables pages catalog old

  builds_lists : ListsImage entry old.store.catalog catalog
  builds_lists =
      let second = builds.fills.lists (with_root 0 1 entry) (image_listed builds.least builds.lists) in
      set_again builds.number builds.fills.root builds.fills.levels 0 1 builds.least builds.lists second (λ fit. builds.fills.fits (builds.fits fit))

  filled : ListingFits listing → Filled (both old.store.pages old.store.catalog) builds.mid (both pages catalog) builds.number (with_root 0 1 entry) builds.relation (pair_list entries)
  filled fit = record {
    free = image_free builds.least;
    low = builds.least.low;
    high = omega (arith, number_high builds.least, fit.paths.image_places);
    within = builds.within;
    lists = builds.lists;
    fits = builds.fits;
    fills = builds.fills;
    asks = builds.asks;
    outs = builds.outs;
    step = builds.step;
    before = builds.before;
    after = builds.after;
  }

  module _ (ready : IsReady old) (are : IsTold old.store.pages.disk → AreEntries (both old.store.pages old.store.catalog) entry.relation builds.relation (field_numbers entry) entries) where
    bytes : IsTold old.store.pages.disk → AreBytes (both old.store.pages old.store.catalog) (with_root 0 1 entry) builds.relation (pair_list entries)
    bytes told tables shows = entries_bytes (filled shows.listed) entries (are told) tables shows

    builds_can : CanAlter (both pages catalog)
    builds_can = record {
      heaps = heaps_stay builds.step ready.store.heaps;
      tables = λ now.
          let told = builds.step.passes.leaves.told.1 now in
          ∥∥₁_map (ready.store.tables told) (λ has. filled_tables (filled has.spells.listed) told (bytes told) has);
    }

    builds_saves : CanSave new
    builds_saves =
        can_save_touched ready (touches_images old builds.step catalog)
        (store_touched old builds.step catalog ready.store (pending_long builds_lists.lists ready.store.pending_places) builds_can)

    builds_fills : old.opened.transactions ≡ empty → FillsImage old new entry
    builds_fills closed told state kept shows may =
        let touches = touches_images old builds.step catalog in
        let spelled = base_spelled closed shows in
        let same : builds.relation ≡ may.plans.within = same_Some _ _ (sym builds.within ∙ may.plans.at) in
        image_redefined ready touches told closed (filled_written (filled spelled.listed) spelled.listed told ready.store.pending_places shows.store.written) kept shows may
        (subst (λ (r : RelationEntry). SpellsTables pages.held catalog.listing (with_definitions (with_image state.base.definitions entry.name (image_definition entry r)) state.base)) same
        (filled_shows (filled spelled.listed) told (bytes told) spelled (base_shown closed shows ready kept)))

    pub builds_makes : old.opened.transactions ≡ empty → MakesImage entry old new
    builds_makes closed = record {
      touches = touches_images old builds.step catalog;
      lists = builds_lists;
      saves = builds_saves;
      fills = builds_fills closed;
    }
