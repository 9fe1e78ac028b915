-- Image pages of one segment alone are touched: what that leaves of tuples, of counts and of the catalog's pages.
use Rattle.std.proofs.Common.{◌≡◌, ◌≢◌, ◌+◌, ◌<◌, ◌≤◌, ◌^◌, ℕ, true, false, Bool, List, length, get_or, sym, ◌∙◌, ap, subst, arith}
use Rattle.std.specs.Prelude.{Option, Some, is_some, slice_set}
use Rattle.std.specs.FinMap as map
use Rattle.std.proofs.lemmas.List.{get_or-set_same, get_or-set_other}
use Rattle.std.proofs.lemmas.Option.{same_Some}
use Rattle.std.proofs.Math.Logic.{∥∥₁_map}
use Rattle.rss_base.specs.DiskRule.{IsTold}
use Rattle.rss_base.specs.Nodes.{Node, NodesOf, IsNodePage}
use Rattle.rss_base.specs.PageMap.{IsKey}
use Rattle.rss_base.specs.Paged.{Held, page_key}
use Rattle.rss_base.specs.Sizes.{images_most, system_pages}
use Rattle.rss_base.specs.Steps.{PagesView, PagesStep, AreCounted, pages_in}
use Rattle.rss_base.specs.Trees.{IsNodeAt}
use Rattle.rss_base.specs.Listings.{Listing, with_image, catalog_page}
use Rattle.rss_base.specs.declared.name.Name.{Name}
use Rattle.rss_base.specs.declared.tid.Tid.{Tid}
use Rattle.rss_base.specs.declared.key.PageKey.{PageKey}
use Rattle.rss_base.specs.declared.key.Space.TheVariants.{System, Home, Overflow, Image as ImageSpace}
use Rattle.rss_base.specs.declared.image.ImageEntry.{ImageEntry}
use Rattle.rss_base.specs.declared.refusal.Kind.TheVariants.{Image as ImageKind}
use Rattle.rss_tuple.specs.Heaps.{AreHeaps}
use Rattle.rss_catalog.specs.Catalogs.{CatalogView, Lists, IsPending, page_of}
use Rattle.rss_model.specs.Items.{name_cmp}
use Rattle.rss_model.specs.Fits.{IsLive, IsIdentifier}
use Rattle.rss_model.specs.Tables.{ImageDef, Tables}
use Rattle.rss_model.specs.Defining.{with_definitions}
use Rattle.rss_stored.specs.Store.{SpellsTables, AreNodesWithin}
use Rattle.rss_entries.specs.Images.{AreTuples}
use Rattle.rss_entries.proofs.Kept.{HoldsNode, one_image}
use Rattle.rss_entries.proofs.NewImage.{TouchesImages, touches_images, others_counted}
use Rattle.rss_entries.proofs.Standing.{AreLow, low_held}
use Rattle.rss_access.specs.Changes.{AccessView, CanAlter, HasTables}
use Rattle.rss_access.specs.Checking.{ShowsTuples}
use Rattle.rss_access.specs.Written.{AreWritten, heap_now}
use Rattle.rss_access.proofs.Between.{heap_no_image}
use Rattle.rss_access.proofs.Heaped.{heaps_alike}
use Rattle.rss_access.proofs.Rooted.{page_same}

-- ---- pages

-- What the laws of pages say of them, where their slots are counted by numbers of four bytes.
pub record AreLawful (view : PagesView) : Type 0 where
  pub small : view.slots < 2 ^ 32
  pub holds : IsTold view.disk → (key : PageKey) → is_some (view.held key) ≡ view.mapped key
  pub allowed : (key : PageKey) → view.mapped key ≡ true → IsKey view.slots key
  pub counted : AreCounted view

pub are_low : {view : PagesView} → AreLawful view → IsTold view.disk → AreLow view.held
are_low {view = view} lawful told = low_held view lawful.small (lawful.holds told) lawful.allowed

module _ {segment asks outs : ℕ} {old new : PagesView} (step : PagesStep (pages_in segment ImageSpace) asks outs old new) where
  off_images : (key : PageKey) → key.space ≢ ImageSpace → pages_in segment ImageSpace key → ⊥
  off_images key other touched = other (ap (λ (k : PageKey). k.space) touched)

  pub touches : AreLawful old → AreLawful new → IsTold old.disk → TouchesImages segment old new
  touches before after told = touches_images told step (are_low before told) (are_low after (step.passes.leaves.told.0 told))

  -- the pages of tuples are in form
  pub heaps_stay : (IsTold old.disk → AreHeaps old) → IsTold new.disk → AreHeaps new
  heaps_stay heaps told =
      let was = step.passes.leaves.told.1 told in
      heaps_alike (λ key heap. step.held_off was key (off_images key (heap_no_image key heap))) (λ key heap. step.notes_off key (off_images key (heap_no_image key heap))) (heaps was)

  -- and as many
  pub heap_stays : heap_now new ≡ heap_now old
  heap_stays = λ i. others_counted old new step Home (λ is. cc) i + others_counted old new step Overflow (λ is. cc) i

  -- the pages of the system space hold what they held
  pub system_stays : IsTold old.disk → (page : ℕ) → new.held (page_key 0 System page) ≡ old.held (page_key 0 System page)
  system_stays told page = step.held_off told (page_key 0 System page) (off_images (page_key 0 System page) (λ is. cc))

-- nodes in one page are those of one image
pub one_owner : {held : Held} {of other : NodesOf} {page : ℕ} {node : Node} → of.segment ≡ other.segment → HoldsNode held of page → IsNodeAt held other page node → of.image ≡ other.image
one_owner {held = held} {of = of} {page = page} same has at =
    let bytes : has.at.bytes ≡ at.bytes = same_Some _ _ (sym has.at.there ∙ ap (λ (s : ℕ). held (page_key s ImageSpace page)) same ∙ at.there) in
    one_image (subst (λ (b : List ℕ). IsNodePage of page b has.node) bytes has.at.is) at.is

-- ---- pages of the catalog

module _ (number : ℕ) (image : Option ImageEntry) {old new : CatalogView} (lists : Lists (with_image old.listing number image) (page_of ImageKind number) old new) (high : number ≤ images_most) (places : length old.pending ≡ system_pages) where
  abbrev its_page : ℕ
  its_page = page_of ImageKind number

  -- a page that isn't to be written isn't the image's
  not_its : (page : ℕ) → (IsPending new page → ⊥) → page ≢ its_page
  not_its page not here = not (
      ap (λ (l : List Bool). get_or l page false) lists.pending ∙ ap (λ (q : ℕ). get_or (slice_set old.pending its_page true) q false) here
      ∙ get_or-set_same old.pending its_page true false (omega (arith, high, places)))

  -- and wasn't to be written
  not_before : (page : ℕ) → (IsPending new page → ⊥) → IsPending old page → ⊥
  not_before page not was = not (ap (λ (l : List Bool). get_or l page false) lists.pending ∙ get_or-set_other old.pending its_page page true false (not_its page not) ∙ was)

  -- the pages that are written are so still
  pub written_beside : (was now : Held) → ((page : ℕ) → now (page_key 0 System page) ≡ was (page_key 0 System page)) → AreWritten was old → AreWritten now new
  written_beside was now same written page low not =
      same page ∙ written page low (not_before page not)
      ∙ ap Some (sym (ap (λ (l : Listing). catalog_page l page) lists.is ∙ page_same old.listing number image page (not_its page not)))

-- ---- tables

-- the tables that pages spell are shown by the pages of tuples
pub spelled_shown : {at : AccessView} {tables : Tables} → SpellsTables at.pages.held at.catalog.listing tables → AreTuples tables → ((relation : Name) (tid : Tid) → IsLive tables relation tid → IsIdentifier at.pages.slots tid) → ShowsTuples at tables
spelled_shown spells tuples tids = record {
  listed = spells.listed;
  defines = spells.defines;
  counts = spells.counts;
  contents = spells.contents;
  tuples = tuples;
  tids = tids;
}

-- the tables with other images
abbrev pub imaged : map.FinMap name_cmp ImageDef → Tables → Tables
imaged images tables = with_definitions (record tables.definitions { images = images }) tables

-- where pages come to spell these
pub tables_imaged : {old new : AccessView} (images : map.FinMap name_cmp ImageDef) → new.pages.slots ≡ old.pages.slots → (has : HasTables old) → SpellsTables new.pages.held new.catalog.listing (imaged images has.tables) → AreNodesWithin new.pages.slots new.pages.held new.catalog.listing → HasTables new
tables_imaged {old = old} {new = new} images slots has spells nodes = record {
  tables = imaged images has.tables;
  spells = spells;
  tuples = λ name tid held at.
      let of = has.tuples name tid held at in
      record { fields = of.fields; values = of.values; defined = of.defined; tuple = of.tuple; fit = of.fit };
  tids = λ name tid live.
      let id = has.tids name tid live in
      record { page = omega (arith, id.page, slots); slot = id.slot };
  few = has.few;
  links = record {
    chains = λ link parent held at.
        let of = has.links.chains link parent held at in
        record { definition = of.definition; tids = of.tids; defined = of.defined; is = of.is; some = of.some; members = of.members; once = of.once; under = of.under };
    alone = has.links.alone;
  };
  nodes = nodes;
}

-- pages that may be changed on
pub can_imaged : {segment asks outs : ℕ} {old new : AccessView} → PagesStep (pages_in segment ImageSpace) asks outs old.pages new.pages → (IsTold old.pages.disk → HasTables old → HasTables new) → CanAlter old → CanAlter new
can_imaged step now can = record {
  heaps = heaps_stay step can.heaps;
  tables = λ told. let was = step.passes.leaves.told.1 told in ∥∥₁_map (can.tables was) (now was);
}
