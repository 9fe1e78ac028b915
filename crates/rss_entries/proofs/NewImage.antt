-- Where an image was built in pages that weren't mapped, the pages hold one image more.
use Rattle.std.proofs.Common.{◌≡◌, ◌≢◌, ◌+◌, length, arith, inl, inr, ⊎_elim, ◌⊎◌, ℕ, true, List, [], refl, sym, ◌∙◌, ap}
use Rattle.std.specs.Prelude.{None, Contains, is_some}
use Rattle.std.proofs.lemmas.Bool.{true≢false}
use Rattle.rss_base.specs.DiskRule.{IsTold}
use Rattle.rss_base.specs.Paged.{Held, mapped_of, page_key}
use Rattle.rss_base.specs.Steps.{PagesView, PagesStep, AreCounted, pages_in}
use Rattle.rss_base.specs.Listings.{Listing}
use Rattle.rss_base.specs.declared.name.Name.{Name}
use Rattle.rss_base.specs.declared.tid.Tid.{Tid}
use Rattle.rss_base.specs.declared.item.Item.TheVariants.{Tuple as TupleItem}
use Rattle.rss_base.specs.declared.key.PageKey.{PageKey}
use Rattle.rss_base.specs.declared.key.Space.{Space}
use Rattle.rss_base.specs.declared.key.Space.TheVariants.{Home, Overflow, Image as ImageSpace}
use Rattle.rss_base.specs.declared.image.ImageEntry.{ImageEntry}
use Rattle.rss_base.specs.declared.relation.RelationEntry.{RelationEntry}
use Rattle.rss_page.specs.Slotted.{IsHeapKey}
use Rattle.rss_levels.specs.Entries.{IsIn}
use Rattle.rss_base.specs.Tids.{IsSpelledTid}
use Rattle.rss_image.specs.Images.{Becomes, pages_of}
use Rattle.rss_image.specs.declared.image.Image.{Image}
use Rattle.rss_tuple.proofs.Sets.{none_held}
use Rattle.rss_model.specs.Tables.{Tables, content}
use Rattle.rss_stored.specs.Store.{IsReached, SpellsImage, SpellsImages, nodes_of}
use Rattle.rss_stored.proofs.ImageMade.{KeepsHeap, HoldsNewImage}
use Rattle.rss_model.proofs.LogLists.{by_same, by_test}
use Rattle.rss_model.proofs.MappedKeys.{same_mapped_of}
use Rattle.rss_model.proofs.RelationLists.{entry_there}
use Rattle.rss_entries.specs.Images.{image_of}
use Rattle.rss_entries.proofs.Kept.{KeepsNodes, image_kept}
use Rattle.rss_entries.proofs.Places.{places_same}
use Rattle.rss_entries.proofs.Shown.{byte_list}
use Rattle.rss_entries.proofs.Standing.{AreLow, AreSpelledIn, StandsIn, stands_in, containing}

-- ---- a call that touches the image pages of one segment

-- The other pages are as they were; and before the call and after it no page has the number that stands for no next leaf.
pub record TouchesImages (segment : ℕ) (old new : PagesView) : Type 0 where
  pub held_off : (key : PageKey) → (pages_in segment ImageSpace key → ⊥) → new.held key ≡ old.held key
  pub low : AreLow old.held
  pub low_now : AreLow new.held

pub touches_images : {segment asks outs : ℕ} {old new : PagesView} → IsTold old.disk → PagesStep (pages_in segment ImageSpace) asks outs old new → AreLow old.held → AreLow new.held → TouchesImages segment old new
touches_images told step low low_now = record { held_off = step.held_off told; low = low; low_now = low_now }

module _ {segment : ℕ} {old new : PagesView} (touches : TouchesImages segment old new) where
  pub heap_kept : KeepsHeap old.held new.held
  heap_kept key heap = touches.held_off key (λ touched. off (ap (λ (k : PageKey). k.space) touched) heap)
    where
      off : key.space ≡ ImageSpace → IsHeapKey key → ⊥
      off image (inl home) = let never : ImageSpace ≡ Home = sym image ∙ home in cc
      off image (inr overflow) = let never : ImageSpace ≡ Overflow = sym image ∙ overflow in cc

  pub segment_kept : (key : PageKey) → (key.segment ≡ segment → ⊥) → new.held key ≡ old.held key
  segment_kept key apart = touches.held_off key (λ touched. apart (ap (λ (k : PageKey). k.segment) touched))

pub image_key : (key : PageKey) (segment : ℕ) → key.segment ≡ segment → key.space ≡ ImageSpace → key ≡ page_key segment ImageSpace key.number
image_key key segment its space = λ i. record { segment = its i; space = space i; number = key.number }

-- an image whose nodes are kept stands in its pages as before
pub shows_still : {old new : Held} {tables : Tables} {number : ℕ} {image : ImageEntry} {relation : RelationEntry} {pages : List ℕ} → KeepsNodes (nodes_of number image relation) old new
    → SpellsImage old tables number image relation pages → SpellsImage new tables number image relation pages
shows_still keeps spells = record { pairs = spells.pairs; tree = image_kept keeps spells.tree; once = spells.once; list = spells.list }

-- ---- identifiers

-- bytes can spell the identifiers of all tuples
abbrev pub HaveSpelledTids : Tables → Type 0
HaveSpelledTids tables = (relation : Name) (tid : Tid) → is_some (content tables.contents (TupleItem relation tid)) ≡ true → IsSpelledTid tid

spelled_in : (tables : Tables) (image : ImageEntry) (relation : RelationEntry) → HaveSpelledTids tables → AreSpelledIn tables image relation
spelled_in tables image relation tids e is = let there = entry_there tables relation.name _ e is in tids relation.name e.tid (ap is_some there.1)

-- ---- a new image

module _ {old new : PagesView} {listing : Listing} {tables : Tables} (number : ℕ) (image : ImageEntry) (relation : RelationEntry) (images : SpellsImages old.held listing tables) (tids : HaveSpelledTids tables) (touches : TouchesImages relation.segment old new)
    (becomes : Becomes (image_of number image relation) (image_of number image relation) old new [] (byte_list tables image relation)) where
  stands : StandsIn new.held tables number image relation (pages_of becomes.tree)
  stands = stands_in new.held tables number image relation touches.low_now (image_of number image relation) refl (spelled_in tables image relation tids) becomes.tree

  -- what was mapped is as it was
  keeps : (k : ℕ) (other : ImageEntry) (its : RelationEntry) → KeepsNodes (nodes_of k other its) old.held new.held
  keeps k other its page bytes node there is = by_same its.segment relation.segment
      (λ same.
      ap (λ (s : ℕ). new.held (page_key s ImageSpace page)) same
      ∙ becomes.keeps.same page bytes (λ none. none) (ap (λ (s : ℕ). old.held (page_key s ImageSpace page)) (sym same) ∙ there))
      (λ apart. segment_kept touches (page_key its.segment ImageSpace page) apart ∙ there)

  still : (k : ℕ) (other : ImageEntry) (its : RelationEntry) (pages : List ℕ) → SpellsImage old.held tables k other its pages → SpellsImage new.held tables k other its pages
  still k other its pages spells = shows_still (keeps k other its) spells

  reached_still : (key : PageKey) → IsReached old.held listing tables key → IsReached new.held listing tables key
  reached_still key of = record {
    number = of.number;
    image = of.image;
    relation = of.relation;
    pages = of.pages;
    at = of.at;
    spells = still of.number of.image of.relation of.pages of.spells;
    segment = of.segment;
    among = of.among;
  }

  -- a page that came is its own
  came : (key : PageKey) → key.space ≡ ImageSpace → key.segment ≡ relation.segment → old.held key ≡ None → is_some (new.held key) ≡ true → Contains stands.pages key.number
  came key space segment none there =
      let is : key ≡ page_key relation.segment ImageSpace key.number = image_key key relation.segment segment space in
      ⊎_elim
      (λ (own : IsIn (pages_of becomes.tree) key.number). containing stands.pages key.number (stands.same.back key.number own))
      (λ (gone : new.held (page_key relation.segment ImageSpace key.number) ≡ None). absurd (true≢false (sym there ∙ ap is_some (ap new.held is ∙ gone))))
      (becomes.loses_none key.number (inr (ap old.held (sym is) ∙ none)))

  reached : (key : PageKey) → key.space ≡ ImageSpace → is_some (new.held key) ≡ true → IsReached new.held listing tables key ⊎ ((key.segment ≡ relation.segment) × Contains stands.pages key.number)
  reached key space there = by_test (is_some (old.held key))
      (λ was. inl (reached_still key (images.reached key space was)))
      (λ off. by_same key.segment relation.segment
      (λ same. inr (same, came key space same (none_held (old.held key) off) there))
      (λ apart. absurd (true≢false (sym there ∙ ap is_some (segment_kept touches key apart) ∙ off))))

  -- The pages hold the new image beside the others.
  pub holds_new_image : HoldsNewImage old.held new.held listing tables number image relation
  holds_new_image = record {
    pages = stands.pages;
    kept = heap_kept touches;
    spells = stands.spells;
    others = λ k other its at. let shown = images.each k other its at in (shown.0, still k other its shown.0 shown.1);
    reached = reached;
  }

-- ---- how many pages there are

module _ {segment asks outs : ℕ} (old new : PagesView) (step : PagesStep (pages_in segment ImageSpace) asks outs old new) where
  -- as many pages of each other space as before
  pub others_counted : (space : Space) → space ≢ ImageSpace → mapped_of new.mapped space new.slots ≡ mapped_of old.mapped space old.slots
  others_counted space other =
      ap (mapped_of new.mapped space) step.passes.slots
      ∙ same_mapped_of old.mapped new.mapped space old.slots (λ s n. step.mapped_off (page_key s space n) (λ touched. other (ap (λ (k : PageKey). k.space) touched)))

  -- and so many image pages more as a new image has
  pub new_image_counted : {image : Image} {pairs : List (List ℕ)} → AreCounted old → AreCounted new → (becomes : Becomes image image old new [] pairs)
      → mapped_of new.mapped ImageSpace new.slots ≡ mapped_of old.mapped ImageSpace old.slots + length (pages_of becomes.tree)
  new_image_counted one two becomes = omega (arith, places_same segment old new one two step, becomes.spare)
