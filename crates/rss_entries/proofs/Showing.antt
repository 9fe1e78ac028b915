-- Images show the tables after a change, one after another: from each to the next.
use Rattle.std.proofs.Common.{◌≡◌, ◌<◌, ◌≤◌, ◌+◌, ◌-◌, ℕ, zero, suc, Bool, true, false, List, length, get_or, map as list_map, refl, sym, ◌∙◌, ap, subst, arith, inl, inr, ⊎_elim}
use Rattle.std.specs.Prelude.{Option, Some, None, IfSome, is_some, option_map, slice_set}
use Rattle.std.specs.FinMap as map
use Rattle.std.proofs.lemmas.Bool.{cases_lt, true≢false}
use Rattle.std.proofs.lemmas.List.{set-get_or}
use Rattle.std.proofs.lemmas.Option.{none-some, same_Some}
use Rattle.std.proofs.Math.Seq.{map-set_same}
use Rattle.rss_base.specs.DiskRule.{IsTold}
use Rattle.rss_base.specs.Nodes.{Node, IsNodePage}
use Rattle.rss_base.specs.Paged.{Held, page_key}
use Rattle.rss_base.specs.Steps.{PagesView, PagesStep, pages_in}
use Rattle.rss_base.specs.Trees.{IsNodeAt}
use Rattle.rss_base.specs.Listings.{Listing, ListingFits, numbered, names_of, relation_at, image_at, with_image, with_root}
use Rattle.rss_base.specs.declared.name.Name.{Name}
use Rattle.rss_base.specs.declared.key.PageKey.{PageKey}
use Rattle.rss_base.specs.declared.key.Space.TheVariants.{Image as ImageSpace}
use Rattle.rss_base.specs.declared.refusal.Kind.TheVariants.{Image as ImageKind}
use Rattle.rss_base.specs.declared.image.ImageEntry.{ImageEntry}
use Rattle.rss_base.specs.declared.relation.RelationEntry.{RelationEntry}
use Rattle.rss_levels.specs.Entries.{IsIn}
use Rattle.rss_levels.specs.Rows.{IsTree}
use Rattle.rss_levels.specs.Spots.{IsOwn}
use Rattle.rss_levels.proofs.Pages.{in_or_not}
use Rattle.rss_image.specs.Trees.{cells_of, spells}
use Rattle.rss_image.specs.Images.{nodes_of, ImageTree, AreAllMade, pages_of, Becomes}
use Rattle.rss_image.specs.declared.image.Image.{Image}
use Rattle.rss_image.proofs.Putting.{spell_one}
use Rattle.rss_model.specs.Tables.{Tables}
use Rattle.rss_stored.specs.Store.{Defines, IsListedImage, SpellsImage, SpellsImages, image_definition, pair_spelled, nodes_of as base_nodes}
use Rattle.rss_model.proofs.LogLists.{by_same, by_test}
use Rattle.rss_stored.proofs.Listed.{at_place}
use Rattle.rss_stored.proofs.Relisted.{number_within_list, number_set, number_kept}
use Rattle.rss_entries.specs.Moving.{MovesEntry, MakesEntry, moved_pairs, pair_with}
use Rattle.rss_entries.specs.Images.{TupleMove, CanMove, after_move, image_of, key_of, ShowBelow, IsReachedBelow}
use Rattle.rss_entries.proofs.Lists.{byte_list, moved_list, holds_entry, kept_list}
use Rattle.rss_entries.proofs.Kept.{KeepsNodes, HoldsNode, image_kept, image_node, one_image}
use Rattle.rss_entries.proofs.Standing.{AreLow, IsRowed, StandsIn, rowed, stands_in, contained, containing}
use Rattle.rss_entries.proofs.Fitting.{nodes_fit, spelled_after}

-- ---- the first and the last

-- no image has the number 0
some_number : {listing : Listing} {number : ℕ} {image : ImageEntry} {relation : RelationEntry} → IsListedImage listing number image relation → 1 ≤ number
some_number {listing = listing} {number = number} {image = image} at = (number_within_list listing.images number image at.at).0

-- before any image is moved
pub shows_first : {held : Held} {listing : Listing} {tables : Tables} (move : TupleMove) → SpellsImages held listing tables → ShowBelow 1 held listing move tables
shows_first move spelled = record {
  moved = λ number image relation at low. absurd (omega (arith, some_number at, low));
  rest = λ number image relation at high. spelled.each number image relation at;
  reached = λ key space there.
      let one = spelled.reached key space there in
      record {
        number = one.number;
        image = one.image;
        relation = one.relation;
        pages = one.pages;
        at = one.at;
        moved = λ low. absurd (omega (arith, some_number one.at, low));
        rest = λ high. one.spells;
        segment = one.segment;
        among = one.among;
      };
}

-- where all images are below the number
pub shows_all : {k : ℕ} {held : Held} {listing : Listing} {move : TupleMove} {tables : Tables} → ShowBelow k held listing move tables → ((number : ℕ) (image : ImageEntry) → image_at listing number ≡ Some image → number < k) → SpellsImages held listing (after_move move tables)
shows_all show below = record {
  each = λ number image relation at. show.moved number image relation at (below number image at.at);
  reached = λ key space there.
      let one = show.reached key space there in
      record {
        number = one.number;
        image = one.image;
        relation = one.relation;
        pages = one.pages;
        at = one.at;
        spells = one.moved (below one.number one.image one.at.at);
        segment = one.segment;
        among = one.among;
      };
}

-- ---- an image that isn't moved

module _ {listing : Listing} {tables : Tables} (move : TupleMove) (can : CanMove listing move tables) where
  -- an image of another relation shows the same before and after the change
  other_shows : {held : Held} (number : ℕ) (image : ImageEntry) (relation : RelationEntry) (pages : List ℕ) → IsListedImage listing number image relation → (image.relation ≡ move.number → ⊥) → SpellsImage held tables number image relation pages → SpellsImage held (after_move move tables) number image relation pages
  other_shows number image relation pages at other spelled = record {
    pairs = spelled.pairs;
    tree = spelled.tree;
    once = spelled.once;
    list = spelled.list ∙ ap (list_map (pair_spelled image relation)) (sym (kept_list move can number image relation at other));
  }

  -- past a number that no image of the relation has
  pub shows_next : {held : Held} (k : ℕ) → ((image : ImageEntry) → image_at listing k ≡ Some image → image.relation ≡ move.number → ⊥) → ShowBelow k held listing move tables → ShowBelow (k + 1) held listing move tables
  shows_next {held = held} k other show = record {
    moved = λ number image relation at low. by_same number k
        (λ here. let rest = show.rest number image relation at (omega (arith, here)) in (rest.0, other_shows number image relation rest.0 at (not_its number image here at.at) rest.1))
        (λ off. show.moved number image relation at (omega (arith, low, off)));
    rest = λ number image relation at high. show.rest number image relation at (omega (arith, high));
    reached = λ key space there.
        let one = show.reached key space there in
        record {
          number = one.number;
          image = one.image;
          relation = one.relation;
          pages = one.pages;
          at = one.at;
          moved = λ low. by_same one.number k
              (λ here. other_shows one.number one.image one.relation one.pages one.at (not_its one.number one.image here one.at.at) (one.rest (omega (arith, here))))
              (λ off. one.moved (omega (arith, low, off)));
          rest = λ high. one.rest (omega (arith, high));
          segment = one.segment;
          among = one.among;
        };
  }
    where
      not_its : (number : ℕ) (image : ImageEntry) → number ≡ k → image_at listing number ≡ Some image → image.relation ≡ move.number → ⊥
      not_its number image here at = other image (ap (image_at listing) (sym here) ∙ at)

-- ---- what has a number

-- a number has one image, of one relation
pub record IsSameEntry (one other : ImageEntry) (its others : RelationEntry) : Type 0 where
  pub image : one ≡ other
  pub relation : its ≡ others

pub same_entry : {listing : Listing} {n m : ℕ} {one other : ImageEntry} {its others : RelationEntry} → IsListedImage listing n one its → IsListedImage listing m other others → n ≡ m → IsSameEntry one other its others
same_entry {listing = listing} {one = one} {other = other} first second here =
    let same : one ≡ other = same_Some _ _ (sym first.at ∙ ap (image_at listing) here ∙ second.at) in
    record { image = same; relation = same_Some _ _ (sym first.within ∙ ap (λ (e : ImageEntry). relation_at listing e.relation) same ∙ second.within) }

pub at_same : (P : ℕ → ImageEntry → RelationEntry → Type 0) {n m : ℕ} {one other : ImageEntry} {its others : RelationEntry} → n ≡ m → IsSameEntry one other its others → P n one its → P m other others
at_same P {m = m} {one = one} {other = other} {its = its} here same has =
    subst (P m other) same.relation (subst (λ (e : ImageEntry). P m e its) same.image (subst (λ (j : ℕ). P j one its) here has))

-- ---- a listing in which an image has another root

-- what has a number stands at its place
pub at_its_place : {A : Type 0} (items : List (Option A)) (number : ℕ) (item : A) → numbered items number ≡ Some item → get_or items (number - 1) None ≡ Some item
at_its_place items zero item at = absurd (none-some item at)
at_its_place items (suc k) item at = ap (λ (n : ℕ). get_or items n None) (less k) ∙ sym (at_place items k) ∙ at
  where
    less : (k : ℕ) → suc k - 1 ≡ k
    less k = omega arith

-- the root and the levels that it has
pub same_listing : (listing : Listing) (k : ℕ) (image : ImageEntry) → image_at listing k ≡ Some image → (root levels : ℕ) → root ≡ image.root → levels ≡ image.levels → listing ≡ with_image listing k (Some (with_root root levels image))
same_listing listing k image at root levels root_is levels_is =
    let there : get_or listing.images (k - 1) None ≡ Some (with_root root levels image) = at_its_place listing.images k image at ∙ (λ i. Some (with_root (sym root_is i) (sym levels_is i) image)) in
    let images : slice_set listing.images (k - 1) (Some (with_root root levels image)) ≡ listing.images = ap (λ (o : Option ImageEntry). slice_set listing.images (k - 1) o) (sym there) ∙ set-get_or listing.images (k - 1) None in
    λ i. record listing { images = sym images i }

module _ {listing : Listing} {tables : Tables} {move : TupleMove} (can : CanMove listing move tables) (k : ℕ) (image : ImageEntry) (at : image_at listing k ≡ Some image) (root levels : ℕ) where
  abbrev other_root : ImageEntry
  other_root = with_root root levels image

  abbrev changed : Listing
  changed = with_image listing k (Some other_root)

  -- it has what the image has, beside the root and the levels
  image_now : (P : ℕ → ImageEntry → Type 0) → P k other_root → ((number : ℕ) (other : ImageEntry) → image_at listing number ≡ Some other → P number other) → (number : ℕ) (other : ImageEntry) → image_at changed number ≡ Some other → P number other
  image_now P here others number other is = by_same number k
      (λ same.
      let found : other_root ≡ other = same_Some _ _ (sym (number_set listing.images k (Some other_root) low.0 low.1) ∙ ap (image_at changed) (sym same) ∙ is) in
      subst (λ (n : ℕ). P n other) (sym same) (subst (P k) found here))
      (λ apart. others number other (sym (number_kept listing.images k (Some other_root) low.0 number apart) ∙ is))
    where
      low : (1 ≤ k) × (k ≤ length listing.images)
      low = number_within_list listing.images k image at

  names_kept : names_of ImageKind changed ≡ names_of ImageKind listing
  names_kept = map-set_same (option_map (λ (e : ImageEntry). e.name)) listing.images (k - 1) (Some other_root) None (ap (option_map (λ (e : ImageEntry). e.name)) (sym (at_its_place listing.images k image at)))

  still_defines : Defines changed tables.definitions
  still_defines = record {
    segments = can.defines.segments;
    relations = λ number relation segment listed. can.defines.relations number relation segment (record { at = listed.at; within = listed.within });
    only_relations = can.defines.only_relations;
    paths = record {
      images = λ number other relation listed. image_now (λ n e. relation_at listing e.relation ≡ Some relation → map.get tables.definitions.images e.name ≡ Some (image_definition e relation))
          (λ within. can.defines.paths.images k image relation (record { at = at; within = within }))
          (λ n e there within. can.defines.paths.images n e relation (record { at = there; within = within })) number other listed.at listed.within;
      only_images = λ name there. let had = can.defines.paths.only_images name there in (had.0, ap (λ (names : List (Option Name)). numbered names had.0) names_kept ∙ had.1);
      links = λ number link child listed. can.defines.paths.links number link child (record { at = listed.at; within = listed.within });
      only_links = can.defines.paths.only_links;
    };
  }

  can_change : ListingFits changed → CanMove changed move tables
  can_change fits = record {
    listed = can.listed;
    fits = fits;
    defines = still_defines;
    counts = can.counts;
    tuples = can.tuples;
    storable = can.storable;
    tids = can.tids;
    holds = can.holds;
    tid = can.tid;
    fit = can.fit;
    next_storable = can.next_storable;
    few = can.few;
  }

  -- the change may go on
  pub can_still : (listing_now : Listing) → listing_now ≡ with_image listing k (Some (with_root root levels image)) → ListingFits listing_now → CanMove listing_now move tables
  can_still listing_now is fits = subst (λ (l : Listing). CanMove l move tables) (sym is) (can_change (subst ListingFits is fits))

-- ---- an image that is moved

-- the page is one of the image's
pub record IsPageOf (image : Image) (held : Held) (page : ℕ) : Type 0 where
  pub pairs : List (List ℕ)
  pub tree : ImageTree image held pairs
  pub among : IsIn (pages_of tree) page

module _ {listing : Listing} {tables : Tables} (move : TupleMove) (can : CanMove listing move tables) (k : ℕ) (image : ImageEntry) (at : IsListedImage listing k image move.relation) (its : image.relation ≡ move.number)
    {old new : PagesView} (told : IsTold old.disk) (old_low : AreLow old.held) (new_low : AreLow new.held) (show : ShowBelow k old.held listing move tables)
    (after : Image) (nodes : nodes_of after ≡ nodes_of (image_of k image move.relation)) (moves : MovesEntry (key_of image move.relation) move.tid move.was move.next (image_of k image move.relation) after old new) {asks outs : ℕ} (step : PagesStep (pages_in move.relation.segment ImageSpace) asks outs old new) where
  -- the image before
  before : (pages : List ℕ) × SpellsImage old.held tables k image move.relation pages
  before = show.rest k image move.relation at (omega arith)

  old_rows : IsRowed old.held tables k image move.relation before.0
  old_rows = rowed old_low (nodes_fit move can k image move.relation at) before.1

  abbrev own : List ℕ
  own = pages_of old_rows.tree

  became : Becomes (image_of k image move.relation) after old new own (moved_pairs (key_of image move.relation) move.tid move.was move.next (byte_list tables image move.relation))
  became = moves (byte_list tables image move.relation) old_rows.tree (holds_entry move can k image at its)

  abbrev fresh : List ℕ
  fresh = pages_of became.tree

  -- and after
  abbrev now : ImageEntry
  now = with_root after.root after.levels image

  new_tree : ImageTree after new.held (byte_list (after_move move tables) image move.relation)
  new_tree = record {
    top = became.tree.top;
    lower = became.tree.lower;
    tree = subst (λ (ps : List (List ℕ)). IsTree (spells (nodes_of after)) (cells_of (nodes_of after) new.held) after.width after.root after.levels ps became.tree.top became.tree.lower) (sym (moved_list move can k image at its)) became.tree.tree;
    made = became.tree.made;
  }

  stands : StandsIn new.held (after_move move tables) k now move.relation fresh
  unfolding new_tree
  stands = stands_in new.held (after_move move tables) k image move.relation new_low after nodes (spelled_after move can image move.relation) new_tree

  -- ---- the others

  keeps : (number : ℕ) (other : ImageEntry) (relation : RelationEntry) → (number ≡ k → ⊥) → KeepsNodes (base_nodes number other relation) old.held new.held
  keeps number other relation apart page bytes node there is = by_same relation.segment move.relation.segment
      (λ same. ⊎_elim
      (λ (mine : IsIn own page).
      let held : HoldsNode old.held (base_nodes k image move.relation) page = image_node before.1.tree page (old_rows.same.into page mine) in
      let bytes_are : held.at.bytes ≡ bytes = same_Some _ _ (sym held.at.there ∙ ap (λ (s : ℕ). old.held (page_key s ImageSpace page)) (sym same) ∙ there) in
      absurd (apart (sym (one_image (subst (λ (b : List ℕ). IsNodePage (base_nodes k image move.relation) page b held.node) bytes_are held.at.is) is))))
      (λ (off : IsIn own page → ⊥).
      ap (λ (s : ℕ). new.held (page_key s ImageSpace page)) same
      ∙ became.keeps.same page bytes off (ap (λ (s : ℕ). old.held (page_key s ImageSpace page)) (sym same) ∙ there))
      (in_or_not own page))
      (λ off. step.held_off told (page_key relation.segment ImageSpace page) (λ touched. off (ap (λ (key : PageKey). key.segment) touched)) ∙ there)

  other_kept : (shown : Tables) (number : ℕ) (other : ImageEntry) (relation : RelationEntry) (pages : List ℕ) → (number ≡ k → ⊥) → SpellsImage old.held shown number other relation pages → SpellsImage new.held shown number other relation pages
  other_kept shown number other relation pages apart spelled = record {
    pairs = spelled.pairs;
    tree = image_kept (keeps number other relation apart) spelled.tree;
    once = spelled.once;
    list = spelled.list;
  }

  -- ---- the listing

  abbrev relisted : Listing
  relisted = with_image listing k (Some now)

  bounds : (1 ≤ k) × (k ≤ length listing.images)
  bounds = number_within_list listing.images k image at.at

  at_now : IsListedImage relisted k now move.relation
  at_now = record { at = number_set listing.images k (Some now) bounds.0 bounds.1; within = at.within }

  listed_on : {number : ℕ} {other : ImageEntry} {relation : RelationEntry} → (number ≡ k → ⊥) → IsListedImage listing number other relation → IsListedImage relisted number other relation
  listed_on {number = number} apart listed = record { at = number_kept listing.images k (Some now) bounds.0 number apart ∙ listed.at; within = listed.within }

  listed_back : {number : ℕ} {other : ImageEntry} {relation : RelationEntry} → (number ≡ k → ⊥) → IsListedImage relisted number other relation → IsListedImage listing number other relation
  listed_back {number = number} apart listed = record { at = sym (number_kept listing.images k (Some now) bounds.0 number apart) ∙ listed.at; within = listed.within }

  -- ---- pages

  abbrev Reached : PageKey → Type 0
  Reached key = IsReachedBelow (k + 1) new.held relisted move tables key

  -- another image's page
  from_old : (key : PageKey) (one : IsReachedBelow k old.held listing move tables key) → (one.number ≡ k → ⊥) → Reached key
  from_old key one apart = record {
    number = one.number;
    image = one.image;
    relation = one.relation;
    pages = one.pages;
    at = listed_on apart one.at;
    moved = λ low. other_kept (after_move move tables) one.number one.image one.relation one.pages apart (one.moved (omega (arith, low, apart)));
    rest = λ high. other_kept tables one.number one.image one.relation one.pages apart (one.rest (omega (arith, high)));
    segment = one.segment;
    among = one.among;
  }

  -- its own page
  from_new : (key : PageKey) → key.segment ≡ move.relation.segment → IsIn fresh key.number → Reached key
  from_new key segment among = record {
    number = k;
    image = now;
    relation = move.relation;
    pages = stands.pages;
    at = at_now;
    moved = λ low. stands.spells;
    rest = λ high. absurd (omega (arith, high));
    segment = segment;
    among = containing stands.pages key.number (stands.same.back key.number among);
  }

  -- a page that was its own, or wasn't mapped, is so now
  lost : (page : ℕ) → IsOwn own (cells_of (nodes_of (image_of k image move.relation)) old.held) page → (IsIn fresh page → ⊥) → is_some (new.held (page_key move.relation.segment ImageSpace page)) ≡ true → ⊥
  lost page is off there = ⊎_elim off
      (λ (none : new.held (page_key move.relation.segment ImageSpace page) ≡ None). true≢false (sym there ∙ ap is_some none))
      (became.loses_none page is)

  -- the pages that the image had are its own
  had_own : (key : PageKey) (one : IsReachedBelow k old.held listing move tables key) → one.number ≡ k → IsIn own key.number
  had_own key one here =
      let spelled : SpellsImage old.held tables k image move.relation one.pages = at_same (λ n e r. SpellsImage old.held tables n e r one.pages) here (same_entry one.at at here) (one.rest (omega (arith, here))) in
      let rows : IsRowed old.held tables k image move.relation one.pages = rowed old_low (nodes_fit move can k image move.relation at) spelled in
      let same = (spell_one (image_of k image move.relation) old.held (byte_list tables image move.relation) (byte_list tables image move.relation) rows.tree old_rows.tree).pages_are in
      subst (λ (ns : List ℕ). IsIn ns key.number) same (rows.same.back key.number (contained one.pages key.number one.among))

  same_segment : (key : PageKey) → key.space ≡ ImageSpace → key.segment ≡ move.relation.segment → is_some (new.held key) ≡ true → (IsIn fresh key.number → ⊥) → Reached key
  same_segment key space segment there off =
      let key_is : key ≡ page_key move.relation.segment ImageSpace key.number = λ i. record { segment = segment i; space = space i; number = key.number } in
      let there_now : is_some (new.held (page_key move.relation.segment ImageSpace key.number)) ≡ true = ap (λ (q : PageKey). is_some (new.held q)) (sym key_is) ∙ there in
      by_test (is_some (old.held key))
      (λ was. let one = show.reached key space was in from_old key one (λ here. lost key.number (inl (had_own key one here)) off there_now))
      (λ none. absurd (lost key.number (inr (none_of (old.held (page_key move.relation.segment ImageSpace key.number)) (ap (λ (q : PageKey). is_some (old.held q)) (sym key_is) ∙ none))) off there_now))
    where
      none_of : (c : Option (List ℕ)) → is_some c ≡ false → c ≡ None
      none_of None is = refl
      none_of (Some bytes) is = absurd (cc)

  other_segment : (key : PageKey) → key.space ≡ ImageSpace → (key.segment ≡ move.relation.segment → ⊥) → is_some (new.held key) ≡ true → Reached key
  other_segment key space apart there =
      let same : new.held key ≡ old.held key = step.held_off told key (λ touched. apart (ap (λ (q : PageKey). q.segment) touched)) in
      let one = show.reached key space (sym (ap is_some same) ∙ there) in
      from_old key one (λ here. apart (one.segment ∙ ap (λ (r : RelationEntry). r.segment) (same_entry one.at at here).relation))

  moved_shows : ShowBelow (k + 1) new.held relisted move tables
  moved_shows = record {
    moved = λ number other relation listed low. by_same number k
        (λ here. (stands.pages, at_same (λ n e r. SpellsImage new.held (after_move move tables) n e r stands.pages) (sym here) (same_entry at_now listed (sym here)) stands.spells))
        (λ apart. let one = show.moved number other relation (listed_back apart listed) (omega (arith, low, apart)) in (one.0, other_kept (after_move move tables) number other relation one.0 apart one.1));
    rest = λ number other relation listed high.
        let apart : number ≡ k → ⊥ = λ here. omega (arith, here, high) in
        let one = show.rest number other relation (listed_back apart listed) (omega (arith, high)) in
        (one.0, other_kept tables number other relation one.0 apart one.1);
    reached = λ key space there. by_same key.segment move.relation.segment
        (λ segment. ⊎_elim (from_new key segment) (same_segment key space segment there) (in_or_not fresh key.number))
        (λ apart. other_segment key space apart there);
  }

  -- once the image is moved
  pub shows_moved : (listing_now : Listing) → listing_now ≡ with_image listing k (Some (with_root after.root after.levels image)) → ShowBelow (k + 1) new.held listing_now move tables
  shows_moved listing_now is = subst (λ (l : Listing). ShowBelow (k + 1) new.held l move tables) (sym is) moved_shows

  -- ---- nodes

  -- what the bounds and the pairs of the image passed, they pass still, where the new pair does
  pub all_made : MakesEntry (key_of image move.relation) move.tid move.was move.next (image_of k image move.relation) after old new → (good : List ℕ → Bool) → IfSome move.next (λ values. good (pair_with (key_of image move.relation) move.tid values) ≡ true)
      → AreAllMade good (image_of k image move.relation) old.held → AreAllMade good after new.held
  all_made makes good fine made = makes good fine (byte_list tables image move.relation) old_rows.tree (holds_entry move can k image at its) (made (byte_list tables image move.relation) old_rows.tree)

  -- a page of an image that wasn't one of the moved one's pages and isn't one now is as it was
  was_there : (page : ℕ) → (IsIn fresh page → ⊥) → (bytes : List ℕ) → new.held (page_key move.relation.segment ImageSpace page) ≡ Some bytes → old.held (page_key move.relation.segment ImageSpace page) ≡ Some bytes
  was_there page off bytes there = by (old.held (page_key move.relation.segment ImageSpace page)) refl
    where
      by : (was : Option (List ℕ)) → old.held (page_key move.relation.segment ImageSpace page) ≡ was → old.held (page_key move.relation.segment ImageSpace page) ≡ Some bytes
      by None is = absurd (lost page (inr is) off (ap is_some there))
      by (Some before_bytes) is = is ∙ sym (became.keeps.same page before_bytes (λ own_page. lost page (inl own_page) off (ap is_some there)) is) ∙ there

  -- each page held a node of the image whose it was
  reached_node : (key : PageKey) (one : IsReachedBelow k old.held listing move tables key) → HoldsNode old.held (base_nodes one.number one.image one.relation) key.number
  reached_node key one = elim (cases_lt one.number k) [
    | inl low ↦ image_node (one.moved low).tree key.number (contained one.pages key.number one.among)
    | inr high ↦ image_node (one.rest high).tree key.number (contained one.pages key.number one.among)
  ]

  -- a node of the image stands in one of its pages
  pub own_node : (page : ℕ) (node : Node) → IsNodeAt new.held (base_nodes k image move.relation) page node → IsPageOf after new.held page
  own_node page node is = ⊎_elim (λ (there : IsIn fresh page). record { pairs = _; tree = became.tree; among = there }) (λ (off : IsIn fresh page → ⊥). absurd (stray off)) (in_or_not fresh page)
    where
      stray : (IsIn fresh page → ⊥) → ⊥
      stray off =
          let bytes = was_there page off is.bytes is.there in
          let one = show.reached (page_key move.relation.segment ImageSpace page) refl (ap is_some bytes) in
          by_same one.number k
          (λ here. lost page (inl (had_own (page_key move.relation.segment ImageSpace page) one here)) off (ap is_some is.there))
          (λ apart.
          let held = reached_node (page_key move.relation.segment ImageSpace page) one in
          let same : held.at.bytes ≡ is.bytes = same_Some _ _ (sym held.at.there ∙ ap (λ (s : ℕ). old.held (page_key s ImageSpace page)) (sym one.segment) ∙ bytes) in
          apart (one_image (subst (λ (b : List ℕ). IsNodePage (base_nodes one.number one.image one.relation) page b held.node) same held.at.is) is.is))

  -- its pages hold its nodes alone
  of_fresh : (number : ℕ) (other : ImageEntry) (relation : RelationEntry) → relation.segment ≡ move.relation.segment → (page : ℕ) (node : Node) → IsNodeAt new.held (base_nodes number other relation) page node → IsIn fresh page → number ≡ k
  of_fresh number other relation same page node is mine =
      let held : HoldsNode new.held (base_nodes k now move.relation) page = image_node stands.spells.tree page (stands.same.back page mine) in
      let bytes : is.bytes ≡ held.at.bytes = same_Some _ _ (sym is.there ∙ ap (λ (s : ℕ). new.held (page_key s ImageSpace page)) same ∙ held.at.there) in
      one_image (subst (λ (b : List ℕ). IsNodePage (base_nodes number other relation) page b node) bytes is.is) held.at.is

  -- and a node of another image stands where it stood
  other_node : (number : ℕ) (other : ImageEntry) (relation : RelationEntry) → (number ≡ k → ⊥) → (page : ℕ) (node : Node) → IsNodeAt new.held (base_nodes number other relation) page node → IsNodeAt old.held (base_nodes number other relation) page node
  other_node number other relation apart page node is = record { bytes = is.bytes; there = there; is = is.is }
    where
      there : old.held (page_key relation.segment ImageSpace page) ≡ Some is.bytes
      there = by_same relation.segment move.relation.segment
          (λ same. ap (λ (s : ℕ). old.held (page_key s ImageSpace page)) same
          ∙ was_there page (λ mine. apart (of_fresh number other relation same page node is mine)) is.bytes (ap (λ (s : ℕ). new.held (page_key s ImageSpace page)) (sym same) ∙ is.there))
          (λ off. sym (step.held_off told (page_key relation.segment ImageSpace page) (λ touched. off (ap (λ (key : PageKey). key.segment) touched))) ∙ is.there)

  -- what holds of the image's nodes now, and held of the nodes of all images, holds of them all
  pub nodes_moved : (P : Node → Type 0) → ((page : ℕ) (node : Node) → IsNodeAt new.held (base_nodes k image move.relation) page node → P node)
      → ((number : ℕ) (other : ImageEntry) (relation : RelationEntry) → IsListedImage listing number other relation → (page : ℕ) (node : Node) → IsNodeAt old.held (base_nodes number other relation) page node → P node)
      → (listing_now : Listing) → listing_now ≡ with_image listing k (Some (with_root after.root after.levels image))
      → (number : ℕ) (other : ImageEntry) (relation : RelationEntry) → IsListedImage listing_now number other relation → (page : ℕ) (node : Node) → IsNodeAt new.held (base_nodes number other relation) page node → P node
  nodes_moved P own_now held_of listing_now is number other relation listed page node node_at =
      let listed_so : IsListedImage relisted number other relation = subst (λ (l : Listing). IsListedImage l number other relation) is listed in
      by_same number k
      (λ here. own_now page node (at_same (λ n e r. IsNodeAt new.held (base_nodes n e r) page node) here (same_entry listed_so at_now here) node_at))
      (λ apart. held_of number other relation (listed_back apart listed_so) page node (other_node number other relation apart page node node_at))
