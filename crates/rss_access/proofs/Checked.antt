-- An image that was checked has the pairs of its relation's rows; and one that has them is what a check wants of it.
use Rattle.std.proofs.Common.{◌≡◌, ◌≢◌, ℕ, ◌<◌, ◌^◌, true, Bool, List, [], ◌∷◌, length, take, refl, sym, ◌∙◌, ap, subst, arith}
use Rattle.std.specs.Prelude.{Some, None, All, Contains, is_some, map as list_map}
use Rattle.std.proofs.lemmas.List.{length-map, take_at}
use Rattle.rss_base.specs.PageMap.{IsKey}
use Rattle.rss_base.specs.Paged.{page_key}
use Rattle.rss_base.specs.Steps.{PagesView}
use Rattle.rss_base.specs.Trees.{Pair}
use Rattle.rss_base.specs.LogRecords.{tid_bytes}
use Rattle.rss_base.specs.declared.key.PageKey.{PageKey}
use Rattle.rss_base.specs.declared.key.Space.TheVariants.{Image as ImageSpace}
use Rattle.rss_base.specs.TupleTypes.{kinds, chosen, key_bytes, IsStorable}
use Rattle.rss_base.specs.Listings.{Listing, field_numbers, relation_at, image_at}
use Rattle.rss_base.specs.declared.field.FieldDef.{FieldDef}
use Rattle.rss_catalog.specs.Catalogs.{IsSafe, IsSafeImage}
use Rattle.rss_base.specs.declared.name.Name.{Name}
use Rattle.rss_base.specs.declared.tid.Tid.{Tid}
use Rattle.rss_base.specs.declared.value.Value.{Value}
use Rattle.rss_base.specs.declared.value.FieldForm.{FieldForm}
use Rattle.rss_base.specs.declared.item.Item.TheVariants.{Tuple as TupleItem}
use Rattle.rss_base.specs.declared.image.ImageEntry.{ImageEntry}
use Rattle.rss_base.specs.declared.relation.RelationEntry.{RelationEntry}
use Rattle.rss_base.specs.Entries.{IsLess}
use Rattle.rss_base.proofs.Entries.{less_never}
use Rattle.rss_levels.specs.Entries.{Each, Pairwise, zeros}
use Rattle.rss_levels.proofs.Lists.{each_weaker}
use Rattle.rss_node.specs.Nodes.{AreNodes}
use Rattle.rss_base.specs.Tids.{IsSpelledTid}
use Rattle.rss_node.specs.Pairs.{IsWhole, key_from, pair_from}
use Rattle.rss_node.specs.declared.pair.Nodes.{Nodes}
use Rattle.rss_node.proofs.Agreed.{pair_said}
use Rattle.rss_levels.proofs.Pages.{stack_held}
use Rattle.rss_image.specs.Trees.{cells_of, spells}
use Rattle.rss_image.specs.Images.{nodes_of as image_nodes, has_page, ImageTree, pages_of}
use Rattle.rss_image.specs.Agreement.{IsSameImage, HasSameTree}
use Rattle.rss_image.specs.Checking.{IsCensus, HasSoundImage, first_repeat}
use Rattle.rss_image.specs.Marks.{MarksOnly, MarksImage}
use Rattle.rss_image.specs.declared.checking.Census.{Census}
use Rattle.rss_image.specs.declared.image.Image.{Image}
use Rattle.rss_image.proofs.Others.{pairs_rise as tree_rises}
use Rattle.rss_image.proofs.Laid.{zeros_page}
use Rattle.rss_image.proofs.Marked.{same_marked}
use Rattle.rss_image.proofs.Nested.{same_image}
use Rattle.rss_image.proofs.Putting.{spell_one}
use Rattle.rss_image.proofs.Rowed.{same_tree}
use Rattle.rss_model.specs.Items.{Values}
use Rattle.rss_model.specs.Tables.{Tables, content}
use Rattle.rss_stored.specs.Store.{IsListedImage}
use Rattle.rss_model.proofs.Mixing.{In}
use Rattle.rss_stored.proofs.ImageFields.{chosen_kinds}
use Rattle.rss_stored.proofs.Spelled.{tuple_bytes_same}
use Rattle.rss_entries.specs.Rooms.{width_of}
use Rattle.rss_entries.specs.Images.{image_of, key_of}
use Rattle.rss_entries.specs.Keyed.{key_with}
use Rattle.rss_entries.specs.Moving.{KeyKinds}
use Rattle.rss_entries.specs.Seeking.{kinds_in}
use Rattle.rss_entries.proofs.Entries.{length-key}
use Rattle.rss_entries.proofs.Orders.{Rise, in_contains, in_map, of_map}
use Rattle.rss_entries.proofs.Showing.{same_entry, at_same}
use Rattle.rss_entries.proofs.Shown.{key_fits}
use Rattle.rss_entries.proofs.Standing.{AreLow, contained, containing, low_cells, low_held, pairs_whole}
use Rattle.rss_access.specs.Changes.{AccessView}
use Rattle.rss_access.specs.Rows.{IsPairOfRow, HasRows, HasRowsIn, ShowsRows, MarksReached, IsRow, CountsRows, LacksRow}
use Rattle.rss_access.specs.Tuples.{body_at}
use Rattle.rss_access.specs.Checking.{ShowsTuples}
use Rattle.rss_access.proofs.Bodied.{IsTupleWith, tuple_with, values_storable}
use Rattle.rss_access.proofs.AsMany.{contains_in, same_count}
use Rattle.rss_access.proofs.ImageKeys.{image_nodes as fitting, width_is as keys_width}
use Rattle.rss_access.proofs.NodesWithin.{nodes_below, made_below}
use Rattle.rss_access.proofs.Repeats.{IsWide, keys_rise, one_of_key, repeat_of, none_repeated}
use Rattle.rss_access.proofs.RowsHad.{bytes_of}
use Rattle.rss_access.proofs.SortedAlike.{all_apart, few_apart}

module _ {at : AccessView} (small : at.pages.slots < 2 ^ 32) {tables : Tables} (shows : ShowsTuples at tables) where
  abbrev listing : Listing
  listing = at.catalog.listing

  -- the tuple that a body is of
  pub tuple_of : (number : ℕ) (relation : RelationEntry) → relation_at listing number ≡ Some relation → (tid : Tid) (rest : List ℕ) → body_at at.pages relation.segment tid ≡ Some (number ∷ rest) → IsTupleWith listing tables.contents number relation tid rest
  tuple_of = tuple_with shows.contents

  pub all_stored : (name : Name) (tid : Tid) (values : List Value) → content tables.contents (TupleItem name tid) ≡ Some (Values values) → All IsStorable values
  all_stored = values_storable shows.contents

  pub all_spelled : (name : Name) (tid : Tid) → is_some (content tables.contents (TupleItem name tid)) ≡ true → IsSpelledTid tid
  all_spelled name tid there = let id = shows.tids name tid there in record { page = omega (arith, id.page, small); slot = omega (arith, id.slot) }

-- a page of an image is one of the store's slots
some_slot : {image : Image} {pairs : List (List ℕ)} (view : PagesView) → ((key : PageKey) → is_some (view.held key) ≡ view.mapped key) → ((key : PageKey) → view.mapped key ≡ true → IsKey view.slots key) → ImageTree image view.held pairs → 0 < view.slots
some_slot {image = image} {pairs = pairs} view holds allowed tree =
    let held = (stack_held (spells (image_nodes image)) image.width (cells_of (image_nodes image) view.held) pairs (tree.top ∷ []) tree.lower tree.tree.stack).0 in
    let there : view.mapped (page_key image.segment ImageSpace tree.top.number) ≡ true = sym (holds (page_key image.segment ImageSpace tree.top.number)) ∙ ap is_some held.held in
    let low : tree.top.number < view.slots = (allowed (page_key image.segment ImageSpace tree.top.number) there).number in
    omega (arith, low)

-- pairs that rise by their bytes are apart
rising_apart : (pairs : List Pair) → Rise (list_map bytes_of pairs) → Pairwise (λ a b. a ≢ b) pairs
rising_apart [] rises = tt
rising_apart (pair ∷ pairs) rises = (each_apart pairs rises.0, rising_apart pairs rises.1)
  where
    each_apart : (others : List Pair) → Each (IsLess (bytes_of pair)) (list_map bytes_of others) → Each (λ b. pair ≢ b) others
    each_apart [] less = tt
    each_apart (b ∷ others) less = (λ same. less_never (subst (λ (p : Pair). IsLess (bytes_of p) (bytes_of b)) same less.0), each_apart others less.1)

module _ (at : AccessView) (holds : (key : PageKey) → is_some (at.pages.held key) ≡ at.pages.mapped key) (allowed : (key : PageKey) → at.pages.mapped key ≡ true → IsKey at.pages.slots key) (low : AreLow at.pages.held)
    (number : ℕ) (image : ImageEntry) (relation : RelationEntry) (fit : AreNodes (image_nodes (image_of number image relation))) where
  abbrev its_listing : Listing
  its_listing = at.catalog.listing

  abbrev entry_image : Image
  entry_image = image_of number image relation

  abbrev of_it : Nodes
  of_it = image_nodes entry_image

  abbrev width : ℕ
  width = width_of image relation

  abbrev its_key : KeyKinds
  its_key = key_of image relation

  abbrev Row : Pair → Type 0
  Row pair = IsRow its_listing image.relation its_key relation.segment at.pages.held pair

  abbrev PairOf : Pair → Type 0
  PairOf pair = IsPairOfRow at.pages.held its_listing image relation pair

  abbrev Rows : List ℕ → Type 0
  Rows nodes = HasRows at.pages.held at.pages.slots its_listing number image relation nodes

  abbrev Counts : ℕ → Type 0
  Counts count = CountsRows its_listing image.relation its_key entry_image at.pages.held count

  zeros_good : 0 < at.pages.slots → has_page width at.pages.slots (zeros width) ≡ true
  zeros_good some = zeros_page width at.pages.slots some

  -- ---- rows and their pairs

  keys_are : (values : List Value) → key_with its_key values ≡ key_bytes (kinds_in image relation) (chosen (field_numbers image) values)
  keys_are values = ap (λ (ks : List FieldForm). key_bytes ks (chosen (field_numbers image) values)) (chosen_kinds (field_numbers image) relation.fields)

  pair_of_row : (pair : Pair) → Row pair → PairOf pair
  pair_of_row pair row =
      let values = row.is.stands.spelled in
      record {
        body = row.body;
        values = values.0;
        there = row.there;
        is = record { bytes = row.is.bytes; holds = row.is.stands.holds; spelled = values.1 };
        key = row.is.is values.0 values.1 ∙ keys_are values.0;
      }

  row_of_pair : (pair : Pair) → PairOf pair → Row pair
  row_of_pair pair of =
      let spelled = of.is.spelled in
      let none : Tid = record { page = 0; slot = 0 } in
      let fits = key_fits image relation none of.values (record { fit = spelled.fit; storable = spelled.storable; spelled = record { page = omega arith; slot = omega arith } }) in
      record {
        body = of.body;
        there = of.there;
        is = record {
          bytes = of.is.bytes;
          stands = record { holds = of.is.holds; spelled = (of.values, spelled) };
          is = λ values spells.
              let same : of.values ≡ values = tuple_bytes_same 1 (kinds relation.fields) of.values values spelled.fit spells.fit spelled.storable spells.storable (sym spelled.same ∙ spells.same) in
              of.key ∙ sym (keys_are of.values) ∙ ap (key_with its_key) same;
          long = ap length of.key ∙ length-key (kinds_in image relation) (chosen (field_numbers image) of.values) _ fits ∙ sym (keys_width image relation);
        };
      }

  row_long : (pair : Pair) → Row pair → length pair.key ≡ width
  row_long pair row = row.is.long ∙ keys_width image relation

  -- ---- an image that was checked

  module _ (census : Census) (is : IsCensus entry_image at.pages census) where
    abbrev shown : List Pair
    shown = list_map (pair_from width) is.pairs

    standing : IsSameImage is.tree
    standing = same_image entry_image at.pages.held (low_cells at.pages.held low of_it) is.pairs is.tree

    pairs_wide : Each (IsWide width) is.pairs
    pairs_wide = each_weaker (IsWhole width) (IsWide width) is.pairs (λ pair whole. omega (arith, whole.long)) (pairs_whole of_it (cells_of of_it at.pages.held) is.pairs (is.tree.top ∷ []) is.tree.lower is.tree.tree.stack)

    -- its pair of these bytes
    shown_pair : (pair : Pair) → IsSpelledTid pair.tid → Row pair → Contains is.pairs (bytes_of pair) → In pair shown
    shown_pair pair tid row has = subst (λ (p : Pair). In p shown) (pair_said width pair (row_long pair row) tid) (in_map (pair_from width) is.pairs (bytes_of pair) (contains_in is.pairs (bytes_of pair) has))

    -- no key is there twice
    same_shown : census.repeats ≡ None → (a b : Pair) → In a shown → In b shown → a.key ≡ b.key → a ≡ b
    same_shown none a b one other keys =
        let x = of_map (pair_from width) is.pairs a one in
        let y = of_map (pair_from width) is.pairs b other in
        let fronts : key_from width x.0 ≡ key_from width y.0 = ap (λ (p : Pair). p.key) x.2 ∙ keys ∙ sym (ap (λ (p : Pair). p.key) y.2) in
        let same : x.0 ≡ y.0 = one_of_key width is.pairs (keys_rise width is.pairs pairs_wide (tree_rises is.tree) (sym is.repeats ∙ none)) x.0 y.0 x.1 y.1 fronts in
        sym x.2 ∙ ap (pair_from width) same ∙ y.2

    module _ (counts : Counts census.pairs) where
      rows_in : (pair : Pair) → In pair counts.rows → In pair shown
      rows_in pair there =
          let had = counts.each pair (in_contains counts.rows pair there) in
          shown_pair pair had.tid had.row (had.has is.pairs is.tree)

      -- as many as there are rows, so no others
      rows_all : (pair : Pair) → In pair shown → In pair counts.rows
      rows_all = all_apart counts.rows shown counts.apart rows_in (omega (arith, length-map is.pairs (pair_from width), is.count, counts.counted))

      pub has_rows : (old new : List ℕ) → (image.is_unique ≡ true → census.repeats ≡ None) → MarksImage entry_image at.pages.held old new → HasRowsIn census.pages old new at number image relation
      has_rows old new once marks = record {
        nodes = standing.pages;
        rows = record {
          pairs = shown;
          tree = standing.is;
          once = standing.once;
          within = λ page node among node_at. nodes_below at.pages.held of_it fit (low_cells at.pages.held low of_it) at.pages.slots (zeros_good (some_slot at.pages holds allowed is.tree)) is.pairs (is.tree.top ∷ []) is.tree.lower is.within is.tree.tree.stack page (standing.same.into page (contained standing.pages page among)) node node_at;
          rows = λ pair. (
            λ there. pair_of_row pair (counts.each pair (in_contains counts.rows pair (rows_all pair (contains_in shown pair there)))).row,
            λ of. let there = counts.all pair (row_of_pair pair of) in in_contains shown pair (rows_in pair (contains_in counts.rows pair there)),
          );
          single = λ unique a b one other keys. same_shown (once unique) a b (contains_in shown a one) (contains_in shown b other) keys;
        };
        counted = is.pages_count ∙ sym (same_count standing.pages (pages_of is.tree) standing.same is.tree.tree.distinct);
        marked = same_marked (pages_of is.tree) standing.pages old new standing.same.back standing.same.into (marks is.pairs is.tree);
      }

  -- ---- an image that has its relation's rows

  module _ {nodes : List ℕ} (rows : Rows nodes) where
    abbrev listed : List (List ℕ)
    listed = list_map bytes_of rows.pairs

    rowed : HasSameTree entry_image at.pages.held nodes rows.pairs
    rowed = same_tree entry_image at.pages.held fit (low_cells at.pages.held low of_it) nodes rows.pairs rows.tree rows.once

    row_in : (pair : Pair) → In pair rows.pairs → Row pair
    row_in pair is = row_of_pair pair ((rows.rows pair).0 (in_contains rows.pairs pair is))

    in_rows : (pair : Pair) → Row pair → In pair rows.pairs
    in_rows pair row = contains_in rows.pairs pair ((rows.rows pair).1 (pair_of_row pair row))

    -- a check finds a tree
    pub found_tree : HasSoundImage entry_image at.pages
    found_tree = record {
      pairs = listed;
      tree = rowed.tree;
      within = made_below at.pages.held of_it fit (low_cells at.pages.held low of_it) at.pages.slots good listed (rowed.tree.top ∷ []) rowed.tree.lower rowed.tree.made
          (ap (has_page width at.pages.slots) rowed.tree.tree.low ∙ good, tt) rowed.tree.tree.stack
          (λ page is node node_at. rows.within page node (containing nodes page (rowed.same.into page is)) node_at);
    }
      where
        good : has_page width at.pages.slots (zeros width) ≡ true
        good = zeros_good (some_slot at.pages holds allowed rowed.tree)

    -- with these pairs
    found_pairs : {census : Census} (is : IsCensus entry_image at.pages census) → is.pairs ≡ listed
    found_pairs is = (spell_one entry_image at.pages.held is.pairs listed is.tree rowed.tree).pairs_are

    -- no key twice where it is unique
    pub found_once : (census : Census) → IsCensus entry_image at.pages census → image.is_unique ≡ true → census.repeats ≡ None
    found_once census is unique = is.repeats ∙ ap (first_repeat width) (found_pairs is) ∙ none_repeated width listed twice
      where
        front : (pair : Pair) → In pair rows.pairs → key_from width (bytes_of pair) ≡ pair.key
        front pair there = take_at pair.key (tid_bytes pair.tid) width (row_long pair (row_in pair there))

        twice : (first_repeat width listed ≡ None → ⊥) → ⊥
        twice some =
            let two = repeat_of width listed (tree_rises rowed.tree) some in
            let a = of_map bytes_of rows.pairs two.one two.one_in in
            let b = of_map bytes_of rows.pairs two.other two.other_in in
            let keys : a.0.key ≡ b.0.key = sym (front a.0 a.1) ∙ ap (key_from width) a.2 ∙ two.same ∙ sym (ap (key_from width) b.2) ∙ front b.0 b.1 in
            let same : a.0 ≡ b.0 = rows.single unique a.0 b.0 (in_contains rows.pairs a.0 a.1) (in_contains rows.pairs b.0 b.1) keys in
            less_never (subst (λ (p : List ℕ). IsLess p two.other) (sym a.2 ∙ ap bytes_of same ∙ b.2) two.less)

    -- each row's pair
    pub found_row : LacksRow its_listing image.relation its_key entry_image at.pages.held → ⊥
    found_row lacks = lacks.lacks listed rowed.tree (in_contains listed (bytes_of lacks.pair) (in_map bytes_of rows.pairs lacks.pair (in_rows lacks.pair lacks.row)))

    -- and no others
    pub found_count : (census : Census) → IsCensus entry_image at.pages census → (count : ℕ) → Counts count → count ≡ census.pairs
    found_count census is count counts =
        let more = few_apart counts.rows rows.pairs counts.apart (λ pair there. in_rows pair (counts.each pair (in_contains counts.rows pair there)).row) in
        let less = few_apart rows.pairs counts.rows (rising_apart rows.pairs (tree_rises rowed.tree)) (λ pair there. contains_in counts.rows pair (counts.all pair (row_in pair there))) in
        omega (arith, more, less, counts.counted, is.count, ap (λ (ps : List (List ℕ)). length ps) (found_pairs is), length-map rows.pairs bytes_of)

-- ---- the image of the catalog

-- What a check finds of an image that has the rows of its relation.
pub record IsFound (image : Image) (key : KeyKinds) (relation : ℕ) (unique : Bool) (listing : Listing) (view : PagesView) : Type 0 where
  pub tree : HasSoundImage image view
  pub once : (census : Census) → IsCensus image view census → unique ≡ true → census.repeats ≡ None
  pub row : LacksRow listing relation key image view.held → ⊥
  pub count : (census : Census) → IsCensus image view census → (count : ℕ) → CountsRows listing relation key image view.held count → count ≡ census.pairs

pub low_at : (at : AccessView) → at.pages.slots < 2 ^ 32 → ((key : PageKey) → is_some (at.pages.held key) ≡ at.pages.mapped key) → ((key : PageKey) → at.pages.mapped key ≡ true → IsKey at.pages.slots key) → AreLow at.pages.held
low_at at small holds allowed = low_held at.pages (omega (arith, small)) holds allowed

module _ (at : AccessView) (small : at.pages.slots < 2 ^ 32) (holds : (key : PageKey) → is_some (at.pages.held key) ≡ at.pages.mapped key) (allowed : (key : PageKey) → at.pages.mapped key ≡ true → IsKey at.pages.slots key)
    (number : ℕ) (entry : ImageEntry) (relation : RelationEntry) (its : IsListedImage at.catalog.listing number entry relation) (fit : AreNodes (image_nodes (image_of number entry relation)))
    (image : Image) (image_is : image_of number entry relation ≡ image) (key : KeyKinds) (key_is : key_of entry relation ≡ key) where
  -- it shows the rows
  pub shows_rows : (census : Census) → IsCensus image at.pages census → (old new : List ℕ) → MarksImage image at.pages.held old new → (entry.is_unique ≡ true → census.repeats ≡ None)
      → CountsRows at.catalog.listing entry.relation key image at.pages.held census.pairs → ShowsRows at number census.pages old new
  shows_rows census is old new marks once counts other others listed =
      let here = subst (λ (i : Image). IsCensus i at.pages census) (sym image_is) is in
      let marked = subst (λ (i : Image). MarksImage i at.pages.held old new) (sym image_is) marks in
      let counted = subst (λ (i : Image). CountsRows at.catalog.listing entry.relation (key_of entry relation) i at.pages.held census.pairs) (sym image_is) (subst (λ (k : KeyKinds). CountsRows at.catalog.listing entry.relation k image at.pages.held census.pairs) (sym key_is) counts) in
      at_same (λ n e r. HasRowsIn census.pages old new at n e r) refl (same_entry its listed refl)
      (has_rows at holds allowed (low_at at small holds allowed) number entry relation fit census here counted old new once marked)

  -- and what it has where it does
  pub found_where : (other : ImageEntry) (others : RelationEntry) (nodes : List ℕ) → IsListedImage at.catalog.listing number other others → HasRows at.pages.held at.pages.slots at.catalog.listing number other others nodes → IsFound image key entry.relation entry.is_unique at.catalog.listing at.pages
  found_where other others nodes listed rows =
      let here = at_same (λ n e r. HasRows at.pages.held at.pages.slots at.catalog.listing n e r nodes) refl (same_entry listed its refl) rows in
      let low = low_at at small holds allowed in
      let found : IsFound (image_of number entry relation) (key_of entry relation) entry.relation entry.is_unique at.catalog.listing at.pages = record {
        tree = found_tree at holds allowed low number entry relation fit here;
        once = found_once at holds allowed low number entry relation fit here;
        row = found_row at holds allowed low number entry relation fit here;
        count = found_count at holds allowed low number entry relation fit here;
      } in
      subst (λ (k : KeyKinds). IsFound image k entry.relation entry.is_unique at.catalog.listing at.pages) key_is (subst (λ (i : Image). IsFound i (key_of entry relation) entry.relation entry.is_unique at.catalog.listing at.pages) image_is found)

-- what may be marked
pub reached_here : (at : AccessView) (number : ℕ) (entry : ImageEntry) (relation : RelationEntry) → image_at at.catalog.listing number ≡ Some entry → relation_at at.catalog.listing entry.relation ≡ Some relation
    → (old new : List ℕ) → MarksOnly (λ page. at.pages.mapped (page_key relation.segment ImageSpace page) ≡ true) old new → MarksReached at number old new
reached_here at number entry relation entry_at its old new marks other others listed =
    at_same (λ n e r. MarksOnly (λ page. at.pages.mapped (page_key r.segment ImageSpace page) ≡ true) old new) {n = number} {m = number} refl (same_entry (record { at = entry_at; within = its }) listed refl) marks

-- by what the catalog tells of the image and its relation
module _ (at : AccessView) (small : at.pages.slots < 2 ^ 32) (holds : (key : PageKey) → is_some (at.pages.held key) ≡ at.pages.mapped key) (allowed : (key : PageKey) → at.pages.mapped key ≡ true → IsKey at.pages.slots key)
    (number : ℕ) (entry : ImageEntry) (relation : RelationEntry) (entry_at : image_at at.catalog.listing number ≡ Some entry) (safe : IsSafeImage at.catalog.listing entry) (its : relation_at at.catalog.listing entry.relation ≡ Some relation) (safe_too : IsSafe relation) (places : length entry.fields ≡ 16)
    {width count : ℕ} {fields : List FieldDef} (width_is : width ≡ width_of entry relation) (fields_are : fields ≡ relation.fields) (count_is : count ≡ entry.count) where
  abbrev image : Image
  image = record { segment = relation.segment; number = number; width = width; root = entry.root; levels = entry.levels }

  abbrev key : KeyKinds
  key = record { fields = kinds fields; which = take count entry.fields }

  image_is : image_of number entry relation ≡ image
  image_is = λ i. record { segment = relation.segment; number = number; width = sym width_is i; root = entry.root; levels = entry.levels }

  key_is : key_of entry relation ≡ key
  key_is = λ i. record { fields = kinds (sym fields_are i); which = take (sym count_is i) entry.fields }

  pub rows_here : (census : Census) → IsCensus image at.pages census → (old new : List ℕ) → MarksImage image at.pages.held old new → (entry.is_unique ≡ true → census.repeats ≡ None)
      → CountsRows at.catalog.listing entry.relation key image at.pages.held census.pairs → ShowsRows at number census.pages old new
  rows_here = shows_rows at small holds allowed number entry relation (record { at = entry_at; within = its }) (fitting its safe places safe_too number) image image_is key key_is

  pub found_here : (other : ImageEntry) (others : RelationEntry) (nodes : List ℕ) → IsListedImage at.catalog.listing number other others → HasRows at.pages.held at.pages.slots at.catalog.listing number other others nodes → IsFound image key entry.relation entry.is_unique at.catalog.listing at.pages
  found_here = found_where at small holds allowed number entry relation (record { at = entry_at; within = its }) (fitting its safe places safe_too number) image image_is key key_is
