-- An image that shows tables in its pages has the pairs of its relation's bodies, and the other way round.
use Rattle.std.proofs.Common.{◌≡◌, ℕ, ◌<◌, ◌^◌, true, List, [], ◌∷◌, ◌++◌, refl, sym, ◌∙◌, ap, subst, arith}
use Rattle.std.specs.Prelude.{Some, Contains, map as list_map}
use Rattle.std.specs.Ordering.{is_eq}
use Rattle.std.proofs.lemmas.Cmp.{tied_itself}
use Rattle.rss_base.specs.Listings.{Listing, field_numbers}
use Rattle.rss_base.specs.Trees.{Pair}
use Rattle.rss_base.specs.TupleTypes.{kinds, chosen, key_bytes, tuple_bytes}
use Rattle.rss_base.specs.declared.value.Value.{Value}
use Rattle.rss_base.specs.declared.image.ImageEntry.{ImageEntry}
use Rattle.rss_base.specs.declared.relation.RelationEntry.{RelationEntry}
use Rattle.rss_value.proofs.KeyOrders.{keys_same}
use Rattle.rss_base.specs.Entries.{IsLess}
use Rattle.rss_base.specs.declared.tid.Tid.{Tid}
use Rattle.rss_base.proofs.Entries.{less_never, less_trans}
use Rattle.rss_levels.specs.Entries.{Pairwise}
use Rattle.rss_levels.proofs.Lists.{each_unmap}
use Rattle.rss_node.specs.Nodes.{AreNodes}
use Rattle.rss_node.specs.Pairs.{pair_bytes}
use Rattle.rss_image.specs.Images.{nodes_of as image_nodes}
use Rattle.rss_image.proofs.Others.{pairs_rise as tree_rises}
use Rattle.rss_image.proofs.Rowed.{same_tree}
use Rattle.rss_entries.specs.Images.{image_of}
use Rattle.rss_tuple.specs.Directory.{bodies_of}
use Rattle.rss_base.specs.declared.item.Item.TheVariants.{Tuple as TupleItem}
use Rattle.rss_model.specs.Items.{Values}
use Rattle.rss_model.specs.Tables.{Tables, content}
use Rattle.rss_model.specs.Images.{Entry, image_list, is_key, HasKey}
use Rattle.rss_model.proofs.ImageLists.{listed as entry_listed, values_total}
use Rattle.rss_model.proofs.Mixing.{In}
use Rattle.rss_model.proofs.Viewing.{same_key}
use Rattle.rss_stored.specs.Store.{IsListedImage, image_definition, pair_spelled, body_of}
use Rattle.rss_stored.proofs.Spelled.{tuple_bytes_same}
use Rattle.rss_entries.specs.Seeking.{AreSingle, kinds_in}
use Rattle.rss_entries.proofs.Fitting.{fitting_nodes}
use Rattle.rss_entries.proofs.Lists.{listed_shows}
use Rattle.rss_entries.proofs.Orders.{Rise, in_contains, in_map, of_map, same_rising}
use Rattle.rss_entries.proofs.Standing.{AreLow, low_cells}
use Rattle.rss_entries.proofs.Shown.{Shows, entry_with, key_fits, key_is, pairs_rise, tuple_of}
use Rattle.rss_access.specs.Changes.{AccessView}
use Rattle.rss_access.specs.Checking.{ShowsTuples, IsSound, IsSoundIn}
use Rattle.rss_access.proofs.Bodied.{body_holds, one_bytes, tuple_with, values_storable}
use Rattle.rss_access.specs.Rows.{IsPairOfRow, HasRows, HasRowsIn}
use Rattle.rss_access.proofs.AsMany.{contains_in}

-- the bytes of a pair
abbrev pub bytes_of : Pair → List ℕ
bytes_of pair = pair_bytes pair.key pair.tid

-- what rises by its bytes
pub rise_unmapped : (pairs : List Pair) → Rise (list_map bytes_of pairs) → Pairwise (λ a b. IsLess (bytes_of a) (bytes_of b)) pairs
rise_unmapped [] rises = tt
rise_unmapped (pair ∷ pairs) rises = (each_unmap (IsLess (bytes_of pair)) bytes_of pairs rises.0, rise_unmapped pairs rises.1)

module _ {at : AccessView} (small : at.pages.slots < 2 ^ 32) {tables : Tables} (shows : ShowsTuples at tables) {number : ℕ} {image : ImageEntry} {relation : RelationEntry} (its : IsListedImage at.catalog.listing number image relation) where
  abbrev listing : Listing
  listing = at.catalog.listing

  abbrev entries : List Entry
  entries = image_list tables (image_definition image relation)

  abbrev pairs : List Pair
  pairs = list_map (pair_spelled image relation) entries

  abbrev key_of : List Value → List Value
  key_of values = chosen (field_numbers image) values

  shown : Shows tables image relation
  shown = listed_shows tables shows.listed shows.defines its shows.tuples (values_storable shows.contents) (λ name tid there.
      let id = shows.tids name tid there in record { page = omega (arith, id.page, small); slot = omega (arith, id.slot) })

  -- ---- pairs and rows

  pair_row : (pair : Pair) → In pair pairs → IsPairOfRow at.pages.held listing image relation pair
  pair_row pair is =
      let found = of_map (pair_spelled image relation) entries pair is in
      let of = tuple_of shown found.0 found.1 in
      let fits = shown.tuples of.tid of.values of.there in
      let same : pair_spelled image relation (entry_with image of.tid of.values) ≡ pair = ap (pair_spelled image relation) of.is ∙ found.2 in
      record {
        body = body_of listing tables.contents image.relation of.tid of.values;
        values = of.values;
        there = ap (λ (p : Pair). bodies_of at.pages.held relation.segment p.tid) (sym same) ∙ shows.contents.stands image.relation relation of.tid of.values its.within of.there;
        is = record {
          bytes = tuple_bytes (kinds relation.fields) of.values;
          holds = body_holds listing tables.contents image.relation relation its.within of.tid of.values;
          spelled = record { fit = fits.fit; storable = fits.storable; same = refl };
        };
        key = ap (λ (p : Pair). p.key) (sym same);
      }

  row_pair : (pair : Pair) → IsPairOfRow at.pages.held listing image relation pair → In pair pairs
  row_pair pair row =
      let rest : List ℕ = row.is.holds.prefix ++ row.is.bytes in
      let of = tuple_with shows.contents image.relation relation its.within pair.tid rest (row.there ∙ ap Some row.is.holds.is) in
      let fits = shown.tuples pair.tid of.values of.holds in
      let bytes : row.is.bytes ≡ tuple_bytes (kinds relation.fields) of.values = one_bytes (record { prefix = row.is.holds.prefix; long = row.is.holds.long; is = refl }) of.bytes in
      let same : row.values ≡ of.values = tuple_bytes_same 1 (kinds relation.fields) row.values of.values row.is.spelled.fit fits.fit row.is.spelled.storable fits.storable (sym row.is.spelled.same ∙ bytes) in
      let key : key_bytes (kinds_in image relation) (key_of of.values) ≡ pair.key = ap (λ (vs : List Value). key_bytes (kinds_in image relation) (key_of vs)) (sym same) ∙ sym row.key in
      let one : pair_spelled image relation (entry_with image pair.tid of.values) ≡ pair = λ i. record { key = key i; tid = pair.tid } in
      let there : In (entry_with image pair.tid of.values) entries = subst (λ (k : List Value). In (record { key = k; tid = pair.tid }) entries) (key_is shown of.values) (entry_listed tables relation.name (image_definition image relation).fields pair.tid of.values of.holds) in
      subst (λ (p : Pair). In p pairs) one (in_map (pair_spelled image relation) entries (entry_with image pair.tid of.values) there)

  -- ---- keys that are single

  same_pair : AreSingle tables (image_definition image relation) → (a b : Pair) → In a pairs → In b pairs → a.key ≡ b.key → a ≡ b
  same_pair single a b one other keys =
      let found = of_map (pair_spelled image relation) entries a one in
      let found_too = of_map (pair_spelled image relation) entries b other in
      let of = tuple_of shown found.0 found.1 in
      let too = tuple_of shown found_too.0 found_too.1 in
      let first : pair_spelled image relation (entry_with image of.tid of.values) ≡ a = ap (pair_spelled image relation) of.is ∙ found.2 in
      let second : pair_spelled image relation (entry_with image too.tid too.values) ≡ b = ap (pair_spelled image relation) too.is ∙ found_too.2 in
      let bytes : key_bytes (kinds_in image relation) (key_of of.values) ≡ key_bytes (kinds_in image relation) (key_of too.values) = ap (λ (p : Pair). p.key) first ∙ keys ∙ ap (λ (p : Pair). p.key) (sym second) in
      let values : key_of of.values ≡ key_of too.values = (keys_same (kinds_in image relation) (key_of of.values) (key_of too.values) _ _ (key_fits image relation of.tid of.values (shown.tuples of.tid of.values of.there)) (key_fits image relation too.tid too.values (shown.tuples too.tid too.values too.there))).0 bytes in
      let itself : is_key (key_of too.values) (key_of too.values) ≡ true = ap is_eq (tied_itself values_total (key_of too.values)) in
      let has : HasKey tables (image_definition image relation) of.tid (key_of too.values) = record { values = of.values; there = of.there; is = ap (λ (k : List Value). is_key k (key_of too.values)) (key_is shown of.values ∙ values) ∙ itself } in
      let has_too : HasKey tables (image_definition image relation) too.tid (key_of too.values) = record { values = too.values; there = too.there; is = ap (λ (k : List Value). is_key k (key_of too.values)) (key_is shown too.values) ∙ itself } in
      let tids : of.tid ≡ too.tid = single of.tid too.tid (key_of too.values) has has_too in
      sym first ∙ (λ i. record { key = bytes i; tid = tids i }) ∙ second

  -- ---- an image that is sound

  pub rows_had : (sound : IsSound at tables number image relation) → HasRows at.pages.held at.pages.slots listing number image relation sound.pages
  rows_had sound = record {
    pairs = sound.spells.pairs;
    tree = sound.spells.tree;
    once = sound.spells.once;
    within = sound.within;
    rows = λ pair. (
      λ there. pair_row pair (listed_pair pair there),
      λ row. in_contains sound.spells.pairs pair (subst (In pair) (sym sound.spells.list) (row_pair pair row)),
    );
    single = λ unique a b one other keys. same_pair (sound.single unique) a b (listed_pair a one) (listed_pair b other) keys;
  }
    where
      listed_pair : (pair : Pair) → Contains sound.spells.pairs pair → In pair pairs
      listed_pair pair there = subst (In pair) sound.spells.list (contains_in sound.spells.pairs pair there)

  -- ---- and one that has these pairs

  listed_tuple : (tid : Tid) (values : List Value) → content tables.contents (TupleItem relation.name tid) ≡ Some (Values values) → In (entry_with image tid values) entries
  listed_tuple tid values there = subst (λ (k : List Value). In (record { key = k; tid = tid }) entries) (key_is shown values) (entry_listed tables relation.name (image_definition image relation).fields tid values there)

  module _ {nodes : List ℕ} (rows : HasRows at.pages.held at.pages.slots listing number image relation nodes) where
    -- no two tuples have one key
    single_of : image.is_unique ≡ true → AreSingle tables (image_definition image relation)
    single_of unique one other key first second =
        let values : key_of first.values ≡ key_of second.values = sym (key_is shown first.values) ∙ same_key _ _ first.is ∙ sym (same_key _ _ second.is) ∙ key_is shown second.values in
        let a : Pair = pair_spelled image relation (entry_with image one first.values) in
        let b : Pair = pair_spelled image relation (entry_with image other second.values) in
        let a_there = (rows.rows a).1 (pair_row a (in_map (pair_spelled image relation) entries (entry_with image one first.values) (listed_tuple one first.values first.there))) in
        let b_there = (rows.rows b).1 (pair_row b (in_map (pair_spelled image relation) entries (entry_with image other second.values) (listed_tuple other second.values second.there))) in
        ap (λ (p : Pair). p.tid) (rows.single unique a b a_there b_there (ap (key_bytes (kinds_in image relation)) values))

    module _ (low : AreLow at.pages.held) (fit : AreNodes (image_nodes (image_of number image relation))) where
      -- they are those of the image's list
      same_list : rows.pairs ≡ pairs
      same_list =
          let tree = same_tree (image_of number image relation) at.pages.held fit (low_cells at.pages.held low (image_nodes (image_of number image relation))) nodes rows.pairs rows.tree rows.once in
          same_rising (λ (a b : Pair). IsLess (bytes_of a) (bytes_of b)) (λ a less. less_never less) (λ a b c one other. less_trans one other) rows.pairs pairs
          (rise_unmapped rows.pairs (tree_rises tree.tree)) (rise_unmapped pairs (pairs_rise shown))
          (λ pair is. row_pair pair ((rows.rows pair).0 (in_contains rows.pairs pair is)))
          (λ pair is. contains_in rows.pairs pair ((rows.rows pair).1 (pair_row pair is)))

      pub rows_sound : IsSound at tables number image relation
      rows_sound = record {
        pages = nodes;
        spells = record { pairs = rows.pairs; tree = rows.tree; once = rows.once; list = same_list };
        within = rows.within;
        single = single_of;
      }

  -- in so many pages
  pub sound_in : AreLow at.pages.held → {count : ℕ} {old new : List ℕ} → HasRowsIn count old new at number image relation → IsSoundIn count at tables number image relation
  unfolding rows_sound
  sound_in low has = record { sound = rows_sound has.rows low (fitting_nodes listing shows.listed number image relation its); counted = has.counted }
