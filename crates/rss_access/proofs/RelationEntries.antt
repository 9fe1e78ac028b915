-- The list of an image of a relation, in bytes, by the pages of its tuples. The image need not be listed.
use Rattle.std.proofs.Common.{◌≡◌, inl, inr, ℕ, ◌<◌, ◌^◌, List, [], ◌∷◌, length, refl, sym, ◌∙◌, ap, subst}
use Rattle.std.specs.Prelude.{Option, Some, All, is_some, option_map, unwrap_or, if◌then◌else◌, map as list_map}
use Rattle.std.specs.Ordering.{nat_cmp, is_eq, ordering_then}
use Rattle.std.specs.Cmp.Lexicographic.{slice_cmp}
use Rattle.std.specs.declared.cmp.Ordering.{Ordering}
use Rattle.std.specs.declared.cmp.Ordering.TheVariants.{Less}
use Rattle.std.proofs.lemmas.List.{length-map}
use Rattle.std.proofs.lemmas.Option.{same_Some}
use Rattle.rss_base.specs.Trees.{Pair, tid_cmp}
use Rattle.rss_base.specs.TupleTypes.{kinds, chosen, misfit, field_names, key_bytes, tuple_bytes, values_cmp, Spells, IsKeyOf}
use Rattle.rss_base.specs.Listings.{relation_at, field_numbers}
use Rattle.rss_base.specs.declared.name.Name.{Name}
use Rattle.rss_base.specs.declared.tid.Tid.{Tid}
use Rattle.rss_base.specs.declared.value.Value.{Value}
use Rattle.rss_base.specs.declared.value.FieldForm.{FieldForm}
use Rattle.rss_base.specs.declared.item.Item.TheVariants.{Tuple as TupleItem}
use Rattle.rss_base.specs.declared.image.ImageEntry.{ImageEntry}
use Rattle.rss_base.specs.declared.relation.RelationEntry.{RelationEntry}
use Rattle.rss_value.specs.Numbers.{IsNumberOf}
use Rattle.rss_levels.specs.Entries.{Pairwise}
use Rattle.rss_node.specs.Pairs.{pair_bytes}
use Rattle.rss_model.specs.Items.{Content, Values}
use Rattle.rss_model.specs.Tables.{RelationDef, Tables, content, fields_of, fields_in}
use Rattle.rss_model.specs.Images.{Entry, entries_by, image_list, repeated, repeated_behind as repeated_entry}
use Rattle.rss_stored.specs.Store.{image_definition, pair_spelled}
use Rattle.rss_model.proofs.ImageCounts.{entries_counted}
use Rattle.rss_stored.proofs.ImageFields.{numbers_back, chosen_kinds}
use Rattle.rss_model.proofs.ImageLists.{listed as entry_listed}
use Rattle.rss_stored.proofs.Listed.{listed}
use Rattle.rss_model.proofs.Mixing.{In}
use Rattle.rss_model.proofs.Putting.{values_of}
use Rattle.rss_value.proofs.KeyOrders.{keys_order}
use Rattle.rss_entries.specs.Keyed.{key_with}
use Rattle.rss_entries.specs.Seeking.{kinds_in, kept_pair}
use Rattle.rss_entries.proofs.Orders.{in_map, of_map, map_rises}
use Rattle.rss_entries.proofs.Shown.{Shows, byte_list, IsSpelledTuple, Precedes, entries_rise, entry_with, key_fits, tuple_of as entry_tuple}
use Rattle.rss_access.specs.Bodies.{HoldsBytes}
use Rattle.rss_access.specs.Changes.{AccessView}
use Rattle.rss_access.specs.Checking.{ShowsTuples}
use Rattle.rss_access.specs.Filling.{keys_by, entry_order, repeated_key, repeated_behind}
use Rattle.rss_access.specs.Tuples.{body_at}
use Rattle.rss_access.proofs.Checked.{tuple_of, all_stored, all_spelled}

-- the pair of a tuple with these values
abbrev pub pair_of : RelationEntry → List ℕ → Tid → List Value → List ℕ × Tid
pair_of relation which tid values = (key_with (keys_by relation which) values, tid)

module _ {at : AccessView} (small : at.pages.slots < 2 ^ 32) {tables : Tables} (shows : ShowsTuples at tables) (number : ℕ) {relation : RelationEntry} (its : relation_at at.catalog.listing number ≡ Some relation) where
  -- ---- the relation's tuples

  relation_defined : fields_in tables.definitions relation.name ≡ relation.fields
  relation_defined =
      let so = listed shows.listed shows.defines number relation its in
      ap (λ (o : Option RelationDef). unwrap_or (option_map (λ (r : RelationDef). r.fields) o) []) (shows.defines.relations number relation so.0 so.1)

  kinds_defined : fields_of tables relation.name ≡ Some (kinds relation.fields)
  kinds_defined =
      let so = listed shows.listed shows.defines number relation its in
      ap (option_map (λ (r : RelationDef). kinds r.fields)) (shows.defines.relations number relation so.0 so.1)

  -- the values of a tuple fit its fields, and it can be spelled
  spelled_tuple : (tid : Tid) (values : List Value) → content tables.contents (TupleItem relation.name tid) ≡ Some (Values values) → IsSpelledTuple relation tid values
  spelled_tuple tid values there =
      let of = shows.tuples relation.name tid (Values values) there in
      let same : of.values ≡ values = sym (same_Some _ _ (values_of (Some values) of.values (ap (λ (c : Content). Some c) of.tuple))) in
      let kinds_same : of.fields ≡ kinds relation.fields = same_Some _ _ (sym of.defined ∙ kinds_defined) in
      record {
        fit = (λ i. misfit (sym kinds_same i) (sym same i)) ∙ of.fit;
        storable = all_stored small shows relation.name tid values there;
        spelled = all_spelled small shows relation.name tid (ap is_some there);
      }

  -- The body that has this behind the relation's number is that of a tuple with these values.
  pub record IsTupleOf (tid : Tid) (rest : List ℕ) : Type 0 where
    pub values : List Value
    pub bytes : HoldsBytes at.catalog.listing number (number ∷ rest) (tuple_bytes (kinds relation.fields) values)
    pub spells : Spells (kinds relation.fields) (tuple_bytes (kinds relation.fields) values) values
    pub there : content tables.contents (TupleItem relation.name tid) ≡ Some (Values values)

  -- each body of the relation is a tuple's
  pub body_tuple : (tid : Tid) (rest : List ℕ) → body_at at.pages relation.segment tid ≡ Some (number ∷ rest) → IsTupleOf tid rest
  body_tuple tid rest stands =
      let of = tuple_of small shows number relation its tid rest stands in
      record { values = of.values; bytes = of.bytes; spells = record { fit = (spelled_tuple tid of.values of.holds).fit; storable = of.storable; same = refl }; there = of.holds }

  -- ---- as many as are counted

  -- the identifiers of the relation's tuples
  abbrev pub tids_shown : List Tid
  tids_shown = list_map (λ (e : Entry). e.tid) (entries_by tables relation.name [])

  entries_long : (names : List Name) → length (entries_by tables relation.name names) ≡ relation.live
  entries_long names =
      entries_counted tables relation.name names (λ tid held there. let of = shows.tuples relation.name tid held there in (of.values, of.tuple))
      ∙ shows.counts number relation its

  pub tids_long : length tids_shown ≡ relation.live
  tids_long = length-map (entries_by tables relation.name []) (λ (e : Entry). e.tid) ∙ entries_long []

  pub tid_shown : (tid : Tid) (values : List Value) → content tables.contents (TupleItem relation.name tid) ≡ Some (Values values) → In tid tids_shown
  tid_shown tid values there = in_map (λ (e : Entry). e.tid) (entries_by tables relation.name []) _ (entry_listed tables relation.name [] tid values there)

  -- ---- the list of an image

  module _ (image : ImageEntry) (within : All (IsNumberOf relation.fields) (field_numbers image)) where
    pub shown : Shows tables image relation
    shown = record {
      fields = relation_defined;
      numbers = numbers_back relation.fields (shows.listed.relations number relation its).fields.apart (field_numbers image) (λ k d low. let is = within k d low in record { low = is.0; high = is.1 });
      tuples = spelled_tuple;
    }

    abbrev names : List Name
    names = field_names (chosen (field_numbers image) relation.fields)

    abbrev pub entries : List Entry
    entries = image_list tables (image_definition image relation)

    abbrev pub kept : List (List ℕ × Tid)
    kept = list_map (kept_pair image relation) entries

    kept_is : (tid : Tid) (values : List Value) → kept_pair image relation (entry_with image tid values) ≡ pair_of relation (field_numbers image) tid values
    kept_is tid values = ap (λ (ks : List FieldForm). (key_bytes ks (chosen (field_numbers image) values), tid)) (sym (chosen_kinds (field_numbers image) relation.fields))

    pub kept_long : length kept ≡ relation.live
    kept_long = length-map entries (kept_pair image relation) ∙ entries_long names

    -- it has the pairs of the tuples
    pub kept_tuple : (pair : List ℕ × Tid) → In pair kept → (values : List Value) × (content tables.contents (TupleItem relation.name pair.1) ≡ Some (Values values)) × (pair_of relation (field_numbers image) pair.1 values ≡ pair)
    kept_tuple pair is =
        let found = of_map (kept_pair image relation) entries pair is in
        let of = entry_tuple shown found.0 found.1 in
        let same : pair_of relation (field_numbers image) of.tid of.values ≡ pair = sym (kept_is of.tid of.values) ∙ ap (kept_pair image relation) of.is ∙ found.2 in
        let tids : of.tid ≡ pair.1 = ap (λ (p : List ℕ × Tid). p.1) same in (
          of.values,
          ap (λ (t : Tid). content tables.contents (TupleItem relation.name t)) (sym tids) ∙ of.there,
          ap (λ (t : Tid). pair_of relation (field_numbers image) t of.values) (sym tids) ∙ same,
        )

    -- the keys of entries are ordered as their bytes
    keys_cmp : (a b : Entry) → In a entries → In b entries → slice_cmp nat_cmp (kept_pair image relation a).0 (kept_pair image relation b).0 ≡ values_cmp a.key b.key
    keys_cmp a b one other = keys_order (kinds_in image relation) a.key b.key _ _ (key_of_entry a one) (key_of_entry b other)
      where
        key_of_entry : (e : Entry) → In e entries → IsKeyOf (kinds_in image relation) e.key (key_bytes (kinds_in image relation) e.key)
        key_of_entry e is =
            let of = entry_tuple shown e is in
            subst (λ (f : Entry). IsKeyOf (kinds_in image relation) f.key (key_bytes (kinds_in image relation) f.key)) of.is (key_fits image relation of.tid of.values (spelled_tuple of.tid of.values of.there))

    -- and the pairs rise
    pub kept_rises : Pairwise (λ a b. entry_order a b ≡ Less) kept
    kept_rises = map_rises (kept_pair image relation) Precedes (λ a b. entry_order a b ≡ Less) entries
        (λ a b one other before. ap (λ (o : Ordering). ordering_then o (tid_cmp a.tid b.tid)) (keys_cmp a b one other) ∙ before)
        (entries_rise tables relation.name names)

    -- as bytes, which a tree of the image has
    pub kept_bytes : list_map (λ (pair : List ℕ × Tid). pair_bytes pair.0 pair.1) kept ≡ byte_list tables image relation
    kept_bytes = each entries
      where
        each : (es : List Entry) → list_map (λ (pair : List ℕ × Tid). pair_bytes pair.0 pair.1) (list_map (kept_pair image relation) es) ≡ list_map (λ (pair : Pair). pair_bytes pair.key pair.tid) (list_map (pair_spelled image relation) es)
        each [] = refl
        each (e ∷ es) = ap (λ (l : List (List ℕ)). pair_bytes (kept_pair image relation e).0 e.tid ∷ l) (each es)

    -- ---- repeated keys

    -- a key that stands twice in bytes does so in the list
    pub kept_repeated : repeated_key kept ≡ repeated entries
    kept_repeated = first entries (λ e is. is)
      where
        behind : (e : Entry) (es : List Entry) → ((f : Entry) → In f (e ∷ es) → In f entries) → repeated_behind (kept_pair image relation e).0 (list_map (kept_pair image relation) es) ≡ repeated_entry e.key es
        behind e [] among = refl
        behind e (f ∷ es) among =
            let same = keys_cmp e f (among e (inl refl)) (among f (inr (inl refl))) in
            let rest = behind f es (λ g is. among g (inr is)) in
            λ i. if is_eq (same i) then Some f.tid else rest i

        first : (es : List Entry) → ((f : Entry) → In f es → In f entries) → repeated_key (list_map (kept_pair image relation) es) ≡ repeated es
        first [] among = refl
        first (e ∷ es) among = behind e es among
