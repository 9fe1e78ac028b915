-- Which pairs the list of an image has in bytes: those of its relation's tuples, and they rise.
use Rattle.std.proofs.Common.{◌≡◌, inl, inr, ℕ, List, [], ◌∷◌, length, take, refl, sym, ◌∙◌, ap, subst, arith, length-append}
use Rattle.std.specs.Prelude.{Some, None, All, ⊤, map as list_map}
use Rattle.std.specs.Ordering.{nat_cmp, ordering_then}
use Rattle.std.specs.Cmp.Lexicographic.{slice_cmp}
use Rattle.std.specs.FinMap as finite
use Rattle.std.specs.FinMap.{entries_sorted, is_sorted}
use Rattle.std.specs.declared.cmp.Ordering.{Ordering}
use Rattle.std.specs.declared.cmp.Ordering.TheVariants.{Less}
use Rattle.std.proofs.Math.Dec.{T}
use Rattle.std.proofs.lemmas.List.Sums.{sum_by-cons}
use Rattle.rss_base.specs.LogRecords.{tid_bytes}
use Rattle.rss_base.specs.Trees.{Pair, tid_cmp}
use Rattle.rss_base.specs.TupleTypes.{kinds, field_names, chosen, misfit, IsStorable, tuple_bytes, key_part_width, key_width, key_bytes, IsKeyOf}
use Rattle.rss_base.specs.Listings.{field_numbers}
use Rattle.rss_base.specs.declared.name.Name.{Name}
use Rattle.rss_base.specs.declared.tid.Tid.{Tid}
use Rattle.rss_base.specs.declared.value.Value.{Value}
use Rattle.rss_base.specs.declared.value.FieldForm.{FieldForm}
use Rattle.rss_base.specs.declared.item.Item.TheVariants.{Tuple as TupleItem}
use Rattle.rss_base.specs.declared.image.ImageEntry.{ImageEntry}
use Rattle.rss_base.specs.declared.relation.RelationEntry.{RelationEntry}
use Rattle.rss_value.proofs.Fitting.{AllFit, fitting}
use Rattle.rss_value.proofs.KeyOrders.{form_part, length-key_part, keys_order}
use Rattle.rss_value.proofs.Choosing.{key_made}
use Rattle.rss_base.specs.Entries.{IsLess}
use Rattle.rss_levels.specs.Entries.{Pairwise}
use Rattle.rss_base.specs.Tids.{IsSpelledTid}
use Rattle.rss_node.specs.Pairs.{pair_bytes, pair_from}
use Rattle.rss_node.proofs.Ordered.{pairs_ordered}
use Rattle.rss_node.proofs.Agreed.{pair_said}
use Rattle.rss_model.specs.Items.{Values}
use Rattle.rss_model.specs.Tables.{Tables, content, fields_in}
use Rattle.rss_model.specs.Images.{Entry, entry, entry_cmp, entries_by, image_list, numbers_of, key_of as key_in}
use Rattle.rss_stored.specs.Store.{image_definition, pair_spelled}
use Rattle.rss_model.proofs.Codes.{split_alike}
use Rattle.rss_model.proofs.ImageLists.{entry_total, entry_apart, listed, the_map, T_parts}
use Rattle.rss_model.proofs.RelationLists.{entry_there}
use Rattle.rss_model.proofs.SeenAlike.{all_below}
use Rattle.rss_model.proofs.Mixing.{In}
use Rattle.rss_entries.specs.Rooms.{width_of}
use Rattle.rss_entries.specs.Moving.{pair_with}
use Rattle.rss_entries.specs.Images.{key_of}
use Rattle.rss_entries.proofs.Orders.{Rise, each_of_in, in_map, of_map, map_rises}
use Rattle.rss_stored.proofs.ImageFields.{chosen_kinds}

-- ---- the entries of a list rise

abbrev pub Precedes : Entry → Entry → Type 0
Precedes a b = entry_cmp a b ≡ Less

keys_rise : (es : List (Entry × ⊤)) → T (is_sorted entry_cmp es) → Pairwise Precedes (list_map (λ e. e.0) es)
keys_rise [] sorted = tt
keys_rise (e ∷ es) sorted =
    let parts = T_parts _ _ sorted in (
      each_of_in (Precedes e.0) (list_map (λ f. f.0) es) (λ a is. let of = of_map (λ f. f.0) es a is in subst (Precedes e.0) of.2 (all_below entry_total entry_apart e.0 es parts.0 of.0 of.1)),
      keys_rise es parts.1,
    )

pub entries_rise : (tables : Tables) (relation : Name) (names : List Name) → Pairwise Precedes (entries_by tables relation names)
entries_rise tables relation names = keys_rise (finite.entries (the_map tables relation names)) (entries_sorted (the_map tables relation names))

-- ---- pairs

-- the bytes of an identifier say it
tid_back : (a b : Tid) → IsSpelledTid a → IsSpelledTid b → tid_bytes a ≡ tid_bytes b → a ≡ b
tid_back a b one other same =
    let said = λ (t : Tid) (is : IsSpelledTid t). ap (λ (p : Pair). p.tid) (pair_said 0 (record { key = []; tid = t }) refl is) in
    sym (said a one) ∙ ap (λ (l : List ℕ). (pair_from 0 l).tid) same ∙ said b other

-- equal pairs are those of one tuple
pub same_tid : (a b : List ℕ) (s t : Tid) → IsSpelledTid s → IsSpelledTid t → pair_bytes a s ≡ pair_bytes b t → s ≡ t
same_tid a b s t one other same =
    let six : length (tid_bytes s) ≡ length (tid_bytes t) = refl in
    let long : length a ≡ length b = omega (arith, six, ap length same, length-append a (tid_bytes s), length-append b (tid_bytes t)) in
    tid_back s t one other (split_alike a b (tid_bytes s) (tid_bytes t) long same).1

length-key_bytes : (fields : List FieldForm) (values : List Value) → AllFit fields values → length (key_bytes fields values) ≡ key_width fields
length-key_bytes [] [] all = refl
length-key_bytes [] (v ∷ values) all = absurd all
length-key_bytes (f ∷ fields) [] all = absurd all
length-key_bytes (f ∷ fields) (v ∷ values) all =
    omega (arith, length-append (form_part f v) (key_bytes fields values), length-key_part f v all.0, length-key_bytes fields values all.1, sum_by-cons key_part_width f fields)

-- ---- the tuples of a relation

-- The values fit the fields of the relation, and the identifier can be spelled.
pub record IsSpelledTuple (relation : RelationEntry) (tid : Tid) (values : List Value) : Type 0 where
  pub fit : misfit (kinds relation.fields) values ≡ None
  pub storable : All IsStorable values
  pub spelled : IsSpelledTid tid

-- the entry of a tuple in an image
abbrev pub entry_with : ImageEntry → Tid → List Value → Entry
entry_with image tid values = entry (chosen (field_numbers image) values) tid

abbrev pub spelled_entry : ImageEntry → RelationEntry → Entry → List ℕ
spelled_entry image relation e = pair_bytes (pair_spelled image relation e).key (pair_spelled image relation e).tid

module _ (image : ImageEntry) (relation : RelationEntry) where
  abbrev numbers : List ℕ
  numbers = field_numbers image

  abbrev fields : List FieldForm
  fields = kinds (chosen numbers relation.fields)

  pub pair_is : (tid : Tid) (values : List Value) → spelled_entry image relation (entry_with image tid values) ≡ pair_with (key_of image relation) tid values
  pair_is tid values = ap (λ (ks : List FieldForm). pair_bytes (key_bytes ks (chosen numbers values)) tid) (sym (chosen_kinds numbers relation.fields))

  pub key_fits : (tid : Tid) (values : List Value) → IsSpelledTuple relation tid values → IsKeyOf fields (chosen numbers values) (key_bytes fields (chosen numbers values))
  key_fits tid values is =
      let made = key_made (kinds relation.fields) (tuple_bytes (kinds relation.fields) values) numbers (length numbers) (key_bytes (chosen (take (length numbers) numbers) (kinds relation.fields)) (chosen (take (length numbers) numbers) values)) values (omega arith)
      (record { fit = is.fit; storable = is.storable; same = refl }) refl in
      record {
        fit = subst (λ (ks : List FieldForm). misfit ks (chosen numbers values) ≡ None) (chosen_kinds numbers relation.fields) made.fit;
        storable = made.storable;
        same = refl;
      }

  key_long : (tid : Tid) (values : List Value) → IsSpelledTuple relation tid values → length (key_bytes fields (chosen numbers values)) ≡ key_width fields
  key_long tid values is = length-key_bytes fields (chosen numbers values) (fitting 1 fields (chosen numbers values) (key_fits tid values is).fit)

  -- the bytes of entries are ordered as these
  spelled_cmp : (s t : Tid) (v w : List Value) → IsSpelledTuple relation s v → IsSpelledTuple relation t w
      → slice_cmp nat_cmp (spelled_entry image relation (entry_with image s v)) (spelled_entry image relation (entry_with image t w)) ≡ entry_cmp (entry_with image s v) (entry_with image t w)
  spelled_cmp s t v w one other =
      let first = key_fits s v one in
      let second = key_fits t w other in
      pairs_ordered (pair_spelled image relation (entry_with image s v)) (pair_spelled image relation (entry_with image t w))
      (key_long s v one ∙ sym (key_long t w other))
      one.spelled other.spelled
      ∙ ap (λ (o : Ordering). ordering_then o (tid_cmp s t)) (keys_order fields (chosen numbers v) (chosen numbers w) _ _ first second)

-- ---- the pairs of an image

-- the pairs of an image's list, as bytes
abbrev pub byte_list : Tables → ImageEntry → RelationEntry → List (List ℕ)
byte_list tables image relation = list_map (λ (pair : Pair). pair_bytes pair.key pair.tid) (list_map (pair_spelled image relation) (image_list tables (image_definition image relation)))

-- The tables have the relation's fields, the image's fields have its numbers, and the tuples can be spelled.
pub record Shows (tables : Tables) (image : ImageEntry) (relation : RelationEntry) : Type 0 where
  pub fields : fields_in tables.definitions relation.name ≡ relation.fields
  pub numbers : numbers_of relation.fields (field_names (chosen (field_numbers image) relation.fields)) ≡ field_numbers image
  pub tuples : (tid : Tid) (values : List Value) → content tables.contents (TupleItem relation.name tid) ≡ Some (Values values) → IsSpelledTuple relation tid values

-- the pair is that of a tuple
pub record IsTuplePair (tables : Tables) (image : ImageEntry) (relation : RelationEntry) (pair : List ℕ) : Type 0 where
  pub tid : Tid
  pub values : List Value
  pub there : content tables.contents (TupleItem relation.name tid) ≡ Some (Values values)
  pub is : pair_with (key_of image relation) tid values ≡ pair

module _ {tables : Tables} {image : ImageEntry} {relation : RelationEntry} (shows : Shows tables image relation) where
  abbrev names : List Name
  names = field_names (chosen (field_numbers image) relation.fields)

  abbrev entries : List Entry
  entries = image_list tables (image_definition image relation)

  pub mapped : byte_list tables image relation ≡ list_map (spelled_entry image relation) entries
  mapped = both entries
    where
      both : (es : List Entry) → list_map (λ (pair : Pair). pair_bytes pair.key pair.tid) (list_map (pair_spelled image relation) es) ≡ list_map (spelled_entry image relation) es
      both [] = refl
      both (e ∷ es) = ap (λ (l : List (List ℕ)). spelled_entry image relation e ∷ l) (both es)

  -- the key of a tuple by the names of its fields is that by their numbers
  pub key_is : (values : List Value) → key_in (fields_in tables.definitions relation.name) names values ≡ chosen (field_numbers image) values
  key_is values = ap (λ (ns : List ℕ). chosen ns values) (ap (λ fs. numbers_of fs names) shows.fields ∙ shows.numbers)

  -- an entry is a tuple's
  pub record IsTupleEntry (e : Entry) : Type 0 where
    pub tid : Tid
    pub values : List Value
    pub there : content tables.contents (TupleItem relation.name tid) ≡ Some (Values values)
    pub is : entry_with image tid values ≡ e

  pub tuple_of : (e : Entry) → In e entries → IsTupleEntry e
  tuple_of e is =
      let its = entry_there tables relation.name names e is in
      record { tid = e.tid; values = its.0; there = its.1; is = ap (λ (k : List Value). entry k e.tid) (sym (key_is its.0)) ∙ its.2 }

  -- the pair of a tuple is there
  pub pair_there : (tid : Tid) (values : List Value) → content tables.contents (TupleItem relation.name tid) ≡ Some (Values values) → In (pair_with (key_of image relation) tid values) (byte_list tables image relation)
  pair_there tid values there =
      let at = subst (λ (k : List Value). In (entry k tid) entries) (key_is values) (listed tables relation.name names tid values there) in
      subst (λ (l : List (List ℕ)). In (pair_with (key_of image relation) tid values) l) (sym mapped)
      (subst (λ (p : List ℕ). In p (list_map (spelled_entry image relation) entries)) (pair_is image relation tid values) (in_map (spelled_entry image relation) entries (entry_with image tid values) at))

  -- and no other
  pub tuple_pair : (pair : List ℕ) → In pair (byte_list tables image relation) → IsTuplePair tables image relation pair
  tuple_pair pair is =
      let at = of_map (spelled_entry image relation) entries pair (subst (In pair) mapped is) in
      let of = tuple_of at.0 at.1 in
      record { tid = of.tid; values = of.values; there = of.there; is = sym (pair_is image relation of.tid of.values) ∙ ap (spelled_entry image relation) of.is ∙ at.2 }

  -- they rise
  pub pairs_rise : Rise (byte_list tables image relation)
  pairs_rise = subst Rise (sym mapped) (map_rises (spelled_entry image relation) Precedes IsLess entries order (entries_rise tables relation.name names))
    where
      order : (a b : Entry) → In a entries → In b entries → Precedes a b → IsLess (spelled_entry image relation a) (spelled_entry image relation b)
      order a b one other before =
          let s = tuple_of a one in
          let t = tuple_of b other in
          record {
            is = (λ i. slice_cmp nat_cmp (spelled_entry image relation (sym s.is i)) (spelled_entry image relation (sym t.is i)))
                ∙ spelled_cmp image relation s.tid t.tid s.values t.values (shows.tuples s.tid s.values s.there) (shows.tuples t.tid t.values t.there)
                ∙ (λ i. entry_cmp (s.is i) (t.is i)) ∙ before;
          }

  -- their bytes say the keys and the identifiers
  pub pairs_said : list_map (pair_from (width_of image relation)) (byte_list tables image relation) ≡ list_map (pair_spelled image relation) entries
  pairs_said = each entries (λ e is. is)
    where
      said : (e : Entry) → In e entries → pair_from (width_of image relation) (spelled_entry image relation e) ≡ pair_spelled image relation e
      said e is =
          let of = tuple_of e is in
          let its = shows.tuples of.tid of.values of.there in
          subst (λ (f : Entry). pair_from (width_of image relation) (spelled_entry image relation f) ≡ pair_spelled image relation f) of.is
          (pair_said (width_of image relation) (pair_spelled image relation (entry_with image of.tid of.values)) (key_long image relation of.tid of.values its) its.spelled)

      each : (es : List Entry) → ((e : Entry) → In e es → In e entries)
          → list_map (pair_from (width_of image relation)) (list_map (λ (pair : Pair). pair_bytes pair.key pair.tid) (list_map (pair_spelled image relation) es)) ≡ list_map (pair_spelled image relation) es
      each [] within = refl
      each (e ∷ es) within = λ i. said e (within e (inl refl)) i ∷ each es (λ f is. within f (inr is)) i
