-- The list of an image has as many entries as its relation has tuples.
use Rattle.std.proofs.Common.{◌≡◌, inl, inr, ⊎_elim, ℕ, suc, ◌+◌, ◌≤◌, Bool, true, false, cond, List, [], ◌∷◌, length, refl, sym, ◌∙◌, ap, arith}
use Rattle.std.specs.Prelude.{Option, Some, None, is_some, filter, flat_map, ⊤, if◌then◌else◌}
use Rattle.std.specs.Cmp.{Equal-is}
use Rattle.std.specs.FinMap as map
use Rattle.std.specs.FinMap.{entries_sorted, is_sorted, get-entries, get-retain_keys, get-from_entries, get-from_sorted, entries-from_sorted, len-entries, len-empty, len-insert, same_map}
use Rattle.std.specs.FinMap.Entries.{find, below_all, find-where_key, is_sorted-where_key}
use Rattle.std.specs.declared.cmp.Ordering.TheVariants.{Less}
use Rattle.std.proofs.Math.Dec.{T}
use Rattle.std.proofs.lemmas.List.{length-map}
use Rattle.std.proofs.lemmas.Bool.{cond-false, false_from_ne_true}
use Rattle.rss_base.specs.declared.name.Name.{Name}
use Rattle.rss_base.specs.declared.tid.Tid.{Tid}
use Rattle.rss_base.specs.declared.value.Value.{Value}
use Rattle.rss_base.specs.declared.field.FieldDef.{FieldDef}
use Rattle.rss_base.specs.declared.item.Item.{Item}
use Rattle.rss_base.specs.declared.item.Item.TheVariants.{Segment, Relation, Tuple, Chain, Key}
use Rattle.rss_model.specs.Items.{Content, Values, Tuples, item_cmp, name_cmp, is_name}
use Rattle.rss_model.specs.Tables.{Tables, Contents, content, fields_in, is_tuple_of, tuple_count}
use Rattle.rss_model.specs.Images.{Entry, entry, entry_cmp, entry_of, entries_by, key_of}
use Rattle.rss_model.proofs.Codes.{item_total, item_apart, name_apart}
use Rattle.rss_model.proofs.ImageLists.{entry_total, entry_apart, the_map, T_parts}
use Rattle.rss_model.proofs.LogLists.{by_test}
use Rattle.rss_model.proofs.Locking.{in_found}
use Rattle.rss_model.proofs.Mixing.{In, in_parts}
use Rattle.rss_model.proofs.SeenAlike.{all_below, got_in, not_below}

-- ---- the tuples of a relation

-- the items that are its tuples, and what they hold
abbrev held_of : Name → List (Item × Content) → List (Item × Content)
held_of relation es = filter (λ held. is_tuple_of relation held.0) es

-- the relation has as many tuples as contents have items that are its tuples
pub tuples_counted : (contents : Contents) (relation : Name) → tuple_count contents relation ≡ length (held_of relation (map.entries contents))
unfolding tuple_count
tuples_counted contents relation =
    let its = held_of relation (map.entries contents) in
    let sorted = is_sorted-where_key item_cmp (is_tuple_of relation) (map.entries contents) (entries_sorted contents) in
    let alike = λ (q x : Item) (tie : _). sym (ap (is_tuple_of relation) (item_apart q x tie)) in
    ap map.len (same_map item_total item_apart (map.retain_keys contents (is_tuple_of relation)) (map.from_sorted its) (λ q.
    get-retain_keys contents (is_tuple_of relation) q (alike q)
    ∙ ap (λ (o : Option Content). cond (is_tuple_of relation q) o None) (get-entries contents q)
    ∙ sym (find-where_key item_cmp (is_tuple_of relation) q (alike q) (map.entries contents))
    ∙ sym (get-from_sorted item_cmp its q sorted)))
    ∙ len-entries (map.from_sorted its) ∙ ap length (entries-from_sorted item_cmp its sorted)

-- ---- entries

one_some : (o : Option ⊤) → is_some o ≡ true → o ≡ Some tt
one_some None is = absurd (cc (is))
one_some (Some tt) is = refl

module _ (relation : Name) (fields : List FieldDef) (names : List Name) where
  abbrev given : Item × Content → List (Entry × ⊤)
  given held = entry_of relation fields names held.0 held.1

  one_of : {A : Type 0} (t : Bool) (x b : A) → In b (if t then x ∷ [] else []) → (t ≡ true) × (x ≡ b)
  one_of true x b (inl e) = (refl, e)
  one_of true x b (inr is) = absurd is
  one_of false x b is = absurd is

  -- an entry is that of the tuple with its identifier
  item_of : (item : Item) (held : Content) (e : Entry × ⊤) → In e (entry_of relation fields names item held) → item ≡ Tuple relation e.0.tid
  item_of (Segment name) held e is = absurd is
  item_of (Relation name) held e is = absurd is
  item_of (Tuple name tid) (Tuples tids) e is = absurd is
  item_of (Tuple name tid) (Values values) e is =
      let of = one_of (is_name relation name) (entry (key_of fields names values) tid, tt) e is in
      λ i. Tuple (sym (name_apart relation name ((Equal-is (name_cmp relation name)).0 of.0)) i) (ap (λ (p : Entry × ⊤). p.0.tid) of.1 i)
  item_of (Chain link parent) held e is = absurd is
  item_of (Key image values) held e is = absurd is

  found_of : (es : List (Item × Content)) (e : Entry × ⊤) → In e (flat_map given es) → (held : Item × Content) × In held es × (held.0 ≡ Tuple relation e.0.tid)
  found_of [] e is = absurd is
  found_of (held ∷ es) e is = ⊎_elim (λ i. (held, inl refl, item_of held.0 held.1 e i)) (λ i. let rest = found_of es e i in (rest.0, inr rest.1, rest.2)) (in_parts (given held) (flat_map given es) e is)

  -- the entry of a tuple below all others is no other's
  not_again : (es : List (Item × Content)) (tid : Tid) (key : List Value) → ((held : Item × Content) → In held es → item_cmp (Tuple relation tid) held.0 ≡ Less) → is_some (find entry_cmp (entry key tid) (flat_map given es)) ≡ false
  not_again es tid key below = false_from_ne_true _ (λ is.
      let of = found_of es (entry key tid, tt) (in_found entry_apart (flat_map given es) (entry key tid) tt (one_some _ is)) in
      not_below item_total item_apart (Tuple relation tid) (ap (item_cmp (Tuple relation tid)) (sym of.2) ∙ below of.0 of.1))

  -- the relation's tuples among these items hold values
  abbrev HoldValues : List (Item × Content) → Type 0
  HoldValues es = (tid : Tid) (held : Content) → In (Tuple relation tid, held) es → (values : List Value) × (held ≡ Values values)

  no_values : {tids : List Tid} {values : List Value} → Tuples tids ≡ Values values → ⊥
  no_values is = cc (is)

  later : (e : Item × Content) (es : List (Item × Content)) → HoldValues (e ∷ es) → HoldValues es
  later e es all tid held is = all tid held (inr is)

  -- the first item is below those behind it
  first_below : (name : Name) (tid : Tid) (es : List (Item × Content)) → is_name relation name ≡ true → T (below_all item_cmp (Tuple name tid) es) → (other : Item × Content) → In other es → item_cmp (Tuple relation tid) other.0 ≡ Less
  first_below name tid es on below other is =
      ap (λ (n : Name). item_cmp (Tuple n tid) other.0) (name_apart relation name ((Equal-is (name_cmp relation name)).0 on)) ∙ all_below item_total item_apart (Tuple name tid) es below other is

  one_longer : {m n : ℕ} → m ≡ n → m + 1 ≡ suc n
  one_longer same = omega (arith, same)

  abbrev long : List (Item × Content) → ℕ
  long es = map.len (map.from_entries {R = entry_cmp} (flat_map given es))

  one_more : (es : List (Item × Content)) (tid : Tid) (values : List Value) → ((held : Item × Content) → In held es → item_cmp (Tuple relation tid) held.0 ≡ Less)
      → map.len (map.insert (map.from_entries {R = entry_cmp} (flat_map given es)) (entry (key_of fields names values) tid) tt) ≡ long es + 1
  one_more es tid values below =
      let its = entry (key_of fields names values) tid in
      len-insert entry_total (map.from_entries {R = entry_cmp} (flat_map given es)) its tt
      ∙ cond-false _ (long es) (long es + 1) (ap is_some (get-from_entries entry_total (flat_map given es) its) ∙ not_again es tid (key_of fields names values) below)

  counted : (es : List (Item × Content)) → T (is_sorted item_cmp es) → HoldValues es → long es ≡ length (held_of relation es)
  counted [] sorted all = len-empty entry_cmp ⊤
  counted ((Segment name, held) ∷ es) sorted all = counted es (T_parts _ _ sorted).1 (later _ es all)
  counted ((Relation name, held) ∷ es) sorted all = counted es (T_parts _ _ sorted).1 (later _ es all)
  counted ((Tuple name tid, Tuples tids) ∷ es) sorted all = by_test (is_name relation name)
      (λ on. absurd (no_values (all tid (Tuples tids) (inl (λ i. (Tuple (sym (name_apart relation name ((Equal-is (name_cmp relation name)).0 on)) i) tid, Tuples tids)))).1))
      (λ off. rw off (counted es (T_parts _ _ sorted).1 (later _ es all)))
  counted ((Tuple name tid, Values values) ∷ es) sorted all = by_test (is_name relation name)
      (λ on. rw on (one_more es tid values (first_below name tid es on (T_parts _ _ sorted).0) ∙ one_longer (counted es (T_parts _ _ sorted).1 (later _ es all))))
      (λ off. rw off (counted es (T_parts _ _ sorted).1 (later _ es all)))
  counted ((Chain link parent, held) ∷ es) sorted all = counted es (T_parts _ _ sorted).1 (later _ es all)
  counted ((Key image values, held) ∷ es) sorted all = counted es (T_parts _ _ sorted).1 (later _ es all)

  -- and each entry is that of a tuple
  few : (es : List (Item × Content)) → T (is_sorted item_cmp es) → long es ≤ length (held_of relation es)
  few [] sorted = omega (arith, len-empty entry_cmp ⊤)
  few ((Segment name, held) ∷ es) sorted = few es (T_parts _ _ sorted).1
  few ((Relation name, held) ∷ es) sorted = few es (T_parts _ _ sorted).1
  few ((Tuple name tid, Tuples tids) ∷ es) sorted = by_test (is_name relation name)
      (λ on. rw on (omega (arith, few es (T_parts _ _ sorted).1)))
      (λ off. rw off (few es (T_parts _ _ sorted).1))
  few ((Tuple name tid, Values values) ∷ es) sorted = by_test (is_name relation name)
      (λ on. rw on (omega (arith, one_more es tid values (first_below name tid es on (T_parts _ _ sorted).0), few es (T_parts _ _ sorted).1)))
      (λ off. rw off (few es (T_parts _ _ sorted).1))
  few ((Chain link parent, held) ∷ es) sorted = few es (T_parts _ _ sorted).1
  few ((Key image values, held) ∷ es) sorted = few es (T_parts _ _ sorted).1

-- ---- the list of an image

pub entries_counted : (tables : Tables) (relation : Name) (names : List Name) → ((tid : Tid) (held : Content) → content tables.contents (Tuple relation tid) ≡ Some held → (values : List Value) × (held ≡ Values values))
    → length (entries_by tables relation names) ≡ tuple_count tables.contents relation
entries_counted tables relation names all =
    length-map (map.entries (the_map tables relation names)) (λ e. e.0) ∙ sym (len-entries (the_map tables relation names))
    ∙ counted relation (fields_in tables.definitions relation) names (map.entries tables.contents) (entries_sorted tables.contents)
    (λ tid held is. all tid held (got_in item_total item_apart tables.contents (Tuple relation tid) held is))
    ∙ sym (tuples_counted tables.contents relation)

-- whatever its relation's tuples hold, it has no more entries than there are tuples
pub entries_few : (tables : Tables) (relation : Name) (names : List Name) → length (entries_by tables relation names) ≤ tuple_count tables.contents relation
entries_few tables relation names =
    let its : length (entries_by tables relation names) ≡ long relation (fields_in tables.definitions relation) names (map.entries tables.contents) =
    length-map (map.entries (the_map tables relation names)) (λ e. e.0) ∙ sym (len-entries (the_map tables relation names)) in
    omega (arith, its, few relation (fields_in tables.definitions relation) names (map.entries tables.contents) (entries_sorted tables.contents), tuples_counted tables.contents relation)
