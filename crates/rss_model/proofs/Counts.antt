-- How many tuples a relation has, where one is put.
use Rattle.std.proofs.Common.{◌≡◌, inl, inr, ℕ, ◌+◌, ◌-◌, ◌≤◌, Bool, true, false, cond, refl, sym, ◌∙◌, ap, arith}
use Rattle.std.specs.Prelude.{Option, Some, None, is_some}
use Rattle.std.specs.Ordering.{eq_by_cmp}
use Rattle.std.specs.Cmp.{Equal-is}
use Rattle.std.specs.FinMap as map
use Rattle.std.specs.FinMap.{get-empty, get-retain_keys, len-empty, len-insert, len-remove, same_map, empty_of_len}
use Rattle.std.proofs.lemmas.Bool.{cases_Bool, cases_lt, true≢false, cond-true, cond-false}
use Rattle.rss_base.specs.declared.name.Name.{Name}
use Rattle.rss_base.specs.declared.tid.Tid.{Tid}
use Rattle.rss_base.specs.declared.item.Item.{Item}
use Rattle.rss_base.specs.declared.item.Item.TheVariants.{Segment, Relation, Tuple, Chain, Key}
use Rattle.rss_model.specs.Items.{Content, item_cmp, name_cmp}
use Rattle.rss_model.specs.Tables.{Contents, content, put, is_tuple_of, tuple_count}
use Rattle.rss_model.proofs.Codes.{item_total, item_apart, name_total, name_apart}
use Rattle.rss_model.proofs.Contents.{tied, same_item_of, content_put}

abbrev tuples_of : Contents → Name → Contents
tuples_of contents relation = map.retain_keys contents (is_tuple_of relation)

found : (contents : Contents) (relation : Name) (q : Item) → content (tuples_of contents relation) q ≡ cond (is_tuple_of relation q) (content contents q) None
found contents relation q = get-retain_keys contents (is_tuple_of relation) q (λ x tie. sym (ap (is_tuple_of relation) (item_apart q x tie)))

-- how many tuples an item is
abbrev pub one_if : Bool → ℕ
one_if t = cond t 1 0

-- what is put counts, and what was there doesn't
len_put : (contents : Contents) (item : Item) (held : Option Content) → map.len (put contents item held) + one_if (is_some (content contents item)) ≡ map.len contents + one_if (is_some held)
unfolding put
len_put contents item None = elim (cases_Bool (map.contains_key contents item)) [
  | inl there ↦ omega (arith, len-remove item_total contents item, cond-true _ (map.len contents - 1) (map.len contents) there, ap one_if there, some_there contents item there)
  | inr absent ↦ omega (arith, len-remove item_total contents item, cond-false _ (map.len contents - 1) (map.len contents) absent, ap one_if absent)
]
  where
    some_there : (contents : Contents) (item : Item) → map.contains_key contents item ≡ true → 1 ≤ map.len contents
    some_there contents item there = elim (cases_lt 0 (map.len contents)) [
      | inl some ↦ omega (arith, some)
      | inr none ↦ absurd (true≢false (sym there ∙ ap (λ (m : Contents). map.contains_key m item) (empty_of_len contents (omega (arith, none))) ∙ ap is_some (get-empty item_cmp item)))
    ]
len_put contents item (Some held) = elim (cases_Bool (map.contains_key contents item)) [
  | inl there ↦ omega (arith, len-insert item_total contents item held, cond-true _ (map.len contents) (map.len contents + 1) there, ap one_if there)
  | inr absent ↦ omega (arith, len-insert item_total contents item held, cond-false _ (map.len contents) (map.len contents + 1) absent, ap one_if absent)
]

module _ (contents : Contents) (item : Item) (held : Option Content) (relation : Name) where
  abbrev after : Contents
  after = put contents item held

  now_found : (q : Item) → content (tuples_of after relation) q ≡ cond (is_tuple_of relation q) (cond (eq_by_cmp item_cmp q item) held (content contents q)) None
  now_found q = found after relation q ∙ ap (λ (o : Option Content). cond (is_tuple_of relation q) o None) (content_put contents item held q)

  -- of another relation, or no tuple
  pub counts_same : is_tuple_of relation item ≡ false → tuple_count after relation ≡ tuple_count contents relation
  unfolding tuple_count
  counts_same off = ap map.len (same_map item_total item_apart (tuples_of after relation) (tuples_of contents relation) (λ q. now_found q ∙ elim (cases_Bool (eq_by_cmp item_cmp q item)) [
    | inl same ↦
        let none : is_tuple_of relation q ≡ false = ap (is_tuple_of relation) (same_item_of q item same) ∙ off in
        cond-false _ _ None none ∙ sym (found contents relation q ∙ cond-false _ _ None none)
    | inr other ↦ ap (λ (o : Option Content). cond (is_tuple_of relation q) o None) (cond-false _ held (content contents q) other) ∙ sym (found contents relation q)
  ]))

  tuples_put : is_tuple_of relation item ≡ true → tuples_of after relation ≡ put (tuples_of contents relation) item held
  tuples_put on = same_map item_total item_apart _ _ (λ q. now_found q ∙ elim (cases_Bool (eq_by_cmp item_cmp q item)) [
    | inl tie ↦
        let some : is_tuple_of relation q ≡ true = ap (is_tuple_of relation) (same_item_of q item tie) ∙ on in
        cond-true _ _ None some ∙ cond-true _ _ _ tie ∙ sym (content_put (tuples_of contents relation) item held q ∙ cond-true _ _ _ tie)
    | inr other ↦
        ap (λ (o : Option Content). cond (is_tuple_of relation q) o None) (cond-false _ held (content contents q) other) ∙ sym (found contents relation q)
        ∙ sym (content_put (tuples_of contents relation) item held q ∙ cond-false _ _ _ other)
  ])

  -- of this one
  pub counts_put : is_tuple_of relation item ≡ true → tuple_count after relation + one_if (is_some (content contents item)) ≡ tuple_count contents relation + one_if (is_some held)
  unfolding tuple_count
  counts_put on =
      let here : content (tuples_of contents relation) item ≡ content contents item = found contents relation item ∙ cond-true _ (content contents item) None on in
      omega (arith, ap map.len (tuples_put on), len_put (tuples_of contents relation) item held, ap (λ (o : Option Content). one_if (is_some o)) here)

pub counts_none : (relation : Name) → tuple_count map.empty relation ≡ 0
unfolding tuple_count
counts_none relation =
    ap map.len (same_map item_total item_apart (tuples_of map.empty relation) map.empty (λ q. found map.empty relation q ∙ ap (λ (o : Option Content). cond (is_tuple_of relation q) o None) (get-empty item_cmp q) ∙ same_none (is_tuple_of relation q) ∙ sym (get-empty item_cmp q)))
    ∙ len-empty item_cmp Content
  where
    same_none : (b : Bool) → cond {A = Option Content} b None None ≡ None
    same_none true = refl
    same_none false = refl

-- a relation that has no tuples has none with any identifier
pub none_counted : (contents : Contents) (relation : Name) → tuple_count contents relation ≡ 0 → (tid : Tid) → content contents (Tuple relation tid) ≡ None
unfolding tuple_count
none_counted contents relation none tid =
    sym (cond-true (is_tuple_of relation (Tuple relation tid)) (content contents (Tuple relation tid)) None (tied name_total name_apart relation)) ∙ sym (found contents relation (Tuple relation tid))
    ∙ ap (λ (m : Contents). content m (Tuple relation tid)) (empty_of_len (tuples_of contents relation) none) ∙ get-empty item_cmp (Tuple relation tid)

-- and the other way
pub count_of_none : (contents : Contents) (relation : Name) → ((tid : Tid) → content contents (Tuple relation tid) ≡ None) → tuple_count contents relation ≡ 0
unfolding tuple_count
count_of_none contents relation none = ap map.len (same_map item_total item_apart (tuples_of contents relation) map.empty (λ q. found contents relation q ∙ each q ∙ sym (get-empty item_cmp q))) ∙ len-empty item_cmp Content
  where
    off : (q : Item) → is_tuple_of relation q ≡ false → cond (is_tuple_of relation q) (content contents q) None ≡ None
    off q is = cond-false (is_tuple_of relation q) (content contents q) None is

    each : (q : Item) → cond (is_tuple_of relation q) (content contents q) None ≡ None
    each (Segment name) = off (Segment name) refl
    each (Relation name) = off (Relation name) refl
    each (Chain link parent) = off (Chain link parent) refl
    each (Key image values) = off (Key image values) refl
    each (Tuple name tid) = elim (cases_Bool (is_tuple_of relation (Tuple name tid))) [
      | inl on ↦
          let same : relation ≡ name = name_apart relation name ((Equal-is (name_cmp relation name)).0 on) in
          cond-true _ (content contents (Tuple name tid)) None on ∙ ap (λ (n : Name). content contents (Tuple n tid)) (sym same) ∙ none tid
      | inr not_on ↦ off (Tuple name tid) not_on
    ]
