-- Identifiers for new tuples: the machine's test of them, and what it says.
use Rattle.std.proofs.Common.{◌≡◌, ◌≢◌, ◌⊎◌, inl, inr, ℕ, ◌<◌, Bool, true, false, List, [], ◌∷◌, get_or, refl, sym, ◌∙◌, ap, arith}
use Rattle.std.specs.Prelude.{Option, Some, None, is_some, is_none, option_map, unwrap_or, filter, not, ◌&&◌, ◌==◌}
use Rattle.std.specs.Ordering.{eq_by_cmp}
use Rattle.std.specs.Cmp.{Equal-is}
use Rattle.std.specs.FinMap as map
use Rattle.std.specs.FinMap.{contains_key-keys}
use Rattle.std.specs.List.{range_with_len, list_any, list_all}
use Rattle.std.proofs.lemmas.Bool.{true≢false, cases_Bool, and_parts, and_from, or_cases, cond-true, cond-false, false_from_ne_true, not-true, ne_eqb, eq-eqb}
use Rattle.std.proofs.lemmas.List.Folds.{list_any_at, Any-from_list_any}
use Rattle.std.proofs.lemmas.List.FromFn.{get_or-range_with_len, length-range_with_len}
use Rattle.rss_base.specs.declared.name.Name.{Name}
use Rattle.rss_base.specs.declared.tid.Tid.{Tid}
use Rattle.rss_base.specs.declared.item.Item.TheVariants.{Tuple}
use Rattle.rss_base.specs.Sizes.{page_entries}
use Rattle.rss_model.specs.Items.{name_cmp}
use Rattle.rss_model.specs.Tables.{RelationDef, Tables, content, fields_of, segment_of}
use Rattle.rss_base.specs.TupleTypes.{kinds}
use Rattle.rss_model.specs.Fits.{IsIdentifier}
use Rattle.rss_model.specs.Meter.{is_in_segment, relations_in}
use Rattle.rss_model.specs.Machine.{State, now}
use Rattle.rss_base.specs.declared.item.Item.{Item}
use Rattle.rss_base.specs.declared.need.Mode.{Mode}
use Rattle.rss_model.specs.Items.{is_item}
use Rattle.rss_model.specs.Locks.{Claim, claim, Locks, held, is_held_by_another}
use Rattle.rss_model.specs.Steps.{IsFree, is_free, FreeIsFound}
use Rattle.rss_model.specs.Refusals.{is_clear, some_free}
use Rattle.rss_model.proofs.Codes.{name_apart}
use Rattle.rss_model.proofs.Contents.{tied, same_item_of}
use Rattle.rss_model.proofs.Codes.{name_total, item_total, item_apart}
use Rattle.rss_model.proofs.Locking.{claim_total, claim_apart, in_entries, any_in, in_any}
use Rattle.rss_model.proofs.SeenAlike.{got_in}

-- ---- tests of ranges and of filtered lists

pub any_below : (test : ℕ → Bool) (n k : ℕ) → k < n → test k ≡ true → list_any test (range_with_len 0 n) ≡ true
any_below test n k lt passes =
    let here : get_or (range_with_len 0 n) k 0 ≡ k = omega (arith, get_or-range_with_len 0 n k 0 lt) in
    list_any_at test (range_with_len 0 n) k 0 (omega (arith, length-range_with_len 0 n)) (ap test here ∙ passes)

pub some_below : (test : ℕ → Bool) (n : ℕ) → list_any test (range_with_len 0 n) ≡ true → (k : ℕ) × (k < n) × (test k ≡ true)
some_below test n any =
    let some = Any-from_list_any test (range_with_len 0 n) any in
    let low : some.0 < n = omega (arith, some.2, length-range_with_len 0 n) in
    (some.1, omega (arith, low, some.3, get_or-range_with_len 0 n some.0 some.1 low), some.4)

-- what all of a filtered list pass
pub all_kept : {K : Type 0} (test pass : K → Bool) (list : List K) → ((k : K) → test k ≡ true → pass k ≡ true) → list_all pass (filter test list) ≡ true
all_kept test pass [] each = refl
all_kept test pass (k ∷ list) each = elim (cases_Bool (test k)) [
  | inl is ↦ ap (list_all pass) (cond-true (test k) (k ∷ filter test list) (filter test list) is) ∙ and_from (pass k) _ (each k is) (all_kept test pass list each)
  | inr off ↦ ap (list_all pass) (cond-false (test k) (k ∷ filter test list) (filter test list) off) ∙ all_kept test pass list each
]

-- a list of which none is kept
pub none_kept : {K : Type 0} (test : K → Bool) (list : List K) → ((k : K) → test k ≡ false) → filter test list ≡ []
none_kept test [] none = refl
none_kept test (k ∷ list) none = cond-false (test k) (k ∷ filter test list) (filter test list) (none k) ∙ none_kept test list none

-- a name of the list passes, where it is kept
pub kept_passes : (test pass : Name → Bool) (list : List Name) (name : Name) → list_all pass (filter test list) ≡ true → list_any (eq_by_cmp name_cmp name) list ≡ true → test name ≡ true → pass name ≡ true
kept_passes test pass [] name all there is = absurd (cc)
kept_passes test pass (k ∷ list) name all there is = elim (or_cases (eq_by_cmp name_cmp name k) (list_any (eq_by_cmp name_cmp name) list) there) [
  | inl same ↦
      let here : name ≡ k = name_apart name k ((Equal-is (name_cmp name k)).0 same) in
      let kept = cond-true (test k) (k ∷ filter test list) (filter test list) (ap test (sym here) ∙ is) in
      ap pass here ∙ (and_parts (pass k) _ (ap (list_all pass) (sym kept) ∙ all)).0
  | inr later ↦ kept_passes test pass list name (rest (cases_Bool (test k))) later is
]
  where
    rest : (test k ≡ true) ⊎ (test k ≡ false) → list_all pass (filter test list) ≡ true
    rest (inl on) = (and_parts (pass k) _ (ap (list_all pass) (sym (cond-true (test k) (k ∷ filter test list) (filter test list) on)) ∙ all)).1
    rest (inr off) = ap (list_all pass) (sym (cond-false (test k) (k ∷ filter test list) (filter test list) off)) ∙ all

-- ---- the relations of a segment

pub in_segment : (tables : Tables) (segment name : Name) → is_in_segment tables segment name ≡ true → segment_of tables name ≡ Some segment
in_segment tables segment name = by (segment_of tables name)
  where
    by : (found : Option Name) → unwrap_or (option_map (eq_by_cmp name_cmp segment) found) false ≡ true → found ≡ Some segment
    by None is = absurd (cc)
    by (Some other) is = ap Some (sym (name_apart segment other ((Equal-is (name_cmp segment other)).0 is)))

pub stands_in : (tables : Tables) (segment name : Name) → segment_of tables name ≡ Some segment → is_in_segment tables segment name ≡ true
stands_in tables segment name is = ap (λ (o : Option Name). unwrap_or (option_map (eq_by_cmp name_cmp segment) o) false) is ∙ tied name_total name_apart segment

-- a relation that stands in a segment is defined
pub stands_defined : (tables : Tables) (segment name : Name) → segment_of tables name ≡ Some segment → is_some (map.get tables.definitions.relations name) ≡ true
stands_defined tables segment name is = by (map.get tables.definitions.relations name) is
  where
    by : (found : Option RelationDef) → option_map (λ relation. relation.segment) found ≡ Some segment → is_some found ≡ true
    by None is = absurd (cc)
    by (Some relation) is = refl

pub is_listed : (tables : Tables) (segment name : Name) → segment_of tables name ≡ Some segment → list_any (eq_by_cmp name_cmp name) (map.keys tables.definitions.relations) ≡ true
is_listed tables segment name is = sym (contains_key-keys tables.definitions.relations name) ∙ stands_defined tables segment name is

-- ---- one identifier

is_none-of : {A : Type 0} (o : Option A) → is_none o ≡ true → o ≡ None
is_none-of None is = refl
is_none-of (Some a) is = absurd (cc)

-- ---- who holds an item

module _ (locks : Locks) (t : ℕ) (item : Item) where
  abbrev others_hold : Claim × Mode → Bool
  others_hold lock = not (lock.0.by == t) && is_item lock.0.item item

  -- where the test fails, no other transaction holds it
  held_by_none : is_held_by_another locks t item ≡ false → (u : ℕ) → u ≢ t → held locks u item ≡ None
  held_by_none none u apart = by (held locks u item) refl
    where
      by : (found : Option Mode) → held locks u item ≡ found → found ≡ None
      by None is = refl
      by (Some mode) is =
          let passes : others_hold (claim u item, mode) ≡ true = and_from (not (u == t)) (is_item item item) (ap not (ne_eqb u t apart)) (tied item_total item_apart item) in
          absurd (true≢false (sym (in_any others_hold (map.entries locks) (claim u item, mode) (in_entries claim_apart locks (claim u item) mode is) passes) ∙ none))

  -- and it fails where none does
  not_held : ((u : ℕ) → u ≢ t → held locks u item ≡ None) → is_held_by_another locks t item ≡ false
  not_held none = false_from_ne_true _ (λ any.
      let at = any_in others_hold (map.entries locks) any in
      let lock : Claim × Mode = at.0 in
      let parts = and_parts (not (lock.0.by == t)) (is_item lock.0.item item) at.2 in
      let same : lock.0.item ≡ item = same_item_of lock.0.item item parts.1 in
      let there : map.get locks lock.0 ≡ Some lock.1 = got_in claim_total claim_apart locks lock.0 lock.1 at.1 in
      let its : held locks lock.0.by item ≡ Some lock.1 = ap (held locks lock.0.by) (sym same) ∙ there in
      let apart : lock.0.by ≢ t = λ is. true≢false (sym parts.0 ∙ ap not (eq-eqb lock.0.by t is)) in
      let clash : Some lock.1 ≡ None = sym its ∙ none lock.0.by apart in
      cc)

-- ---- the test

module _ (state : State) (t : ℕ) (tid : Tid) (other : Name) where
  clear : content (now state).contents (Tuple other tid) ≡ None → ((u : ℕ) → u ≢ t → held state.locks u (Tuple other tid) ≡ None) → is_clear state t tid other ≡ true
  clear absent alone = and_from (is_none (content (now state).contents (Tuple other tid))) (not (is_held_by_another state.locks t (Tuple other tid))) (ap is_none absent) (ap not (not_held state.locks t (Tuple other tid) alone))

  cleared : is_clear state t tid other ≡ true → (content (now state).contents (Tuple other tid) ≡ None) × ((u : ℕ) → u ≢ t → held state.locks u (Tuple other tid) ≡ None)
  cleared is =
      let parts = and_parts (is_none (content (now state).contents (Tuple other tid))) (not (is_held_by_another state.locks t (Tuple other tid))) is in
      (is_none-of _ parts.0, held_by_none state.locks t (Tuple other tid) (not-true _ parts.1))

module _ (state : State) (t : ℕ) (relation : Name) where
  -- a free identifier passes it, whether the relation is defined or not
  pub some_free_is : (tid : Tid) → IsFree state t relation tid → some_free state t relation ≡ true
  unfolding some_free
  some_free_is tid free =
      any_below (λ page. list_any (λ slot. is_free state t relation (record { page = page; slot = slot })) (range_with_len 0 page_entries)) state.size.slots tid.page free.within.page
      (any_below (λ slot. is_free state t relation (record { page = tid.page; slot = slot })) page_entries tid.slot free.within.slot
      (none_beside (segment_of state.base relation) refl))
    where
      none_beside : (segment : Option Name) → segment_of state.base relation ≡ segment → list_all (is_clear state t tid) (unwrap_or (option_map (relations_in state.base) segment) []) ≡ true
      none_beside None is = refl
      none_beside (Some segment) is = all_kept (is_in_segment state.base segment) (is_clear state t tid) (map.keys state.base.definitions.relations) (λ other within.
          let same = in_segment state.base segment other within ∙ sym is in
          clear state t tid other (free.absent other same) (λ u apart. free.alone other u same apart))

-- of a relation that is defined, what the test finds is free
module _ (state : State) (t : ℕ) (relation : Name) (tid : Tid) (within : IsIdentifier state.size.slots tid) (segment : Name) (stands : segment_of state.base relation ≡ Some segment) (passes : is_free state t relation tid ≡ true) where
  beside : list_all (is_clear state t tid) (relations_in state.base segment) ≡ true
  beside = ap (λ (o : Option Name). list_all (is_clear state t tid) (unwrap_or (option_map (relations_in state.base) o) [])) (sym stands) ∙ passes

  each_cleared : (other : Name) → segment_of state.base other ≡ segment_of state.base relation → is_clear state t tid other ≡ true
  each_cleared other same = kept_passes (is_in_segment state.base segment) (is_clear state t tid) (map.keys state.base.definitions.relations) other beside
      (is_listed state.base segment other (same ∙ stands)) (stands_in state.base segment other (same ∙ stands))

  is_free_here : IsFree state t relation tid
  is_free_here = record {
    within = within;
    absent = λ other same. (cleared state t tid other (each_cleared other same)).0;
    alone = λ other u same apart. (cleared state t tid other (each_cleared other same)).1 u apart;
  }

-- where the test passes, there is one
pub free_there : (state : State) (t : ℕ) (relation : Name) → is_some (fields_of state.base relation) ≡ true → some_free state t relation ≡ true → (tid : Tid) × IsFree state t relation tid
unfolding some_free
free_there state t relation defined some =
    let page = some_below (λ page. list_any (λ slot. is_free state t relation (record { page = page; slot = slot })) (range_with_len 0 page_entries)) state.size.slots some in
    let slot = some_below (λ slot. is_free state t relation (record { page = page.0; slot = slot })) page_entries page.2 in
    let stands = segment_there (map.get state.base.definitions.relations relation) defined in
    (record { page = page.0; slot = slot.0 }, is_free_here state t relation (record { page = page.0; slot = slot.0 }) (record { page = page.1; slot = slot.1 }) stands.0 stands.1 slot.2)
  where
    segment_there : (found : Option RelationDef) → is_some (option_map (λ relation. kinds relation.fields) found) ≡ true → (segment : Name) × (option_map (λ relation. relation.segment) found ≡ Some segment)
    segment_there None is = absurd (cc)
    segment_there (Some relation) is = (relation.segment, refl)

pub free_found : FreeIsFound
free_found state t relation defined = (free_there state t relation defined, λ free. some_free_is state t relation free.0 free.1)
