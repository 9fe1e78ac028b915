-- The columns of an index, of which one is changed at one number.
use Rattle.std.proofs.Common.{◌≡◌, ◌≢◌, inl, inr, ℕ, ◌+◌, ◌<◌, ◌≤◌, List, [], ◌∷◌, ◌++◌, length, set, replicate, refl, sym, ◌∙◌, ap, subst, arith, cond, zero, suc, ◌-◌, length-set, get_or-set_same, get_or-set_other}
use Rattle.std.specs.Prelude.{Option, Some, None, is_some, IsSome, IfSome, IfNone, count_by, slice_index_or}
use Rattle.std.specs.List.{All, sum_by}
use Rattle.std.proofs.lemmas.Bool.{cases_eq, cases_lt, false≢true, true_from_ne_false}
use Rattle.std.proofs.lemmas.List.{get_or_read, get_or-replicate, get_or_past, length-replicate, replicate_more}
use Rattle.std.proofs.lemmas.List.Sums.{sum_by-set, sum_by-cons, get_or-le-sum_by}
use Rattle.std.proofs.lemmas.List.Elements.{All-head, All-tail, All-from_get_or}
use Rattle.rss_base.specs.PageMap.{IsKey, IsSegmentOf, number_limit}
use Rattle.rss_base.specs.declared.key.Space.{Space}
use Rattle.rss_base.specs.declared.key.Space.TheVariants.{Home, Overflow, Image, System}
use Rattle.rss_base.specs.declared.key.PageKey.{PageKey}
use Rattle.rss_base.specs.Paged.{page_key, IsFirstFrom, NoneFrom}
use Rattle.rss_shadow.specs.Index.{Columns, column_at, slot_in, numbers_of, pages_in, AreColumns, PutsSlot, HasSlot, LacksSlot, IsIndexed, IsUnindexed}
use Rattle.rss_shadow.proofs.Firsts.{first_told, none_told}
use Rattle.rss_shadow.proofs.Mapped.{HasSlot-within, none_at}

-- a column belongs to one space of one segment
pub column_at-injective : (s t : Space) (a b : ℕ) → IsSegmentOf s a → IsSegmentOf t b → column_at s a ≡ column_at t b → (s ≡ t) × (a ≡ b)
column_at-injective Home Home a b p q is = (refl, is)
column_at-injective Overflow Overflow a b p q is = (refl, omega arith)
column_at-injective Image Image a b p q is = (refl, omega arith)
column_at-injective System System a b p q is = (refl, p ∙ sym q)
column_at-injective _ _ a b p q is = absurd (omega arith)

pub same_key : (key other : PageKey) → (key.space ≡ other.space) × (key.segment ≡ other.segment) → key.number ≡ other.number → key ≡ other
same_key key other is number = λ i. record { segment = is.1 i; space = is.0 i; number = number i }

pub column_at-within : (columns : Columns) (key : PageKey) → AreColumns columns → IsKey (numbers_of columns) key → (column_at key.space key.segment < 25) × (key.number < length (slice_index_or columns (column_at key.space key.segment) []))
column_at-within columns key are is = within key.space key.segment key.number is.segment is.number
  where
    within : (space : Space) (segment number : ℕ) → IsSegmentOf space segment → number < number_limit (numbers_of columns) space → (column_at space segment < 25) × (number < length (slice_index_or columns (column_at space segment) []))
    within Home segment number p q = (omega arith, omega (arith, are.others segment (omega arith) (omega arith)))
    within Overflow segment number p q = (omega arith, omega (arith, are.others (8 + segment) (omega arith) (omega arith)))
    within Image segment number p q = (omega arith, omega (arith, are.others (16 + segment) (omega arith) (omega arith)))
    within System segment number p q = (omega arith, omega (arith, are.system))

-- one column is changed at one number
abbrev pub changed : Columns → ℕ → ℕ → Option ℕ → Columns
changed columns c number slot = set columns c (set (slice_index_or columns c []) number slot)

abbrev none : Option ℕ
none = None

count_by_one : (slot : Option ℕ) → count_by is_some (slot ∷ []) ≡ cond (is_some slot) 1 0
count_by_one slot = omega arith

module _ (columns : Columns) (c number : ℕ) (slot : Option ℕ) (c_in : c < length columns) where
  changed-length : (d : ℕ) → length (slice_index_or (changed columns c number slot) d []) ≡ length (slice_index_or columns d [])
  changed-length d = elim (cases_eq d c) [
    | inl same ↦ ap (λ (e : ℕ). length (slice_index_or (changed columns c number slot) e [])) same
        ∙ ap length (get_or-set_same columns c (set (slice_index_or columns c []) number slot) [] c_in)
        ∙ length-set (slice_index_or columns c []) number slot
        ∙ ap (λ (e : ℕ). length (slice_index_or columns e [])) (sym same)
    | inr apart ↦ ap length (get_or-set_other columns c d (set (slice_index_or columns c []) number slot) [] apart)
  ]

  changed_here : number < length (slice_index_or columns c []) → slice_index_or (slice_index_or (changed columns c number slot) c []) number None ≡ slot
  changed_here within = ap (λ (column : List (Option ℕ)). slice_index_or column number None) (get_or-set_same columns c (set (slice_index_or columns c []) number slot) [] c_in)
      ∙ get_or-set_same (slice_index_or columns c []) number slot None within

  changed_other : (d other : ℕ) → (d ≡ c → other ≡ number → ⊥) → slice_index_or (slice_index_or (changed columns c number slot) d []) other None ≡ slice_index_or (slice_index_or columns d []) other None
  changed_other d other apart = elim (cases_eq d c) [
    | inl same ↦ ap (λ (e : ℕ). slice_index_or (slice_index_or (changed columns c number slot) e []) other None) same
        ∙ ap (λ (column : List (Option ℕ)). slice_index_or column other None) (get_or-set_same columns c (set (slice_index_or columns c []) number slot) [] c_in)
        ∙ get_or-set_other (slice_index_or columns c []) number other slot None (apart same)
        ∙ ap (λ (e : ℕ). slice_index_or (slice_index_or columns e []) other None) (sym same)
    | inr off ↦ ap (λ (column : List (Option ℕ)). slice_index_or column other None) (get_or-set_other columns c d (set (slice_index_or columns c []) number slot) [] off)
  ]

  changed-pages : number < length (slice_index_or columns c []) → pages_in (changed columns c number slot) + cond (is_some (slice_index_or (slice_index_or columns c []) number None)) 1 0 ≡ pages_in columns + cond (is_some slot) 1 0
  changed-pages within =
      let one = sum_by-set (λ (o : Option ℕ). cond (is_some o) 1 0) (slice_index_or columns c []) number slot None within in
      let all = sum_by-set (λ (column : List (Option ℕ)). count_by is_some column) columns c (set (slice_index_or columns c []) number slot) [] c_in in
      omega (arith, one, all)

-- a page of a map gets this slot or loses the one that it had
pub PutsSlot-changed : (columns : Columns) (key : PageKey) (slot : Option ℕ) → AreColumns columns → IsKey (numbers_of columns) key → PutsSlot columns (changed columns (column_at key.space key.segment) key.number slot) key slot
PutsSlot-changed columns key slot are is =
    let within = column_at-within columns key are is in
    let c_in : column_at key.space key.segment < length columns = omega (arith, within.0, are.count) in
    record {
      numbers = changed-length columns _ key.number slot c_in 1;
      here = changed_here columns _ key.number slot c_in within.1;
      others = λ other also apart. changed_other columns _ key.number slot c_in (column_at other.space other.segment) other.number
          (λ place number. apart (same_key other key (column_at-injective _ _ _ _ also.segment is.segment place) number));
      pages = omega (arith, changed-pages columns _ key.number slot c_in within.1, count_by_one slot, count_by_one (slot_in columns key));
    }

-- the same, as the code does it
pub PutsSlot-put : (old columns : Columns) (key : PageKey) (slot : Option ℕ) (c : ℕ) (was now : List (Option ℕ)) → columns ≡ old → AreColumns columns → IsKey (numbers_of old) key → c ≡ column_at key.space key.segment → was ≡ slice_index_or columns c was → now ≡ set was key.number slot → PutsSlot old (set columns c now) key slot
PutsSlot-put old columns key slot c was now view are is place read put =
    let is_there : IsKey (numbers_of columns) key = subst (λ (o : Columns). IsKey (numbers_of o) key) (sym view) is in
    let c_in : c < length columns = omega (arith, (column_at-within columns key are is_there).0, are.count) in
    let same : changed columns (column_at key.space key.segment) key.number slot ≡ set columns c now =
    ap (λ (d : ℕ). changed columns d key.number slot) (sym place)
    ∙ ap (λ (column : List (Option ℕ)). set columns c (set column key.number slot)) (sym (get_or_read columns c was c_in read []))
    ∙ ap (set columns c) (sym put) in
    subst (λ (o : Columns). PutsSlot o (set columns c now) key slot) view (subst (λ (n : Columns). PutsSlot columns n key slot) same (PutsSlot-changed columns key slot are is_there))

-- a list whose elements are all there has as many as it is long
pub count_by_all : (slots : List (Option ℕ)) → All IsSome slots → length slots ≤ count_by is_some slots
count_by_all [] all = omega arith
count_by_all (None ∷ xs) all = absurd (false≢true (All-head IsSome None xs all))
count_by_all (Some slot ∷ xs) all = omega (arith, count_by_all xs (All-tail IsSome (Some slot) xs all), sum_by-cons (λ (o : Option ℕ). cond (is_some o) 1 0) (Some slot) xs)

-- a column that is full has no more numbers than there are pages
pub full_column : (columns : Columns) (c : ℕ) → c < length columns → All IsSome (slice_index_or columns c []) → length (slice_index_or columns c []) ≤ pages_in columns
full_column columns c within all = omega (arith, count_by_all _ all, get_or-le-sum_by (λ (column : List (Option ℕ)). count_by is_some column) columns c [] within)

-- ---- the column of a space in a segment, as it was read
abbrev slot_at : List (Option ℕ) → ℕ → Option ℕ
slot_at column number = slice_index_or column number None

column_place : (space : Space) (segment : ℕ) → 1 ≤ segment → segment ≤ 8 → space ≢ System → (0 < column_at space segment) × (column_at space segment < 25)
column_place Home segment low high apart = (omega arith, omega arith)
column_place Overflow segment low high apart = (omega arith, omega arith)
column_place Image segment low high apart = (omega arith, omega arith)
column_place System segment low high apart = absurd (apart refl)

module _ {columns : Columns} {space : Space} {segment c : ℕ} {was : List (Option ℕ)} (are : AreColumns columns) (low : 1 ≤ segment) (high : segment ≤ 8) (apart : space ≢ System) (place : c ≡ column_at space segment) (read : was ≡ slice_index_or columns c was) where
  column_read : was ≡ slice_index_or columns (column_at space segment) []
  column_read =
      let there = column_place space segment low high apart in
      let within : c < length columns = omega (arith, are.count) in
      get_or_read columns c was within read [] ∙ ap (λ (d : ℕ). slice_index_or columns d []) place

  column_long : length was ≡ numbers_of columns
  column_long = let there = column_place space segment low high apart in ap length column_read ∙ are.others (column_at space segment) there.0 there.1

  slot_read : (number : ℕ) → slot_at was number ≡ slot_in columns (page_key segment space number)
  slot_read number = ap (λ (column : List (Option ℕ)). slot_at column number) column_read

  has_indexed : (number : ℕ) → HasSlot was number → IsIndexed columns segment space number
  has_indexed number is = record {
    within = omega (arith, HasSlot-within was number is, column_long);
    has = sym (ap is_some (slot_read number)) ∙ is;
  }

  indexed_has : (number : ℕ) → IsIndexed columns segment space number → HasSlot was number
  indexed_has number is = ap is_some (slot_read number) ∙ is.has

  lacks_unindexed : (number : ℕ) → LacksSlot was number → IsUnindexed columns segment space number
  lacks_unindexed number is = record {
    within = omega (arith, is.within, column_long);
    lacks = sym (slot_read number) ∙ is.lacks;
  }

  unindexed_lacks : (number : ℕ) → IsUnindexed columns segment space number → LacksSlot was number
  unindexed_lacks number is = record {
    within = omega (arith, is.within, column_long);
    lacks = slot_read number ∙ is.lacks;
  }

  pub first_indexed_told : (from : ℕ) (result : Option ℕ) → IfSome result (IsFirstFrom (HasSlot was) from) → IfSome result (IsFirstFrom (IsIndexed columns segment space) from)
  first_indexed_told from result = first_told from result has_indexed indexed_has

  pub none_indexed_told : (from : ℕ) (result : Option ℕ) → IfNone result (NoneFrom (HasSlot was) from) → IfNone result (NoneFrom (IsIndexed columns segment space) from)
  none_indexed_told from result = none_told (HasSlot was) (IsIndexed columns segment space) from result indexed_has

  pub first_unindexed_told : (from : ℕ) (result : Option ℕ) → IfSome result (IsFirstFrom (LacksSlot was) from) → IfSome result (IsFirstFrom (IsUnindexed columns segment space) from)
  first_unindexed_told from result = first_told from result lacks_unindexed unindexed_lacks

  pub none_unindexed_told : (from : ℕ) (result : Option ℕ) → IfNone result (NoneFrom (LacksSlot was) from) → IfNone result (NoneFrom (IsUnindexed columns segment space) from)
  none_unindexed_told from result = none_told (LacksSlot was) (IsUnindexed columns segment space) from result unindexed_lacks

-- ---- what the first page without a slot tells
module _ (columns : Columns) (space : Space) (segment : ℕ) where
  pub free_within : (result : Option ℕ) → IfSome result (IsFirstFrom (IsUnindexed columns segment space) 0) → IfSome result (λ number. number < numbers_of columns)
  free_within None first = tt
  free_within (Some number) first = first.has.within

  pub free_lacks : (result : Option ℕ) → IfSome result (IsFirstFrom (IsUnindexed columns segment space) 0) → IfSome result (λ number. slot_in columns (page_key segment space number) ≡ None)
  free_lacks None first = tt
  free_lacks (Some number) first = first.has.lacks

  indexed_before : (k : ℕ) → k < numbers_of columns → (IsUnindexed columns segment space k → ⊥) → IsSome (slot_in columns (page_key segment space k))
  indexed_before k within not = true_from_ne_false _ (λ is. not (record { within = within; lacks = none_at _ is }))

  pub lesser_indexed : (result : Option ℕ) → IfSome result (IsFirstFrom (IsUnindexed columns segment space) 0) → IfSome result (λ number. (k : ℕ) → k < number → IsSome (slot_in columns (page_key segment space k)))
  lesser_indexed None first = tt
  lesser_indexed (Some number) first = λ k before. indexed_before k (omega (arith, first.has.within)) (first.none_before k (omega arith) before)

  -- where there is none, there are as many pages as numbers
  pub none_full : AreColumns columns → 1 ≤ segment → segment ≤ 8 → space ≢ System → (result : Option ℕ) → IfNone result (NoneFrom (IsUnindexed columns segment space) 0) → IfNone result (numbers_of columns ≤ pages_in columns)
  none_full are low high apart (Some number) none = tt
  none_full are low high apart None none =
      let c : ℕ = column_at space segment in
      let there = column_place space segment low high apart in
      let long = are.others c there.0 there.1 in
      let all = All-from_get_or IsSome (slice_index_or columns c []) None (λ k below. indexed_before k (omega (arith, long)) (none k (omega arith))) in
      omega (arith, long, full_column columns c (omega (arith, are.count)) all)

-- ---- an index of no page

abbrev pub empty_columns : ℕ → ℕ → Columns
empty_columns slots others = replicate 10 None ∷ replicate others (replicate slots None)

pub empty_columns_more : (slots done : ℕ) → 1 ≤ done → empty_columns slots (done - 1) ++ replicate slots None ∷ [] ≡ empty_columns slots (done + 1 - 1)
empty_columns_more slots done some =
    ap (λ (rest : Columns). replicate 10 None ∷ rest) (replicate_more (done - 1) (replicate slots None) ∙ ap (λ (n : ℕ). replicate n (replicate slots None)) (omega arith))

none_there : (n number : ℕ) → slice_index_or (replicate n None) number None ≡ none
none_there n number = elim (cases_lt number n) [
  | inl within ↦ get_or-replicate n number None None within
  | inr past ↦ get_or_past (replicate n None) number None (omega (arith, length-replicate n none))
]

empty_column : (slots others c number : ℕ) → slice_index_or (slice_index_or (empty_columns slots others) c []) number None ≡ none
empty_column slots others zero number = none_there 10 number
empty_column slots others (suc c) number = elim (cases_lt c others) [
  | inl within ↦ ap (λ (column : List (Option ℕ)). slice_index_or column number None) (get_or-replicate others c (replicate slots None) [] within) ∙ none_there slots number
  | inr past ↦ ap (λ (column : List (Option ℕ)). slice_index_or column number None) (get_or_past (replicate others (replicate slots None)) c [] (omega (arith, length-replicate others (replicate slots none))))
]

sum_by-replicate : {X : Type 0} (f : X → ℕ) (n : ℕ) (x : X) → f x ≡ 0 → sum_by f (replicate n x) ≡ 0
sum_by-replicate f zero x is = refl
sum_by-replicate f (suc n) x is = sum_by-cons f x (replicate n x) ∙ omega (arith, is, sum_by-replicate f n x is)

pub slot_in-empty : (slots others : ℕ) (key : PageKey) → slot_in (empty_columns slots others) key ≡ None
slot_in-empty slots others key = empty_column slots others (column_at key.space key.segment) key.number

pub pages_in-empty : (slots others : ℕ) → pages_in (empty_columns slots others) ≡ 0
pages_in-empty slots others =
    let count : (column : List (Option ℕ)) → ℕ = λ column. count_by is_some column in
    let all : pages_in (empty_columns slots others) ≡ 0 + sum_by count (replicate others (replicate slots None)) = sum_by-cons count (replicate 10 None) (replicate others (replicate slots None)) in
    let rest = sum_by-replicate count others (replicate slots None) (sum_by-replicate (λ (o : Option ℕ). cond (is_some o) 1 0) slots None refl) in
    omega (arith, all, rest)

pub length-empty_columns : (slots others : ℕ) → length (empty_columns slots others) ≡ others + 1
length-empty_columns slots others = omega (arith, length-replicate others (replicate slots none))

pub numbers_of-empty : (slots others : ℕ) → 0 < others → numbers_of (empty_columns slots others) ≡ slots
numbers_of-empty slots others some = ap length (get_or-replicate others 0 (replicate slots none) [] some) ∙ length-replicate slots none

pub AreColumns-empty : (slots : ℕ) → AreColumns (empty_columns slots 24)
AreColumns-empty slots = record {
  count = refl;
  system = refl;
  others = all;
}
  where
    all : (c : ℕ) → 0 < c → c < 25 → length (slice_index_or (empty_columns slots 24) c []) ≡ numbers_of (empty_columns slots 24)
    all zero some within = absurd (omega arith)
    all (suc c) some within = ap length (get_or-replicate 24 c (replicate slots none) [] (omega arith))
