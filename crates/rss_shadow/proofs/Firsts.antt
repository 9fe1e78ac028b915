-- Lemmas on the first number from one on that isn't in use.
use Rattle.std.proofs.Common.{◌≡◌, ℕ, ◌+◌, ◌-◌, ◌*◌, ◌/◌, ◌%◌, ◌^◌, ◌<◌, ◌≤◌, inl, inr, Bool, true, false, List, length, slice_index, get_or, w64, sym, ◌∙◌, ap, arith, Option, Some, None}
use Rattle.std.specs.Prelude.{IfSome, IfNone, is_some}
use Rattle.std.specs.Int.{bit_at, trailing_ones}
use Rattle.std.proofs.lemmas.Bool.{cases_eq, cases_lt, eq-eqb, ne_eqb, eqb-true, eqb-false, true≢false}
use Rattle.std.proofs.lemmas.List.{get_or_past}
use Rattle.std.proofs.lemmas.Nat.Bits.{bit_at_ones, bit_at-trailing_ones, same_from_bits_below}
use Rattle.rss_base.specs.Paged.{IsFirstFrom, NoneFrom}
use Rattle.rss_shadow.specs.Numbers.{is_set, in_use, AreBits, TellFull, IsAbsent, IsClear, IsOpen, IsSetOn}
use Rattle.rss_shadow.proofs.Bits.{length_in_use, at_in_use, is_set_at, full_word, clear_bit, ones_of_full}

-- ---- properties that the same numbers have
pub first_of : {P Q : ℕ → Type 0} {from number : ℕ} → ((k : ℕ) → P k → Q k) → ((k : ℕ) → Q k → P k) → IsFirstFrom P from number → IsFirstFrom Q from number
first_of {number = number} to back first = record {
  later = first.later;
  has = to number first.has;
  none_before = λ k later before is. first.none_before k later before (back k is);
}

pub first_told : {P Q : ℕ → Type 0} (from : ℕ) (result : Option ℕ) → ((k : ℕ) → P k → Q k) → ((k : ℕ) → Q k → P k) → IfSome result (IsFirstFrom P from) → IfSome result (IsFirstFrom Q from)
first_told from None to back first = tt
first_told from (Some number) to back first = first_of to back first

pub none_told : (P Q : ℕ → Type 0) (from : ℕ) (result : Option ℕ) → ((k : ℕ) → Q k → P k) → IfNone result (NoneFrom P from) → IfNone result (NoneFrom Q from)
none_told P Q from None back none = λ k later is. none k later (back k is)
none_told P Q from (Some number) back none = tt

-- ---- what an answer tells
pub at_none : (result : Option ℕ) {P : Type 0} → is_some result ≡ false → IfNone result P → P
at_none None is none = none
at_none (Some number) is none = absurd (true≢false is)

-- ---- in one word
module _ (words : List ℕ) (from value : ℕ) (there : from / 64 < length words) (fits : value < 2 ^ 64) (below : (i : ℕ) → i < from % 64 → bit_at value i ≡ 1) (others : (i : ℕ) → from % 64 ≤ i → i < 64 → bit_at value i ≡ bit_at (slice_index words (from / 64)) i) where
  set_there : (number : ℕ) → from ≤ number → number / 64 ≡ from / 64 → bit_at value (number % 64) ≡ 1 → is_set words number ≡ true
  set_there number later same set = eq-eqb _ _ (ap (λ w. bit_at (slice_index words w) (number % 64)) same ∙ sym (others (number % 64) (omega arith) (omega arith)) ∙ set)

  pub first_in_word : trailing_ones w64 value < 64 → IsFirstFrom (IsClear words) from (from / 64 * 64 + trailing_ones w64 value)
  first_in_word short =
      let bit = trailing_ones w64 value in
      let some_clear = cases_eq value (2 ^ 64 - 1) in
      let ones = bit_at-trailing_ones w64 value (elim some_clear [
        | inl full ↦ absurd (omega (arith, ap (trailing_ones w64) full, ones_of_full))
        | inr apart ↦ omega arith
      ]) in
      let later : from % 64 ≤ bit = elim (cases_lt bit (from % 64)) [
        | inl before ↦ absurd (omega (arith, below bit before, ones.1))
        | inr behind ↦ behind
      ] in
      record {
        later = omega arith;
        has = record {
          within = omega arith;
          clear = is_set_at words (from / 64) bit short ∙ clear_bit _ _ (sym (others bit later short) ∙ ones.1);
        };
        none_before = λ k after before clear.
            let same : k / 64 ≡ from / 64 = omega arith in
            true≢false (sym (set_there k after same (ones.2 (k % 64) (omega arith))) ∙ clear.clear);
      }

  pub none_in_word : 64 ≤ trailing_ones w64 value → IsSetOn words from
  none_in_word long =
      let full : value ≡ 2 ^ 64 - 1 = elim (cases_eq value (2 ^ 64 - 1)) [
        | inl full ↦ full
        | inr apart ↦ absurd (omega (arith, bit_at-trailing_ones w64 value (omega arith)))
      ] in
      λ number later same within. set_there number later same (ap (λ v. bit_at v (number % 64)) full ∙ bit_at_ones 64 (number % 64) (omega arith))

-- ---- in a word or in those behind
open_from_clear : (words : List ℕ) (number : ℕ) → IsClear words number → IsOpen words (number / 64)
open_from_clear words number is = record {
  within = omega (arith, is.within);
  lacks = λ full. true≢false (sym (full_word words number full) ∙ is.clear);
}

full_from_set : (words : List ℕ) (word : ℕ) → word < length words → slice_index words word < 2 ^ 64 → IsSetOn words (word * 64) → slice_index words word ≡ 2 ^ 64 - 1
full_from_set words word within fits set =
    let ones : ℕ = 2 ^ 64 - 1 in
    let few : ones < 2 ^ 64 = omega arith in
    same_from_bits_below 64 (slice_index words word) ones fits few (λ i below.
    let number : ℕ = word * 64 + i in
    let same : number / 64 ≡ word * 64 / 64 = omega arith in
    eqb-true _ _ (sym (is_set_at words word i below) ∙ set number (omega arith) same (omega arith)) ∙ sym (bit_at_ones 64 i below))

module _ (words : List ℕ) (from : ℕ) (set : IsSetOn words from) where
  none_ahead : (word number : ℕ) → ((k : ℕ) → from / 64 + 1 ≤ k → k < word → IsOpen words k → ⊥) → from ≤ number → number < word * 64 → IsClear words number → ⊥
  none_ahead word number none later before is = elim (cases_eq (number / 64) (from / 64)) [
    | inl same ↦ true≢false (sym (set number later same is.within) ∙ is.clear)
    | inr apart ↦ none (number / 64) (omega arith) (omega arith) (open_from_clear words number is)
  ]

  pub none_behind : NoneFrom (IsOpen words) (from / 64 + 1) → NoneFrom (IsClear words) from
  none_behind none number later is = none_ahead (number / 64 + 1) number (λ k after before. none k after) later (omega arith) is

  module _ {word : ℕ} (first : IsFirstFrom (IsOpen words) (from / 64 + 1) word) (result : Option ℕ) where
    pub first_behind : IfSome result (IsFirstFrom (IsClear words) (word * 64)) → IfSome result (IsFirstFrom (IsClear words) from)
    first_behind = at result
      where
        at : (result : Option ℕ) → IfSome result (IsFirstFrom (IsClear words) (word * 64)) → IfSome result (IsFirstFrom (IsClear words) from)
        at None bit = tt
        at (Some number) bit = record {
          later = omega (arith, first.later, bit.later);
          has = bit.has;
          none_before = λ k later before is. elim (cases_lt k (word * 64)) [
            | inl ahead ↦ none_ahead word k first.none_before later ahead is
            | inr behind ↦ bit.none_before k behind before is
          ];
        }

    pub some_behind : slice_index words word < 2 ^ 64 → IfNone result (IsSetOn words (word * 64)) → IfNone result (NoneFrom (IsClear words) from)
    some_behind fits = at result
      where
        at : (result : Option ℕ) → IfNone result (IsSetOn words (word * 64)) → IfNone result (NoneFrom (IsClear words) from)
        at None full = absurd (first.has.lacks (full_from_set words word first.has.within fits full))
        at (Some number) full = tt

-- ---- one level and the next
module _ {words full : List ℕ} (tells : TellFull words full) (bits : AreBits (length words) full) where
  open_clear : (word : ℕ) → IsClear full word → IsOpen words word
  open_clear word is =
      let within : word < length words = elim (cases_lt word (length words)) [
        | inl below ↦ below
        | inr past ↦ absurd (true≢false (sym (bits.past word past is.within) ∙ is.clear))
      ] in
      record { within = within; lacks = eqb-false _ _ (sym (tells.tell word within) ∙ is.clear) }

  clear_open : (word : ℕ) → IsOpen words word → IsClear full word
  clear_open word is =
      let count = bits.count in
      record { within = omega (arith, is.within); clear = tells.tell word is.within ∙ ne_eqb _ _ is.lacks }

  pub first_open : (from : ℕ) (result : Option ℕ) → IfSome result (IsFirstFrom (IsClear full) from) → IfSome result (IsFirstFrom (IsOpen words) from)
  first_open from result = first_told from result open_clear clear_open

  pub none_open : (from : ℕ) (result : Option ℕ) → IfNone result (NoneFrom (IsClear full) from) → IfNone result (NoneFrom (IsOpen words) from)
  none_open from result = none_told (IsClear full) (IsOpen words) from result clear_open

-- ---- numbers that aren't in use
module _ {bound : ℕ} {words : List ℕ} {used : List Bool} (bits : AreBits bound words) (view : in_use bound words ≡ used) where
  long_used : length used ≡ bound
  long_used = ap length (sym view) ∙ length_in_use bound words

  read_used : (number : ℕ) → number < bound → get_or used number true ≡ is_set words number
  read_used number within = ap (λ (u : List Bool). get_or u number true) (sym view) ∙ at_in_use bound words number true within

  absent_clear : (number : ℕ) → IsClear words number → IsAbsent used number
  absent_clear number is = elim (cases_lt number bound) [
    | inl within ↦ read_used number within ∙ is.clear
    | inr past ↦ absurd (true≢false (sym (bits.past number past is.within) ∙ is.clear))
  ]

  clear_absent : (number : ℕ) → IsAbsent used number → IsClear words number
  clear_absent number is = elim (cases_lt number bound) [
    | inl within ↦
        let count = bits.count in
        record { within = omega arith; clear = sym (read_used number within) ∙ is }
    | inr past ↦ absurd (true≢false (sym (get_or_past used number true (omega (arith, long_used))) ∙ is))
  ]

  pub first_absent_told : (from : ℕ) (result : Option ℕ) → IfSome result (IsFirstFrom (IsClear words) from) → IfSome result (IsFirstFrom (IsAbsent used) from)
  first_absent_told from result = first_told from result absent_clear clear_absent

  pub none_absent_told : (from : ℕ) (result : Option ℕ) → IfNone result (NoneFrom (IsClear words) from) → IfNone result (NoneFrom (IsAbsent used) from)
  none_absent_told from result = none_told (IsClear words) (IsAbsent used) from result clear_absent

pub absent_within : (used : List Bool) (number : ℕ) → IsAbsent used number → number < length used
absent_within used number is = elim (cases_lt number (length used)) [
  | inl within ↦ within
  | inr past ↦ absurd (true≢false (sym (get_or_past used number true past) ∙ is))
]

pub within_told : (used : List Bool) (from : ℕ) (result : Option ℕ) → IfSome result (IsFirstFrom (IsAbsent used) from) → IfSome result (λ number. number < length used)
within_told used from None first = tt
within_told used from (Some number) first = absent_within used number first.has
