-- An array by numbers from 1 on, as it is filled.
use Rattle.std.proofs.Common.{◌≡◌, inl, inr, ℕ, zero, suc, ◌+◌, ◌<◌, ◌≤◌, List, length, replicate, set, sym, ◌∙◌, ap, arith, get_or-set_same, get_or-set_other, length-set}
use Rattle.std.specs.Prelude.{slice_index}
use Rattle.std.proofs.lemmas.Bool.{cases_eq, cases_lt}
use Rattle.std.proofs.lemmas.List.{length-replicate}
use Rattle.rss_trans.proofs.Showing.{zero_in}

-- up to this number it has what belongs there, and nothing elsewhere
pub record IsFilled (items : List ℕ) (of : ℕ → ℕ) (place : ℕ) : Type 0 where
  pub long : length items ≡ 256
  pub first : slice_index items 0 ≡ 0
  pub upto : (number : ℕ) → 1 ≤ number → number ≤ place → slice_index items number ≡ of number
  pub rest : (number : ℕ) → place < number → slice_index items number ≡ 0

pub filled_none : (of : ℕ → ℕ) → IsFilled (replicate 256 0) of 0
filled_none of = record {
  long = length-replicate {A = ℕ} 256 0;
  first = zero_in 256 0;
  upto = λ number low high. absurd (omega (arith, low, high));
  rest = λ number above. zero_in 256 number;
}

pub filled_more : {items : List ℕ} {of : ℕ → ℕ} {place : ℕ} (index value : ℕ) → IsFilled items of place → index ≡ place + 1 → index < 256 → value ≡ of (place + 1) → IsFilled (set items index value) of (place + 1)
filled_more {items = items} {of = of} {place = place} index value is at within same = record {
  long = length-set items index value ∙ is.long;
  first = get_or-set_other items index 0 value 0 (λ e. absurd (omega (arith, e, at))) ∙ is.first;
  upto = λ number low high. elim (cases_eq number index) [
    | inl here ↦ ap (slice_index (set items index value)) here ∙ get_or-set_same items index value 0 (omega (arith, is.long, within)) ∙ same ∙ ap of (sym (here ∙ at))
    | inr other ↦ get_or-set_other items index number value 0 other ∙ is.upto number low (by number high other)
  ];
  rest = λ number above. get_or-set_other items index number value 0 (λ e. absurd (omega (arith, e, at, above))) ∙ is.rest number (omega (arith, above));
}
  where
    by : (number : ℕ) → number ≤ place + 1 → (number ≡ index → ⊥) → number ≤ place
    by number high other = elim (cases_lt place number) [
      | inl above ↦ absurd (other (omega (arith, above, high, at)))
      | inr within ↦ within
    ]

-- where nothing belongs behind the last, it has what belongs everywhere
pub filled_all : {items : List ℕ} {of : ℕ → ℕ} {place : ℕ} → IsFilled items of place → of 0 ≡ 0 → ((number : ℕ) → place < number → of number ≡ 0) → (number : ℕ) → slice_index items number ≡ of number
filled_all is first rest zero = is.first ∙ sym first
filled_all {place = place} is first rest (suc k) = elim (cases_lt place (suc k)) [
  | inl above ↦ is.rest (suc k) above ∙ sym (rest (suc k) above)
  | inr within ↦ is.upto (suc k) (omega arith) within
]
