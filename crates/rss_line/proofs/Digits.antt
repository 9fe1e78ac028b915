-- A number is read digit by digit.
use Rattle.std.proofs.Common.{◌≡◌, ◌∙◌, ℕ, zero, suc, ◌+◌, ◌*◌, ◌<◌, ◌≤◌, ◌^◌, List, [], ◌∷◌, drop, get_or, length, Option, Some, None, ap, sym, subst, arith}
use Rattle.std.specs.Prelude.{SomeIff, IfSome, IfNone, decimal}
use Rattle.std.specs.Char.{digit_value}
use Rattle.std.specs.Str.Parse.{AllDigits, digits_value, digits_value_after}
use Rattle.std.proofs.Math.Seq.{drop-cons}
use Rattle.std.proofs.lemmas.List.{drop_all}
use Rattle.std.proofs.lemmas.Fmt.{decimal_nonempty, first_decimal, decimal_digit, digits_decimal, digits_value-decimal, decimal-digits_value}
use Rattle.std.proofs.lemmas.Str.Parse.{IsNumeralModel, numerals_by_value, tells_digits}
use Rattle.rss_line.specs.Reads.{ReadsAs, IsBelow, HasOneSpelling}
use Rattle.rss_line.proofs.Combining.{none_some}

-- Of these digits, some were read, which are this number, and these are left.
pub record Digits (digits left : List ℕ) (number : ℕ) : Type 0 where
  pub value : digits_value 10 digits ≡ digits_value_after 10 number left
  pub to : AllDigits 10 digits → AllDigits 10 left
  pub from : AllDigits 10 left → AllDigits 10 digits
  pub small : number < 2 ^ 64

-- a number of more digits is no smaller
no_smaller : (number : ℕ) (left : List ℕ) → number ≤ digits_value_after 10 number left
no_smaller number [] = omega arith
no_smaller number (digit ∷ left) = omega (arith, no_smaller (number * 10 + digit_value digit) left)

module _ {digits : List ℕ} {i number : ℕ} (reads : Digits digits (drop i digits) number) (below : i < length digits) where
  abbrev digit : ℕ
  digit = get_or digits i 0

  next : Digits digits (digit ∷ drop (i + 1) digits) number
  next = let one : suc i ≡ i + 1 = omega arith in
      subst (λ (left : List ℕ). Digits digits left number) (drop-cons digits i 0 below ∙ ap (λ k. digit ∷ drop k digits) one) reads

  pub digits_stop : ((digit_value digit < 10) × (number * 10 + digit_value digit < 2 ^ 64) → ⊥) → AllDigits 10 digits × (digits_value 10 digits < 2 ^ 64) → ⊥
  digits_stop none (all, small) = none ((next.to all).0, omega (arith, next.value, small, no_smaller (number * 10 + digit_value digit) (drop (i + 1) digits)))

pub digits_end : {digits : List ℕ} {i number : ℕ} → Digits digits (drop i digits) number → length digits ≤ i → (AllDigits 10 digits × (digits_value 10 digits < 2 ^ 64)) × (number ≡ digits_value 10 digits)
digits_end {digits = digits} {i = i} {number = number} reads over =
    let all = subst (λ (left : List ℕ). Digits digits left number) (drop_all i digits over) reads in
    ((all.from tt, omega (arith, all.value, all.small)), sym all.value)

-- ---- the spelling of a number

own : IsNumeralModel (AllDigits 10) (digits_value 10)
own = numerals_by_value (AllDigits 10) tells_digits

one_spelling : (n : ℕ) → n < 2 ^ 64 → HasOneSpelling (decimal n)
one_spelling zero small = (decimal_nonempty 0 small, λ first. ap length (decimal_digit 0 (omega arith)))
one_spelling (suc n) small = (decimal_nonempty (suc n) small, λ first. absurd (omega (arith, first, first_decimal (suc n) (omega arith) small)))

value_of : (word : List ℕ) (n : ℕ) → IsBelow (2 ^ 64) word n → digits_value 10 word ≡ n
value_of word n is = ap (digits_value 10) is.0 ∙ digits_value-decimal own n is.1

pub decimal_read : (word : List ℕ) (found : Option ℕ) → HasOneSpelling word → SomeIff found (AllDigits 10 word × (digits_value 10 word < 2 ^ 64)) (digits_value 10 word) → ReadsAs (IsBelow (2 ^ 64) word) found
decimal_read word (Some n) one ((all, small), same) = record {
  some = (sym (decimal-digits_value own word all one.0 one.1 small) ∙ ap decimal (sym same), omega (arith, same, small));
  all = λ m is. ap Some (same ∙ value_of word m is);
}
decimal_read word None one none = record {
  some = tt;
  all = λ m is. absurd (none (subst (AllDigits 10) (sym is.0) (digits_decimal own m is.1), omega (arith, value_of word m is, is.1)));
}

pub decimal_other : (word : List ℕ) → (HasOneSpelling word → ⊥) → ReadsAs (IsBelow (2 ^ 64) word) None
decimal_other word none = record { some = tt; all = λ n is. absurd (none (subst HasOneSpelling (sym is.0) (one_spelling n is.1))) }

-- what is read of a word, as a number
module _ (word : List ℕ) where
  pub number_some : (found : Option ℕ) → ReadsAs (IsBelow (2 ^ 64) word) found → IfSome found (λ n. word ≡ decimal n)
  number_some (Some n) reads = reads.some.0
  number_some None reads = tt

  pub number_none : (found : Option ℕ) → ReadsAs (IsBelow (2 ^ 64) word) found → IfNone found ((n : ℕ) → n < 2 ^ 64 → word ≡ decimal n → ⊥)
  number_none (Some n) reads = tt
  number_none None reads = λ n small is. none_some (reads.all n (is, small))
