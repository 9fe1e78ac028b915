-- A number is read with its sign.
use Rattle.std.proofs.Common.{◌≡◌, ◌∙◌, ℕ, zero, suc, ◌<◌, ◌^◌, List, ◌∷◌, Option, Some, None, drop, refl, ap, sym, subst, arith}
use Rattle.std.specs.Prelude.{◌≢◌, All, ℤ, pos, negsuc, ◌-ℤ◌, SomeIff, decimal, FitsSigned}
use Rattle.std.specs.Int.{w64}
use Rattle.std.proofs.lemmas.Fmt.{signed_decimal_injective}
use Rattle.std.proofs.lemmas.Int.{ints}
use Rattle.std.proofs.lemmas.List.Elements.{All-head}
use Rattle.rss_line.specs.Reads.{IsOff, minus, ReadsAs, IsInt, IsFromZero, IsBelow}
use Rattle.rss_line.proofs.Numbers.{mag_fits}
use Rattle.rss_line.proofs.Cuts.{no_second}
use Rattle.rss_line.proofs.Combining.{none_some, some_same}
use Rattle.rss_line.proofs.Plain.{decimal_off}

-- a word is one number
int_once : (word : List ℕ) (y z : ℤ) → IsInt word y → IsInt word z → y ≡ z
int_once word y z one other = signed_decimal_injective y z (mag_fits y one.proper) (mag_fits z other.proper) (sym one.spelled ∙ other.spelled)

-- ---- below zero

-- the number behind a sign
behind_sign : (digits : List ℕ) (z : ℤ) → IsInt (minus ∷ digits) z → (n : ℕ) × (z ≡ negsuc n) × IsBelow (2 ^ 64) digits (suc n)
behind_sign digits (pos n) is = absurd (signed n is.spelled (omega (arith, ints, is.proper)))
  where
    signed : (n : ℕ) → minus ∷ digits ≡ decimal n → n < 2 ^ 64 → ⊥
    signed n e small = All-head (λ b. b ≢ minus) minus digits (subst (λ (w : List ℕ). All (λ b. b ≢ minus) w) (sym e) (decimal_off minus n (omega arith) small)) refl
behind_sign digits (negsuc n) is = (n, refl, (ap (drop 1) is.spelled, omega (arith, ints, is.proper)))

with_sign : (digits : List ℕ) (n : ℕ) → IsBelow (2 ^ 64) digits (suc n) → FitsSigned w64 (negsuc n) → IsInt (minus ∷ digits) (negsuc n)
with_sign digits n is fits = record { spelled = ap (λ w. minus ∷ w) is.0; proper = fits }

from_zero_less : (n : ℕ) → pos 0 -ℤ pos (suc n) ≡ negsuc n
from_zero_less n = omega (arith, ints)

module _ (digits : List ℕ) where
  pub below_missing : ReadsAs (IsBelow (2 ^ 64) digits) None → ReadsAs (IsInt (minus ∷ digits)) None
  below_missing reads = record { some = tt; all = λ z is. let (n, same, size) = behind_sign digits z is in absurd (none_some (reads.all (suc n) size)) }

  pub below_none : ReadsAs (IsBelow (2 ^ 64) digits) (Some 0) → ReadsAs (IsInt (minus ∷ digits)) None
  below_none reads = record { some = tt; all = λ z is. let (n, same, size) = behind_sign digits z is in absurd (omega (arith, some_same (reads.all (suc n) size))) }

  pub below_read : (size : ℕ) (found : Option ℤ) → ReadsAs (IsBelow (2 ^ 64) digits) (Some size) → size ≢ 0 → SomeIff found (FitsSigned w64 (pos 0 -ℤ pos size)) (pos 0 -ℤ pos size) → ReadsAs (IsInt (minus ∷ digits)) found
  below_read zero found reads some is = absurd (some refl)
  below_read (suc n) (Some z) reads some (fits, same) =
      let here : z ≡ negsuc n = same ∙ from_zero_less n in
      let is = with_sign digits n reads.some (subst (FitsSigned w64) (from_zero_less n) fits) in
      record {
        some = subst (λ (y : ℤ). IsInt (minus ∷ digits) y) (sym here) is;
        all = λ y other. ap Some (here ∙ int_once (minus ∷ digits) (negsuc n) y is other);
      }
  below_read (suc n) None reads some none = record {
    some = tt;
    all = λ z is.
        let (m, same, size) = behind_sign digits z is in
        let equal : m ≡ n = omega (arith, some_same (reads.all (suc m) size)) in
        absurd (none (subst (FitsSigned w64) (same ∙ ap negsuc equal ∙ sym (from_zero_less n)) is.proper));
  }

-- ---- from zero on

unsigned : (word : List ℕ) (z : ℤ) → IsOff minus word → IsInt word z → IsFromZero word z
unsigned word (pos n) off is = (n, refl, is)
unsigned word (negsuc n) off is = absurd (no_second word (decimal (suc n)) off is.spelled)

pub from_zero : (word : List ℕ) (found : Option ℤ) → IsOff minus word → ReadsAs (IsFromZero word) found → ReadsAs (IsInt word) found
from_zero word (Some z) off reads = record { some = reads.some.2; all = λ y is. reads.all y (unsigned word y off is) }
from_zero word None off reads = record { some = tt; all = λ y is. reads.all y (unsigned word y off is) }
