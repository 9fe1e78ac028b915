-- How large a number is, and what a test of two texts tells.
use Rattle.std.proofs.Common.{◌≡◌, ◌^◌, ◌<◌, List, ℕ, true, false, arith}
use Rattle.std.specs.Prelude.{ℤ, pos, negsuc, FitsSigned}
use Rattle.std.specs.Int.{w64}
use Rattle.std.specs.Str.{bytes_eq}
use Rattle.std.proofs.lemmas.Int.{ints}
use Rattle.std.proofs.lemmas.Slice.Eq.{bytes_eq-Decides}
use lib.Signed.{mag}

pub mag_fits : (z : ℤ) → FitsSigned w64 z → mag z < 2 ^ 63
mag_fits (pos n) fits = omega (arith, ints)
mag_fits (negsuc n) fits = omega (arith, ints)

pub equal : (text word : List ℕ) → bytes_eq text word ≡ true → text ≡ word
equal text word test = (bytes_eq-Decides text word).0 test

pub differ : (text word : List ℕ) → bytes_eq text word ≡ false → text ≡ word → ⊥
differ text word test same = let holds : bytes_eq text word ≡ true = (bytes_eq-Decides text word).1 same in cc
