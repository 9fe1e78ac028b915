-- A number by its eight bytes.
use Rattle.std.proofs.Common.{◌≡◌, ℕ, List, ◌<◌, ◌^◌, ℤ, pos, negsuc, sym, ap, ◌∙◌, arith, FitsSigned, w64}
use Rattle.std.proofs.lemmas.Nat.{from_be_bytes-to_be_bytes_8}
use Rattle.std.proofs.lemmas.Int.{ints, to_z-of_z}
use Rattle.std.specs.Int.{from_be_bytes, cast_unsigned, cast_signed}
use Rattle.rss_base.specs.TupleTypes.{int_bytes}

bits_fit : (z : ℤ) → FitsSigned w64 z → cast_unsigned w64 z < 2 ^ 64
bits_fit (pos n) fit = omega (arith, ints)
bits_fit (negsuc n) fit = omega arith

-- the number of eight bytes
pub number_of_bytes : (z : ℤ) → FitsSigned w64 z → cast_signed w64 (from_be_bytes w64 (int_bytes z)) ≡ z
number_of_bytes z fit = ap (cast_signed w64) (from_be_bytes-to_be_bytes_8 (cast_unsigned w64 z) (bits_fit z fit)) ∙ to_z-of_z w64 z fit

-- one number for the same bytes
pub int_bytes_same : (z w : ℤ) → FitsSigned w64 z → FitsSigned w64 w → int_bytes z ≡ int_bytes w → z ≡ w
int_bytes_same z w x y same = sym (number_of_bytes z x) ∙ ap (λ (bytes : List ℕ). cast_signed w64 (from_be_bytes w64 bytes)) same ∙ number_of_bytes w y
