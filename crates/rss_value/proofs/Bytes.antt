-- The number of eight bytes.
use Rattle.std.proofs.Common.{◌≡◌, ℕ, ◌^◌, ◌<◌, List, length, get_or, refl, sym, ap, subst, ◌∙◌, arith, ℤ, FitsSigned, w64, to_z, of_z}
use Rattle.std.proofs.lemmas.Nat.{be_bytes_8}
use Rattle.std.proofs.lemmas.Int.{to_z-of_z, of_z-to_z}
use Rattle.std.specs.Int.{to_be_bytes, from_be_bytes}
use Rattle.rss_value.specs.Reads.{IsInt}

pub below : (bytes : List ℕ) → ((i : ℕ) → get_or bytes i 0 < 256) → from_be_bytes w64 bytes < 2 ^ 64
below bytes fits = omega (arith, fits 0, fits 1, fits 2, fits 3, fits 4, fits 5, fits 6, fits 7)

pub number_of : (bytes : List ℕ) (z : ℤ) → length bytes ≡ 8 → ((i : ℕ) → get_or bytes i 0 < 256) → FitsSigned w64 z → z ≡ to_z w64 (from_be_bytes w64 bytes) → IsInt bytes (to_z w64 (of_z w64 z))
number_of bytes z long fits range is =
    let bits : of_z w64 z ≡ from_be_bytes w64 bytes = ap (of_z w64) is ∙ of_z-to_z w64 (from_be_bytes w64 bytes) (below bytes fits) in
    let whole : IsInt bytes z = record {
      fit = range;
      same = sym (ap (to_be_bytes w64) bits ∙ be_bytes_8 bytes (from_be_bytes w64 bytes) long fits refl);
    } in
    subst (IsInt bytes) (sym (to_z-of_z w64 z range)) whole
