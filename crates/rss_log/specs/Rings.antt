-- The bytes of a ring by their positions.
use Rattle.std.specs.Prelude.{◌≡◌, ◌≢◌, ℕ, ◌+◌, ◌%◌, ◌<◌, zero, suc, List, [], ◌∷◌, ◌++◌, length, take, drop, slice_index}

-- so many bytes from a position on, where each stands at its position modulo the ring's length
abbrev pub ring_bytes : List ℕ → ℕ → ℕ → List ℕ
ring_bytes ring position zero = []
ring_bytes ring position (suc n) = slice_index ring (position % length ring) ∷ ring_bytes ring (position + 1) n

-- the same list, with these bytes from a place on
abbrev pub with_part : List ℕ → ℕ → List ℕ → List ℕ
with_part old at bytes = take at old ++ (bytes ++ drop (at + length bytes) old)

-- these bytes were written from a position on, and no others
pub record IsPut (position : ℕ) (bytes old new : List ℕ) : Type 0 where
  pub long : length new ≡ length old
  pub written : (j : ℕ) → j < length bytes → slice_index new ((position + j) % length old) ≡ slice_index bytes j
  pub others : (q : ℕ) → ((j : ℕ) → j < length bytes → q ≢ (position + j) % length old) → slice_index new q ≡ slice_index old q
