-- How the links of a ring hold a list.
use Rattle.std.specs.Prelude.{◌≡◌, ℕ, ◌+◌, ◌<◌, ◌≤◌, List, [], ◌∷◌, length, slice_index}
use Prim.Native.Nat.{zero, suc}
use Rattle.rss_frames.specs.Lists.{Has, Apart}

-- so many cells from this one on, by their links
unfoldable pub walk : List ℕ → ℕ → ℕ → List ℕ
walk next zero at = []
walk next (suc n) at = at ∷ walk next n (slice_index next at)

-- so many cells after the head
abbrev pub ring : List ℕ → ℕ → ℕ → List ℕ
ring next len head = walk next len (slice_index next head)

-- from cell a to cell b the links lead over these cells, and back
abbrev pub Leads : List ℕ → List ℕ → ℕ → List ℕ → ℕ → Type 0
Leads next prev a [] b = (slice_index next a ≡ b) × (slice_index prev b ≡ a)
Leads next prev a (x ∷ xs) b = (slice_index next a ≡ x) × (slice_index prev x ≡ a) × Leads next prev x xs b

pub record IsLinked (next prev : List ℕ) (room : ℕ) (frames : List ℕ) : Type 0 where
  pub nexts : length next ≡ room + 1
  pub prevs : length prev ≡ room + 1
  pub within : (i : ℕ) → Has i frames → i < room
  pub apart : Apart frames
  pub fits : length frames ≤ room
  pub leads : Leads next prev room frames room
