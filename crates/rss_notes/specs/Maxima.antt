-- Numbers in a list, and the maxima of their groups.
use Rattle.std.specs.Prelude.{◌≡◌, ◌⊎◌, ℕ, ◌+◌, ◌*◌, ◌/◌, ◌^◌, ◌<◌, ◌≤◌, max, List, [], ◌∷◌, length, take, drop, slice_index}

-- ---- what is asked of the numbers

-- each number from a place on, up to another place, is below this
abbrev pub AllBelow : ℕ → List ℕ → ℕ → ℕ → Type 0
AllBelow least numbers from until = (k : ℕ) → from ≤ k → k < until → slice_index numbers k < least

-- the first place from one on whose number is at least so great
pub record IsFirstFrom (numbers : List ℕ) (from least place : ℕ) : Type 0 where
  pub within : place < length numbers
  pub later : from ≤ place
  pub great : least ≤ slice_index numbers place
  pub lesser : AllBelow least numbers from place

-- ---- the tree

-- the greatest of the numbers, and 0 where there is none
abbrev pub greatest : List ℕ → ℕ
greatest [] = 0
greatest (number ∷ numbers) = max number (greatest numbers)

-- the numbers below a node of the tree
abbrev pub children : List ℕ → ℕ → List ℕ
children tree node = take 16 (drop (16 * (node + 1)) tree)

-- 4,368 maxima, each the greatest of the numbers below it, and behind them at most 65,536 numbers
pub record IsTree (tree : List ℕ) : Type 0 where
  pub least : 4368 ≤ length tree
  pub most : length tree ≤ 4368 + 65536
  pub maxima : (node : ℕ) → node < 4368 → slice_index tree node ≡ greatest (children tree node)

-- how many low bits of a place a maximum leaves out
abbrev pub IsLevel : ℕ → Type 0
IsLevel bits = (bits ≡ 0) ⊎ (bits ≡ 4) ⊎ (bits ≡ 8) ⊎ (bits ≡ 12)

-- where the nodes stand that leave out so many low bits of a place
abbrev pub StartsAt : ℕ → ℕ → Type 0
StartsAt bits start = ((bits ≡ 0) × (start ≡ 4368)) ⊎ ((bits ≡ 4) × (start ≡ 272)) ⊎ ((bits ≡ 8) × (start ≡ 16)) ⊎ ((bits ≡ 12) × (start ≡ 0))

-- the places are alike but for so many low bits
abbrev pub Shares : ℕ → ℕ → ℕ → Type 0
Shares bits at k = k / 2 ^ bits ≡ at / 2 ^ bits
