-- Where a pair belongs in the rows of a tree, and how they change.
use Rattle.std.specs.Prelude.{◌≡◌, ◌⊎◌, ℕ, ◌<◌, ◌≤◌, if◌then◌else◌, List, [], ◌∷◌, ◌++◌, length, Some, None, Bool, true}
use Rattle.std.specs.Ordering.{nat_cmp, is_lt}
use Rattle.std.specs.Cmp.Lexicographic.{slice_cmp}
use Rattle.rss_base.specs.Entries.{Entry, IsLess}
use Rattle.rss_base.specs.Nodes.{node_most, node_least}
use Rattle.rss_levels.specs.Entries.{Each, IsIn}
use Rattle.rss_levels.specs.Rows.{Part, Row, Cells, Spell, IsStack, AreDistinct, names, pages}

-- the sorted list with one more pair
abbrev pub with_pair : List ℕ → List (List ℕ) → List (List ℕ)
with_pair pair [] = pair ∷ []
with_pair pair (x ∷ xs) = if is_lt (slice_cmp nat_cmp pair x) then pair ∷ x ∷ xs else (x ∷ with_pair pair xs)

-- A node of the top row of these rows, which are those of a tree from one level down, under which a pair belongs: it is not below the node's bound, and below those of the nodes to its right.
pub record Spot (spell : Spell) (cells : Cells) (width level number : ℕ) (target : List ℕ) (pairs : List (List ℕ)) : Type 0 where
  pub before : Row
  pub here : Part
  pub after : Row
  pub lower : List Row
  pub number_is : here.number ≡ number
  pub level_is : length lower ≡ level
  pub stack : IsStack spell cells width pairs ((before ++ here ∷ after) ∷ lower)
  pub distinct : AreDistinct ((before ++ here ∷ after) ∷ lower)
  pub low : IsLess target here.low → ⊥
  pub high : Each (λ q. IsLess target q.low) after

abbrev pub rows_at : {spell : Spell} {cells : Cells} {width level number : ℕ} {target : List ℕ} {pairs : List (List ℕ)} → Spot spell cells width level number target pairs → List Row
rows_at spot = (spot.before ++ spot.here ∷ spot.after) ∷ spot.lower

-- all pages but these are as they were
pub record Keeps (touched : List ℕ) (old new : Cells) : Type 0 where
  pub same : (number : ℕ) (bytes : List ℕ) → (IsIn touched number → ⊥) → old number ≡ Some bytes → new number ≡ Some bytes

-- a page is one of these, or wasn't mapped
abbrev pub IsOwn : List ℕ → Cells → ℕ → Type 0
IsOwn own cells number = IsIn own number ⊎ (cells number ≡ None)

-- each page that was one's own, or wasn't mapped, is so now
abbrev pub LosesNone : List ℕ → List ℕ → Cells → Cells → Type 0
LosesNone own now old new = (number : ℕ) → IsOwn own old number → IsOwn now new number

-- the bound of a node and the pairs of its entries pass a test
abbrev pub IsMade : (List ℕ → Bool) → Part → Type 0
IsMade good p = (good p.low ≡ true) × Each (λ e. good e.pair ≡ true) p.items

abbrev pub AreMade : (List ℕ → Bool) → List Row → Type 0
AreMade good rows = Each (Each (IsMade good)) rows

-- some node of the row has no room
pub record HasFull (width : ℕ) (row : Row) : Type 0 where
  pub before : Row
  pub here : Part
  pub after : Row
  pub is : row ≡ before ++ here ∷ after
  pub full : node_most width ≤ length here.items

-- An insert takes a page for each row from the leaves up, as far as rows have nodes without room, and so many can be taken.
abbrev pub HasRoom : ℕ → ℕ → List Row → Type 0
HasRoom width spare [] = Unit {0}
HasRoom width spare (row ∷ lower) = (Each (HasFull width) (row ∷ lower) → length (row ∷ lower) ≤ spare) × HasRoom width spare lower

-- The pair is put under a node. In its place stand it and perhaps another, by these names of the others.
pub record Inserts {spell : Spell} {old : Cells} {width level number : ℕ} {target : List ℕ} {pairs : List (List ℕ)} (spot : Spot spell old width level number target pairs) (new : Cells) (more : List Entry) : Type 0 where
  pub head : Part
  pub extra : Row
  pub rest : List Row
  pub names_are : names extra ≡ more
  pub few_extra : length extra ≤ 1
  pub head_number : head.number ≡ spot.here.number
  pub head_low : head.low ≡ spot.here.low
  pub same_height : length rest ≡ length spot.lower
  pub stack_now : IsStack spell new width (with_pair target pairs) ((spot.before ++ head ∷ (extra ++ spot.after)) ∷ rest)
  pub distinct_now : AreDistinct ((spot.before ++ head ∷ (extra ++ spot.after)) ∷ rest)
  pub full : (n : ℕ) → n ≤ node_least width → (n ≤ length spot.here.items) ⊎ (0 < length extra) → Each (λ p. n ≤ length p.items) (head ∷ extra)
  pub own : Each (IsOwn (pages (rows_at spot)) old) (pages ((spot.before ++ head ∷ (extra ++ spot.after)) ∷ rest))
  pub keeps : Keeps (pages (rows_at spot)) old new
  pub loses_none : LosesNone (pages (rows_at spot)) (pages ((spot.before ++ head ∷ (extra ++ spot.after)) ∷ rest)) old new
  pub full_rows : 0 < length extra → Each (HasFull width) (rows_at spot)
  pub made : (good : List ℕ → Bool) → good target ≡ true → AreMade good (rows_at spot) → AreMade good ((spot.before ++ head ∷ (extra ++ spot.after)) ∷ rest)
