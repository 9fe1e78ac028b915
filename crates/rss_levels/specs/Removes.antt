-- A pair that is taken from under a node, and two neighbours that are evened out.
use Rattle.std.specs.Prelude.{◌≡◌, ◌≢◌, ◌⊎◌, ℕ, suc, ◌+◌, ◌<◌, ◌≤◌, if◌then◌else◌, Bool, List, [], ◌∷◌, ◌++◌, length}
use Rattle.std.specs.Ordering.{nat_cmp, is_eq}
use Rattle.std.specs.Cmp.Lexicographic.{slice_cmp}
use Rattle.rss_base.specs.Entries.{Entry}
use Rattle.rss_base.specs.Nodes.{node_least, node_most}
use Rattle.rss_levels.specs.Entries.{Each, IsIn}
use Rattle.rss_levels.specs.Rows.{Part, Row, Cells, Spell, HoldsRow, IsStack, AreDistinct, HasHead, items, names, numbers, pages}
use Rattle.rss_levels.specs.Spots.{Keeps, LosesNone, AreMade, Spot, rows_at}

-- the sorted list without a pair
abbrev pub without_pair : List ℕ → List (List ℕ) → List (List ℕ)
without_pair pair [] = []
without_pair pair (x ∷ xs) = if is_eq (slice_cmp nat_cmp pair x) then xs else (x ∷ without_pair pair xs)

-- The pair is taken from under a node, which keeps its page and its bound, and may lack one entry then. No page is taken.
pub record Removes {spell : Spell} {old : Cells} {width level number : ℕ} {target : List ℕ} {pairs : List (List ℕ)} (spot : Spot spell old width level number target pairs) (new : Cells) (count : ℕ) : Type 0 where
  pub head : Part
  pub rest : List Row
  pub head_number : head.number ≡ spot.here.number
  pub head_low : head.low ≡ spot.here.low
  pub count_is : length head.items ≡ count
  pub lacks_one : length spot.here.items ≤ length head.items + 1
  pub same_height : length rest ≡ length spot.lower
  pub stack_now : IsStack spell new width (without_pair target pairs) ((spot.before ++ head ∷ spot.after) ∷ rest)
  pub distinct_now : AreDistinct ((spot.before ++ head ∷ spot.after) ∷ rest)
  pub own : Each (IsIn (pages (rows_at spot))) (pages ((spot.before ++ head ∷ spot.after) ∷ rest))
  pub keeps : Keeps (pages (rows_at spot)) old new
  pub loses_none : LosesNone (pages (rows_at spot)) (pages ((spot.before ++ head ∷ spot.after) ∷ rest)) old new
  pub made : (good : List ℕ → Bool) → AreMade good (rows_at spot) → AreMade good ((spot.before ++ head ∷ spot.after) ∷ rest)

-- two neighbours of a row, with entries, and with this leaf behind them
pub record Neighbours (spell : Spell) (cells : Cells) (width level : ℕ) (left right : Part) (next : ℕ) : Type 0 where
  pub held : HoldsRow spell cells width level (left ∷ right ∷ []) next
  pub left_some : 0 < length left.items
  pub right_some : 0 < length right.items
  pub head : 0 < level → HasHead right
  pub apart : left.number ≢ right.number

-- In place of two neighbours stand one or two, which have their entries. The first keeps its page and its bound, and a second one its page; all are filled where one of the two was.
pub record Evens (spell : Spell) (old new : Cells) (width level : ℕ) (left right : Part) (next : ℕ) (head : Part) (extra : Row) : Type 0 where
  pub number_is : head.number ≡ left.number
  pub low_is : head.low ≡ left.low
  pub entries_are : items (head ∷ extra) ≡ left.items ++ right.items
  pub some : 0 < length head.items
  pub heads : Each HasHead extra
  pub few_extra : length extra ≤ 1
  pub extra_number : Each (λ p. p.number ≡ right.number) extra
  pub held : HoldsRow spell new width level (head ∷ extra) next
  pub few : Each (λ p. length p.items ≤ node_most width) (head ∷ extra)
  pub full : (node_least width ≤ length left.items) ⊎ (node_least width ≤ length right.items) → Each (λ p. node_least width ≤ length p.items) (head ∷ extra)
  pub keeps : Keeps (left.number ∷ right.number ∷ []) old new
  pub loses_none : LosesNone (left.number ∷ right.number ∷ []) (numbers (head ∷ extra)) old new

-- The rows below a node, where a pair was taken from under its entry of this place: all nodes of the first row are filled but perhaps one. These are the node's entries.
pub record Lowered (spell : Spell) (old new : Cells) (width : ℕ) (pairs : List (List ℕ)) (front back : List Entry) (lower : List Row) (entries : List Entry) (place : ℕ) : Type 0 where
  pub before : Row
  pub here : Part
  pub after : Row
  pub rest : List Row
  pub same_height : suc (length rest) ≡ length lower
  pub stack : IsStack spell new width pairs ((before ++ here ∷ after) ∷ rest)
  pub distinct : AreDistinct ((before ++ here ∷ after) ∷ rest)
  pub names_are : names (before ++ here ∷ after) ≡ front ++ (entries ++ back)
  pub place_is : length before ≡ length front + place
  pub some : 0 < length here.items
  pub full_before : Each (λ p. node_least width ≤ length p.items) before
  pub full_after : Each (λ p. node_least width ≤ length p.items) after
  pub own : Each (IsIn (pages lower)) (pages ((before ++ here ∷ after) ∷ rest))
  pub keeps : Keeps (pages lower) old new
  pub loses_none : LosesNone (pages lower) (pages ((before ++ here ∷ after) ∷ rest)) old new
  pub made : (good : List ℕ → Bool) → AreMade good lower → AreMade good ((before ++ here ∷ after) ∷ rest)

-- The same, where all are filled.
pub record Filled (spell : Spell) (old new : Cells) (width : ℕ) (pairs : List (List ℕ)) (front back : List Entry) (lower : List Row) (entries : List Entry) : Type 0 where
  pub row : Row
  pub rest : List Row
  pub same_height : suc (length rest) ≡ length lower
  pub stack : IsStack spell new width pairs (row ∷ rest)
  pub distinct : AreDistinct (row ∷ rest)
  pub names_are : names row ≡ front ++ (entries ++ back)
  pub full : Each (λ p. node_least width ≤ length p.items) row
  pub own : Each (IsIn (pages lower)) (pages (row ∷ rest))
  pub keeps : Keeps (pages lower) old new
  pub loses_none : LosesNone (pages lower) (pages (row ∷ rest)) old new
  pub made : (good : List ℕ → Bool) → AreMade good lower → AreMade good (row ∷ rest)
