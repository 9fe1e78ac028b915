-- An image: a sorted list of pairs, spelled by a tree of pages.
use Rattle.std.specs.Prelude.{◌≡◌, ◌≢◌, ◌↔◌, ℕ, ◌+◌, ◌-◌, ◌/◌, ◌≤◌, Bool, true, List, [], ◌∷◌, length, take, drop, Contains, Option, Some, None}
use Rattle.std.specs.Int.{w16, w32, from_be_bytes}
use Rattle.std.specs.Ordering.{nat_cmp, is_lt}
use Rattle.rss_base.specs.Paged.{Held}
use Rattle.rss_base.specs.Sizes.{page_entries}
use Rattle.rss_base.specs.Steps.{PagesView}
use Rattle.rss_base.specs.Entries.{Entry, no_page}
use Rattle.rss_base.specs.Nodes.{node_least}
use Rattle.rss_levels.specs.Entries.{Each, IsIn, zeros}
use Rattle.rss_levels.specs.Rows.{Part, Row, HoldsAt, IsTree, pages}
use Rattle.rss_levels.specs.Sought.{first_from}
use Rattle.rss_levels.specs.Spots.{IsOwn, AreMade, with_pair}
use Rattle.rss_levels.specs.Removes.{without_pair}
use Rattle.rss_base.specs.declared.tid.Tid.{Tid}
use Rattle.rss_node.specs.Pairs.{pair_bytes}
use Rattle.rss_node.specs.declared.pair.Nodes.{Nodes}
use Rattle.rss_image.specs.Trees.{cells_of, spells, KeepsPages, LosesNoPage}
use Rattle.rss_image.specs.Emptied.{Gives}
use Rattle.rss_image.specs.declared.image.Image.{Image}

abbrev pub nodes_of : Image → Nodes
nodes_of image = record { segment = image.segment; image = image.number; width = image.width }

-- how many pairs an image has at most
abbrev pub pairs_most : ℕ
pairs_most = 1048576

-- the identifier behind a key of this width names an entry that a page may have
abbrev pub has_slot : ℕ → List ℕ → Bool
has_slot width pair = is_lt (nat_cmp (from_be_bytes w16 (drop (width + 4) pair)) page_entries)

-- the identifier behind a key of this width names a page that a store of so many slots may have
abbrev pub has_page : ℕ → ℕ → List ℕ → Bool
has_page width slots pair = is_lt (nat_cmp (from_be_bytes w32 (take 4 (drop width pair))) slots)

-- the pages spell these pairs, in a tree of these rows
pub record ImageTree (image : Image) (held : Held) (pairs : List (List ℕ)) : Type 0 where
  pub top : Part
  pub lower : List Row
  pub tree : IsTree (spells (nodes_of image)) (cells_of (nodes_of image) held) image.width image.root image.levels pairs top lower
  pub made : AreMade (has_slot image.width) ((top ∷ []) ∷ lower)

-- the image's own pages
abbrev pub pages_of : {image : Image} {held : Held} {pairs : List (List ℕ)} → ImageTree image held pairs → List ℕ
pages_of tree = pages ((tree.top ∷ []) ∷ tree.lower)

-- each bound and pair of the trees that the pages spell passes a test
abbrev pub AreAllMade : (List ℕ → Bool) → Image → Held → Type 0
AreAllMade good image held = (pairs : List (List ℕ)) (tree : ImageTree image held pairs) → AreMade good ((tree.top ∷ []) ∷ tree.lower)

-- those of a new image pass what zeros pass
abbrev pub StartsMade : Image → PagesView → Type 0
StartsMade image view = (good : List ℕ → Bool) → good (zeros image.width) ≡ true → AreAllMade good image view.held

-- those of a tree pass still what they passed
abbrev pub KeepsMade : (List ℕ → Bool) → Image → Image → PagesView → PagesView → Type 0
KeepsMade good old_image new_image old new = (pairs : List (List ℕ)) (tree : ImageTree old_image old.held pairs) → AreMade good ((tree.top ∷ []) ∷ tree.lower) → AreAllMade good new_image new.held

-- they do so for each test that the new pair passes too
abbrev pub PutsMade : List ℕ → Image → Image → PagesView → PagesView → Type 0
PutsMade pair old_image new_image old new = (good : List ℕ → Bool) → good pair ≡ true → KeepsMade good old_image new_image old new

abbrev pub CutsMade : Image → Image → PagesView → PagesView → Type 0
CutsMade old_image new_image old new = (good : List ℕ → Bool) → KeepsMade good old_image new_image old new

-- a new root names two nodes
pub record Rooted (of : Nodes) (levels root : ℕ) (e : Entry) (number : ℕ) (old new : PagesView) : Type 0 where
  pub held : HoldsAt (spells of) (cells_of of new.held) levels number no_page (record { pair = zeros of.width; child = root } ∷ e ∷ [])
  pub fresh : cells_of of old.held number ≡ None
  pub keeps : KeepsPages of [] old new
  pub loses_none : LosesNoPage of [] (number ∷ []) old new

-- the pair belongs into an image, and isn't there
pub record MayPut (image : Image) (held : Held) (pair : List ℕ) : Type 0 where
  pub pairs : List (List ℕ)
  pub tree : ImageTree image held pairs
  pub absent : Each (λ p. p ≢ pair) pairs
  pub few : length pairs ≤ pairs_most

-- The image has these pairs now, in pages that were its own or weren't mapped; what was its own and isn't any longer isn't mapped. No other image page was changed. So many pages fewer can be taken as it has more.
pub record Becomes (old_image new_image : Image) (old new : PagesView) (own : List ℕ) (pairs : List (List ℕ)) : Type 0 where
  pub tree : ImageTree new_image new.held pairs
  pub own_pages : Each (IsOwn own (cells_of (nodes_of old_image) old.held)) (pages_of tree)
  pub keeps : KeepsPages (nodes_of old_image) own old new
  pub loses_none : LosesNoPage (nodes_of old_image) own (pages_of tree) old new
  pub spare : new.spare + length (pages_of tree) ≡ old.spare + length own

-- the pair is put into the sorted list
abbrev pub PutsPair : List ℕ → Image → Image → PagesView → PagesView → Type 0
PutsPair pair old_image new_image old new = (pairs : List (List ℕ)) (tree : ImageTree old_image old.held pairs) → Each (λ p. p ≢ pair) pairs
    → Becomes old_image new_image old new (pages_of tree) (with_pair pair pairs)

-- the pages spell some pairs
pub record HasImage (image : Image) (held : Held) : Type 0 where
  pub pairs : List (List ℕ)
  pub tree : ImageTree image held pairs

-- below every other identifier
abbrev pub least_tid : Tid
least_tid = record { page = 0; slot = 0 }

-- a pair that was found, as bytes
abbrev pub found_bytes : Option (List ℕ × Tid) → Option (List ℕ)
found_bytes None = None
found_bytes (Some found) = Some (pair_bytes found.0 found.1)

-- the first pair that isn't passed, of those that the pages spell
abbrev pub Finds : Bool → List ℕ → Image → PagesView → Option (List ℕ × Tid) → Type 0
Finds beyond pair image view found = (pairs : List (List ℕ)) → ImageTree image view.held pairs → found_bytes found ≡ first_from beyond pair pairs

-- the pair is that of this tuple, if there is one
abbrev pub IsPairOf : List ℕ → Option Tid → List ℕ → Type 0
IsPairOf key None pair = ⊥
IsPairOf key (Some tuple) pair = pair ≡ pair_bytes key tuple

-- A tuple has the key, and it isn't this one; or each pair of the key is this one's.
abbrev pub IsAnother : List ℕ → Option Tid → List (List ℕ) → Option Tid → Type 0
IsAnother key own pairs (Some tid) = Contains pairs (pair_bytes key tid) × (own ≡ Some tid → ⊥)
IsAnother key own pairs None = (tid : Tid) → Contains pairs (pair_bytes key tid) → IsPairOf key own (pair_bytes key tid)

abbrev pub FindsAnother : List ℕ → Option Tid → Image → PagesView → Option Tid → Type 0
FindsAnother key own image view found = (pairs : List (List ℕ)) → ImageTree image view.held pairs → IsAnother key own pairs found

-- the answer says whether the pair is one of those that the pages spell
abbrev pub Has : List ℕ → Image → PagesView → Bool → Type 0
Has pair image view has = (pairs : List (List ℕ)) → ImageTree image view.held pairs → (has ≡ true) ↔ Contains pairs pair

-- An image of so many pairs has at most so many pages.
abbrev pub page_bound : ℕ → ℕ → ℕ
page_bound width count = count / (node_least width - 1) + 2

-- So many pages can be taken as an image with one pair more may have beyond its own.
abbrev pub HasSpare : Image → PagesView → Type 0
HasSpare image view = (pairs : List (List ℕ)) (tree : ImageTree image view.held pairs) → page_bound image.width (length pairs + 1) ≤ view.spare + length (pages_of tree)

abbrev pub HasFewPages : Image → Held → Type 0
HasFewPages image held = (pairs : List (List ℕ)) (tree : ImageTree image held pairs) → length (pages_of tree) ≤ page_bound image.width (length pairs)

-- the pair is in an image
pub record MayCut (image : Image) (held : Held) (pair : List ℕ) : Type 0 where
  pub pairs : List (List ℕ)
  pub tree : ImageTree image held pairs
  pub there : Contains pairs pair

-- The same, and no page was taken.
pub record Shrinks (old_image new_image : Image) (old new : PagesView) (own : List ℕ) (pairs : List (List ℕ)) : Type 0 where
  pub tree : ImageTree new_image new.held pairs
  pub own_pages : Each (IsIn own) (pages_of tree)
  pub keeps : KeepsPages (nodes_of old_image) own old new
  pub loses_none : LosesNoPage (nodes_of old_image) own (pages_of tree) old new
  pub spare : new.spare + length (pages_of tree) ≡ old.spare + length own

-- the pair is taken out of the sorted list
abbrev pub CutsPair : List ℕ → Image → Image → PagesView → PagesView → Type 0
CutsPair pair old_image new_image old new = (pairs : List (List ℕ)) (tree : ImageTree old_image old.held pairs) → Contains pairs pair
    → Shrinks old_image new_image old new (pages_of tree) (without_pair pair pairs)

-- All pages of the image are given, and no other image page is changed.
pub record Destroys (image : Image) (old new : PagesView) (own : List ℕ) : Type 0 where
  pub gives : Gives (nodes_of image) own old new
  pub spare : new.spare ≡ old.spare + length own

abbrev pub DestroysImage : Image → PagesView → PagesView → Type 0
DestroysImage image old new = (pairs : List (List ℕ)) (tree : ImageTree image old.held pairs) → Destroys image old new (pages_of tree)

-- ---- laws

-- an image has five levels at most
abbrev pub HasFewLevels : Image → Held → Type 0
HasFewLevels image held = (pairs : List (List ℕ)) → ImageTree image held pairs → length pairs ≤ pairs_most → image.levels ≤ 5

-- the pages spell one list at most, in the same pages
pub record AreOne {image : Image} {held : Held} {pairs others : List (List ℕ)} (tree : ImageTree image held pairs) (other : ImageTree image held others) : Type 0 where
  pub pairs_are : pairs ≡ others
  pub pages_are : pages_of tree ≡ pages_of other

abbrev pub SpellOne : Image → Held → Type 0
SpellOne image held = (pairs others : List (List ℕ)) (tree : ImageTree image held pairs) (other : ImageTree image held others) → AreOne tree other
