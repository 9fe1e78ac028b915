-- An image is checked.
use Rattle.std.specs.Prelude.{◌≡◌, ℕ, ◌+◌, ◌<◌, ◌≤◌, if◌then◌else◌, List, [], ◌∷◌, ◌++◌, length, map, Option, Some, None}
use Rattle.std.specs.Ordering.{nat_cmp, is_eq}
use Rattle.std.specs.Cmp.Lexicographic.{slice_cmp}
use Rattle.rss_base.specs.Paged.{Held}
use Rattle.rss_base.specs.Steps.{PagesView}
use Rattle.rss_base.specs.declared.tid.Tid.{Tid}
use Rattle.rss_base.specs.Entries.{Entry, no_page}
use Rattle.rss_levels.specs.Entries.{Pairwise}
use Rattle.rss_levels.specs.Rows.{Part, Row, HoldsAt, IsBefore, first, items, marks}
use Rattle.rss_levels.specs.Nested.{IsUnder}
use Rattle.rss_levels.specs.Spots.{AreMade}
use Rattle.rss_node.specs.Nodes.{NodeView, IsNodeOf, Spells, entry_at}
use Rattle.rss_node.specs.Pairs.{key_from, tid_from}
use Rattle.rss_node.specs.declared.pair.Nodes.{Nodes}
use Rattle.rss_image.specs.Trees.{cells_of, HoldsNode}
use Rattle.rss_image.specs.Images.{ImageTree, has_page, pages_of}
use Rattle.rss_image.specs.Fitting.{IsFit, IsFine}
use Rattle.rss_image.specs.declared.image.Image.{Image}
use Rattle.rss_image.specs.declared.checking.Census.{Census}
use Rattle.rss_image.specs.declared.checking.Child.{Child}
use Rattle.rss_image.specs.declared.checking.Seen.{Seen}

-- ---- what a check answers

-- the identifier of the first pair that has the key of the pair before it
abbrev pub first_repeat : ℕ → List (List ℕ) → Option Tid
first_repeat width [] = None
first_repeat width (pair ∷ []) = None
first_repeat width (pair ∷ next ∷ pairs) = if is_eq (slice_cmp nat_cmp (key_from width pair) (key_from width next)) then Some (tid_from width next) else first_repeat width (next ∷ pairs)

-- the identifiers of a tree name pages that a store of so many slots may have
abbrev pub AreWithin : ℕ → {image : Image} {held : Held} {pairs : List (List ℕ)} → ImageTree image held pairs → Type 0
AreWithin slots {image = image} tree = AreMade (has_page image.width slots) ((tree.top ∷ []) ∷ tree.lower)

-- the pages spell some pairs, and the census is theirs
pub record IsCensus (image : Image) (view : PagesView) (census : Census) : Type 0 where
  pub pairs : List (List ℕ)
  pub tree : ImageTree image view.held pairs
  pub within : AreWithin view.slots tree
  pub count : census.pairs ≡ length pairs
  pub pages_count : census.pages ≡ length (pages_of tree)
  pub repeats : census.repeats ≡ first_repeat image.width pairs

-- the pages spell some pairs, whose identifiers name pages of the store
pub record HasSoundImage (image : Image) (view : PagesView) : Type 0 where
  pub pairs : List (List ℕ)
  pub tree : ImageTree image view.held pairs
  pub within : AreWithin view.slots tree

-- ---- what was seen of a tree, from its last leaf back to some place

abbrev pub pairs_in : List Entry → List (List ℕ)
pairs_in entries = map (λ e. e.pair) entries

-- the bound of the first leaf, where there is one
abbrev pub first_low : Row → Option (List ℕ)
first_low [] = None
first_low (p ∷ row) = Some p.low

-- the first pair, as its key and its identifier
abbrev pub first_keyed : ℕ → List (List ℕ) → Option (List ℕ × Tid)
first_keyed width [] = None
first_keyed width (pair ∷ pairs) = Some (key_from width pair, tid_from width pair)

-- the identifier of the first pair, where its key is the one before it, else the one that was known
abbrev pub repeated : List ℕ → Option (List ℕ × Tid) → Option Tid → Option Tid
repeated key None known = known
repeated key (Some found) known = if is_eq (slice_cmp nat_cmp key found.0) then Some found.1 else known

-- one more pair is seen
abbrev pub with_seen : List ℕ → Tid → Seen → Seen
with_seen key tid seen = record seen { first = Some (key, tid); pairs = seen.pairs + 1; repeats = repeated key seen.first seen.repeats }

-- these entries were seen
pub record AreSeen (width : ℕ) (entries : List Entry) (seen : Seen) : Type 0 where
  pub first_is : seen.first ≡ first_keyed width (pairs_in entries)
  pub pairs_are : seen.pairs ≡ length entries
  pub repeats_are : seen.repeats ≡ first_repeat width (pairs_in entries)

-- these leaves were seen, in so many pages
pub record IsSeen (width : ℕ) (row : Row) (pages : ℕ) (seen : Seen) : Type 0 where
  pub next_is : seen.next ≡ first row no_page
  pub low_is : seen.low ≡ first_low row
  pub pages_are : seen.pages ≡ pages
  pub entries_are : AreSeen width (items row) seen

-- the entries of an inner node, the first with its bound
abbrev pub with_bound : List ℕ → List Entry → List Entry
with_bound low [] = []
with_bound low (e ∷ entries) = record { pair = low; child = e.child } ∷ entries

-- ---- what fits before it

abbrev pub leaf_part : ℕ → List ℕ → List Entry → Part
leaf_part number low entries = record { number = number; low = low; items = entries }

-- a leaf leads to these, which are behind it, and was seen too
pub record IsSeenLeaf (width next : ℕ) (part : Part) (row : Row) (pages : ℕ) (seen : Seen) : Type 0 where
  pub leads : next ≡ first row no_page
  pub rises : Pairwise IsBefore (marks (part ∷ row))
  pub seen_is : IsSeen width (part ∷ row) pages seen

-- Where these leaves were seen before: a leaf that fits has been seen too.
abbrev pub SeesLeaf : ℕ → ℕ → Part → Seen → Seen → Type 0
SeesLeaf width next part before after = (row : Row) → IsSeen width row before.pages before → Pairwise IsBefore (marks row)
    → IsSeenLeaf width next part row before.pages after

-- And one that doesn't is no leaf before them.
abbrev pub NeverLeads : ℕ → ℕ → Part → Seen → Type 0
NeverLeads width next part before = (row : Row) → IsSeen width row before.pages before → next ≡ first row no_page
    → Pairwise IsBefore (marks (part ∷ row)) → ⊥

-- the page of this number holds no node of a level that fits, with at least so many entries
abbrev pub HoldsNone : Nodes → PagesView → ℕ → ℕ → ℕ → Type 0
HoldsNone of view level number fewest = (next : ℕ) (entries : List Entry) → HoldsAt (IsFine of view.slots) (cells_of of view.held) level number next entries → fewest ≤ length entries → ⊥

-- before these leaves stands a node of a level, with its bound and at least so many entries
pub record StandsBefore (of : Nodes) (slots : ℕ) (held : Held) (level number : ℕ) (low : List ℕ) (fewest : ℕ) (row : Row) : Type 0 where
  pub part : Part
  pub ns : List ℕ
  pub leaves : Row
  pub number_is : part.number ≡ number
  pub low_is : part.low ≡ low
  pub filled : fewest ≤ length part.items
  pub under : IsUnder (IsFine of slots) (cells_of of held) of.width level part ns leaves (first row no_page)
  pub rises : Pairwise IsBefore (marks (leaves ++ row))

-- and its leaves were seen too
pub record IsSeenUnder (of : Nodes) (slots : ℕ) (held : Held) (level number : ℕ) (low : List ℕ) (fewest : ℕ) (row : Row) (pages : ℕ) (seen : Seen) : Type 0 where
  pub stands : StandsBefore of slots held level number low fewest row
  pub seen_is : IsSeen of.width (stands.leaves ++ row) (pages + length stands.ns) seen

-- Where these leaves were seen before: what stands under a node that fits has been seen too.
abbrev pub SeesUnder : Nodes → PagesView → ℕ → ℕ → List ℕ → ℕ → Seen → Seen → Type 0
SeesUnder of view level number low fewest before after = (row : Row) → IsSeen of.width row before.pages before → Pairwise IsBefore (marks row)
    → IsSeenUnder of view.slots view.held level number low fewest row before.pages after

-- And a node that doesn't stands before them in no tree that has as many pages as there are slots at most.
abbrev pub NeverStands : Nodes → PagesView → ℕ → ℕ → List ℕ → ℕ → Seen → Type 0
NeverStands of view level number low fewest before = (row : Row) → IsSeen of.width row before.pages before
    → (stands : StandsBefore of view.slots view.held level number low fewest row) → before.pages + length stands.ns ≤ view.slots → ⊥

-- ---- what the bytes of a page say

-- they spell no node of a level that fits, with at least so many entries
abbrev pub NeverFits : Nodes → ℕ → ℕ → ℕ → ℕ → List ℕ → Type 0
NeverFits of slots level number fewest page = (node : NodeView) → IsNodeOf of level number node → Spells page node
    → IsFit node.width slots level node.next node.entries → fewest ≤ length node.entries → ⊥

-- they spell such a node, which has so many entries
pub record FitsIn (of : Nodes) (slots level number fewest : ℕ) (page : List ℕ) (count : ℕ) : Type 0 where
  pub node : NodeView
  pub spelled : Spells page node
  pub is : IsNodeOf of level number node
  pub fit : IsFit node.width slots level node.next node.entries
  pub filled : fewest ≤ length node.entries
  pub count_is : count ≡ length node.entries

-- the page of this number holds such a node
pub record HoldsFit (of : Nodes) (view : PagesView) (level number fewest count : ℕ) : Type 0 where
  pub next : ℕ
  pub entries : List Entry
  pub holds : HoldsAt (IsFine of view.slots) (cells_of of view.held) level number next entries
  pub filled : fewest ≤ length entries
  pub count_is : count ≡ length entries

-- If the page of this number has these bytes: the leaf that they spell has been seen too.
abbrev pub SeesIn : Nodes → ℕ → ℕ → List ℕ → ℕ → List ℕ → Seen → Seen → Type 0
SeesIn of slots number low fewest page before after = (held : Held) → cells_of of held number ≡ Some page
    → (row : Row) → IsSeen of.width row before.pages before → Pairwise IsBefore (marks row)
    → IsSeenUnder of slots held 0 number low fewest row before.pages after

-- And if they don't fit, no leaf stands there.
abbrev pub NeverIn : Nodes → ℕ → ℕ → List ℕ → ℕ → List ℕ → Seen → Type 0
NeverIn of slots number low fewest page before = (held : Held) → cells_of of held number ≡ Some page
    → (row : Row) → IsSeen of.width row before.pages before
    → (stands : StandsBefore of slots held 0 number low fewest row) → before.pages + length stands.ns ≤ slots → ⊥

-- ---- a child

-- the page of this number holds a node of a level with an entry at a place
pub record HasEntryAt (of : Nodes) (held : Held) (level number at : ℕ) : Type 0 where
  pub next : ℕ
  pub entries : List Entry
  pub holds : HoldsNode of held level number next entries
  pub low : at < length entries

-- the child of the entry, with its bound
pub record IsChildAt (low : List ℕ) (entries : List Entry) (at : ℕ) (child : Child) : Type 0 where
  pub bound_is : child.bound ≡ (entry_at (with_bound low entries) at).pair
  pub number_is : child.number ≡ (entry_at entries at).child

-- the bytes spell no node of a level with such an entry
abbrev pub NeverHasEntry : Nodes → ℕ → ℕ → ℕ → List ℕ → Type 0
NeverHasEntry of level number at page = (node : NodeView) → IsNodeOf of level number node → Spells page node → at < length node.entries → ⊥
