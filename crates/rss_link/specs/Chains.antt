-- Chains as lists, and what pointers mean.
use Rattle.std.specs.Prelude.{◌≡◌, Bool, true, false, if◌then◌else◌, List, ◌∷◌, ◌++◌, length, Option, Some, None}
use Rattle.rss_base.specs.Prefixes.{Ends, first_of, last_of, ends_of}
use Rattle.rss_base.specs.declared.tid.Tid.{Tid}
use Rattle.rss_tuple.specs.Directory.{is_same_tid}
use Rattle.rss_link.specs.declared.blocks.Standing.{Standing}
use Rattle.rss_link.specs.declared.blocks.Standing.TheVariants.{Outside, Within}

-- ---- lists

-- the chain of each parent, as the list of its children; a unary link has one chain, of no parent
abbrev pub Lists : Type 0
Lists = Option Tid → List Tid

-- children: which tuples are of the relation of the children, or of the members of a unary link.
-- parents: which are of that of the parents.
-- lists: the chains.
pub record Linkage : Type 0 where
  pub children : Tid → Bool
  pub parents : Tid → Bool
  pub lists : Lists

abbrev pub is_same_place : Option Tid → Option Tid → Bool
is_same_place None None = true
is_same_place None (Some b) = false
is_same_place (Some a) None = false
is_same_place (Some a) (Some b) = is_same_tid a b

-- the same chains, but that this parent has this one
abbrev pub with_list : Lists → Option Tid → List Tid → Lists
with_list lists parent list other = if is_same_place other parent then list else lists other

abbrev pub relinked : Linkage → Option Tid → List Tid → Linkage
relinked linkage parent list = record linkage { lists = with_list linkage.lists parent list }

-- ---- where a child stands

-- in the chain of a parent, between what is before it and what is behind it
pub record Stands (lists : Lists) (child : Tid) : Type 0 where
  pub parent : Option Tid
  pub before : List Tid
  pub after : List Tid
  pub is : lists parent ≡ before ++ child ∷ after

abbrev pub IsOutside : Lists → Tid → Type 0
IsOutside lists child = Stands lists child → ⊥

-- between these two in the chain of this parent
pub record StandsBetween (lists : Lists) (child : Tid) (parent previous next : Option Tid) : Type 0 where
  pub before : List Tid
  pub after : List Tid
  pub is : lists parent ≡ before ++ child ∷ after
  pub left : previous ≡ last_of before
  pub right : next ≡ first_of after

abbrev pub StandsAs : Lists → Tid → Standing → Type 0
StandsAs lists child Outside = IsOutside lists child
StandsAs lists child (Within parent previous next) = StandsBetween lists child parent previous next

-- ---- what pointers mean

-- a parent of the link: none where it is unary
abbrev pub IsParent : Bool → (Tid → Bool) → Option Tid → Type 0
IsParent true parents None = Unit {0}
IsParent true parents (Some parent) = ⊥
IsParent false parents None = ⊥
IsParent false parents (Some parent) = parents parent ≡ true

-- a child says where it stands, and it stands there
pub record IsPlaced (says : Tid → Standing → Type 0) (lists : Lists) (child : Tid) : Type 0 where
  pub standing : Standing
  pub says_so : says child standing
  pub is : StandsAs lists child standing

-- Each child says where it stands, and each parent what the ends of its chain are. Each chain has children alone, only a parent has one that isn't empty, and each child stands at one place at most.
pub record AreChains (unary : Bool) (says : Tid → Standing → Type 0)
    (says_ends : Option Tid → Ends → Type 0) (linkage : Linkage) : Type 0 where
  pub each : (child : Tid) → linkage.children child ≡ true → IsPlaced says linkage.lists child
  pub ends : (parent : Option Tid) → IsParent unary linkage.parents parent
      → says_ends parent (ends_of (linkage.lists parent))
  pub children : (child : Tid) → Stands linkage.lists child → linkage.children child ≡ true
  pub parents : (child : Tid) (stands : Stands linkage.lists child)
      → IsParent unary linkage.parents stands.parent
  pub once : (child : Tid) (one other : Stands linkage.lists child)
      → (other.parent ≡ one.parent) × (length other.before ≡ length one.before)
