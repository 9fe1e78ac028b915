-- The chains of a link in the words of the prefix and of the machine.
use Rattle.std.specs.Prelude.{◌≡◌, ℕ, Bool, true, false, List, Option, Some, None}
use Rattle.rss_base.specs.Prefixes.{Neighbours, Ends, ends_of, neighbours_in, member_block, child_block, parent_block}
use Rattle.rss_base.specs.declared.tid.Tid.{Tid}
use Rattle.rss_tuple.specs.Directory.{Bodies}
use Rattle.rss_model.specs.Chains.{stands_in, StandOnce}
use Rattle.rss_link.specs.declared.link.Chains.{Chains}
use Rattle.rss_link.specs.Blocks.{HasBytes}
use Rattle.rss_link.specs.Chains.{Lists, Linkage, IsOutside, IsParent}
use Rattle.rss_link.specs.Links.{AreNamed, AreApart}

-- ---- the blocks

-- the block of a child says its parent and its neighbours, or that it stands in no chain
pub data IsChildBlock (lists : Lists) (child : Tid) (bytes : List ℕ) : Type 0 where
  within : (parent : Tid) (neighbours : Neighbours) → neighbours_in (lists (Some parent)) child ≡ Some neighbours
      → bytes ≡ child_block (Some (record { parent = parent; neighbours = neighbours })) → IsChildBlock lists child bytes
  outside : IsOutside lists child → bytes ≡ child_block None → IsChildBlock lists child bytes

-- the same of a member of a unary link, which has one list, or of a child of a binary one
abbrev pub IsLowerBlock : Bool → Lists → Tid → List ℕ → Type 0
IsLowerBlock true lists member bytes = bytes ≡ member_block (neighbours_in (lists None) member)
IsLowerBlock false lists child bytes = IsChildBlock lists child bytes

-- a tuple's body has these bytes from a place on
pub record BodyHas (bodies : Bodies) (segment : ℕ) (tid : Tid) (at : ℕ) (bytes : List ℕ) : Type 0 where
  pub body : List ℕ
  pub there : bodies segment tid ≡ Some body
  pub has : HasBytes body at bytes

pub record HasLowerBlock (link : Chains) (bodies : Bodies) (lists : Lists) (child : Tid) : Type 0 where
  pub bytes : List ℕ
  pub is : IsLowerBlock link.unary lists child bytes
  pub has : BodyHas bodies link.child_segment child link.child_at bytes

-- each tuple has the block of these lists, and the ends that are kept for a unary link are those of its list
pub record HaveBlocks (link : Chains) (ends : Ends) (bodies : Bodies) (linkage : Linkage) : Type 0 where
  pub children : (child : Tid) → linkage.children child ≡ true → HasLowerBlock link bodies linkage.lists child
  pub parents : (parent : Tid) → link.unary ≡ false → linkage.parents parent ≡ true
      → BodyHas bodies link.parent_segment parent link.parent_at (parent_block (ends_of (linkage.lists (Some parent))))
  pub kept : link.unary ≡ true → ends ≡ ends_of (linkage.lists None)

-- ---- the lists

-- Each list has children alone, only a parent has one that isn't empty, and a child stands once, in one list.
pub record AreLists (unary : Bool) (linkage : Linkage) : Type 0 where
  pub children : (parent : Option Tid) (child : Tid) → stands_in child (linkage.lists parent) ≡ true
      → linkage.children child ≡ true
  pub parents : (parent : Option Tid) (child : Tid) → stands_in child (linkage.lists parent) ≡ true
      → IsParent unary linkage.parents parent
  pub alone : (one other : Option Tid) (child : Tid) → stands_in child (linkage.lists one) ≡ true
      → stands_in child (linkage.lists other) ≡ true → one ≡ other
  pub once : (parent : Option Tid) → StandOnce (linkage.lists parent)

pub record IsPrefixed (link : Chains) (ends : Ends) (bodies : Bodies) (linkage : Linkage) : Type 0 where
  pub named : AreNamed linkage
  pub apart : AreApart link linkage
  pub lists : AreLists link.unary linkage
  pub blocks : HaveBlocks link ends bodies linkage
