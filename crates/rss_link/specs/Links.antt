-- What the bodies of tuples say of a link, and the chains that they spell.
use Rattle.std.specs.Prelude.{◌≡◌, ℕ, ◌+◌, Bool, true, false, if◌then◌else◌, List, length, take, drop, Option, Some, None, ◌⊎◌, ◌≤◌}
use Rattle.rss_base.specs.Prefixes.{Ends}
use Rattle.rss_base.specs.declared.tid.Tid.{Tid}
use Rattle.rss_tuple.specs.Directory.{Bodies, is_same_tid}
use Rattle.rss_link.specs.declared.link.Chains.{Chains}
use Rattle.rss_link.specs.declared.blocks.Standing.{Standing}
use Rattle.rss_link.specs.Blocks.{IsNamed, HasStanding, HasEnds, child_size, parent_size}
use Rattle.rss_link.specs.Chains.{Linkage, AreChains}

-- a child's body says this of it
pub record Says (link : Chains) (bodies : Bodies) (child : Tid) (standing : Standing) : Type 0 where
  pub body : List ℕ
  pub there : bodies link.child_segment child ≡ Some body
  pub block : HasStanding link.unary body link.child_at standing

-- a parent's body says that these are the ends of its chain
pub record BodySaysEnds (link : Chains) (bodies : Bodies) (parent : Tid) (ends : Ends) : Type 0 where
  pub body : List ℕ
  pub there : bodies link.parent_segment parent ≡ Some body
  pub block : HasEnds body link.parent_at ends

-- the ends of the chain of a unary link are kept apart from the bodies
abbrev pub SaysEnds : Chains → Ends → Bodies → Option Tid → Ends → Type 0
SaysEnds link kept bodies None ends = kept ≡ ends
SaysEnds link kept bodies (Some parent) ends = BodySaysEnds link bodies parent ends

-- no tuple is both a child and a parent
abbrev pub AreApart : Chains → Linkage → Type 0
AreApart link linkage = link.unary ≡ false → link.child_segment ≡ link.parent_segment → (tid : Tid)
    → linkage.children tid ≡ true → linkage.parents tid ≡ true → ⊥

-- the tuples of the link's relations have identifiers that bytes spell
pub record AreNamed (linkage : Linkage) : Type 0 where
  pub children : (tid : Tid) → linkage.children tid ≡ true → IsNamed tid
  pub parents : (tid : Tid) → linkage.parents tid ≡ true → IsNamed tid

-- The bodies, and the ends that are kept for a unary link, spell these chains of the tuples of the link's relations.
pub record SpellChains (link : Chains) (ends : Ends) (bodies : Bodies) (linkage : Linkage) : Type 0 where
  pub named : AreNamed linkage
  pub apart : AreApart link linkage
  pub chains : AreChains link.unary (Says link bodies) (SaysEnds link ends bodies) linkage

-- ---- what else the bodies hold

-- two bodies are the same outside of so many bytes
pub record AgreeOff (at size : ℕ) (old new : List ℕ) : Type 0 where
  pub same_length : length new ≡ length old
  pub front : take at new ≡ take at old
  pub back : drop (at + size) new ≡ drop (at + size) old

-- What becomes of a body: it is the same, or it is a child's or a parent's, and the same but for the link's block.
pub data KeepsBody (link : Chains) (linkage : Linkage) (segment : ℕ) (tid : Tid) (old new : Option (List ℕ)) : Type 0 where
  same : new ≡ old → KeepsBody link linkage segment tid old new
  of_child : {body now : List ℕ} → segment ≡ link.child_segment → linkage.children tid ≡ true
      → old ≡ Some body → new ≡ Some now → AgreeOff link.child_at (child_size link.unary) body now
      → KeepsBody link linkage segment tid old new
  of_parent : {body now : List ℕ} → link.unary ≡ false → segment ≡ link.parent_segment
      → linkage.parents tid ≡ true
      → old ≡ Some body → new ≡ Some now → AgreeOff link.parent_at parent_size body now
      → KeepsBody link linkage segment tid old new

abbrev pub KeepBodies : Chains → Linkage → Bodies → Bodies → Type 0
KeepBodies link linkage old new = (segment : ℕ) (tid : Tid)
    → KeepsBody link linkage segment tid (old segment tid) (new segment tid)

-- where there was a body with such bytes, there still is one
abbrev pub KeepsBytes : ℕ → ℕ → Option (List ℕ) → Option (List ℕ) → Type 0
KeepsBytes at size old new = (body : List ℕ) → old ≡ Some body
    → (now : List ℕ) × (new ≡ Some now) × (take size (drop at now) ≡ take size (drop at body))

-- the blocks of a link are as they were
pub record SameBlocks (link : Chains) (linkage : Linkage) (old new : Bodies) : Type 0 where
  pub of_children : (tid : Tid) → linkage.children tid ≡ true
      → KeepsBytes link.child_at (child_size link.unary) (old link.child_segment tid) (new link.child_segment tid)
  pub of_parents : (tid : Tid) → link.unary ≡ false → linkage.parents tid ≡ true
      → KeepsBytes link.parent_at parent_size (old link.parent_segment tid) (new link.parent_segment tid)

-- a link has so many bytes at a place of this tuple's body
pub data HasBlock (link : Chains) (linkage : Linkage) (segment : ℕ) (tid : Tid) (at size : ℕ) : Type 0 where
  as_child : segment ≡ link.child_segment → linkage.children tid ≡ true
      → at ≡ link.child_at → size ≡ child_size link.unary → HasBlock link linkage segment tid at size
  as_parent : link.unary ≡ false → segment ≡ link.parent_segment → linkage.parents tid ≡ true
      → at ≡ link.parent_at → size ≡ parent_size → HasBlock link linkage segment tid at size

-- the blocks of two links don't overlap
abbrev pub AreDisjoint : Chains → Linkage → Chains → Linkage → Type 0
AreDisjoint link linkage other others =
    (segment : ℕ) (tid : Tid) (at size from count : ℕ) → HasBlock link linkage segment tid at size
    → HasBlock other others segment tid from count → (at + size ≤ from) ⊎ (from + count ≤ at)

-- ---- tuples that come and go

-- the same tuples, and this one among them or not
abbrev pub with_tuple : (Tid → Bool) → Tid → Bool → Tid → Bool
with_tuple tuples tid among other = if is_same_tid other tid then among else tuples other

abbrev pub with_child : Linkage → Tid → Bool → Linkage
with_child linkage tid among = record linkage { children = with_tuple linkage.children tid among }

abbrev pub with_parent : Linkage → Tid → Bool → Linkage
with_parent linkage tid among = record linkage { parents = with_tuple linkage.parents tid among }
