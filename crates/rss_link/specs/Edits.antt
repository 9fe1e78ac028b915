-- How the blocks of a link are read and changed, one at a time.
use Rattle.std.specs.Prelude.{◌≡◌, ℕ, ◌+◌, ◌≤◌, true, List, ◌++◌, length, Option, Some, None}
use Rattle.rss_base.specs.Prefixes.{Ends, first_of, last_of}
use Rattle.rss_base.specs.Steps.{with_bytes}
use Rattle.rss_base.specs.declared.tid.Tid.{Tid}
use Rattle.rss_tuple.specs.Directory.{Bodies, with_body}
use Rattle.rss_tuple.specs.TupleSteps.{TuplesView}
use Rattle.rss_link.specs.declared.link.Chains.{Chains}
use Rattle.rss_link.specs.declared.blocks.Standing.{Standing}
use Rattle.rss_link.specs.declared.blocks.Standing.TheVariants.{Outside, Within}
use Rattle.rss_link.specs.declared.blocks.Pointer.{Pointer}
use Rattle.rss_link.specs.declared.blocks.Pointer.TheVariants.{Next, Previous}
use Rattle.rss_link.specs.Blocks.{IsStanding, IsPointer}
use Rattle.rss_link.specs.Chains.{Linkage, IsParent}
use Rattle.rss_link.specs.Links.{Says, SaysEnds, SpellChains, KeepBodies}
use Rattle.rss_link.specs.Calls.{LinkView, HoldsHeaps, TellsBodies}

-- ---- where a child is put

-- the chain of a parent, parted behind `left`
pub record IsParted (link : Chains) (linkage : Linkage) (parent left : Option Tid) (before after : List Tid) : Type 0 where
  pub is_parent : IsParent link.unary linkage.parents parent
  pub is : linkage.lists parent ≡ before ++ after
  pub behind : left ≡ last_of before

-- ---- what may be read

pub record SaysSome (link : Chains) (bodies : Bodies) (child : Tid) : Type 0 where
  pub standing : Standing
  pub says : Says link bodies child standing

pub record MayReadChild (link : Chains) (view : TuplesView) (child : Tid) : Type 0 where
  pub heaps : HoldsHeaps view
  pub some : TellsBodies view → ∥ SaysSome link view.bodies child ∥₁

pub record SaysSomeEnds (link : Chains) (view : LinkView) (parent : Option Tid) : Type 0 where
  pub ends : Ends
  pub says : SaysEnds link view.ends view.tuples.bodies parent ends

pub record MayReadEnds (link : Chains) (view : LinkView) (parent : Option Tid) : Type 0 where
  pub heaps : HoldsHeaps view.tuples
  pub some : TellsBodies view.tuples → ∥ SaysSomeEnds link view parent ∥₁

pub record KnowsParts (link : Chains) (view : LinkView) (parent left : Option Tid) : Type 0 where
  pub linkage : Linkage
  pub before : List Tid
  pub after : List Tid
  pub spells : SpellChains link view.ends view.tuples.bodies linkage
  pub parted : IsParted link linkage parent left before after

pub record MayReadNext (link : Chains) (view : LinkView) (parent left : Option Tid) : Type 0 where
  pub heaps : HoldsHeaps view.tuples
  pub knows : TellsBodies view.tuples → ∥ KnowsParts link view parent left ∥₁

-- the first tuple behind `left` was found, in whatever chains are spelled
abbrev pub FindsNext : Chains → LinkView → Option Tid → Option Tid → Option Tid → Type 0
FindsNext link view parent left found = TellsBodies view.tuples
    → (linkage : Linkage) (before after : List Tid)
    → SpellChains link view.ends view.tuples.bodies linkage → IsParted link linkage parent left before after
    → found ≡ first_of after

-- ---- bytes of a body

-- a tuple's body reaches so far
pub record Reaches (bodies : Bodies) (segment : ℕ) (tid : Tid) (end : ℕ) : Type 0 where
  pub body : List ℕ
  pub there : bodies segment tid ≡ Some body
  pub room : end ≤ length body

-- some bytes of a tuple's body, from a place on
pub record Bytes : Type 0 where
  pub segment : ℕ
  pub tid : Tid
  pub at : ℕ
  pub bytes : List ℕ

abbrev pub bytes_of : ℕ → Tid → ℕ → List ℕ → Bytes
bytes_of segment tid at bytes = record { segment = segment; tid = tid; at = at; bytes = bytes }

-- they were put there
pub record PutsBytes (put : Bytes) (old new : Bodies) : Type 0 where
  pub reaches : Reaches old put.segment put.tid (put.at + length put.bytes)
  pub now : new ≡ with_body old put.segment put.tid (Some (with_bytes reaches.body put.at put.bytes))

-- ---- pointers

-- a block with another pointer
abbrev pub with_pointer : Pointer → Standing → Option Tid → Standing
with_pointer which Outside to = Outside
with_pointer Next (Within parent previous next) to = Within parent previous to
with_pointer Previous (Within parent previous next) to = Within parent to next

abbrev pub with_end : Pointer → Ends → Option Tid → Ends
with_end Next ends to = record ends { first = to }
with_end Previous ends to = record ends { last = to }

-- which pointer: that of a child in the chain of this parent, or an end of the chain where there is no child, and what it is to point to
pub record Turn : Type 0 where
  pub which : Pointer
  pub parent : Option Tid
  pub from : Option Tid
  pub to : Option Tid

abbrev pub turn : Pointer → Option Tid → Option Tid → Option Tid → Turn
turn which parent from to = record { which = which; parent = parent; from = from; to = to }

-- the child has a block there, or the chain has ends
abbrev pub HasPointer : Chains → LinkView → Option Tid → Option Tid → Type 0
HasPointer link view parent (Some child) = SaysSome link view.tuples.bodies child
HasPointer link view parent None = SaysSomeEnds link view parent

-- the pointer is a child's, or one of the chain of a parent
pub record IsTurnOf (link : Chains) (linkage : Linkage) (turn : Turn) : Type 0 where
  pub children : (tid : Tid) → turn.from ≡ Some tid → linkage.children tid ≡ true
  pub is_parent : IsParent link.unary linkage.parents turn.parent

pub record MayTurn (link : Chains) (view : LinkView) (parent from : Option Tid) : Type 0 where
  pub heaps : HoldsHeaps view.tuples
  pub has : TellsBodies view.tuples → ∥ HasPointer link view parent from ∥₁

-- ---- what is kept

-- all say what they said, but for these children and these parents
pub record KeepsSaid (link : Chains) (linkage : Linkage) (children : Tid → Type 0) (parents : Option Tid → Type 0)
    (old new : LinkView) : Type 0 where
  pub says : (tid : Tid) (standing : Standing) → linkage.children tid ≡ true → (children tid → ⊥)
      → Says link old.tuples.bodies tid standing → Says link new.tuples.bodies tid standing
  pub ends : (parent : Option Tid) (ends : Ends) → IsParent link.unary linkage.parents parent
      → (parents parent → ⊥)
      → SaysEnds link old.ends old.tuples.bodies parent ends
      → SaysEnds link new.ends new.tuples.bodies parent ends
  pub bodies : KeepBodies link linkage old.tuples.bodies new.tuples.bodies

-- a child says another standing now
pub record Restates (link : Chains) (child : Tid) (standing : Standing) (linkage : Linkage) (old new : LinkView) : Type 0 where
  pub here : IsStanding link.unary standing → Says link new.tuples.bodies child standing
  pub keeps : KeepsSaid link linkage (λ tid. tid ≡ child) (λ parent. ⊥) old new

-- the pointer of a child was turned
pub record TurnsChild (link : Chains) (turn : Turn) (old new : LinkView) : Type 0 where
  pub each : (child : Tid) (parent previous next : Option Tid) → turn.from ≡ Some child → IsPointer turn.to
      → Says link old.tuples.bodies child (Within parent previous next)
      → Says link new.tuples.bodies child (with_pointer turn.which (Within parent previous next) turn.to)

-- the end of a chain was turned
pub record TurnsEnd (link : Chains) (turn : Turn) (old new : LinkView) : Type 0 where
  pub each : (ends : Ends) → turn.from ≡ None → IsPointer turn.to
      → SaysEnds link old.ends old.tuples.bodies turn.parent ends
      → SaysEnds link new.ends new.tuples.bodies turn.parent (with_end turn.which ends turn.to)

abbrev pub IsTurned : Turn → Option Tid → Type 0
IsTurned turn parent = (turn.from ≡ None) × (parent ≡ turn.parent)

pub record Turns (link : Chains) (turn : Turn) (linkage : Linkage) (old new : LinkView) : Type 0 where
  pub child : TurnsChild link turn old new
  pub end : TurnsEnd link turn old new
  pub keeps : KeepsSaid link linkage (λ tid. turn.from ≡ Some tid) (IsTurned turn) old new
