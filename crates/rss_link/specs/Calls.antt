-- What the calls on chains may be given, and what they ensure.
use Rattle.std.specs.Prelude.{◌≡◌, ◌⊎◌, ◌↔◌, ℕ, true, false, List, ◌∷◌, ◌++◌, Option, Some, None, IfSome}
use Rattle.rss_base.specs.DiskRule.{IsTold}
use Rattle.rss_base.specs.Prefixes.{Ends}
use Rattle.rss_base.specs.Steps.{Keys, no_page}
use Rattle.rss_base.specs.declared.fault.PageFault.{PageFault}
use Rattle.rss_base.specs.declared.fault.PageFault.TheVariants.{Device as DeviceFailed, Damaged}
use Rattle.rss_base.specs.declared.place.Place.TheVariants.{Tuple as TuplePlace}
use Rattle.rss_base.specs.declared.tid.Tid.{Tid}
use Rattle.rss_tuple.specs.Calls.{IsSegment}
use Rattle.rss_tuple.specs.Checked.{pages_of}
use Rattle.rss_tuple.specs.Heaps.{AreHeaps}
use Rattle.rss_tuple.specs.Placing.{TakesOnly}
use Rattle.rss_tuple.specs.TupleSteps.{TuplesView, Tuples}
use Rattle.rss_model.specs.Chains.{with_behind, without}
use Rattle.rss_link.specs.declared.link.Chains.{Chains}
use Rattle.rss_link.specs.declared.link.Ends.{Ends as KeptEnds}
use Rattle.rss_link.specs.Blocks.{HasKind, kept_ends}
use Rattle.rss_link.specs.Chains.{Lists, Linkage, Stands, IsOutside, IsParent, relinked}
use Rattle.rss_link.specs.Links.{SpellChains, KeepBodies}

-- what there is to see of a link: the tuples, and the ends that are kept for a unary link
pub record LinkView : Type 1 where
  pub ends : Ends
  pub tuples : TuplesView

abbrev pub seen_with : Ends → TuplesView → LinkView
seen_with ends tuples = record { ends = ends; tuples = tuples }

abbrev pub seen : KeptEnds → TuplesView → LinkView
seen kept tuples = seen_with (kept_ends kept) tuples

abbrev pub TellsBodies : TuplesView → Type 0
TellsBodies view = IsTold view.pages.disk

abbrev pub HoldsHeaps : TuplesView → Type 0
HoldsHeaps view = TellsBodies view → AreHeaps view.pages

-- ---- what is asked

-- the tuples spell chains, and this is a child of the link
pub record KnowsChild (link : Chains) (view : TuplesView) (child : Tid) : Type 0 where
  pub ends : Ends
  pub linkage : Linkage
  pub spells : SpellChains link ends view.bodies linkage
  pub is_child : linkage.children child ≡ true

pub record MayAsk (link : Chains) (view : TuplesView) (child : Tid) : Type 0 where
  pub heaps : HoldsHeaps view
  pub knows : TellsBodies view → ∥ KnowsChild link view child ∥₁

-- what is answered of a child is so in whatever chains the tuples spell
abbrev pub Answers : Chains → TuplesView → Tid → (Lists → Type 0) → Type 0
Answers link view child answer = TellsBodies view → (ends : Ends) (linkage : Linkage)
    → SpellChains link ends view.bodies linkage → linkage.children child ≡ true → answer linkage.lists

-- the tuples and the ends spell chains, and this is a parent of the link
pub record KnowsParent (link : Chains) (view : LinkView) (parent : Option Tid) : Type 0 where
  pub linkage : Linkage
  pub spells : SpellChains link view.ends view.tuples.bodies linkage
  pub is_parent : IsParent link.unary linkage.parents parent

pub record MayAskParent (link : Chains) (view : LinkView) (parent : Option Tid) : Type 0 where
  pub heaps : HoldsHeaps view.tuples
  pub knows : TellsBodies view.tuples → ∥ KnowsParent link view parent ∥₁

abbrev pub AnswersOf : Chains → LinkView → Option Tid → (List Tid → Type 0) → Type 0
AnswersOf link view parent answer = TellsBodies view.tuples → (linkage : Linkage)
    → SpellChains link view.ends view.tuples.bodies linkage → IsParent link.unary linkage.parents parent
    → answer (linkage.lists parent)

-- ---- what is answered

-- in some chain, one tuple stands right behind another
pub record Follows (lists : Lists) (tid next : Tid) : Type 0 where
  pub parent : Option Tid
  pub before : List Tid
  pub after : List Tid
  pub is : lists parent ≡ before ++ tid ∷ (next ∷ after)

-- it stands in the chain of this parent
pub record IsChildOf (lists : Lists) (parent : Option Tid) (child : Tid) : Type 0 where
  pub before : List Tid
  pub after : List Tid
  pub is : lists parent ≡ before ++ child ∷ after

-- what was found is the tuple of a relation, and none exactly where there is none
abbrev pub IsTheOne : (Tid → Type 0) → Option Tid → Type 0
IsTheOne property found = (tid : Tid) → (found ≡ Some tid) ↔ property tid

-- ---- what is changed

-- the segments have numbers
pub record IsLink (link : Chains) : Type 0 where
  pub child : IsSegment link.child_segment
  pub parent : link.unary ≡ false → IsSegment link.parent_segment

-- where a child is to stand: behind `left` in the chain of a parent, or first
pub record Spot : Type 0 where
  pub child : Tid
  pub parent : Option Tid
  pub left : Option Tid

abbrev pub spot : Tid → Option Tid → Option Tid → Spot
spot child parent left = record { child = child; parent = parent; left = left }

-- the child stands in no chain, and the tuple that it is to stand behind, if any, in the parent's
pub record IsFree (link : Chains) (linkage : Linkage) (spot : Spot) : Type 0 where
  pub child : linkage.children spot.child ≡ true
  pub outside : IsOutside linkage.lists spot.child
  pub is_parent : IsParent link.unary linkage.parents spot.parent
  pub behind : IfSome spot.left (IsChildOf linkage.lists spot.parent)

pub record KnowsSpot (link : Chains) (view : LinkView) (spot : Spot) : Type 0 where
  pub linkage : Linkage
  pub spells : SpellChains link view.ends view.tuples.bodies linkage
  pub free : IsFree link linkage spot

pub record MayConnect (link : Chains) (spot : Spot) (view : LinkView) : Type 0 where
  pub segments : IsLink link
  pub kind : HasKind link.unary spot.parent
  pub heaps : HoldsHeaps view.tuples
  pub knows : TellsBodies view.tuples → ∥ KnowsSpot link view spot ∥₁

-- the tuples and the ends spell chains, in one of which a child stands
pub record KnowsPlace (link : Chains) (view : LinkView) (child : Tid) : Type 0 where
  pub linkage : Linkage
  pub spells : SpellChains link view.ends view.tuples.bodies linkage
  pub stands : Stands linkage.lists child

pub record MayDisconnect (link : Chains) (child : Tid) (view : LinkView) : Type 0 where
  pub segments : IsLink link
  pub heaps : HoldsHeaps view.tuples
  pub knows : TellsBodies view.tuples → ∥ KnowsPlace link view child ∥₁

-- The chains are others now, of the same relations, and no byte was changed but in blocks of the link.
pub record Relinks (link : Chains) (old new : LinkView) (was now : Linkage) : Type 0 where
  pub spells : SpellChains link new.ends new.tuples.bodies now
  pub keeps : KeepBodies link was old.tuples.bodies new.tuples.bodies

-- no page was taken, and the ends that are given for a binary link stay
pub record KeepsRoom (link : Chains) (old new : LinkView) : Type 0 where
  pub takes : TellsBodies old.tuples → TakesOnly no_page old.tuples.pages new.tuples.pages
  pub ends : link.unary ≡ false → new.ends ≡ old.ends

-- from whatever chains were spelled
abbrev pub Connects : Chains → Spot → LinkView → LinkView → Type 0
Connects link spot old new = TellsBodies old.tuples → (linkage : Linkage)
    → SpellChains link old.ends old.tuples.bodies linkage → IsFree link linkage spot
    → Relinks link old new linkage
    (relinked linkage spot.parent (with_behind spot.left spot.child (linkage.lists spot.parent)))

abbrev pub Disconnects : Chains → Tid → LinkView → LinkView → Type 0
Disconnects link child old new = TellsBodies old.tuples → (linkage : Linkage) (parent : Option Tid)
    → SpellChains link old.ends old.tuples.bodies linkage → IsChildOf linkage.lists parent child
    → Relinks link old new linkage (relinked linkage parent (without child (linkage.lists parent)))

-- the pages and the tuples of the link's segments
abbrev pub IsSegmentOf : Chains → ℕ → Type 0
IsSegmentOf link segment = (segment ≡ link.child_segment) ⊎ ((link.unary ≡ false) × (segment ≡ link.parent_segment))

abbrev pub link_pages : Chains → Keys
link_pages link key = IsSegmentOf link key.segment × pages_of key.segment key

abbrev pub link_tuples : Chains → Tuples
link_tuples link segment tid = IsSegmentOf link segment

-- ---- how they fail, whatever the device tells

-- the device failed, or the tuple isn't what it should be
abbrev pub IsFaultAt : ℕ → Tid → PageFault → Type 0
IsFaultAt segment tid fault = (fault ≡ DeviceFailed) ⊎ (fault ≡ Damaged (TuplePlace segment tid))

-- the ends of a chain are in the body of its parent, and nothing fails where they are kept
abbrev pub IsParentFault : Chains → Option Tid → PageFault → Type 0
IsParentFault link None fault = ⊥
IsParentFault link (Some parent) fault = IsFaultAt link.parent_segment parent fault

-- a pointer is in the body of this child, or it is an end of the chain of a parent where there is no child
abbrev pub IsPointerFault : Chains → Option Tid → Option Tid → PageFault → Type 0
IsPointerFault link parent (Some child) fault = IsFaultAt link.child_segment child fault
IsPointerFault link parent None fault = IsParentFault link parent fault

-- the device failed, or some tuple of the link's segments isn't what it should be
pub record IsLinkFault (link : Chains) (fault : PageFault) : Type 0 where
  pub segment : ℕ
  pub tid : Tid
  pub of_link : link_tuples link segment tid
  pub is : IsFaultAt segment tid fault
