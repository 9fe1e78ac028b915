-- How calls on chains fail.
use Rattle.std.proofs.Common.{inl, inr, Option, Some, None, refl}
use Rattle.rss_base.specs.declared.fault.PageFault.{PageFault}
use Rattle.rss_base.specs.declared.tid.Tid.{Tid}
use Rattle.rss_link.specs.declared.link.Chains.{Chains}
use Rattle.rss_link.specs.Blocks.{HasKind}
use Rattle.rss_link.specs.Calls.{IsFaultAt, IsPointerFault, IsLinkFault}
use Rattle.rss_link.proofs.Puts.{kind_some}

-- at a child
pub child_fault : (link : Chains) (child : Tid) (fault : PageFault) → IsFaultAt link.child_segment child fault → IsLinkFault link fault
child_fault link child fault is = record { segment = link.child_segment; tid = child; of_link = inl refl; is = is }

-- at a child, or at a parent
pub pointer_fault : (link : Chains) (parent from : Option Tid) → HasKind link.unary parent → (fault : PageFault) → IsPointerFault link parent from fault → IsLinkFault link fault
pointer_fault link parent (Some child) kind fault is = child_fault link child fault is
pointer_fault link (Some parent) None kind fault is = record { segment = link.parent_segment; tid = parent; of_link = inr (kind_some link.unary parent kind, refl); is = is }
pointer_fault link None None kind fault is = absurd is
