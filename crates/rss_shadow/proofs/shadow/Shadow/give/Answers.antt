use Rattle.std.proofs.Common.{arith}
use Rattle.rss_shadow.proofs.Found.{IsKey-mapped, IsThere-answer, shadow_lacks, shadow_uses}
use Rattle.rss_shadow.proofs.Kept.{IsShadow-frees, IsShadow-leaves, spare-loses}
use Rattle.rss_shadow.proofs.shadow.Shadow.give.Goals as goal

pub slot-requires : goal.slot-requires
slot-requires c = IsKey-mapped c.self.invariant c.self.view_is c.requires

pub index-requires : goal.index-requires
index-requires c = omega (arith, IsThere-answer c.self.invariant c.self.view_is c.requires c.slot.ensures c.in-Some.is)

pub remove-requires : goal.remove-requires
remove-requires c = omega (arith, IsThere-answer c.self.invariant c.self.view_is c.requires c.slot.ensures c.in-Some.is)

pub invariant_of-self : goal.invariant_of-self
invariant_of-self c =
    let there = IsThere-answer c.self.invariant c.self.view_is c.requires c.slot.ensures c.in-Some.is in
    rw (c.set.ensures, c.from.ensures, c.remove.ensures, c.from-then-is_none.ensures, c.heap_pages.ensures, c.image_pages.ensures)
    (IsShadow-frees c.self.invariant c.in-Some.slot there.owned (shadow_lacks there c.from-2.ensures c.index.ensures c.if-is_none.ensures) c.clear.ensures)

pub invariant_of-self-else-is_none : goal.invariant_of-self-else-is_none
invariant_of-self-else-is_none c =
    let there = IsThere-answer c.self.invariant c.self.view_is c.requires c.slot.ensures c.in-Some.is in
    rw (c.set.ensures, c.from.ensures, c.heap_pages.ensures, c.image_pages.ensures)
    (IsShadow-leaves c.self.invariant c.in-Some.slot there.owned (shadow_uses there c.from-2.ensures c.index.ensures c.if-is_none.ensures).1 c.clear.ensures)

pub returns-then-is_none-clause-spare : goal.returns-then-is_none-clause-spare
returns-then-is_none-clause-spare c =
    let there = IsThere-answer c.self.invariant c.self.view_is c.requires c.slot.ensures c.in-Some.is in
    rw (c.set.ensures, c.from.ensures, ← c.self.view_is) (spare-loses _ _ c.args.key c.self.invariant.maps_hold there.owned)

pub returns-else-is_none-clause-spare : goal.returns-else-is_none-clause-spare
returns-else-is_none-clause-spare c =
    let there = IsThere-answer c.self.invariant c.self.view_is c.requires c.slot.ensures c.in-Some.is in
    rw (c.set.ensures, c.from.ensures, ← c.self.view_is) (spare-loses _ _ c.args.key c.self.invariant.maps_hold there.owned)
