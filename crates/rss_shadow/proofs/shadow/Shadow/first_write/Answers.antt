use Rattle.std.proofs.Common.{subst, arith}
use Rattle.rss_shadow.specs.Maps.{Maps, MovesPage}
use Rattle.rss_shadow.proofs.Found.{IsKey-mapped, IsThere-answer, IsFree-unused, shadow_lacks, shadow_uses, some_unused_twice}
use Rattle.rss_shadow.proofs.Kept.{IsShadow-moves, lacks_after, MovesPage-stays, MovesPage-moves, spare-moves}
use Rattle.rss_shadow.proofs.shadow.Shadow.first_write.Goals as goal

pub slot-requires : goal.slot-requires
slot-requires c = IsKey-mapped c.self.invariant c.self.view_is c.requires

pub returns-then-is_none-clause-moves : goal.returns-then-is_none-clause-moves
returns-then-is_none-clause-moves c =
    let there = IsThere-answer c.self.invariant c.self.view_is c.requires c.slot.ensures c.in-Some.is in
    let free = shadow_lacks there c.from.ensures c.index.ensures c.if-is_none.ensures in
    rw c.from-then-is_none.ensures (subst (λ (m : Maps). MovesPage m m c.args.key c.in-Some.from) c.self.view_is (MovesPage-stays _ c.in-Some.from c.args.key there.owned free))

pub unreachable-requires-in_default-first_absent : goal.unreachable-requires-in_default-first_absent
unreachable-requires-in_default-first_absent c =
    let there = IsThere-answer c.self.invariant c.self.view_is c.requires c.slot.ensures c.in-Some.is in
    some_unused_twice c.self.invariant c.in-Some.from c.in_default-first_absent.ensures.none there.owned (shadow_uses there c.from.ensures c.index.ensures c.if-is_none.ensures).1

pub set-requires-clause-within : goal.set-requires-clause-within
set-requires-clause-within c = omega (arith, IsThere-answer c.self.invariant c.self.view_is c.requires c.slot.ensures c.in-Some.is)

pub set-requires-2-clause-alone : goal.set-requires-2-clause-alone
set-requires-2-clause-alone c =
    let there = IsThere-answer c.self.invariant c.self.view_is c.requires c.slot.ensures c.in-Some.is in
    rw (c.set.ensures, c.from-2.ensures) (λ other is. absurd (lacks_after _ c.in-Some.from c.args.key c.self.invariant.maps_hold there.owned other is))

pub invariant_of-self : goal.invariant_of-self
invariant_of-self c =
    let there = IsThere-answer c.self.invariant c.self.view_is c.requires c.slot.ensures c.in-Some.is in
    let uses = shadow_uses there c.from.ensures c.index.ensures c.if-is_none.ensures in
    let free = IsFree-unused c.self.invariant c.in-Some-first_absent.ensures.within c.in-Some-first_absent.ensures.some.has in
    rw (c.set-2.ensures, c.set.ensures, c.from-2.ensures, c.insert.ensures) (IsShadow-moves c.self.invariant c.in-Some.from there.owned uses.1 free c.put.ensures)

pub returns-clause-moves : goal.returns-clause-moves
returns-clause-moves c =
    let there = IsThere-answer c.self.invariant c.self.view_is c.requires c.slot.ensures c.in-Some.is in
    let uses = shadow_uses there c.from.ensures c.index.ensures c.if-is_none.ensures in
    let free = IsFree-unused c.self.invariant c.in-Some-first_absent.ensures.within c.in-Some-first_absent.ensures.some.has in
    rw (c.set-2.ensures, c.set.ensures, c.from-2.ensures, ← c.self.view_is) (MovesPage-moves _ c.in-Some.from _ c.args.key uses.0 there.owned uses.1 free)

pub returns-clause-spare : goal.returns-clause-spare
returns-clause-spare c =
    let there = IsThere-answer c.self.invariant c.self.view_is c.requires c.slot.ensures c.in-Some.is in
    let free = IsFree-unused c.self.invariant c.in-Some-first_absent.ensures.within c.in-Some-first_absent.ensures.some.has in
    rw (c.set-2.ensures, c.set.ensures, c.from-2.ensures, ← c.self.view_is) (spare-moves _ c.in-Some.from _ c.args.key c.self.invariant.maps_hold there.owned free)
