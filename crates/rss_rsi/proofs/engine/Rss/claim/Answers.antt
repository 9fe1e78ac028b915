use Rattle.rss_lock.specs.Table.{told}
use Rattle.rss_rsi.proofs.Taken.{found_sayable, found_busy, ready_locks}
use Rattle.rss_rsi.proofs.engine.Rss.claim.Goals as goal

pub busy-requires : goal.busy-requires
busy-requires g c = found_sayable c.args.needs.items c.deref.result.now c.swap_remove-need.result c.deref.ensures.value c.in-Some.ensures.some c.swap_remove-need.ensures.value c.requires.sayable

pub returns-in-Some-clause-ends : goal.returns-in-Some-clause-ends
returns-in-Some-clause-ends g c =
    found_busy c.args.needs.items c.deref.result.now c.swap_remove-need.result c.deref.ensures.value c.in-Some.ensures.some c.swap_remove-need.ensures.value c.busy.result c.busy.ensures.is c.busy.ensures.short

pub invariant_of-self : goal.invariant_of-self
invariant_of-self g c = record { ready = λ up. ready_locks (told c.reserve.new.self) c.reserve.ensures.same (c.args.self.now.ready up) }
