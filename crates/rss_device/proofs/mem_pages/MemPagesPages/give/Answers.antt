use Rattle.std.proofs.Common.{rules, arith, inl, None, refl}
use Rattle.rss_device.proofs.Places.{changes_own, stored_gone, follows, placed_after, same_backing}
use Rattle.rss_base.proofs.Calls.{leaves_rests}
use Rattle.rss_base.proofs.Moments.{drives_nothing}
use Rattle.rss_base.proofs.Steps.{gave}
use Rattle.rss_device.proofs.mem_pages.MemPagesPages.give.Goals as goal

pub invariant_of-self : goal.invariant_of-self
invariant_of-self c =
    record { placed = placed_after _ _ _ _ c.args.self.now.placed (changes_own _ _ _ _ c.args.self.now.placed c.place-at.ensures.has (λ other differs. refl)) (c.args.self.now.placed.allowed _ _ c.place-at.ensures.has) }

pub returns-clause-given : goal.returns-clause-given
returns-clause-given c =
    let gone = stored_gone _ _ _ (changes_own _ _ _ _ c.args.self.now.placed c.place-at.ensures.has (λ other differs. refl)) in
    let follows = follows c.args.self.now.places.items _ _ None gone in
    record { mapped = follows.mapped; held = λ told. follows.held; notes = follows.notes }

pub returns-clause-did : goal.returns-clause-did
returns-clause-did c = gave _ (record { slots = search rules; backing = same_backing (search rules); leaves = leaves_rests _ _ _; later = omega arith; asks_low = omega arith; asks_high = omega arith; writes_low = omega arith; writes_high = omega arith; outs_high = omega arith; drives = drives_nothing _ }) (λ other is. inl is) (returns-clause-given c)
