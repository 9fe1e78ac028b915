use Rattle.std.proofs.Common.{rules, arith, inl}
use Rattle.rss_base.proofs.Calls.{leaves_rests}
use Rattle.rss_base.proofs.Moments.{drives_nothing}
use Rattle.rss_base.proofs.Steps.{took}
use Rattle.rss_device.proofs.Places.{follows, same_backing}
use Rattle.rss_device.proofs.mem_pages.MemPagesPages.take_at.Goals as goal

pub returns-clause-taken : goal.returns-clause-taken
returns-clause-taken c =
    let follows = follows c.args.self.now.places.items c.map.new.self.places.items _ _ c.map.ensures.stored in
    record { mapped = follows.mapped; held = λ told. follows.held; notes = follows.notes }

pub returns-clause-did : goal.returns-clause-did
returns-clause-did c = took _ (record { slots = search rules; backing = same_backing (search rules); leaves = leaves_rests _ _ _; later = omega arith; asks_low = omega (arith, c.map.ensures.reads); asks_high = omega (arith, c.map.ensures.reads); writes_low = omega arith; writes_high = omega arith; outs_high = omega arith; drives = drives_nothing _ }) (λ other is. inl is) (returns-clause-taken c)
