use Rattle.std.proofs.Common.{rules, arith, inl}
use Rattle.rss_base.proofs.Calls.{leaves_rests}
use Rattle.rss_base.proofs.Moments.{drives_nothing}
use Rattle.rss_base.proofs.Steps.{took}
use Rattle.rss_device.proofs.Places.{follows, least_first, some_unmapped, same_backing}
use Rattle.rss_device.proofs.mem_pages.MemPagesPages.take.Goals as goal

pub unreachable-requires : goal.unreachable-requires
unreachable-requires c = some_unmapped c.args.self.now.places.items c.args.segment c.args.space c.requires.room c.in_default.ensures.none

pub returns-clause-least : goal.returns-clause-least
returns-clause-least c = least_first c.args.self.now.places.items c.args.segment c.args.space c.in-Some.number c.in-Some.ensures.some

pub returns-clause-taken : goal.returns-clause-taken
returns-clause-taken c =
    let follows = follows c.args.self.now.places.items c.map.new.self.places.items _ _ c.map.ensures.stored in
    record { mapped = follows.mapped; held = λ told. follows.held; notes = follows.notes }

pub returns-clause-did : goal.returns-clause-did
returns-clause-did c = took _ (record { slots = search rules; backing = same_backing (search rules); leaves = leaves_rests _ _ _; later = omega arith; asks_low = omega (arith, c.map.ensures.reads); asks_high = omega (arith, c.map.ensures.reads); writes_low = omega arith; writes_high = omega arith; outs_high = omega arith; drives = drives_nothing _ }) (λ other is. inl is) (returns-clause-taken c)
