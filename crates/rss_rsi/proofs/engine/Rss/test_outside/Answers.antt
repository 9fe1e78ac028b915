use Rattle.std.proofs.Common.{refl}
use Rattle.rss_rsi.specs.Linking.{if_placed}
use Rattle.rss_rsi.specs.Parts.{session_of}
use Rattle.rss_rsi.proofs.LinkEnds.{passed_test, test_passes, test_refused, test_stops_any}
use Rattle.rss_rsi.proofs.Places.{none_placed, some_placed}
use Rattle.rss_rsi.proofs.engine.Rss.test_outside.Goals as goal

pub returns-in_err-place_of-clause-ends : goal.returns-in_err-place_of-clause-ends
returns-in_err-place_of-clause-ends g c = passed_test c.from_residual.result c.from_residual.ensures.1 (test_stops_any (if_placed c.args.link.now c.args.child) _ c.in_err-place_of.ensures.ends)

pub returns-in-Some-clause-ends : goal.returns-in-Some-clause-ends
returns-in-Some-clause-ends g c = test_refused (if_placed c.args.link.now c.args.child) c.connected.result c.connected.ensures.is c.in_ok-place_of.ensures.ends.by.1 c.in_ok-place_of.ensures.ends.by.0
    (some_placed (session_of c.args.self.now) c.args.link.now c.args.number c.requires.known c.args.child c.in_ok-place_of.field-0 c.in_ok-place_of.ensures.finds c.in-Some.field-0 c.in-Some.is) c.connected.ensures.short refl

pub returns-in-None-clause-ends : goal.returns-in-None-clause-ends
returns-in-None-clause-ends g c = test_passes (if_placed c.args.link.now c.args.child) (tt {0}) c.in_ok-place_of.ensures.ends.by.1 c.in_ok-place_of.ensures.ends.by.0
    (none_placed (session_of c.args.self.now) c.args.link.now c.args.number c.requires.known c.args.child c.in_ok-place_of.field-0 c.in_ok-place_of.ensures.finds c.in-None.is)
