use Rattle.std.proofs.Common.{refl}
use Rattle.rss_model.proofs.Tests.{goes_on, refuses_at}
use Rattle.rss_rsi.specs.Linking.{below_test, stray_tests}
use Rattle.rss_rsi.proofs.LinkEnds.{test_refused, test_stops}
use Rattle.rss_rsi.proofs.engine.Rss.why_outside.Goals as goal

pub returns-in-Ok-clause-ends : goal.returns-in-Ok-clause-ends
returns-in-Ok-clause-ends g c =
    let child = c.in-Ok.ensures.ends.by in
    test_refused (stray_tests c.args.link.now c.args.child) c.not_connected.result c.not_connected.ensures.is child.1 child.0
    (λ told state kept shows. goes_on _ (child.2 told state kept shows)) c.not_connected.ensures.short refl

pub returns-in-Err-clause-ends : goal.returns-in-Err-clause-ends
returns-in-Err-clause-ends g c = test_stops (below_test c.args.link.now c.args.child) (stray_tests c.args.link.now c.args.child) (λ state why is. refuses_at _ is) _ _ c.in-Err.ensures.ends
