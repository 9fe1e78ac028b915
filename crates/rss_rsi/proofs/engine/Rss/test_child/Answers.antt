use Rattle.rss_model.specs.Machine.{State}
use Rattle.rss_model.specs.Steps.{unless_live}
use Rattle.rss_rsi.specs.Linking.{below_test}
use Rattle.rss_rsi.specs.Parts.{session_of}
use Rattle.rss_rsi.proofs.Chained.{some_entry}
use Rattle.rss_rsi.proofs.LinkEnds.{test_as}
use Rattle.rss_rsi.proofs.Places.{below_as}
use Rattle.rss_rsi.proofs.engine.Rss.test_child.Goals as goal

pub returns-clause-ends : goal.returns-clause-ends
returns-clause-ends g c =
    let child = some_entry _ c.link.ensures.safe.child in
    test_as (λ (state : State). unless_live state child.0.name c.args.child) (below_test c.args.link.now c.args.child)
    (λ told state kept shows. below_as (session_of c.args.self.now) c.args.link.now c.args.number c.requires.known c.link.ensures.is child.1 c.args.child state shows)
    c.test_there.result (c.test_there.ensures.ends child.0 child.1)
