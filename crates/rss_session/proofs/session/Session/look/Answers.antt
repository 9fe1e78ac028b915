use Rattle.std.proofs.lemmas.Result.{IfOk-weaker}
use Rattle.rss_base.proofs.Steps.{all_mapped, all_held}
use Rattle.rss_session.specs.Parts.{view}
use Rattle.rss_session.proofs.Looked.{finds_at}
use Rattle.rss_session.proofs.Behind.{costs_nothing}
use Rattle.rss_session.proofs.Passing.{looks_on}
use Rattle.rss_session.proofs.session.Session.look.Goals as goal

pub returns-clause-looks : goal.returns-clause-looks
returns-clause-looks g c =
    let did = c.find.ensures.did in
    looks_on (view g.S.Pages.view c.args.self.now) c.requires (g.met.S.Pages.are_counted c.args.self.now.store.tuples.pages) (g.met.S.Pages.are_counted c.find.new.tuples.pages) did (all_mapped did.step) (all_held did.step) c.find.ensures.heaps

pub returns-clause-idle : goal.returns-clause-idle
returns-clause-idle g c = costs_nothing c.find.ensures.did.step

pub returns-clause-finds : goal.returns-clause-finds
returns-clause-finds g c = IfOk-weaker c.find.result _ _ (λ found finds told. finds_at _ _ _ _ _ found (finds told)) c.find.ensures.finds
