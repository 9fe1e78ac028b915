use Rattle.std.proofs.Common.{ap, sym, subst}
use Rattle.std.specs.Prelude.{Some, None}
use Rattle.rss_base.specs.declared.spot.Spot.{Spot}
use Rattle.rss_session.specs.Linking.{FindsLeft}
use Rattle.rss_session.specs.Parts.{view}
use Rattle.rss_session.proofs.Behind.{looks_failed, looks_itself}
use Rattle.rss_session.proofs.session.Session.find_left.Goals as goal

pub returns-in-First-clause-looks : goal.returns-in-First-clause-looks
returns-in-First-clause-looks g c = looks_itself (Some None) c.requires.ready

pub returns-in_err-find_last-in-Last-clause-looks : goal.returns-in_err-find_last-in-Last-clause-looks
returns-in_err-find_last-in-Last-clause-looks g c = looks_failed c.from_residual.result c.from_residual.ensures.1 c.in_err-find_last-in-Last.ensures.looks

pub returns-in_ok-find_last-in-Last-clause-finds : goal.returns-in_ok-find_last-in-Last-clause-finds
returns-in_ok-find_last-in-Last-clause-finds g c =
    let last = c.in_ok-find_last-in-Last.field-0 in
    subst (λ (spot : Spot). FindsLeft (view g.S.Pages.view c.args.self.now) c.args.link c.args.parent spot (Some last)) (sym c.in-Last.is)
    (λ told state kept shows link at. ap Some (c.in_ok-find_last-in-Last.ensures.finds told state kept shows link at))
