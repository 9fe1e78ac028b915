use Rattle.std.proofs.Common.{◌≡◌}
use Rattle.std.specs.Prelude.{Some, None}
use Rattle.rss_model.specs.Chains.{stands_in}
use Rattle.rss_session.specs.Parts.{view}
use Rattle.rss_session.proofs.Behind.{looks_as, looks_failed}
use Rattle.rss_session.proofs.LinksLooked.{looks_at, idle_at, behind_there, behind_none, may_ask_chain, says_chain}
use Rattle.rss_session.proofs.session.Session.find_behind.Goals as goal

pub stands_under-requires : goal.stands_under-requires
stands_under-requires g c = may_ask_chain c.requires.ready c.args.link c.args.parent c.requires.listed c.requires.form

pub returns-in_err-stands_under-clause-looks : goal.returns-in_err-stands_under-clause-looks
returns-in_err-stands_under-clause-looks g c =
    looks_failed c.from_residual.result c.from_residual.ensures.1
    (looks_at (view g.S.Pages.view c.args.self.now) c.requires.ready (g.met.S.Pages.are_counted c.args.self.now.store.tuples.pages) (g.met.S.Pages.are_counted c.stands_under.new.tuples.pages) c.in_err-stands_under.ensures.did)

pub returns-in_err-stands_under-clause-idle : goal.returns-in_err-stands_under-clause-idle
returns-in_err-stands_under-clause-idle g c = idle_at (view g.S.Pages.view c.args.self.now) c.stands_under.ensures.did

pub returns-then-branch-clause-looks : goal.returns-then-branch-clause-looks
returns-then-branch-clause-looks g c =
    looks_as (Some (Some c.args.tid)) (looks_at (view g.S.Pages.view c.args.self.now) c.requires.ready (g.met.S.Pages.are_counted c.args.self.now.store.tuples.pages) (g.met.S.Pages.are_counted c.stands_under.new.tuples.pages) c.in_ok-stands_under.ensures.did)

pub returns-then-branch-clause-idle : goal.returns-then-branch-clause-idle
returns-then-branch-clause-idle g c = idle_at (view g.S.Pages.view c.args.self.now) c.stands_under.ensures.did

pub returns-then-branch-clause-finds : goal.returns-then-branch-clause-finds
returns-then-branch-clause-finds g c = λ told state kept shows link at.
    behind_there c.args.tid _ c.in_ok-stands_under.field-0 (says_chain c.requires.ready c.args.link c.args.parent (λ tids. c.in_ok-stands_under.field-0 ≡ stands_in c.args.tid tids) c.in_ok-stands_under.ensures.stands told state kept shows link at) c.if-branch.true

pub returns-else-branch-clause-looks : goal.returns-else-branch-clause-looks
returns-else-branch-clause-looks g c =
    looks_as None (looks_at (view g.S.Pages.view c.args.self.now) c.requires.ready (g.met.S.Pages.are_counted c.args.self.now.store.tuples.pages) (g.met.S.Pages.are_counted c.stands_under.new.tuples.pages) c.in_ok-stands_under.ensures.did)

pub returns-else-branch-clause-idle : goal.returns-else-branch-clause-idle
returns-else-branch-clause-idle g c = idle_at (view g.S.Pages.view c.args.self.now) c.stands_under.ensures.did

pub returns-else-branch-clause-finds : goal.returns-else-branch-clause-finds
returns-else-branch-clause-finds g c = λ told state kept shows link at.
    behind_none c.args.tid _ c.in_ok-stands_under.field-0 (says_chain c.requires.ready c.args.link c.args.parent (λ tids. c.in_ok-stands_under.field-0 ≡ stands_in c.args.tid tids) c.in_ok-stands_under.ensures.stands told state kept shows link at) c.if-branch.false
