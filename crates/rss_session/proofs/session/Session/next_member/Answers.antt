use Rattle.std.proofs.Common.{◌≡◌}
use Rattle.std.proofs.lemmas.Result.{IfOk-weaker}
use Rattle.rss_members.specs.Calls.{next_behind}
use Rattle.rss_session.specs.Parts.{view}
use Rattle.rss_session.proofs.LinksLooked.{looks_at, idle_at, may_ask_chain, says_chain}
use Rattle.rss_session.proofs.session.Session.next_member.Goals as goal

pub next_member-requires : goal.next_member-requires
next_member-requires g c = may_ask_chain c.requires.ready c.args.link c.args.parent c.requires.listed c.requires.form

pub returns-clause-looks : goal.returns-clause-looks
returns-clause-looks g c = looks_at (view g.S.Pages.view c.args.self.now) c.requires.ready (g.met.S.Pages.are_counted c.args.self.now.store.tuples.pages) (g.met.S.Pages.are_counted c.next_member.new.tuples.pages) c.next_member.ensures.did

pub returns-clause-idle : goal.returns-clause-idle
returns-clause-idle g c = idle_at (view g.S.Pages.view c.args.self.now) c.next_member.ensures.did

pub returns-clause-finds : goal.returns-clause-finds
returns-clause-finds g c = IfOk-weaker c.next_member.result _ _ (λ found answers. says_chain c.requires.ready c.args.link c.args.parent (λ tids. found ≡ next_behind c.args.last tids) answers) c.next_member.ensures.next
