use Rattle.std.proofs.Common.{◌∙◌}
use Rattle.rss_session.specs.Parts.{view}
use Rattle.rss_session.specs.Weighing.{weighed}
use Rattle.rss_session.proofs.session.Session.weigh_change.Goals as goal

pub returns-clause-weighed : goal.returns-clause-weighed
returns-clause-weighed g c = c.weigh.ensures.weighed ∙ (λ i. weighed (view g.S.Pages.view c.args.self.now) c.args.transaction (c.relation_of.ensures i) (c.record_size.ensures.size c.args.transaction i))
