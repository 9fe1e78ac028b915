use Rattle.rss_rsi.specs.Parts.{parts_of}
use Rattle.rss_rsi.proofs.LinkNeeds.{connect_lists}
use Rattle.rss_rsi.proofs.engine.Rss.connect_needs.Goals as goal

pub returns-clause-lists : goal.returns-clause-lists
returns-clause-lists g c = connect_lists (parts_of c.args.self.now) c.args.link.now c.args.child c.args.parent c.in_ok-needs.ensures.lists (c.in_ok-push_chain.ensures.pushed c.requires.form)
