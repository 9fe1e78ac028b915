use Rattle.rss_buffer.proofs.Noted.{first_noted_by, none_noted_by}
use Rattle.rss_buffer.proofs.pages.BufferPages.first_noted.Goals as goal

pub returns-clause-some : goal.returns-clause-some
returns-clause-some g c = first_noted_by c.args.self.now.holds.noted c.args.least c.args.segment c.args.space c.requires.noted c.args.from _ c.first_noted.ensures.some

pub returns-clause-none : goal.returns-clause-none
returns-clause-none g c = none_noted_by c.args.self.now.holds.noted c.args.least c.args.segment c.args.space c.requires.noted c.args.from _ c.first_noted.ensures.none
