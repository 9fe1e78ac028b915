use Rattle.std.proofs.Common.{◌∙◌, ap, is_some}
use Rattle.rss_members.proofs.reading.has_chain.Goals as goal

pub returns-clause-has : goal.returns-clause-has
returns-clause-has g c = λ told tables link child spells at parent. c.is_some.ensures ∙ ap is_some (c.in_ok-first_of.ensures.first told tables link child spells at parent)
