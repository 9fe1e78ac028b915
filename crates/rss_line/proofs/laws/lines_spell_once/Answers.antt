use Rattle.rss_line.proofs.Lone.{lines_once}
use Rattle.rss_line.proofs.laws.lines_spell_once.Goals as goal

pub returns : goal.returns
returns c = lines_once
