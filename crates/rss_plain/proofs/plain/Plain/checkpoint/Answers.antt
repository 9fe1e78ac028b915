use Rattle.rss_plain.specs.View.{view}
use Rattle.rss_plain.proofs.Makings.{checkpoints_so}
use Rattle.rss_plain.proofs.plain.Plain.checkpoint.Goals as goal

pub returns : goal.returns
returns c = checkpoints_so (view c.args.self.now)
