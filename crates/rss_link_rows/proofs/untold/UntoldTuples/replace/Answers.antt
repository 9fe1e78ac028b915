use Rattle.rss_link_rows.proofs.Nothing.{puts}
use Rattle.rss_link_rows.proofs.untold.UntoldTuples.replace.Goals as goal

pub returns-clause-puts : goal.returns-clause-puts
returns-clause-puts c = puts c.args.segment c.args.tid c.args.body.now 8
