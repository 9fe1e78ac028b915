use Rattle.rss_wait.proofs.Keeping.{all_set}
use Rattle.rss_wait.proofs.waits.set_again.Goals as goal

pub returns : goal.returns
returns c = all_set c.args.waits.now c.loop-wait.waits c.loop-wait.wait-index c.loop-wait-test.false c.loop-wait.invariant
