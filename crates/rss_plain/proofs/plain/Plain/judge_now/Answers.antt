use Rattle.std.proofs.Common.{sym}
use Rattle.rss_plain.specs.View.{machine}
use Rattle.rss_plain.proofs.Judged.{judged_checkpoint}
use Rattle.rss_plain.proofs.plain.Plain.judge_now.Goals as goal

pub returns-in-Checkpoint : goal.returns-in-Checkpoint
returns-in-Checkpoint c = rw c.in-Checkpoint.is (sym (judged_checkpoint (machine c.args.self.now)))
