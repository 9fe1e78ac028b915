use Rattle.rss_words.proofs.Tasks.{no_task}
use Rattle.rss_words.proofs.task.Task.named.Goals as goal

pub returns-in_default-clause-none : goal.returns-in_default-clause-none
returns-in_default-clause-none c = no_task c.in_default.not-run c.in_default.not-talk
