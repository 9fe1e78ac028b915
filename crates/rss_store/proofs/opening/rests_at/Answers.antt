use Rattle.rss_base.specs.declared.log_record.LogRecord.TheVariants as records
use Rattle.rss_store.proofs.opening.rests_at.Goals as goal

pub returns-in_default-clause-none : goal.returns-in_default-clause-none
returns-in_default-clause-none c = λ marks rest begins. c.in_default.ensures.none (records.Checkpoint marks) rest begins
