use Rattle.std.specs.Prelude.{Option, IfNone}
use Rattle.std.proofs.Common.{subst, sym}
use Rattle.rss_base.specs.declared.change.Change as told
use Rattle.rss_base.specs.declared.log_record.LogRecord.TheVariants as records
use Rattle.rss_restart.specs.Walks.{TellsNone}
use Rattle.rss_restart.proofs.restarting.change_at.Goals as goal

pub returns-in_err-change-clause-none : goal.returns-in_err-change-clause-none
returns-in_err-change-clause-none c = subst (λ (found : Option told.Change). IfNone found (TellsNone c.args.log.now c.args.position)) (sym c.from_residual.ensures) (λ change tells. c.in_err-change.ensures.none (records.Change tells.by change) tells.rest tells.begins)
