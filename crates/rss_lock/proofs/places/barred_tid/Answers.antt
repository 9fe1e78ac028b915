use Rattle.std.proofs.Common.{List, subst}
use Rattle.std.specs.Prelude.{Option, Some}
use Rattle.rss_base.specs.declared.need.Mode.{Mode}
use Rattle.rss_base.specs.declared.need.Mode.TheVariants.{X}
use Rattle.rss_lock.specs.Table.{DisagreesIn}
use Rattle.std.proofs.Common.{sym}
use Rattle.rss_lock.proofs.places.barred_tid.Goals as goal

pub returns-in_err-least_disagreeing : goal.returns-in_err-least_disagreeing
returns-in_err-least_disagreeing c = λ tid. (
  λ found. absurd (let none = c.from_residual.ensures in cc),
  λ bars. absurd (c.in_err-least_disagreeing.ensures bars.other
      (subst (λ (modes : List (Option Mode)). DisagreesIn c.args.holders.now.places modes X (Some c.args.transaction) 32 bars.other) (sym c.current-modes.ensures) bars.bars)),
)
