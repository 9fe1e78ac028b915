use Rattle.std.proofs.Common.{◌<◌, ◌-◌}
use Rattle.rss_base.specs.declared.tid.Tid.{Tid}
use Rattle.rss_tuple.specs.Placing.{IsNew}
use Rattle.rss_tuple.proofs.choosing.first_new.Given as goal

abbrev pub invariant-loop-number : goal.invariant-loop-number
invariant-loop-number g l = (tid : Tid) → tid.page < l.from → IsNew (g.P.Pages.view l.pages) l.segment l.barred tid → ⊥

abbrev pub decreases-loop-number : goal.decreases-loop-number
decreases-loop-number g l = (g.P.Pages.view l.pages).slots - l.from
