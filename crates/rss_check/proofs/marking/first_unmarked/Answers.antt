use Rattle.std.proofs.Common.{◌-◌, ℕ, ap, arith}
use Rattle.rss_check.proofs.Marks.{row_lent, segments_more, unmarked_first, none_unmarked}
use Rattle.rss_check.proofs.marking.first_unmarked.Goals as goal

pub returns-in-Some-clause-some : goal.returns-in-Some-clause-some
returns-in-Some-clause-some g c =
    unmarked_first (g.met.P.Pages.allowed c.args.pages.now) c.loop-segment.invariant
    (row_lent c.args.rows.now c.loop-segment.segment c.index-rows-from.result (omega arith)
    (omega (arith, c.requires)) (ap
    (λ (n : ℕ). n - 1) c.from.ensures) c.index-rows-from.is c.as_slice-row.ensures.value) c.in-Some.ensures.some

pub loop-segment-preserved : goal.loop-segment-preserved
loop-segment-preserved g c =
    segments_more c.args.rows.now c.loop-segment.segment c.loop-segment.invariant
    (row_lent c.args.rows.now c.loop-segment.segment c.index-rows-from.result (omega arith)
    (omega (arith, c.requires)) (ap
    (λ (n : ℕ). n - 1) c.from.ensures) c.index-rows-from.is c.as_slice-row.ensures.value) c.in_default.ensures.none

pub returns-clause-none : goal.returns-clause-none
returns-clause-none g c = none_unmarked (g.met.P.Pages.allowed c.args.pages.now) (omega arith) c.loop-segment.invariant
