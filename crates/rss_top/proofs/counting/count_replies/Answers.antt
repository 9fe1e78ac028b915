use Rattle.std.proofs.Common.{arith}
use Rattle.rss_top.proofs.Counted.{line_within, counted_more, tally_last}
use Rattle.rss_top.proofs.counting.count_replies.Goals as goal

pub loop-at-preserved : goal.loop-at-preserved
loop-at-preserved c = record {
  within = omega (arith, line_within c.args.text.now c.loop-at.done c.in-Some.at c.loop-at.invariant.within c.in-Some.ensures.within);
  counted = counted_more c.loop-at.invariant.counted _ _ c.in-Some.at c.in-Some.ensures.within c.in-Some.ensures.end c.in-Some.ensures.line c.add.ensures.all c.add.ensures.some;
}

pub returns-then-done-text-clause-tally : goal.returns-then-done-text-clause-tally
returns-then-done-text-clause-tally c = tally_last c.loop-at.invariant.counted c.in_default.ensures.none _ _ c.if-done-text.true c.add-then-done-text.ensures.all c.add-then-done-text.ensures.some
