use Rattle.std.proofs.Common.{◌≤◌, length, ◌-◌}
use Rattle.rss_top.proofs.Counted.{Counted}
use Rattle.rss_top.proofs.counting.count_replies.Given as goal

abbrev pub invariant-loop-at : goal.invariant-loop-at
invariant-loop-at l = record {
  within : l.done ≤ length l.text;
  counted : Counted l.text l.done l.tally.ok l.tally.refused;
}

abbrev pub decreases-loop-at : goal.decreases-loop-at
decreases-loop-at l = length l.text - l.done
