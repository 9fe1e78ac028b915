use Rattle.std.proofs.Common.{◌≤◌, vec_capacity}
use Rattle.rss_check.specs.Marks.{AreZeros}
use Rattle.rss_check.proofs.marking.no_marks.Given as goal

abbrev pub invariant-loop : goal.invariant-loop
invariant-loop l = record {
  zeros : AreZeros l.counter l.words l.rows.items;
  room : 8 ≤ vec_capacity l.rows;
}
