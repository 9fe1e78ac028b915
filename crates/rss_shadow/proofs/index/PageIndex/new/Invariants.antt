use Rattle.std.proofs.Common.{◌≡◌, ◌-◌, ◌≤◌, vec_capacity}
use Rattle.rss_shadow.proofs.Columns.{empty_columns}
use Rattle.rss_shadow.proofs.index.PageIndex.new.Given as goal

abbrev pub invariant-loop : goal.invariant-loop
invariant-loop l = record {
  columns : l.columns.items ≡ empty_columns l.slots (l.counter - 1);
  room : 25 ≤ vec_capacity l.columns;
  some : 1 ≤ l.counter;
}
