use Rattle.std.proofs.Common.{◌≡◌, ◌-◌, ◌≤◌, length}
use Rattle.rss_base.specs.LogRecords.{marks_most}
use Rattle.rss_record.specs.Reading.{marks_at, so_many_at}
use Rattle.rss_record.proofs.Marks.{with_front}
use Rattle.rss_record.proofs.fields.Fields.marks.Given as goal

abbrev pub invariant-loop : goal.invariant-loop
invariant-loop l = record {
  few : l.count ≤ marks_most;
  long : length l.marks ≡ l.counter;
  read : with_front l.marks (so_many_at (l.count - l.counter) l.self) ≡ marks_at l.fn.self;
}
