use Rattle.std.proofs.Common.{◌≡◌, ◌≤◌, ℕ, replicate, vec_capacity}
use Rattle.rss_notes.proofs.notes.Notes.new.Given as goal

abbrev pub invariant-loop : goal.invariant-loop
invariant-loop l = record {
  columns : l.columns.items ≡ replicate l.counter (replicate {A = ℕ} l.slots 0);
  room : 16 ≤ vec_capacity l.columns;
}
