use Rattle.std.proofs.Common.{◌≡◌, ◌+◌, ◌≤◌, ◌++◌, length, get_or}
use Rattle.std.specs.Prelude.{IsSome, None}
use Rattle.std.specs.List.{AllByRecursion}
use Rattle.rss_trans.specs.Transactions.{marks_of}
use Rattle.rss_trans.specs.Tables.{shown}
use Rattle.rss_trans.proofs.open.Open.marks.Given as goal

abbrev pub invariant-loop-transaction : goal.invariant-loop-transaction
invariant-loop-transaction l = record {
  listed : l.into ++ marks_of (shown l.transaction-iterator l.self-inside.records.slots) ≡ marks_of (shown l.self-inside.keys.entries l.self-inside.records.slots);
  there : AllByRecursion (λ e. IsSome (get_or l.self-inside.records.slots e.1 None)) l.transaction-iterator;
  few : length l.into + length l.transaction-iterator ≤ 32;
}
