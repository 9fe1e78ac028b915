use Rattle.std.proofs.Common.{◌≡◌, ◌+◌, ◌*◌, ◌≤◌, length, get_or}
use Rattle.std.specs.Prelude.{IsSome, None, sum_by, count_by, nat_lt}
use Rattle.std.specs.List.{AllByRecursion}
use Rattle.std.specs.Map.{values_of}
use Rattle.rss_trans.specs.Transactions.{change_count, delete_count, kind, changes_most}
use Rattle.rss_trans.specs.Tables.{shown}
use Rattle.rss_trans.proofs.open.Open.sums_of.Given as goal

abbrev pub invariant-loop-key : goal.invariant-loop-key
invariant-loop-key l = record {
  p : l.sums.p + sum_by (change_count (kind l.relation)) (values_of (shown l.key-iterator l.self-inside.records.slots)) ≡ sum_by (change_count (kind l.relation)) (values_of (shown l.self-inside.keys.entries l.self-inside.records.slots));
  q : l.sums.q + count_by (λ x. nat_lt 0 (change_count (kind l.relation) x)) (values_of (shown l.key-iterator l.self-inside.records.slots)) ≡ count_by (λ x. nat_lt 0 (change_count (kind l.relation) x)) (values_of (shown l.self-inside.keys.entries l.self-inside.records.slots));
  d : l.sums.d + sum_by (delete_count (kind l.relation)) (values_of (shown l.key-iterator l.self-inside.records.slots)) ≡ sum_by (delete_count (kind l.relation)) (values_of (shown l.self-inside.keys.entries l.self-inside.records.slots));
  s : l.sums.s ≡ l.since;
  there : AllByRecursion (λ e. IsSome (get_or l.self-inside.records.slots e.1 None)) l.key-iterator;
  p_few : l.sums.p + changes_most * length l.key-iterator ≤ changes_most * 32;
  q_few : l.sums.q + length l.key-iterator ≤ 32;
  d_few : l.sums.d + changes_most * length l.key-iterator ≤ changes_most * 32;
}
