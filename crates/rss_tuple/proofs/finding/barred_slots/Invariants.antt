use Rattle.std.proofs.Common.{◌≡◌, ℕ, ◌<◌, true, false, length, get_or}
use Rattle.std.specs.Prelude.{Contains}
use Rattle.rss_tuple.specs.Directory.{tid_at}
use Rattle.rss_tuple.proofs.finding.barred_slots.Given as goal

abbrev pub invariant-loop-tid : goal.invariant-loop-tid
invariant-loop-tid l = record {
  long : length l.slots ≡ 128;
  barred : (slot : ℕ) → get_or l.slots slot false ≡ true → Contains l.barred (tid_at l.number slot);
  marked : (k slot : ℕ) → k < l.tid-index → slot < 128 → get_or l.barred k (tid_at l.number slot) ≡ tid_at l.number slot → get_or l.slots slot false ≡ true;
}
