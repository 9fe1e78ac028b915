use Rattle.std.proofs.Common.{◌≡◌, ◌≤◌, ℕ, get_or, vec_len}
use Rattle.std.specs.Prelude.{None, vec_capacity}
use Rattle.rss_scan.proofs.scans.Scans.new.Given as goal

abbrev pub invariant-loop : goal.invariant-loop
invariant-loop l = record {
  count : vec_len l.scans ≡ l.counter;
  room : 256 ≤ vec_capacity l.scans;
  none : (number : ℕ) → get_or l.scans.items number None ≡ None;
}
