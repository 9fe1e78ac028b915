use Rattle.std.proofs.Common.{◌≡◌, ℕ, ◌<◌, ◌≤◌, get_or, None, length}
use Rattle.rss_lock.specs.Table.{counted}
use Rattle.rss_lock.proofs.places.current.Given as goal

abbrev pub invariant-loop-place : goal.invariant-loop-place
invariant-loop-place l = record {
  long : length l.modes ≡ 32;
  found : (k : ℕ) → k < l.place → get_or l.modes k None ≡ counted (get_or l.holders.places k None) l.grants.as_of (get_or l.grants.modes k None);
  others : (k : ℕ) → l.place ≤ k → get_or l.modes k None ≡ None;
}
