use Rattle.std.proofs.Common.{◌≡◌, ℕ, ◌<◌, false, get_or, None}
use Rattle.rss_lock.specs.Table.{is_of}
use Rattle.rss_lock.proofs.places.Holders.place_of.Given as goal

abbrev pub invariant-loop-place : goal.invariant-loop-place
invariant-loop-place l = (k : ℕ) → k < l.place → is_of l.transaction (get_or l.self.places k None) ≡ false
