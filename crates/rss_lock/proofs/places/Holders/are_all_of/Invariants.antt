use Rattle.std.proofs.Common.{◌≡◌, ℕ, ◌<◌, get_or}
use Rattle.std.specs.Prelude.{Some, None}
use Rattle.rss_lock.specs.declared.places.Holder.{Holder}
use Rattle.rss_lock.proofs.places.Holders.are_all_of.Given as goal

abbrev pub invariant-loop-place : goal.invariant-loop-place
invariant-loop-place l = (k : ℕ) (holder : Holder) → k < l.place → get_or l.self.places k None ≡ Some holder → holder.transaction ≡ l.transaction
