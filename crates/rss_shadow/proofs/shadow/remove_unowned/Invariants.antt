use Rattle.std.proofs.Common.{◌≡◌, ℕ, ◌<◌, ◌≤◌, ◌&&◌, true, length}
use Rattle.std.specs.Prelude.{is_some, slice_index_or}
use Rattle.rss_base.specs.PageMap.{owner_of}
use Rattle.rss_shadow.proofs.shadow.remove_unowned.Given as goal

abbrev pub invariant-loop-slot : goal.invariant-loop-slot
invariant-loop-slot l = record {
  count : length l.used ≡ length l.initial.used;
  done : (s : ℕ) → s < l.slot → slice_index_or l.used s true ≡ (is_some (owner_of l.owners s) && slice_index_or l.initial.used s true);
  rest : (s : ℕ) → l.slot ≤ s → slice_index_or l.used s true ≡ slice_index_or l.initial.used s true;
}
