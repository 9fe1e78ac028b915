use Rattle.std.proofs.Common.{◌≡◌, ◌≤◌, drop, length}
use Rattle.std.specs.Prelude.{flat_map}
use Rattle.std.specs.FinMap.{from_entries}
use Rattle.rss_model.specs.Defining.{fields_now}
use Rattle.rss_model.specs.Images.{entry_cmp, entry_of}
use Rattle.rss_plain.specs.Maps.{mapped}
use Rattle.rss_plain.specs.View.{machine}
use Rattle.rss_plain.proofs.plain.Plain.entries_by.Given as goal

abbrev pub invariant-loop-place : goal.invariant-loop-place
invariant-loop-place l = record {
  within : l.place ≤ length l.held;
  list : mapped entry_cmp l.list ≡ from_entries {R = entry_cmp}
      (flat_map (λ held. entry_of l.relation (fields_now (machine l.self) l.relation) l.names held.0 held.1)
      (drop l.place l.held));
}

abbrev pub decreases-loop-place : goal.decreases-loop-place
decreases-loop-place l = l.place
