-- The relations before this place may stand beside the segments, and no name of theirs stands twice.
use Rattle.std.proofs.Common.{◌≡◌, ℕ, ◌<◌, get_or, Some, None}
use Rattle.rss_base.specs.declared.relation.RelationEntry.{RelationEntry}
use Rattle.rss_base.specs.declared.name.Name.{Name}
use Rattle.rss_catalog.specs.Checking.{IsRelationIn}
use Rattle.rss_catalog.proofs.checking.first_bad_table.Given as goal

abbrev pub invariant-loop-place : goal.invariant-loop-place
invariant-loop-place l = record {
  once : (j k : ℕ) (name : Name) → j < k → k < l.place → get_or l.names j None ≡ Some name → get_or l.names k None ≡ Some name → ⊥;
  each : (k : ℕ) (entry : RelationEntry) → k < l.place → get_or l.relations k None ≡ Some entry → IsRelationIn l.segment_names entry;
}
