-- No field of the relations before this one was added.
use Rattle.std.proofs.Common.{◌≡◌, ℕ, ◌<◌, get_or, Some, None}
use Rattle.rss_base.specs.Listings.{added_count}
use Rattle.rss_base.specs.declared.relation.RelationEntry.{RelationEntry}
use Rattle.rss_catalog.proofs.checking.are_all_original.Given as goal

abbrev pub invariant-loop-relation : goal.invariant-loop-relation
invariant-loop-relation l = (k : ℕ) (relation : RelationEntry) → k < l.relation-index → get_or l.relations k None ≡ Some relation → added_count relation.fields ≡ 0
