-- The images before this place may stand beside the relations, and no name of theirs stands twice.
use Rattle.std.proofs.Common.{◌≡◌, ℕ, ◌<◌, get_or, Some, None}
use Rattle.rss_base.specs.declared.image.ImageEntry.{ImageEntry}
use Rattle.rss_base.specs.declared.name.Name.{Name}
use Rattle.rss_catalog.specs.Checking.{IsImageIn}
use Rattle.rss_catalog.proofs.checking.first_bad_image.Given as goal

abbrev pub invariant-loop-place : goal.invariant-loop-place
invariant-loop-place l = record {
  once : (j k : ℕ) (name : Name) → j < k → k < l.place → get_or l.names j None ≡ Some name → get_or l.names k None ≡ Some name → ⊥;
  each : (k : ℕ) (image : ImageEntry) → k < l.place → get_or l.images k None ≡ Some image → IsImageIn l.relations image;
}
