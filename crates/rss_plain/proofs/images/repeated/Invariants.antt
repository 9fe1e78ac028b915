use Rattle.std.proofs.Common.{◌≡◌, drop}
use Rattle.std.specs.Prelude.{map as list_map}
use Rattle.rss_model.specs.Images.{repeated}
use Rattle.rss_plain.proofs.images.repeated.Given as goal

abbrev pub invariant-loop-place : goal.invariant-loop-place
invariant-loop-place l = repeated (list_map (λ e. e.0) (drop l.place l.list)) ≡ repeated (list_map (λ e. e.0) l.list)
