use Rattle.std.proofs.Common.{◌≡◌, drop}
use Rattle.std.specs.Prelude.{filter, map as list_map}
use Rattle.rss_model.specs.Refusals.{first_of, if_duplicate, if_owned}
use Rattle.rss_plain.specs.Tests.{is_unique_of}
use Rattle.rss_plain.specs.View.{machine}
use Rattle.rss_plain.proofs.plain.Plain.if_duplicate.Given as goal

abbrev pub invariant-loop-image : goal.invariant-loop-image
invariant-loop-image l =
    first_of (list_map (if_owned (machine l.self) l.but l.values)
    (filter (λ image. is_unique_of l.relation image.1) (drop l.image-index l.images)))
    ≡ if_duplicate (machine l.self) l.relation l.but l.values
