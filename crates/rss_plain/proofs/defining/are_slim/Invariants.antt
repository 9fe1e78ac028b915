use Rattle.std.proofs.Common.{◌≡◌, ◌+◌, drop}
use Rattle.rss_base.specs.TupleTypes.{kinds, most_width, width}
use Rattle.rss_model.specs.Defining.{originals}
use Rattle.rss_plain.proofs.defining.are_slim.Given as goal

abbrev pub invariant-loop-field : goal.invariant-loop-field
invariant-loop-field l =
    l.left + width (kinds (originals l.fields)) ≡ most_width + width (kinds (originals (drop l.field-index l.fields)))
