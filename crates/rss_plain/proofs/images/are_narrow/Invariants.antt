use Rattle.std.proofs.Common.{◌≡◌, ◌+◌, drop}
use Rattle.rss_base.specs.TupleTypes.{key_width, kinds, most_key_width}
use Rattle.rss_plain.proofs.images.are_narrow.Given as goal

abbrev pub invariant-loop-field : goal.invariant-loop-field
invariant-loop-field l =
    l.left + key_width (kinds l.fields) ≡ most_key_width + key_width (kinds (drop l.field-index l.fields))
