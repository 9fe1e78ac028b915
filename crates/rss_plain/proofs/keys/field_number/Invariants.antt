use Rattle.std.proofs.Common.{◌≡◌, ◌+◌, drop}
use Rattle.rss_model.specs.Images.{number_from, field_number}
use Rattle.rss_plain.proofs.keys.field_number.Given as goal

abbrev pub invariant-loop-place : goal.invariant-loop-place
invariant-loop-place l =
    number_from (l.place + 1) (drop l.place l.fields) l.name ≡ field_number l.fields l.name
