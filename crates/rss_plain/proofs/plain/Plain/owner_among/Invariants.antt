use Rattle.std.proofs.Common.{◌≡◌, drop}
use Rattle.std.specs.Prelude.{find}
use Rattle.rss_model.specs.Defining.{fields_now}
use Rattle.rss_model.specs.Images.{has_key}
use Rattle.rss_plain.specs.View.{machine}
use Rattle.rss_plain.proofs.plain.Plain.owner_among.Given as goal

abbrev pub invariant-loop-one : goal.invariant-loop-one
invariant-loop-one l =
    find (has_key l.image.relation (fields_now (machine l.self) l.image.relation) l.image.fields l.key l.but)
    (drop l.one-index l.held)
    ≡ find (has_key l.image.relation (fields_now (machine l.self) l.image.relation) l.image.fields l.key l.but) l.held
