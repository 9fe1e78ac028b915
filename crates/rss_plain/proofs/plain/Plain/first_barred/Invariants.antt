use Rattle.std.proofs.Common.{◌≡◌, drop}
use Rattle.rss_model.specs.Locks.{first_bar}
use Rattle.rss_plain.specs.View.{machine}
use Rattle.rss_plain.proofs.plain.Plain.first_barred.Given as goal

abbrev pub invariant-loop-place : goal.invariant-loop-place
invariant-loop-place l =
    first_bar (machine l.self).locks l.t (drop l.place l.needs) ≡ first_bar (machine l.self).locks l.t l.needs
