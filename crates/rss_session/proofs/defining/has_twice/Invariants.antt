use Rattle.std.proofs.Common.{◌≡◌, drop}
use Rattle.rss_base.specs.TupleTypes.{field_names}
use Rattle.rss_model.specs.Defining.{has_twice}
use Rattle.rss_session.proofs.defining.has_twice.Given as goal

abbrev pub invariant-loop-place : goal.invariant-loop-place
invariant-loop-place l = has_twice (field_names l.fields) ≡ has_twice (drop l.place (field_names l.fields))
