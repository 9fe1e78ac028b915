use Rattle.std.proofs.Common.{◌≡◌, drop}
use Rattle.rss_model.specs.Defining.{has_twice}
use Rattle.rss_session.proofs.planning.is_any_twice.Given as goal

abbrev pub invariant-loop-place : goal.invariant-loop-place
invariant-loop-place l = has_twice l.names ≡ has_twice (drop l.place l.names)
