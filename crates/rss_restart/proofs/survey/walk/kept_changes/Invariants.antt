use Rattle.std.proofs.Common.{◌≡◌, ℕ, drop}
use Rattle.rss_restart.specs.Events.{bound, front, kept_in}
use Rattle.rss_restart.proofs.survey.walk.kept_changes.Given as goal

-- the records from i on were passed
pub record Passed (l : goal.Live-loop-i) : Type 0 where
  pub kept : l.kept.items ≡ kept_in l.initial.bounds.ended (bound l.initial.bounds) (drop l.i l.events)
  pub bounds : (t : ℕ) → bound l.bounds t ≡ front l.initial.bounds.ended (bound l.initial.bounds) (drop l.i l.events) t
  pub ended : l.bounds.ended ≡ l.initial.bounds.ended

abbrev pub invariant-loop-i : goal.invariant-loop-i
invariant-loop-i l = Passed l
