use Rattle.std.proofs.Common.{◌≤◌, ◌-◌}
use Rattle.rss_restart.specs.Reading.{Reads}
use Rattle.rss_restart.proofs.survey.reading.read_records.Given as goal

-- the records in front of this position were read
pub record Reached (l : goal.Live-loop-at) : Type 0 where
  pub low : l.from ≤ l.at
  pub high : l.at ≤ l.until
  pub read : Reads l.log l.from l.at l.events.items

abbrev pub invariant-loop-at : goal.invariant-loop-at
invariant-loop-at l = Reached l

abbrev pub decreases-loop-at : goal.decreases-loop-at
decreases-loop-at l = l.until - l.at
