-- The steps of a device, and the events that they are.
use Rattle.std.specs.Prelude.{◌≡◌, ℕ, ◌<◌, List, ◌++◌, length, map, slice_index_or}
use Rattle.rss_device.specs.declared.event.Event.{Event}
use Rattle.rss_device.specs.declared.event.Event.TheVariants.{Wrote, Synced, Sized}
use Rattle.rss_device.specs.declared.step.Step.{Step}
use Rattle.rss_device.specs.declared.step.Step.TheVariants.{Write, Sync, Resize}
use Rattle.rss_device.specs.declared.steps.Steps.{Steps}

-- the event that a step is
abbrev pub event_of : Step → Event
event_of (Write at bytes) = Wrote at bytes
event_of Sync = Synced
event_of (Resize pages) = Sized pages

-- those that were let go, and then those that are kept
abbrev pub all_steps : Steps → List Step
all_steps steps = steps.past.steps ++ steps.kept.items

-- all events so far
abbrev pub events_in : Steps → List Event
events_in steps = map event_of (all_steps steps)

-- there are more steps than k, and this one is number k
pub record IsStep (steps : List Step) (k : ℕ) (step : Step) : Type 0 where
  pub within : k < length steps
  pub there : slice_index_or steps k step ≡ step
