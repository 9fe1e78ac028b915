-- One more step of a device is one more event.
use Rattle.std.proofs.Common.{◌≡◌, [], ◌∷◌, ◌++◌}
use Rattle.std.proofs.lemmas.List.{map-append}
use Rattle.rss_device.specs.Steps.{event_of, all_steps, events_in}
use Rattle.rss_device.specs.declared.step.Step.{Step}
use Rattle.rss_device.specs.declared.steps.Steps.{Steps}

pub one_event : (old new : Steps) (step : Step) → all_steps new ≡ all_steps old ++ step ∷ [] → events_in new ≡ events_in old ++ event_of step ∷ []
one_event old new step noted = rw noted (map-append event_of (all_steps old) (step ∷ []))
