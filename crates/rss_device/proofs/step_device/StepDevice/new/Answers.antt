use Rattle.std.proofs.Common.{rules, ◌≡◌, [], ap, refl}
use Rattle.std.specs.Prelude.{map, List}
use Rattle.rss_device.specs.Steps.{event_of, events_in}
use Rattle.rss_device.specs.declared.step.Step.{Step}
use Rattle.rss_device.proofs.Events.{fresh_only}
use Rattle.rss_device.proofs.step_device.StepDevice.new.Goals as goal

pub returns : goal.returns
returns c =
    let same : c.new-steps.result.past.first ≡ c.args.pages.items = search rules in
    let none : events_in c.new-steps.result ≡ [] = ap (λ (steps : List Step). map event_of steps) c.new-steps.ensures.none in
    record {
      contents = refl;
      only = fresh_only c.new-steps.result.past.first c.args.pages.items (events_in c.new-steps.result) none same;
      none = c.new-steps.ensures.none;
      faults = refl;
      writes = refl;
    }
