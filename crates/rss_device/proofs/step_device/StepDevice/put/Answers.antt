use Rattle.std.proofs.Common.{rules, set, refl, ap}
use Rattle.rss_base.specs.DiskRule.{Pages}
use Rattle.rss_device.specs.declared.event.Event.TheVariants.{Wrote}
use Rattle.rss_device.specs.declared.step.Step.TheVariants.{Write}
use Rattle.rss_device.proofs.Events.{kept_after, writes, written_at}
use Rattle.rss_device.proofs.Noted.{one_event}
use Rattle.rss_device.proofs.step_device.StepDevice.put.Goals as goal

pub invariant_of-self-2-clause-kept : goal.invariant_of-self-2-clause-kept
invariant_of-self-2-clause-kept c =
    let noted = one_event c.args.self.now.steps c.note.new.self (Write c.args.at c.args.from.now) c.in_ok-note.ensures.noted in
    rw c.note.ensures.first (kept_after _ _ _ c.args.self.now.kept _ (Wrote c.args.at c.args.from.now) _ noted (ap (λ (p : Pages). set p c.args.at c.args.from.now) c.args.self.now.kept))

pub returns-clause-only : goal.returns-clause-only
returns-clause-only c =
    let noted = one_event c.args.self.now.steps c.note.new.self (Write c.args.at c.args.from.now) c.in_ok-note.ensures.noted in
    record {
      only = rw c.note.ensures.first (written_at _ _ _ _ c.args.at c.args.from.now (writes _ _ _ c.args.self.now.kept _ _ _ _ c.requires noted));
      size = search rules;
      writes = refl;
      faults = refl;
    }
