use Rattle.std.proofs.Common.{rules, ◌≡◌, refl, arith, [], ◌∷◌, ◌++◌, subst}
use Rattle.rss_base.specs.DiskRule.{Pages, LeavesOnly}
use Rattle.rss_device.specs.Memory.{disk_of}
use Rattle.rss_device.specs.MemoryLaws.{same_some}
use Rattle.rss_device.specs.Steps.{all_steps, events_in}
use Rattle.rss_device.specs.declared.event.Event.TheVariants.{Synced}
use Rattle.rss_device.specs.declared.step.Step.TheVariants.{Sync}
use Rattle.rss_device.proofs.Events.{kept_after, syncs, synced}
use Rattle.rss_device.proofs.Noted.{one_event}
use Rattle.rss_device.proofs.step_device.StepDeviceDevice.sync.Goals as goal

pub invariant_of-self-else-is_err-clause-kept : goal.invariant_of-self-else-is_err-clause-kept
invariant_of-self-else-is_err-clause-kept c =
    let added : all_steps c.note.new.self ≡ all_steps c.args.self.now.steps ++ Sync ∷ [] = search rules in
    let noted = one_event c.args.self.now.steps c.note.new.self Sync added in
    rw c.note.ensures.first (kept_after _ _ _ c.args.self.now.kept _ Synced _ noted c.args.self.now.kept)

pub returns-clause-synced : goal.returns-clause-synced
returns-clause-synced c = λ pages told.
    let added : all_steps c.note.new.self ≡ all_steps c.args.self.now.steps ++ Sync ∷ [] = search rules in
    let noted = one_event c.args.self.now.steps c.note.new.self Sync added in
    rw c.note.ensures.first (subst (λ (p : Pages). LeavesOnly (disk_of c.args.self.now.steps.past.first (events_in c.note.new.self) c.args.self.now.pages.items) p) (same_some told) (synced _ _ _ c.args.self.now.kept _ c.args.self.now.pages.items noted))

pub returns-clause-did : goal.returns-clause-did
returns-clause-did c =
    let added : all_steps c.note.new.self ≡ all_steps c.args.self.now.steps ++ Sync ∷ [] = search rules in
    let noted = one_event c.args.self.now.steps c.note.new.self Sync added in
    record {
      reads = record { contents = refl; moments = λ told. rw c.note.ensures.first (syncs _ _ _ c.args.self.now.kept _ noted); same_writes = refl; later = omega arith };
      size = refl;
      failed = λ is. search rules;
    }
