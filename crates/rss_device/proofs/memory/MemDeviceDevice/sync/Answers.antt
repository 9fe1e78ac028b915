use Rattle.std.proofs.Common.{rules, ◌≡◌, refl, arith, [], ◌∷◌, ◌++◌, subst}
use Rattle.rss_base.specs.DiskRule.{Pages, LeavesOnly}
use Rattle.rss_device.specs.Memory.{disk_of}
use Rattle.rss_device.specs.MemoryLaws.{same_some}
use Rattle.rss_device.specs.declared.event.Event.TheVariants.{Synced}
use Rattle.rss_device.proofs.Events.{kept_after, syncs, synced}
use Rattle.rss_device.proofs.memory.MemDeviceDevice.sync.Goals as goal

pub invariant_of-self-clause-kept : goal.invariant_of-self-clause-kept
invariant_of-self-clause-kept c =
    let pushed : c.push.new.self.items ≡ c.args.self.now.events.items ++ Synced ∷ [] = search rules in
    kept_after _ _ _ c.args.self.now.kept _ Synced _ pushed c.args.self.now.kept

pub returns-clause-synced : goal.returns-clause-synced
returns-clause-synced c = λ pages told.
    let pushed : c.push.new.self.items ≡ c.args.self.now.events.items ++ Synced ∷ [] = search rules in
    subst (λ (p : Pages). LeavesOnly (disk_of c.args.self.now.first.items c.push.new.self.items c.args.self.now.pages.items) p) (same_some told) (synced _ _ _ c.args.self.now.kept _ c.args.self.now.pages.items pushed)

pub returns-clause-did : goal.returns-clause-did
returns-clause-did c =
    let pushed : c.push.new.self.items ≡ c.args.self.now.events.items ++ Synced ∷ [] = search rules in
    record {
      reads = record { contents = refl; moments = λ told. syncs _ _ _ c.args.self.now.kept _ pushed; same_writes = refl; later = omega arith };
      size = refl;
      failed = λ is. search rules;
    }
