use Rattle.std.proofs.Common.{rules, ◌≡◌, [], ◌∷◌, ◌++◌, set, refl, ap}
use Rattle.rss_base.specs.DiskRule.{Pages}
use Rattle.rss_device.specs.declared.event.Event.TheVariants.{Wrote}
use Rattle.rss_device.proofs.Events.{kept_after, writes, written_at}
use Rattle.rss_device.proofs.memory.MemDevice.put.Goals as goal

pub invariant_of-self-2-clause-kept : goal.invariant_of-self-2-clause-kept
invariant_of-self-2-clause-kept c =
    let pushed : c.push.new.self.items ≡ c.args.self.now.events.items ++ Wrote c.args.at c.args.from.now ∷ [] = search rules in
    kept_after _ _ _ c.args.self.now.kept _ (Wrote c.args.at c.args.from.now) _ pushed (ap (λ (p : Pages). set p c.args.at c.args.from.now) c.args.self.now.kept)

pub returns-clause-only : goal.returns-clause-only
returns-clause-only c =
    let pushed : c.push.new.self.items ≡ c.args.self.now.events.items ++ Wrote c.args.at c.args.from.now ∷ [] = search rules in
    record {
      only = written_at _ _ _ _ c.args.at c.args.from.now (writes _ _ _ c.args.self.now.kept _ _ _ _ c.requires pushed);
      size = search rules;
      writes = refl;
      faults = refl;
    }
