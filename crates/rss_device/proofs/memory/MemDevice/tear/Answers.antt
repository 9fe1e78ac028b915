use Rattle.std.proofs.Common.{⊎_elim, refl}
use Rattle.std.specs.Prelude.{is_ok}
use Rattle.rss_device.specs.declared.event.Event.TheVariants.{Torn}
use Rattle.rss_device.proofs.Events.{kept_after, kept_same, stays, either, tears, written_none}
use Rattle.rss_device.proofs.memory.MemDevice.tear.Goals as goal

pub invariant_of-self-clause-kept : goal.invariant_of-self-clause-kept
invariant_of-self-clause-kept c = ⊎_elim (λ pushed. kept_after _ _ _ c.args.self.now.kept _ (Torn c.args.at) _ pushed c.args.self.now.kept) (λ same. kept_same _ _ _ _ same c.args.self.now.kept) (either (is_ok c.push.result) c.push.ensures.items)

pub returns-clause-only : goal.returns-clause-only
returns-clause-only c = record {
  only = written_none _ _ _ _ c.args.at (⊎_elim
      (λ pushed. tears _ _ _ c.args.self.now.kept _ _ _ c.requires pushed)
      (λ same. stays _ _ _ _ _ same)
      (either (is_ok c.push.result) c.push.ensures.items));
  size = refl;
  writes = refl;
  faults = refl;
}
