use Rattle.std.proofs.Common.{[], ◌∙◌, sym, subst, refl, length-set, get_or-set_other}
use Rattle.rss_device.specs.Memory.{step}
use Rattle.rss_device.specs.Stop.{IsFilled}
use Rattle.rss_device.specs.declared.event.Event.{Event}
use Rattle.rss_device.specs.declared.event.Event.TheVariants.{Wrote, Torn}
use Rattle.rss_device.proofs.Images.{filled_write, filled_size, cleared}
use Rattle.rss_device.proofs.image.leave_filled.Goals as goal

pub returns-in-Wrote : goal.returns-in-Wrote
returns-in-Wrote c = λ held unsynced is.
    subst (λ (e : Event). IsFilled c.args.fill (step held e) c.put.new.pages.items) (sym c.in-Wrote.is)
    (subst (IsFilled c.args.fill (step held (Wrote c.in-Wrote.at c.in-Wrote.field-1))) (sym c.put.ensures)
    (filled_write c.args.fill c.in-Wrote.at held _ c.args.pages.now.items c.ranges.fill.fits (length-set held.pages c.in-Wrote.at c.in-Wrote.field-1) (λ q other. get_or-set_other held.pages c.in-Wrote.at q c.in-Wrote.field-1 [] other) is))

pub returns-in-Torn : goal.returns-in-Torn
returns-in-Torn c = λ held unsynced is.
    subst (λ (e : Event). IsFilled c.args.fill (step held e) c.put-in-Torn.new.pages.items) (sym c.in-Torn.is)
    (subst (IsFilled c.args.fill (step held (Torn c.in-Torn.at))) (sym c.put-in-Torn.ensures)
    (filled_write c.args.fill c.in-Torn.at held _ c.args.pages.now.items c.ranges.fill.fits refl (λ q other. refl) is))

pub returns-in_ok-resize-in-Sized : goal.returns-in_ok-resize-in-Sized
returns-in_ok-resize-in-Sized c = λ held unsynced is.
    subst (λ (e : Event). IsFilled c.args.fill (step held e) c.resize.new.self.items) (sym c.in-Sized.is)
    (filled_size c.in-Sized.size c.args.fill held c.resize.new.self.items c.ranges.fill.fits (c.in_ok-resize-in-Sized.ensures.items ∙ cleared c.in-Sized.size _ _ _ c.clear.ensures.items c.clear.ensures.len))
