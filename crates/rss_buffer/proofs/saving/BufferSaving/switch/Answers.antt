use Rattle.std.proofs.Common.{rules, ◌≡◌, ℕ, ◌-◌, length, refl, sym, subst, arith}
use Rattle.rss_base.specs.DiskRule.{Pages}
use Rattle.rss_base.specs.Layout.{device_pages}
use Rattle.rss_base.specs.StoredPages.{SavesPages, HoldsPages}
use Rattle.rss_buffer.specs.Slots.{held_by}
use Rattle.rss_frames.specs.Frames.{frame_in}
use Rattle.rss_buffer.specs.Devices.{buffer_view}
use Rattle.rss_buffer.proofs.Turns.{KeepsPages-rests}
use Rattle.rss_buffer.proofs.Elsewhere.{switched_below, buffer_after, changing}
use Rattle.rss_buffer.proofs.Saves.{holds_pages, saved_by, saving_wrote}
use Rattle.rss_buffer.proofs.saving.BufferSaving.switch.Goals as goal

pub invariant_of-self : goal.invariant_of-self
invariant_of-self g c =
    let buffer = c.args.self.now in
    record {
      saved_area = λ area is. absurd (cc);
      holds = buffer_after buffer.holds c.switch.ensures.did.size (switched_below buffer.holds (omega (arith, c.requires.low))) c.switch.ensures.did.only (changing _ refl);
    }

pub returns-then-is_saved-clause-holds : goal.returns-then-is_saved-clause-holds
returns-then-is_saved-clause-holds g c = λ told is image left.
    let buffer = c.args.self.now in
    let root = c.args.root.now in
    let held = held_by buffer.first_slot buffer.shadow.current (frame_in buffer.frames) (g.D.Device.view buffer.device).disk.contents in
    let switched = c.in_ok-number.ensures.switched told.pages told.is in
    let long = g.met.D.Device.sized buffer.device told.pages told.is in
    let size : length told.pages ≡ device_pages root = omega (arith, long, buffer.holds.laid_out.ends, buffer.holds.laid_out.place, is.slots, is.log_pages) in
    let saves : SavesPages root.log_pages root.area told.pages buffer.shadow.current held = subst (λ (n : ℕ). SavesPages n root.area told.pages buffer.shadow.current held) (sym is.log_pages) (saved_by root.area is.saved buffer.holds told.pages told.is) in
    subst (λ (p : Pages). HoldsPages p (3 - c.args.valid) root buffer.shadow.current held) (sym (switched.only image left))
    (holds_pages told.pages (3 - c.args.valid) root switched.selector buffer.shadow.current held (omega arith) (omega arith) switched.names_it is.formed (sym is.slots) size saves)

pub returns-in_err-number-clause-did : goal.returns-in_err-number-clause-did
returns-in_err-number-clause-did g c =
    let buffer = c.args.self.now in
    saving_wrote (g.D.Device.view c.switch.new.device) (KeepsPages-rests (buffer_view buffer)) (switched_below buffer.holds (omega (arith, c.requires.low))) c.switch.ensures.did.only c.switch.ensures.did.cause (search rules) (search rules)

pub returns-then-is_saved-clause-did : goal.returns-then-is_saved-clause-did
returns-then-is_saved-clause-did g c =
    let buffer = c.args.self.now in
    saving_wrote (g.D.Device.view c.switch.new.device) (KeepsPages-rests (buffer_view buffer)) (switched_below buffer.holds (omega (arith, c.requires.low))) c.switch.ensures.did.only c.switch.ensures.did.cause (search rules) (search rules)

pub returns-else-is_saved-clause-did : goal.returns-else-is_saved-clause-did
returns-else-is_saved-clause-did g c =
    let buffer = c.args.self.now in
    saving_wrote (g.D.Device.view c.switch.new.device) (KeepsPages-rests (buffer_view buffer)) (switched_below buffer.holds (omega (arith, c.requires.low))) c.switch.ensures.did.only c.switch.ensures.did.cause (search rules) (search rules)
