use Rattle.std.proofs.Common.{rules, ◌≡◌, length, ◌∙◌, ap, refl, arith}
use Rattle.rss_base.specs.Layout.{slots_at}
use Rattle.rss_base.specs.StoredPages.{StandInSlots}
use Rattle.rss_shadow.specs.Maps.{Maps}
use Rattle.rss_frames.specs.Frames.{frame_in}
use Rattle.rss_buffer.specs.Slots.{held_by}
use Rattle.rss_buffer.proofs.Elsewhere.{area_below, buffer_after, changing}
use Rattle.rss_buffer.proofs.Waits.{none-waits}
use Rattle.rss_buffer.proofs.Saves.{flushed_from, saves_map, at_saved, flush_writes, save_writes, backing_kept, saving_flushed, saving_wrote}
use Rattle.rss_buffer.proofs.Turns.{WritesPages-fails}
use Rattle.rss_buffer.proofs.saving.BufferSaving.save.Goals as goal

-- ---- a changed page can't be written

pub returns-in_err-flush_all-clause-backing : goal.returns-in_err-flush_all-clause-backing
returns-in_err-flush_all-clause-backing g c = backing_kept c.flush_all.ensures.did.keeps

pub returns-in_err-flush_all-clause-only : goal.returns-in_err-flush_all-clause-only
returns-in_err-flush_all-clause-only g c = flush_writes c.args.self.now.shadow c.args.area c.args.self.now.holds.laid_out.place c.args.self.now.holds.laid_out.count c.flush_all.ensures.did.keeps.loose

pub returns-in_err-flush_all-clause-writes : goal.returns-in_err-flush_all-clause-writes
returns-in_err-flush_all-clause-writes g c = λ keys has. omega (arith, c.flush_all.ensures.did.few keys has)

pub returns-in_err-flush_all-clause-did : goal.returns-in_err-flush_all-clause-did
returns-in_err-flush_all-clause-did g c = saving_flushed _ (WritesPages-fails _ c.from_residual.ensures.1 c.in_err-flush_all.ensures.did)

-- ---- the map is written, or can't be

pub invariant_of-self : goal.invariant_of-self
invariant_of-self g c =
    let mid = c.flush_all.new.self in
    let only = rw c.current.ensures.current at c.write_table.ensures.did.only in
    record {
      saved_area = λ area is. absurd (cc);
      holds = buffer_after mid.holds c.write_table.ensures.did.size (area_below mid.holds c.requires.area) only (changing _ refl);
    }

pub returns-in_err-write_table-clause-backing : goal.returns-in_err-write_table-clause-backing
returns-in_err-write_table-clause-backing g c = backing_kept c.flush_all.ensures.did.keeps

pub returns-in_err-write_table-clause-only : goal.returns-in_err-write_table-clause-only
returns-in_err-write_table-clause-only g c =
    let flush = c.flush_all.ensures.did in
    let only = rw (c.current.ensures.current, flush.keeps.maps) at c.write_table.ensures.did.only in
    save_writes c.args.self.now.shadow c.args.area c.args.self.now.holds.laid_out.place c.args.self.now.holds.laid_out.count flush.keeps.loose only

pub returns-in_err-write_table-clause-writes : goal.returns-in_err-write_table-clause-writes
returns-in_err-write_table-clause-writes g c = λ keys has.
    let flush = c.flush_all.ensures.did in
    let table = rw (c.current.ensures.current, flush.keeps.maps) at c.write_table.ensures.did.writes in
    omega (arith, flush.few keys has, table)

pub invariant_of-self-2-clause-holds : goal.invariant_of-self-2-clause-holds
invariant_of-self-2-clause-holds g c =
    let mid = c.flush_all.new.self in
    let only = rw c.current.ensures.current at c.write_table.ensures.did.only in
    let written = rw c.current.ensures.current at c.in_ok-write_table.ensures.written in
    buffer_after mid.holds c.write_table.ensures.did.size (area_below mid.holds c.requires.area) only (at_saved _ c.args.area refl c.in_ok-flush_all.ensures.none_changed only written)

pub returns-clause-saved : goal.returns-clause-saved
returns-clause-saved g c = λ told pages is.
    let old = c.args.self.now in
    let flush = c.flush_all.ensures.did in
    let held = held_by old.first_slot old.shadow.current (frame_in old.frames) (g.D.Device.view old.device).disk.contents in
    let mid = flush.keeps.loose.told.0 told in
    let stand : StandInSlots (slots_at (length old.shadow.current) old.log_pages) mid.pages old.shadow.current held = flushed_from c.flush_all.new.self.holds flush.keeps c.in_ok-flush_all.ensures.none_changed told mid.pages mid.is in
    let table : c.current.result.now ≡ old.shadow.current = c.current.ensures.current ∙ ap (λ (m : Maps). m.current) flush.keeps.maps in
    let holds = rw table at (c.in_ok-write_table.ensures.written mid.pages mid.is) in
    saves_map old.log_pages c.args.area old.shadow.current held mid.pages _ c.requires.area stand holds pages is

pub returns-clause-none_wait : goal.returns-clause-none_wait
returns-clause-none_wait g c = none-waits (frame_in c.flush_all.new.self.frames) c.in_ok-flush_all.ensures.none_changed

pub returns-clause-backing : goal.returns-clause-backing
returns-clause-backing g c = backing_kept c.flush_all.ensures.did.keeps

pub returns-clause-only : goal.returns-clause-only
returns-clause-only g c =
    let flush = c.flush_all.ensures.did in
    let only = rw (c.current.ensures.current, flush.keeps.maps) at c.write_table.ensures.did.only in
    save_writes c.args.self.now.shadow c.args.area c.args.self.now.holds.laid_out.place c.args.self.now.holds.laid_out.count flush.keeps.loose only

pub returns-clause-writes : goal.returns-clause-writes
returns-clause-writes g c = λ keys has.
    let flush = c.flush_all.ensures.did in
    let table = rw (c.current.ensures.current, flush.keeps.maps) at c.write_table.ensures.did.writes in
    omega (arith, flush.few keys has, table)

pub returns-in_err-write_table-clause-did : goal.returns-in_err-write_table-clause-did
returns-in_err-write_table-clause-did g c =
    let mid = c.flush_all.new.self in
    let only = rw c.current.ensures.current at c.write_table.ensures.did.only in
    saving_wrote (g.D.Device.view c.write_table.new.device) c.flush_all.ensures.did.keeps (area_below mid.holds c.requires.area) only c.write_table.ensures.did.cause (search rules) (search rules)

pub returns-clause-did : goal.returns-clause-did
returns-clause-did g c =
    let mid = c.flush_all.new.self in
    let only = rw c.current.ensures.current at c.write_table.ensures.did.only in
    saving_wrote (g.D.Device.view c.write_table.new.device) c.flush_all.ensures.did.keeps (area_below mid.holds c.requires.area) only c.write_table.ensures.did.cause (search rules) (search rules)
