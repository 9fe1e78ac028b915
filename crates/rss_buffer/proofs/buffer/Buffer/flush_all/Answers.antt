use Rattle.std.proofs.Common.{◌≡◌, Some, true, length, List, Option, refl, ap, subst, arith}
use Rattle.std.specs.Prelude.{Ok}
use Rattle.rss_base.specs.declared.key.PageKey.{PageKey}
use Rattle.rss_base.specs.StoredPages.{mapped_by}
use Rattle.rss_shadow.specs.Maps.{Maps}
use Rattle.rss_frames.specs.Frames.{Frame, frame_in}
use Rattle.rss_buffer.specs.Gathered.{IsWritten}
use Rattle.rss_buffer.proofs.Saves.{one_written, all_written}
use Rattle.rss_buffer.proofs.Turns.{WritesPages-none, WritesPages-then, WritesPages-fails}
use Rattle.rss_buffer.proofs.buffer.Buffer.flush_all.Goals as goal

pub loop-slot-init : goal.loop-slot-init
loop-slot-init g c = record {
  written = λ slot lt. absurd (omega (arith, lt));
  did = WritesPages-none tt refl;
}

pub loop-slot-preserved : goal.loop-slot-preserved
loop-slot-preserved g c =
    let so_far = c.loop-slot.invariant in
    let owners = c.args.self.now.shadow.current in
    let frames = frame_in c.loop-slot.self.frames in
    let frames_now = frame_in c.flush_slot.new.self.frames in
    let now = subst (λ (m : Maps). IsWritten m.current frames_now c.loop-slot.slot) so_far.did.keeps.maps c.in_ok-flush_slot.ensures.written in
    record {
      written = one_written owners frames frames_now c.loop-slot.slot now c.flush_slot.ensures.did.keeps.waiting so_far.written;
      did = WritesPages-then {result = Ok tt} so_far.did c.in_ok-flush_slot.ensures.did;
    }

pub returns-in_err-flush_slot-clause-did : goal.returns-in_err-flush_slot-clause-did
returns-in_err-flush_slot-clause-did g c = WritesPages-fails _ c.from_residual.ensures.1 (WritesPages-then c.loop-slot.invariant.did c.in_err-flush_slot.ensures.did)

pub returns-clause-none_changed : goal.returns-clause-none_changed
returns-clause-none_changed g c =
    let so_far = c.loop-slot.invariant in
    let owners = c.args.self.now.shadow.current in
    let frames = frame_in c.loop-slot.self.frames in
    let count : c.loop-slot.slot ≡ length owners = omega (arith, c.slots-slot-end.ensures.count, ap (λ (o : List (Option PageKey)). length o) c.current.ensures.current) in
    all_written owners frames c.loop-slot.slot count (subst (λ (m : Maps). (key : PageKey) (frame : Frame) → frames key ≡ Some frame → mapped_by m.current key ≡ true) so_far.did.keeps.maps c.loop-slot.self.holds.frames_hold.mapped) so_far.written
