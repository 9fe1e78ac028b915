use Rattle.std.proofs.Common.{◌≡◌, ◌+◌, ◌-◌, subst, arith, ℕ, sym, ◌∙◌, ap}
use Rattle.rss_base.specs.PageMap.{owner_of}
use Rattle.rss_frames.specs.Frames.{frame_in}
use Rattle.rss_buffer.specs.Gathered.{AreSettled}
use Rattle.rss_buffer.proofs.Lookups.{settled_shown}
use Rattle.rss_buffer.proofs.Runs.{settled-more, settled-past}
use Rattle.rss_buffer.proofs.run.settle.Goals as goal
use Rattle.rss_buffer.proofs.run.settle.Goals.{in-Some, in_default}

pub loop-at-preserved : goal.loop-at-preserved
loop-at-preserved c =
    let owners = c.args.owners.now in
    let slot = c.args.slot in
    let count = c.loop-at.at - slot in
    let at : slot + count ≡ c.loop-at.at = omega (arith, c.loop-at.auto.at) in
    let next : count + 1 ≡ c.loop-at.at + 1 - slot = omega (arith, at) in
    let frames = frame_in c.args.frames.now in
    let frames_mid = frame_in c.loop-at.frames in
    let so_far = c.loop-at.invariant in
    record {
      settled = subst (λ (n : ℕ). AreSettled owners slot n frames (frame_in c.match-owner.frames)) next (elim c.match-owner.branch [
        | in-Some w ↦ rw w.frames-is (settled-more owners slot count frames frames_mid so_far.settled _ w.in-Some.key (ap (owner_of owners) at ∙ sym c.owner.ensures ∙ w.in-Some.is) (settled_shown _ _ w.settle.ensures))
        | in_default w ↦ rw w.frames-is (settled-past owners slot count frames frames_mid so_far.settled (ap (owner_of owners) at ∙ sym c.owner.ensures ∙ w.in_default.is))
      ]);
      room = elim c.match-owner.branch [
        | in-Some w ↦ rw w.frames-is (w.settle.ensures.room_is ∙ so_far.room)
        | in_default w ↦ rw w.frames-is so_far.room
      ];
    }
