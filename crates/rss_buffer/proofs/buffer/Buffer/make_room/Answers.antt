use Rattle.std.proofs.Common.{◌≢◌, ◌∙◌, Some, None, is_some, length, ap, arith}
use Rattle.rss_frames.specs.Entries.{entries}
use Rattle.rss_frames.specs.Frames.{FrameOf, frame_in}
use Rattle.rss_buffer.specs.Buffered.{IsFilled}
use Rattle.rss_buffer.specs.Devices.{buffer_view}
use Rattle.rss_buffer.proofs.Fitting.{frames_few}
use Rattle.rss_buffer.proofs.Lookups.{with_frame-other, none_from, gone_shown, newest_there, on_err, eldest_there, eldest_none, eldest_apart}
use Rattle.rss_buffer.proofs.Turns.{none_more-removed, KeepsPages-rests, KeepsPages-then, KeepsPages-removed, KeepsPages-driven, IsBuffer-removed, IsBuffer-beside, puts_none, puts_one, MovesPages-keeps, cause_fails}
use Rattle.rss_buffer.proofs.buffer.Buffer.make_room.Goals as goal

pub returns-then-not-is_full-clause-did : goal.returns-then-not-is_full-clause-did
returns-then-not-is_full-clause-did g c = MovesPages-keeps _ (KeepsPages-rests _) puts_none

pub returns-in_err-write_out-clause-did : goal.returns-in_err-write_out-clause-did
returns-in_err-write_out-clause-did g c =
    let did = c.write_out.ensures.did in
    record {
      keeps = KeepsPages-driven did.keeps;
      puts = puts_one (omega (arith, did.outs, c.one_more-self.ensures.more)) (did.outs ∙ c.one_more-self.ensures.is) c.write_out.ensures.few;
      cause = cause_fails _ c.from_residual.ensures.1 c.in_err-write_out.ensures.did.cause;
    }

pub returns-in_err-write_out-clause-full : goal.returns-in_err-write_out-clause-full
returns-in_err-write_out-clause-full g c =
    let self = c.args.self.now in
    let few = frames_few self.frames self.shadow c.is_full.ensures.distinct self.holds.frames_hold in
    let filled : IsFilled (buffer_view self) = omega (arith, few, c.is_full.ensures.full.0 c.if-not-is_full.false) in
    on_err _ filled

pub invariant_of-self : goal.invariant_of-self
invariant_of-self g c = record { saved_area = c.args.self.now.saved_area; holds = IsBuffer-beside c.args.self.now.holds c.args.self.now.holds.noted }

pub invariant_of-self-2 : goal.invariant_of-self-2
invariant_of-self-2 g c =
    let mid = c.write_out.new.self in
    record { saved_area = mid.saved_area; holds = rw c.remove.ensures.gone.room_is (IsBuffer-removed mid.holds c.in-Some.key c.in_ok-write_out.ensures.written (gone_shown _ _ c.remove.ensures.gone)) }

pub returns-clause-none_more : goal.returns-clause-none_more
returns-clause-none_more g c = λ key none.
    let mid = frame_in c.write_out.new.self.frames in
    none_more-removed mid (frame_in c.remove.new.self) c.in-Some.key key (gone_shown _ _ c.remove.ensures.gone)
    (none_from (mid key) (c.write_out.ensures.same_there key ∙ ap (λ o. is_some o) none))

pub returns-clause-did : goal.returns-clause-did
returns-clause-did g c =
    let mid = c.write_out.new.self in
    let did = c.write_out.ensures.did in
    rw c.remove.ensures.gone.room_is (MovesPages-keeps _
    (KeepsPages-then (KeepsPages-driven did.keeps) (KeepsPages-removed mid.holds c.in-Some.key c.in_ok-write_out.ensures.written (gone_shown _ _ c.remove.ensures.gone)))
    (puts_one (omega (arith, did.outs, c.one_more-self.ensures.more)) (did.outs ∙ c.one_more-self.ensures.is) c.write_out.ensures.few))

pub unreachable-requires : goal.unreachable-requires
unreachable-requires g c = omega (arith, c.args.self.now.holds.least, c.is_full.ensures.full.0 c.if-not-is_full.false, ap length (eldest_none (entries c.args.self.now.frames) c.in_default.ensures))

pub write_out-requires : goal.write_out-requires
write_out-requires g c = eldest_there (entries c.args.self.now.frames) c.in-Some.key c.in-Some.changed c.is_full.ensures.distinct c.in-Some.ensures

pub returns-clause-room : goal.returns-clause-room
returns-clause-room g c =
    let there = (eldest_there (entries c.args.self.now.frames) c.in-Some.key c.in-Some.changed c.is_full.ensures.distinct c.in-Some.ensures).there in
    c.remove.ensures.free (c.write_out.ensures.same_there c.in-Some.key ∙ ap (λ o. is_some o) there)

-- ---- the page that was used last stays

pub returns-then-not-is_full-clause-stays : goal.returns-then-not-is_full-clause-stays
returns-then-not-is_full-clause-stays g c = λ key newest. newest_there _ key newest

pub returns-in_err-write_out-clause-stays : goal.returns-in_err-write_out-clause-stays
returns-in_err-write_out-clause-stays g c = λ key newest. c.write_out.ensures.same_there key ∙ newest_there _ key newest

pub returns-clause-stays : goal.returns-clause-stays
returns-clause-stays g c = λ key newest.
    let self = c.args.self.now in
    let mid = frame_in c.write_out.new.self.frames in
    let apart : key ≢ c.in-Some.key = λ same. eldest_apart (entries self.frames) c.in-Some.key c.in-Some.changed c.is_full.ensures.distinct c.in-Some.ensures (omega (arith, self.holds.least, c.is_full.ensures.full.0 c.if-not-is_full.false)) (newest ∙ ap Some same) in
    ap (λ (f : FrameOf). is_some (f key)) (gone_shown _ _ c.remove.ensures.gone)
    ∙ ap (λ o. is_some o) (with_frame-other mid c.in-Some.key None key apart)
    ∙ c.write_out.ensures.same_there key ∙ newest_there _ key newest
