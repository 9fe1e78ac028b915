use Rattle.std.proofs.Common.{rules, ◌≡◌, ◌∙◌, inl, inr, List, Some, is_some, option_map, ap}
use Rattle.rss_frames.specs.Entries.{Held, newest}
use Rattle.rss_base.specs.PageMap.{owner_of}
use Rattle.rss_base.specs.StoredPages.{mapped_by}
use Rattle.rss_shadow.specs.Maps.{Maps}
use Rattle.rss_frames.specs.Frames.{frame_in, frame_among, FrameOf}
use Rattle.rss_buffer.proofs.Lookups.{stays-with, came_shown}
use Rattle.rss_shadow.proofs.Owned.{HasPage-mapped}
use Rattle.rss_buffer.proofs.Turns.{either, IsBuffer-same, KeepsPages-same, IsBuffer-rests, KeepsPages-read, IsBuffer-loads, KeepsPages-loads, KeepsPages-then, puts_still, MovesPages-keeps, MovesPages-fails}
use Rattle.rss_buffer.proofs.buffer.Buffer.read_in.Goals as goal

-- ---- there is no room

pub returns-in_err-make_room-clause-did : goal.returns-in_err-make_room-clause-did
returns-in_err-make_room-clause-did g c = MovesPages-fails _ c.from_residual.ensures.1 c.in_err-make_room.ensures.did

pub unreachable-requires : goal.unreachable-requires
unreachable-requires g c =
    let has = HasPage-mapped c.make_room.new.self.shadow.current c.args.key (ap (λ (m : Maps). mapped_by m.current c.args.key) c.make_room.ensures.did.keeps.maps ∙ c.requires.mapped) in
    c.in_default.ensures.none has.slot has.owned

-- ---- it can't be read

pub invariant_of-self : goal.invariant_of-self
invariant_of-self g c =
    let self = c.make_room.new.self in
    let did = c.read_in.ensures.did in
    let owned : owner_of self.shadow.current c.from.result ≡ Some c.args.key = ap (owner_of self.shadow.current) c.from.ensures ∙ c.in-Some.ensures.some in
    let none = c.make_room.ensures.none_more c.args.key c.requires.absent in
    record {
      saved_area = self.saved_area;
      holds = rw c.read_in.ensures.room (elim (either c.read_in.result c.read_in.ensures.ok c.read_in.ensures.err (λ is. is)) [
        | inl came ↦ IsBuffer-loads self.holds did.reads c.args.key c.from.result came.bytes none owned came.read did.size (inl (came_shown came))
        | inr same ↦ IsBuffer-same (IsBuffer-rests self.holds did.reads did.size) (ap frame_among same)
      ]);
    }

pub returns-in_err-read_in-clause-did : goal.returns-in_err-read_in-clause-did
returns-in_err-read_in-clause-did g c =
    let room = c.make_room.ensures.did in
    let did = c.read_in.ensures.did in
    record {
      keeps = rw c.read_in.ensures.room (KeepsPages-then room.keeps (KeepsPages-then (KeepsPages-read c.make_room.new.self.holds did.reads) (KeepsPages-same (ap frame_among c.in_err-read_in.ensures.err))));
      puts = puts_still room.puts did.reads.same_writes;
      cause = search rules;
    }

pub returns-in_err-read_in-clause-stays : goal.returns-in_err-read_in-clause-stays
returns-in_err-read_in-clause-stays g c = λ other newest. ap (λ (f : FrameOf). is_some (f other)) (ap frame_among c.in_err-read_in.ensures.err) ∙ c.make_room.ensures.stays other newest

-- ---- it is read

pub returns-clause-newest : goal.returns-clause-newest
returns-clause-newest g c = ap (λ (es : List Held). option_map (λ e. e.key) (newest es)) c.in_ok-read_in.ensures.ok.now

pub returns-clause-stays : goal.returns-clause-stays
returns-clause-stays g c = λ other newest.
    let came = c.in_ok-read_in.ensures.ok in
    ap (λ (f : FrameOf). is_some (f other)) (came_shown came) ∙ stays-with (frame_in c.make_room.new.self.frames) c.args.key _ other (c.make_room.ensures.stays other newest)

pub returns-clause-did : goal.returns-clause-did
returns-clause-did g c =
    let self = c.make_room.new.self in
    let room = c.make_room.ensures.did in
    let did = c.read_in.ensures.did in
    let came = c.in_ok-read_in.ensures.ok in
    let owned : owner_of self.shadow.current c.from.result ≡ Some c.args.key = ap (owner_of self.shadow.current) c.from.ensures ∙ c.in-Some.ensures.some in
    let none = c.make_room.ensures.none_more c.args.key c.requires.absent in
    rw c.read_in.ensures.room (MovesPages-keeps _ (KeepsPages-then room.keeps (KeepsPages-loads self.holds did.reads c.args.key c.from.result came.bytes none owned came.read (inl (came_shown came)))) (puts_still room.puts did.reads.same_writes))
