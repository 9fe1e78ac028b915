-- What moving pages between memory and their slots does to a buffer.
use Rattle.std.proofs.Common.{◌≡◌, ◌≢◌, ◌⊎◌, inl, inr, ℕ, ◌+◌, ◌≤◌, Bool, true, false, List, Option, Some, None, refl, sym, ◌∙◌, ap, subst, arith}
use Rattle.std.specs.Prelude.{is_some, option_map, Result, Ok, Err, IsErrAnd, OnOk, OnErr}
use Rattle.std.proofs.lemmas.Result.{err_from_is_err_and, on_ok_weaker}
use Rattle.rss_base.specs.declared.fault.PageFault.{PageFault}
use Rattle.rss_base.specs.declared.fault.PageFault.TheVariants.{Device as DeviceFailed, Damaged, NoMemory}
use Rattle.std.proofs.Math.Path.{fun_ext}
use Rattle.std.proofs.lemmas.Bool.{cases_Bool, cond-true, cond-false}
use Rattle.std.proofs.lemmas.Option.{same_Some}
use Rattle.rss_base.specs.Devices.{DeviceView, OnlyReads}
use Rattle.rss_base.specs.DiskRule.{Disk, Pages, page, Told, IsTold}
use Rattle.rss_base.specs.Faults.{counted}
use Rattle.rss_base.specs.Runs.{run_pages}
use Rattle.rss_base.specs.PageMap.{owner_of}
use Rattle.rss_base.specs.Paged.{is_same, AreAmong, HasPageCause}
use Rattle.rss_base.specs.declared.key.PageKey.{PageKey}
use Rattle.rss_base.proofs.Moments.{only_stays, reads_none, reads_then, writes_none, writes_nothing, writes_then, writes_among}
use Rattle.rss_notes.specs.Notes.{NotesView}
use Rattle.rss_shadow.specs.Maps.{Maps}
use Rattle.rss_frames.specs.Frames.{Frame, FrameOf}
use Rattle.rss_buffer.specs.Waiting.{waiting_in}
use Rattle.rss_buffer.specs.declared.stage.Stage.{Stage}
use Rattle.rss_buffer.specs.Slots.{held_in, held_by}
use Rattle.rss_base.specs.StoredPages.{slot_of, mapped_by}
use Rattle.rss_buffer.specs.Buffered.{BufferView, NoneChanged, AreFrames, AreClean, StaysFixed, IsAtStage, AreLaidOut, AreNotesOf, IsBuffer, held_of, WritesLoose, KeepsPages, PutsOut, MovesPages, WritesPages}
use Rattle.rss_base.proofs.Calls.{leaves_then, leaves_rests}
use Rattle.rss_base.proofs.Keys.{is_same-true, is_same-itself, owner_of-slot_of}
use Rattle.rss_buffer.proofs.Lookups.{with_frame, with_frame-same}
use Rattle.rss_shadow.proofs.Owned.{mapped-owned}
use Rattle.rss_buffer.proofs.Waits.{waits-less, waits-alike, none-waits, none-among, settles-rests, settles-then, settles-count, settles-writes}
use Rattle.rss_buffer.proofs.Loose.{loose_same, StaysFixed-writes, LeavesFixed-writes}

-- ---- what pages hold

pub held-same : (first : ℕ) (owners : List (Option PageKey)) (frames frames_now : FrameOf) (pages pages_now : Pages) → ((key : PageKey) (slot : ℕ) → owner_of owners slot ≡ Some key → held_in (frames_now key) (page pages_now (first + slot)) ≡ held_in (frames key) (page pages (first + slot))) → held_by first owners frames_now (Some pages_now) ≡ held_by first owners frames (Some pages)
held-same first owners frames frames_now pages pages_now alike = fun_ext (λ key. by (slot_of owners key) _ _ (λ s is. alike key s (owner_of-slot_of owners key s is)))
  where
    by : (o : Option ℕ) (f g : ℕ → List ℕ) → ((s : ℕ) → o ≡ Some s → f s ≡ g s) → option_map f o ≡ option_map g o
    by None f g alike = refl
    by (Some s) f g alike = ap Some (alike s refl)

pub held_in-same : (frame : Option Frame) (bytes bytes_now : List ℕ) → (frame ≡ None → bytes_now ≡ bytes) → held_in frame bytes_now ≡ held_in frame bytes
held_in-same None bytes bytes_now same = same refl
held_in-same (Some frame) bytes bytes_now same = refl

-- a frame among those after a change at one page
pub with_frame-cases : (frames : FrameOf) (key : PageKey) (frame : Option Frame) (other : PageKey) (f : Frame) → with_frame frames key frame other ≡ Some f → ((other ≡ key) × (frame ≡ Some f)) ⊎ ((other ≢ key) × (frames other ≡ Some f))
with_frame-cases frames key frame other f is = elim (cases_Bool (is_same other key)) [
  | inl same ↦ inl (is_same-true other key same, sym (cond-true (is_same other key) frame (frames other) same) ∙ is)
  | inr off ↦ inr (
    (λ at. let same : is_same other key ≡ true = ap (λ (k : PageKey). is_same k key) at ∙ is_same-itself key in cc),
    sym (cond-false (is_same other key) frame (frames other) off) ∙ is,
  )
]

-- what is known of a result that was not looked at
pub either : {T E P Q R : Type 0} (result : Result T E) → OnOk result P → OnErr result Q → (Q → R) → P ⊎ R
either (Ok x) ok err then = inl ok
either (Err e) ok err then = inr (then err)

-- a page that isn't in memory isn't brought there by a change of another's frame
none_more : (frames : FrameOf) (key : PageKey) (frame : Option Frame) (other : PageKey) → (frames key ≡ None → frame ≡ None) → frames other ≡ None → with_frame frames key frame other ≡ None
none_more frames key frame other same none = elim (cases_Bool (is_same other key)) [
  | inl here ↦ cond-true (is_same other key) frame (frames other) here ∙ same (ap frames (sym (is_same-true other key here)) ∙ none)
  | inr off ↦ cond-false (is_same other key) frame (frames other) off ∙ none
]

pub none_more-removed : (frames frames_now : FrameOf) (key other : PageKey) → frames_now ≡ with_frame frames key None → frames other ≡ None → frames_now other ≡ None
none_more-removed frames frames_now key other now none = ap (λ (f : FrameOf). f other) now ∙ none_more frames key None other (λ is. refl) none

-- ---- one call after another

pub KeepsPages-rests : (view : BufferView) → KeepsPages view view
KeepsPages-rests view = record {
  first = refl;
  maps = refl;
  notes = refl;
  settled = refl;
  log_pages = refl;
  area = refl;
  stage = refl;
  asks = refl;
  room = refl;
  held = λ told. refl;
  leaves = leaves_rests (view.settled ≡ true) view.device.disk _;
  loose = writes_none view.device.disk;
  waiting = λ key is. is;
  unwritten = λ none. reads_none view.device;
  writes = omega arith;
  later = omega arith;
}

pub KeepsPages-then : {old mid new : BufferView} → KeepsPages old mid → KeepsPages mid new → KeepsPages old new
KeepsPages-then {old = old} {mid = mid} one two = record {
  first = two.first ∙ one.first;
  maps = two.maps ∙ one.maps;
  notes = two.notes ∙ one.notes;
  settled = two.settled ∙ one.settled;
  log_pages = two.log_pages ∙ one.log_pages;
  area = two.area ∙ one.area;
  stage = two.stage ∙ one.stage;
  asks = two.asks ∙ one.asks;
  room = two.room ∙ one.room;
  held = λ told. two.held (one.leaves.told.0 told) ∙ one.held told;
  leaves = leaves_then one.leaves two.leaves;
  loose = writes_then one.loose (writes_among (loose_same one.first (ap (λ (m : Maps). m.shadow) one.maps)) two.loose);
  waiting = λ key is. one.waiting key (two.waiting key is);
  unwritten = λ none. reads_then (one.unwritten none) (two.unwritten (none-among mid.frames one.waiting (none-waits old.frames none)));
  writes = omega (arith, one.writes, two.writes);
  later = omega (arith, one.later, two.later);
}

-- ---- the frames after a change at one page

AreFrames-put : (maps : Maps) (frames : FrameOf) (key : PageKey) (frame : Frame) → AreFrames maps frames → mapped_by maps.current key ≡ true → frame.changed ≡ false → AreFrames maps (with_frame frames key (Some frame))
AreFrames-put maps frames key frame are mapped clean = record {
  mapped = λ other f is. elim (with_frame-cases frames key (Some frame) other f is) [
    | inl here ↦ ap (mapped_by maps.current) here.0 ∙ mapped
    | inr there ↦ are.mapped other f there.1
  ];
  own_slot = λ other f slot is changed owned. elim (with_frame-cases frames key (Some frame) other f is) [
    | inl here ↦ let at : frame ≡ f = same_Some _ _ here.1 in absurd (let is_false : f.changed ≡ false = ap (λ (x : Frame). x.changed) (sym at) ∙ clean in cc)
    | inr there ↦ are.own_slot other f slot there.1 changed owned
  ];
}

AreFrames-removed : (maps : Maps) (frames : FrameOf) (key : PageKey) → AreFrames maps frames → AreFrames maps (with_frame frames key None)
AreFrames-removed maps frames key are = record {
  mapped = λ other f is. elim (with_frame-cases frames key None other f is) [
    | inl here ↦ absurd (cc)
    | inr there ↦ are.mapped other f there.1
  ];
  own_slot = λ other f slot is changed owned. elim (with_frame-cases frames key None other f is) [
    | inl here ↦ absurd (cc)
    | inr there ↦ are.own_slot other f slot there.1 changed owned
  ];
}

NoneChanged-put : (frames : FrameOf) (key : PageKey) (frame : Frame) → frame.changed ≡ false → NoneChanged frames → NoneChanged (with_frame frames key (Some frame))
NoneChanged-put frames key frame clean none = λ other f is. elim (with_frame-cases frames key (Some frame) other f is) [
  | inl here ↦ let at : frame ≡ f = same_Some _ _ here.1 in ap (λ (x : Frame). x.changed) (sym at) ∙ clean
  | inr there ↦ none other f there.1
]

NoneChanged-removed : (frames : FrameOf) (key : PageKey) → NoneChanged frames → NoneChanged (with_frame frames key None)
NoneChanged-removed frames key none = λ other f is. elim (with_frame-cases frames key None other f is) [
  | inl here ↦ absurd (cc)
  | inr there ↦ none other f there.1
]

-- ---- a buffer

-- other notes, and what says nothing of its pages: the area of the selected root, and the counts
pub IsBuffer-beside : {b : BufferView} {notes : NotesView} {area asks outs : ℕ} → IsBuffer b → AreNotesOf b.maps.current notes → IsBuffer (record b { notes = notes; area = area; asks = asks; outs = outs })
IsBuffer-beside buffer noted = record {
  least = buffer.least;
  laid_out = buffer.laid_out;
  noted = noted;
  frames_hold = buffer.frames_hold;
  clean = buffer.clean;
  fixed = buffer.fixed;
  at_stage = record {
    none_changed = buffer.at_stage.none_changed;
    saved = buffer.at_stage.saved;
    synced = buffer.at_stage.synced;
  };
}

module _ {b : BufferView} (buffer : IsBuffer b) where
  module _ {device : DeviceView} {frames : FrameOf} where
    -- what any call of the device leaves
    pub IsBuffer-after : {settled : Bool} {stage : Stage} → device.size ≡ b.device.size → AreFrames b.maps frames → Told device.disk (AreClean b.first b.maps frames) → (settled ≡ true → Told device.disk (StaysFixed device.disk b.first b.maps.shadow))
        → IsAtStage (record b { device = device; frames = frames; settled = settled; stage = stage }) → IsBuffer (record b { device = device; frames = frames; settled = settled; stage = stage })
    IsBuffer-after same are clean fixed at_stage = record {
      least = buffer.least;
      laid_out = subst (AreLaidOut b.maps b.first b.log_pages) (sym same) buffer.laid_out;
      noted = buffer.noted;
      frames_hold = are;
      clean = clean;
      fixed = fixed;
      at_stage = at_stage;
    }

    -- what one leaves that writes loose pages alone
    pub IsBuffer-writes : WritesLoose b.first b.maps.shadow b.device.disk device.disk → device.size ≡ b.device.size → AreFrames b.maps frames → Told device.disk (AreClean b.first b.maps frames) → IsAtStage (record b { device = device; frames = frames }) → IsBuffer (record b { device = device; frames = frames })
    IsBuffer-writes loose same are clean = IsBuffer-after same are clean (λ is. StaysFixed-writes b.first b.maps.shadow b.device.disk device.disk loose (buffer.fixed is))

    pub KeepsPages-writes : WritesLoose b.first b.maps.shadow b.device.disk device.disk → (NoneChanged b.frames → OnlyReads b.device device) → AreAmong (waiting_in frames) (waiting_in b.frames) → b.device.writes ≤ device.writes → b.device.faults ≤ device.faults → (IsTold b.device.disk → held_by b.first b.maps.current frames device.disk.contents ≡ held_of b) → KeepsPages b (record b { device = device; frames = frames })
    KeepsPages-writes loose unwritten waiting more later held = record {
      first = refl;
      maps = refl;
      notes = refl;
      settled = refl;
      log_pages = refl;
      area = refl;
      stage = refl;
      asks = refl;
      room = refl;
      held = held;
      leaves = LeavesFixed-writes b.first b.maps.shadow (b.settled ≡ true) b.device.disk device.disk loose buffer.fixed;
      loose = loose;
      waiting = waiting;
      unwritten = unwritten;
      writes = more;
      later = later;
    }

  -- ---- nothing is written

  module _ {device : DeviceView} (reads : OnlyReads b.device device) where
    writes-rests : WritesLoose b.first b.maps.shadow b.device.disk device.disk
    writes-rests = writes_nothing reads

    at_stage-rests : {frames : FrameOf} → (NoneChanged b.frames → NoneChanged frames) → IsAtStage (record b { device = device; frames = frames })
    at_stage-rests none = record {
      none_changed = λ is. none (buffer.at_stage.none_changed is);
      saved = λ area is pages told. buffer.at_stage.saved area is pages (sym reads.contents ∙ told);
      synced = λ is pages told. only_stays pages (buffer.at_stage.synced is pages (sym reads.contents ∙ told)) (reads.moments (record { pages = pages; is = sym reads.contents ∙ told }));
    }

    pub IsBuffer-rests : device.size ≡ b.device.size → IsBuffer (record b { device = device })
    IsBuffer-rests size_same = IsBuffer-writes writes-rests size_same buffer.frames_hold (λ pages is. buffer.clean pages (sym reads.contents ∙ is)) (at_stage-rests (λ none. none))

    more-rests : b.device.writes ≤ device.writes
    more-rests = omega (arith, reads.same_writes)

    pub KeepsPages-read : KeepsPages b (record b { device = device })
    KeepsPages-read = KeepsPages-writes writes-rests (λ none. reads) (λ other is. is) more-rests reads.later (λ told. ap (held_by b.first b.maps.current b.frames) reads.contents)

    -- a page that isn't in memory is brought there
    module _ (key : PageKey) (slot : ℕ) (bytes : List ℕ) (none : b.frames key ≡ None) (owned : owner_of b.maps.current slot ≡ Some key) (read : Told b.device.disk (λ pages. bytes ≡ page pages (b.first + slot))) where
      abbrev loaded : Frame
      loaded = record { page = bytes; changed = false }

      abbrev loaded_frames : FrameOf
      loaded_frames = with_frame b.frames key (Some loaded)

      IsBuffer-loaded : device.size ≡ b.device.size → IsBuffer (record b { device = device; frames = loaded_frames })
      IsBuffer-loaded size_same =
          IsBuffer-writes writes-rests size_same (AreFrames-put b.maps b.frames key loaded buffer.frames_hold (mapped-owned b.maps.current key slot owned) refl) clean (at_stage-rests (NoneChanged-put b.frames key loaded refl))
        where
          clean : Told device.disk (AreClean b.first b.maps loaded_frames)
          clean pages is other f s there is_clean owns = elim (with_frame-cases b.frames key (Some loaded) other f there) [
            | inl here ↦
                let at : s ≡ slot = buffer.laid_out.table.distinct s slot key (owns ∙ ap Some here.0) owned in
                ap (λ (x : Frame). x.page) (sym (same_Some _ _ here.1)) ∙ read pages (sym reads.contents ∙ is) ∙ ap (λ (t : ℕ). page pages (b.first + t)) (sym at)
            | inr off ↦ buffer.clean pages (sym reads.contents ∙ is) other f s off.1 is_clean owns
          ]

      held-loaded : IsTold b.device.disk → held_by b.first b.maps.current loaded_frames device.disk.contents ≡ held_of b
      held-loaded told = ap (held_by b.first b.maps.current loaded_frames) (reads.contents ∙ told.is)
          ∙ held-same b.first b.maps.current b.frames loaded_frames told.pages told.pages (λ other s owns. elim (cases_Bool (is_same other key)) [
            | inl here ↦
                let key_at = is_same-true other key here in
                let at : s ≡ slot = buffer.laid_out.table.distinct s slot key (owns ∙ ap Some key_at) owned in
                ap (λ (k : PageKey). held_in (loaded_frames k) (page told.pages (b.first + s))) key_at
                ∙ ap (λ (o : Option Frame). held_in o (page told.pages (b.first + s))) (with_frame-same b.frames key (Some loaded))
                ∙ read told.pages told.is ∙ ap (λ (t : ℕ). page told.pages (b.first + t)) (sym at)
                ∙ sym (ap (λ (o : Option Frame). held_in o (page told.pages (b.first + s))) (ap b.frames key_at ∙ none))
            | inr off ↦ ap (λ (o : Option Frame). held_in o (page told.pages (b.first + s))) (cond-false (is_same other key) (Some loaded) (b.frames other) off)
          ])
          ∙ sym (ap (held_by b.first b.maps.current b.frames) told.is)

      -- there may be no memory for it
      pub IsBuffer-loads : {frames : FrameOf} → device.size ≡ b.device.size → (frames ≡ loaded_frames) ⊎ (frames ≡ b.frames) → IsBuffer (record b { device = device; frames = frames })
      IsBuffer-loads size_same (inl now) = subst (λ (f : FrameOf). IsBuffer (record b { device = device; frames = f })) (sym now) (IsBuffer-loaded size_same)
      IsBuffer-loads size_same (inr now) = subst (λ (f : FrameOf). IsBuffer (record b { device = device; frames = f })) (sym now) (IsBuffer-rests size_same)

      pub KeepsPages-loads : {frames : FrameOf} → (frames ≡ loaded_frames) ⊎ (frames ≡ b.frames) → KeepsPages b (record b { device = device; frames = frames })
      KeepsPages-loads {frames = frames} (inl now) = KeepsPages-writes writes-rests (λ none. reads) (waits-less b.frames frames key (Some loaded) now refl) more-rests reads.later (λ told. ap (λ (f : FrameOf). held_by b.first b.maps.current f device.disk.contents) now ∙ held-loaded told)
      KeepsPages-loads {frames = frames} (inr now) = KeepsPages-writes writes-rests (λ none. reads) (waits-alike b.frames frames now) more-rests reads.later (λ told. ap (λ (f : FrameOf). held_by b.first b.maps.current f device.disk.contents) now ∙ ap (held_by b.first b.maps.current b.frames) reads.contents)

  -- ---- a page that stands in its slot leaves memory

  module _ (key : PageKey) (clean : (frame : Frame) → b.frames key ≡ Some frame → frame.changed ≡ false) {frames : FrameOf} (now : frames ≡ with_frame b.frames key None) where
    abbrev left_frames : FrameOf
    left_frames = with_frame b.frames key None

    pub IsBuffer-removed : IsBuffer (record b { frames = frames })
    IsBuffer-removed = subst (λ (f : FrameOf). IsBuffer (record b { frames = f })) (sym now)
        (IsBuffer-writes (writes-rests (reads_none b.device)) refl (AreFrames-removed b.maps b.frames key buffer.frames_hold) (λ pages is other f s there is_clean owns. elim (with_frame-cases b.frames key None other f there) [
          | inl here ↦ absurd (cc)
          | inr off ↦ buffer.clean pages is other f s off.1 is_clean owns
        ]) (at_stage-rests (reads_none b.device) (NoneChanged-removed b.frames key)))

    left_slot : (pages : Pages) → b.device.disk.contents ≡ Some pages → (s : ℕ) → owner_of b.maps.current s ≡ Some key → page pages (b.first + s) ≡ held_in (b.frames key) (page pages (b.first + s))
    left_slot pages is s owns = by (b.frames key) refl
      where
        by : (o : Option Frame) → b.frames key ≡ o → page pages (b.first + s) ≡ held_in o (page pages (b.first + s))
        by None there = refl
        by (Some frame) there = sym (buffer.clean pages is key frame s there (clean frame there) owns)

    held-removed : IsTold b.device.disk → held_by b.first b.maps.current left_frames b.device.disk.contents ≡ held_of b
    held-removed told = ap (held_by b.first b.maps.current left_frames) told.is
        ∙ held-same b.first b.maps.current b.frames left_frames told.pages told.pages (λ other s owns. elim (cases_Bool (is_same other key)) [
          | inl here ↦
              let key_at = is_same-true other key here in
              ap (λ (k : PageKey). held_in (left_frames k) (page told.pages (b.first + s))) key_at
              ∙ ap (λ (o : Option Frame). held_in o (page told.pages (b.first + s))) (with_frame-same b.frames key None)
              ∙ left_slot told.pages told.is s (owns ∙ ap Some key_at)
              ∙ sym (ap (λ (k : PageKey). held_in (b.frames k) (page told.pages (b.first + s))) key_at)
          | inr off ↦ ap (λ (o : Option Frame). held_in o (page told.pages (b.first + s))) (cond-false (is_same other key) None (b.frames other) off)
        ])
        ∙ sym (ap (held_by b.first b.maps.current b.frames) told.is)

    pub KeepsPages-removed : KeepsPages b (record b { frames = frames })
    KeepsPages-removed = KeepsPages-writes (writes-rests (reads_none b.device)) (λ none. reads_none b.device) (waits-less b.frames frames key None now refl) (omega arith) (omega arith)
        (λ told. ap (λ (f : FrameOf). held_by b.first b.maps.current f b.device.disk.contents) now ∙ held-removed told)

-- a page in memory is mapped
pub mapped_there : {b : BufferView} → IsBuffer b → (key : PageKey) → is_some (b.frames key) ≡ true → mapped_by b.maps.current key ≡ true
mapped_there {b = b} buffer key there = by (b.frames key) refl there
  where
    by : (o : Option Frame) → b.frames key ≡ o → is_some o ≡ true → mapped_by b.maps.current key ≡ true
    by None is some = absurd (cc)
    by (Some frame) is some = buffer.frames_hold.mapped key frame is

-- ---- nothing is done

-- the maps and the frames are the same
pub IsBuffer-same : {b : BufferView} {frames : FrameOf} → IsBuffer b → frames ≡ b.frames → IsBuffer (record b { frames = frames })
IsBuffer-same {b = b} buffer now = subst (λ (f : FrameOf). IsBuffer (record b { frames = f })) (sym now) buffer

pub KeepsPages-same : {b : BufferView} {frames : FrameOf} → frames ≡ b.frames → KeepsPages b (record b { frames = frames })
KeepsPages-same {b = b} now = subst (λ (f : FrameOf). KeepsPages b (record b { frames = f })) (sym now) (KeepsPages-rests b)

pub no_cause : {T : Type 0} (disk : Disk) (faults : ℕ) (value : T) → HasPageCause disk faults faults (Ok value)
no_cause disk faults value = record { later = omega arith; failed = λ is. absurd (cc); sound = λ place is. absurd (cc); memory = λ is. absurd (cc) }

-- the error of a call is passed on
pub cause_fails : {T U : Type 0} {disk : Disk} {faults faults_now : ℕ} {fault : PageFault} (result : Result U PageFault) → IsErrAnd result (λ why. why ≡ fault) → HasPageCause {T = T} disk faults faults_now (Err fault) → HasPageCause disk faults faults_now result
cause_fails {U = U} {disk = disk} {faults = faults} {faults_now = faults_now} {fault = fault} result is cause =
    let why = err_from_is_err_and result is in
    subst (λ (r : Result U PageFault). HasPageCause disk faults faults_now r) (sym (why.1 ∙ ap Err why.2)) (record {
      later = cause.later;
      failed = λ at. let same : fault ≡ DeviceFailed = cc in cause.failed (ap Err same);
      sound = λ place at told. let same : fault ≡ Damaged place = cc in cause.sound place (ap Err same) told;
      memory = λ at. let same : fault ≡ NoMemory = cc in cause.memory (ap Err same);
    })

-- none was driven out
pub puts_none : {most outs writes : ℕ} → PutsOut most outs writes outs writes
puts_none = record { later = omega arith; few = omega arith; each = λ low. omega arith; all = omega arith }

-- one was
pub puts_one : {outs writes outs_now writes_now : ℕ} → outs ≤ outs_now → outs_now ≡ counted outs → writes_now ≤ writes + run_pages → PutsOut 1 outs writes outs_now writes_now
puts_one later now few = record { later = later; few = omega (arith, now); each = λ low. omega (arith, now, low, few); all = omega (arith, few) }

-- and then nothing is written
pub puts_still : {most outs writes outs_now writes_now writes_then : ℕ} → PutsOut most outs writes outs_now writes_now → writes_then ≡ writes_now → PutsOut most outs writes outs_now writes_then
puts_still {most = most} {outs = outs} {writes = writes} {outs_now = outs_now} puts same = subst (λ (n : ℕ). PutsOut most outs writes outs_now n) (sym same) puts

-- the pages are the same whatever the count is
pub KeepsPages-driven : {old new : BufferView} {outs : ℕ} → KeepsPages (record old { outs = outs }) new → KeepsPages old new
KeepsPages-driven keeps = record {
  first = keeps.first;
  maps = keeps.maps;
  notes = keeps.notes;
  settled = keeps.settled;
  log_pages = keeps.log_pages;
  area = keeps.area;
  stage = keeps.stage;
  asks = keeps.asks;
  room = keeps.room;
  held = keeps.held;
  leaves = keeps.leaves;
  loose = keeps.loose;
  waiting = keeps.waiting;
  unwritten = keeps.unwritten;
  writes = keeps.writes;
  later = keeps.later;
}

pub MovesPages-keeps : {T : Type 0} {old new : BufferView} (value : T) → KeepsPages old new → PutsOut 1 old.outs old.device.writes new.outs new.device.writes → MovesPages old new (Ok value)
MovesPages-keeps value keeps puts = record {
  keeps = keeps;
  puts = puts;
  cause = record { later = keeps.later; failed = λ is. absurd (cc); sound = λ place is. absurd (cc); memory = λ is. absurd (cc) };
}

-- the order of the pages in memory was changed before
pub MovesPages-same : {T : Type 0} {b new : BufferView} {frames : FrameOf} {room : ℕ} {result : Result T PageFault} → frames ≡ b.frames → room ≡ b.room → MovesPages (record b { frames = frames; room = room }) new result → MovesPages b new result
MovesPages-same {b = b} {frames = frames} now same moves = record {
  keeps = KeepsPages-then (subst (λ (n : ℕ). KeepsPages b (record b { frames = frames; room = n })) (sym same) (KeepsPages-same now)) moves.keeps;
  puts = moves.puts;
  cause = moves.cause;
}

-- the error of a call is passed on
pub MovesPages-fails : {T U : Type 0} {old new : BufferView} {fault : PageFault} (result : Result U PageFault) → IsErrAnd result (λ why. why ≡ fault) → MovesPages {T = T} old new (Err fault) → MovesPages old new result
MovesPages-fails result is call = record { keeps = call.keeps; puts = call.puts; cause = cause_fails result is call.cause }

-- nothing is written
pub WritesPages-none : {T : Type 0} {b : BufferView} {frames : FrameOf} (value : T) → frames ≡ b.frames → WritesPages b (record b { frames = frames }) (Ok value)
WritesPages-none {b = b} value now = subst (λ (f : FrameOf). WritesPages b (record b { frames = f }) (Ok value)) (sym now) (record {
  keeps = KeepsPages-rests b;
  outs = refl;
  settles = settles-rests (waiting_in b.frames) b.device.writes;
  few = settles-count (settles-rests (waiting_in b.frames) b.device.writes);
  fault = tt;
  cause = no_cause b.device.disk b.device.faults value;
})

pub WritesPages-then : {T : Type 0} {old mid new : BufferView} {result : Result T PageFault} → WritesPages {T = Unit {0}} old mid (Ok tt) → WritesPages mid new result → WritesPages old new result
WritesPages-then {old = old} {mid = mid} {new = new} {result = result} one two = record {
  keeps = KeepsPages-then one.keeps two.keeps;
  outs = two.outs ∙ one.outs;
  settles = on_ok_weaker result (λ settles. settles-then one.settles settles) two.settles;
  few = settles-writes one.settles two.few;
  fault = two.fault;
  cause = record {
    later = omega (arith, one.cause.later, two.cause.later);
    failed = λ is. let rose = two.cause.failed is in omega (arith, rose, one.cause.later);
    sound = λ place is told. two.cause.sound place is (one.keeps.loose.told.0 told);
    memory = two.cause.memory;
  };
}

pub WritesPages-fails : {T U : Type 0} {old new : BufferView} {fault : PageFault} (result : Result U PageFault) → IsErrAnd result (λ why. why ≡ fault) → WritesPages {T = T} old new (Err fault) → WritesPages old new result
WritesPages-fails {U = U} {old = old} {new = new} {fault = fault} result is call =
    let why = err_from_is_err_and result is in
    subst (λ (r : Result U PageFault). WritesPages old new r) (sym (why.1 ∙ ap Err why.2)) (record {
      keeps = call.keeps;
      outs = call.outs;
      settles = tt;
      few = call.few;
      fault = call.fault;
      cause = cause_fails {U = U} (Err fault) refl call.cause;
    })
