-- What changing one page does to a buffer: the page gets a slot or loses it, and its frame is changed with it.
use Rattle.std.proofs.Common.{◌≡◌, ◌≢◌, ◌⊎◌, inl, inr, ℕ, ◌+◌, ◌<◌, ◌≤◌, Bool, true, false, List, length, set, Option, Some, None, refl, sym, ◌∙◌, ap, subst, arith, length-set, get_or-set_same, get_or-set_other}
use Rattle.std.specs.Prelude.{Result, is_some, is_none, option_map, unwrap_or}
use Rattle.std.proofs.Math.Path.{fun_ext}
use Rattle.std.proofs.lemmas.Bool.{cases_Bool, cond-true, cond-false}
use Rattle.std.proofs.lemmas.Option.{same_Some}
use Rattle.rss_base.specs.Devices.{OnlyReads, DrivesOut}
use Rattle.rss_base.specs.DiskRule.{Pages, page, Told, IsTold}
use Rattle.rss_base.specs.Layout.{slots_at}
use Rattle.rss_base.specs.PageMap.{IsKey, IsTable, owner_of, page_count}
use Rattle.rss_base.specs.Paged.{Mapped, Held, Fixed, IsUnfixed, LeavesFixed, is_same, with_mapped, with_page, page_key, mapped_pages, IsLeastUnmapped}
use Rattle.rss_base.specs.Sizes.{zero_page}
use Rattle.rss_base.specs.Notes.{is_noted_space, with_note}
use Rattle.rss_base.specs.Steps.{NoneChanged, AreInMemory, StaysIdle, device_below, driven, Keys, no_page, PassesOn, PagesStep, PagesCall, WritesPage, TakesPage, GivesPage}
use Rattle.rss_base.specs.declared.fault.PageFault.{PageFault}
use Rattle.rss_base.specs.declared.key.Space.{Space}
use Rattle.rss_base.specs.declared.key.Space.TheVariants.{Home, Overflow, Image, System}
use Rattle.rss_base.specs.declared.key.PageKey.{PageKey}
use Rattle.rss_pagemap.proofs.Owners.{table_set}
use Rattle.rss_notes.specs.Notes.{NotesView, Marks}
use Rattle.rss_shadow.specs.Maps.{Maps, spare, LacksPage, GainsPage, LosesPage, MovesPage, IsLeastLacking}
use Rattle.rss_shadow.proofs.Counts.{Owners, no_owner, one_page, Assigns-set, owned_within}
use Rattle.rss_shadow.proofs.Slots.{Changes, Changes-then, Changes-gains, Changes-loses}
use Rattle.rss_frames.specs.Frames.{Frame, FrameOf}
use Rattle.rss_buffer.specs.declared.stage.Stage.TheVariants.{Changing}
use Rattle.rss_buffer.specs.Slots.{held_in, held_by, fixed_by, told_pages}
use Rattle.rss_base.specs.StoredPages.{slot_of, mapped_by}
use Rattle.rss_buffer.specs.Buffered.{BufferView, AreFrames, StaysFixed, HaveSlots, AreNotesOf, IsBuffer, IsFilled, held_of, KeepsPages, PutsOut, MovesPages}
use Rattle.rss_buffer.specs.Saving.{changed_by}
use Rattle.rss_buffer.specs.BufferLaws.{saveable_by}
use Rattle.rss_buffer.specs.Views.{pages_view}
use Rattle.rss_base.proofs.Counts.{mapped_pages-owners}
use Rattle.rss_base.proofs.Moments.{writes_among}
use Rattle.rss_base.proofs.Steps.{kept_all}
use Rattle.rss_base.proofs.Keys.{is_same-true, is_same-itself, owner_of-slot_of, the_slot}
use Rattle.rss_buffer.proofs.Lookups.{with_frame, with_frame-same, with_frame-other}
use Rattle.rss_shadow.proofs.Owned.{mapped-owned, LacksPage-unmapped, mapped-has, mapped-lacks, slot_of-here, slot_of-others, mapped-changed}
use Rattle.rss_buffer.proofs.Loose.{loose_unfixed, unfixed_loose, loose_same}
use Rattle.rss_buffer.proofs.Turns.{with_frame-cases}
use Rattle.rss_buffer.proofs.Waits.{none-among}

-- ---- pages were driven out

drives_kept : {old new : BufferView} {most : ℕ} → KeepsPages old new → PutsOut most old.outs old.device.writes new.outs new.device.writes → DrivesOut (driven (pages_view old)) (driven (pages_view new))
drives_kept {old = old} {new = new} keeps puts = record {
  only = writes_among (loose_unfixed old.first old.maps.shadow old.device.disk.contents) keeps.loose;
  still = λ q is. loose_unfixed old.first old.maps.shadow old.device.disk.contents q (loose_same keeps.first (ap (λ (m : Maps). m.shadow) keeps.maps) q (unfixed_loose new.first new.maps.shadow new.device.disk.contents q is));
  later = puts.later;
  few = puts.each;
}

-- ---- one page has this slot now, or none

pub record Reslots (old new : Maps) (key : PageKey) (slot : Option ℕ) : Type 0 where
  pub was : IsTable old.current
  pub table : IsTable new.current
  pub long : length new.current ≡ length old.current
  pub changes : Changes old.current new.current key slot
  pub room : HaveSlots new
  pub shadow : new.shadow ≡ old.shadow

pub Reslots-gains : (old new : Maps) (key : PageKey) → IsTable old.current → 0 < spare old → IsKey (length old.current) key → LacksPage old.current key → (gains : GainsPage old new key) → Reslots old new key (Some gains.slot)
Reslots-gains old new key table spared is lacks gains =
    let within = gains.free.within in
    let after : Owners = set old.current gains.slot (Some key) in
    let one = Assigns-set old.current gains.slot (Some key) within in
    let long = length-set old.current gains.slot (Some key) in
    subst (λ (owners : Owners). Reslots old (record { current = owners; shadow = new.shadow }) key (Some gains.slot)) (sym gains.current) (record {
      was = table;
      table = table_set old.current gains.slot (Some key) table within is (λ other owned. absurd (lacks other owned));
      long = length-set old.current gains.slot (Some key);
      changes = Changes-gains old.current after key gains.slot one gains.free.current lacks;
      room = omega (arith, one.pages, ap one_page gains.free.current, long, ap (λ (o : Owners). page_count o) gains.shadow);
      shadow = gains.shadow;
    })

pub Reslots-loses : (old new : Maps) (key : PageKey) → IsTable old.current → HaveSlots old → (loses : LosesPage old new key) → Reslots old new key None
Reslots-loses old new key table room loses =
    let within = owned_within old.current loses.slot key loses.owned in
    let after : Owners = set old.current loses.slot None in
    let one = Assigns-set old.current loses.slot None within in
    let long = length-set old.current loses.slot no_owner in
    subst (λ (owners : Owners). Reslots old (record { current = owners; shadow = new.shadow }) key None) (sym loses.current) (record {
      was = table;
      table = table_set old.current loses.slot None table within tt tt;
      long = length-set old.current loses.slot no_owner;
      changes = Changes-loses old.current after key loses.slot one loses.owned table.distinct;
      room = omega (arith, one.pages, room, long, ap (λ (o : Owners). page_count o) loses.shadow);
      shadow = loses.shadow;
    })

-- the page leaves its slot, and then it gets another one or that one again
slot_after : (old new : Maps) (key : PageKey) (slot : ℕ) (moves : MovesPage old new key slot) → owner_of (set old.current moves.from None) slot ≡ None
slot_after old new key slot moves = by (owner_of old.shadow moves.from) refl
  where
    left : owner_of (set old.current moves.from None) moves.from ≡ None
    left = get_or-set_same old.current moves.from None None (owned_within old.current moves.from key moves.owned)

    by : (o : Option PageKey) → owner_of old.shadow moves.from ≡ o → owner_of (set old.current moves.from None) slot ≡ None
    by None is = ap (owner_of (set old.current moves.from None)) (moves.stays is) ∙ left
    by (Some other) is =
        let free = moves.free (λ none. let no : None ≡ Some other = sym none ∙ is in cc) in
        let off : slot ≢ moves.from = λ at. let no : None ≡ Some key = sym free.current ∙ ap (owner_of old.current) at ∙ moves.owned in cc in
        get_or-set_other old.current moves.from slot None None off ∙ free.current

pub moves_within : (old new : Maps) (key : PageKey) (slot : ℕ) → MovesPage old new key slot → slot < length old.current
moves_within old new key slot moves = by (owner_of old.shadow moves.from) refl
  where
    by : (o : Option PageKey) → owner_of old.shadow moves.from ≡ o → slot < length old.current
    by None is = subst (λ (s : ℕ). s < length old.current) (sym (moves.stays is)) (owned_within old.current moves.from key moves.owned)
    by (Some other) is = (moves.free (λ none. let no : None ≡ Some other = sym none ∙ is in cc)).within

pub Reslots-moves : (old new : Maps) (key : PageKey) (slot : ℕ) → IsTable old.current → HaveSlots old → (moves : MovesPage old new key slot) → Reslots old new key (Some slot)
Reslots-moves old new key slot table room moves =
    let from_in = owned_within old.current moves.from key moves.owned in
    let middle : Owners = set old.current moves.from None in
    let last : Owners = set middle slot (Some key) in
    let long = length-set old.current moves.from no_owner in
    let within : slot < length middle = omega (arith, long, moves_within old new key slot moves) in
    let gone = Assigns-set old.current moves.from None from_in in
    let back = Assigns-set middle slot (Some key) within in
    let first = Changes-loses old.current middle key moves.from gone moves.owned table.distinct in
    let lacks : LacksPage middle key = λ s owned. let no : None ≡ Some s = (first.here s).1 owned in cc in
    let mid_table : IsTable middle = table_set old.current moves.from None table from_in tt tt in
    let is : IsKey (length middle) key = subst (λ (n : ℕ). IsKey n key) (sym long) (table.allowed moves.from key moves.owned) in
    subst (λ (owners : Owners). Reslots old (record { current = owners; shadow = new.shadow }) key (Some slot)) (sym moves.current) (record {
      was = table;
      table = table_set middle slot (Some key) mid_table within is (λ other owned. absurd (lacks other owned));
      long = length-set middle slot (Some key) ∙ long;
      changes = Changes-then old.current middle last key None (Some slot) first (Changes-gains middle last key slot back (slot_after old new key slot moves) lacks);
      room = omega (arith, gone.pages, back.pages, ap one_page moves.owned, ap one_page (slot_after old new key slot moves), room, long, length-set middle slot (Some key), ap (λ (o : Owners). page_count o) moves.shadow);
      shadow = moves.shadow;
    })

-- the least page of a segment and a space that isn't mapped
pub IsKey-least : (owners : Owners) (segment : ℕ) (space : Space) (number : ℕ) → 1 ≤ segment → segment ≤ 8 → space ≢ System → IsLeastLacking owners segment space number → IsKey (length owners) (page_key segment space number)
IsKey-least owners segment Home number low high other least = record { segment = (low, high); number = least.within }
IsKey-least owners segment Overflow number low high other least = record { segment = (low, high); number = least.within }
IsKey-least owners segment Image number low high other least = record { segment = (low, high); number = least.within }
IsKey-least owners segment System number low high other least = absurd (other refl)

pub IsLeastUnmapped-lacking : (owners : Owners) (segment : ℕ) (space : Space) (number : ℕ) → IsLeastLacking owners segment space number → IsLeastUnmapped (mapped_by owners) segment space number
IsLeastUnmapped-lacking owners segment space number least = record {
  free = mapped-lacks owners (page_key segment space number) least.lacking;
  lesser = λ k below. mapped-has owners (page_key segment space k) (least.lesser k below);
}

pub Reslots-takes : (old new : Maps) (segment : ℕ) (space : Space) (number : ℕ) → IsTable old.current → 0 < spare old → 1 ≤ segment → segment ≤ 8 → space ≢ System → IsLeastLacking old.current segment space number → (gains : GainsPage old new (page_key segment space number)) → Reslots old new (page_key segment space number) (Some gains.slot)
Reslots-takes old new segment space number table spared low high other least gains = Reslots-gains old new (page_key segment space number) table spared (IsKey-least old.current segment space number low high other least) least.lacking gains

-- the same by what was known of the maps before
pub Reslots-gained : {before old new : Maps} {key : PageKey} → IsTable old.current → old ≡ before → 0 < spare before → IsKey (length before.current) key → mapped_by before.current key ≡ false → (gains : GainsPage old new key) → Reslots old new key (Some gains.slot)
Reslots-gained {before = before} {old = old} {new = new} {key = key} table same room is unmapped gains =
    Reslots-gains old new key table
    (subst (λ (m : Maps). 0 < spare m) (sym same) room)
    (subst (λ (m : Maps). IsKey (length m.current) key) (sym same) is)
    (LacksPage-unmapped old.current key (ap (λ (m : Maps). mapped_by m.current key) same ∙ unmapped))
    gains

-- ---- which pages are mapped, and what they hold

pub with_mapped-same : (mapped : Mapped) (key : PageKey) → mapped key ≡ true → with_mapped mapped key true ≡ mapped
with_mapped-same mapped key is = fun_ext (λ other. elim (cases_Bool (is_same other key)) [
  | inl here ↦ cond-true (is_same other key) true (mapped other) here ∙ sym (ap mapped (is_same-true other key here) ∙ is)
  | inr off ↦ cond-false (is_same other key) true (mapped other) off
])

pub mapped-reslots : {old new : Maps} {key : PageKey} {slot : Option ℕ} → Reslots old new key slot → mapped_by new.current ≡ with_mapped (mapped_by old.current) key (is_some slot)
mapped-reslots {old = old} {new = new} {key = key} {slot = slot} re = mapped-changed old.current new.current key slot re.was.distinct re.table.distinct re.changes

off_by : (other key : PageKey) → is_same other key ≡ false → other ≢ key
off_by other key off at = let same : is_same other key ≡ true = ap (λ (k : PageKey). is_same k key) at ∙ is_same-itself key in cc

pub held-reslots : {old new : Maps} {key : PageKey} {slot : Option ℕ} {frames_now : FrameOf} (first : ℕ) (frames : FrameOf) (frame : Option Frame) (contents : Option Pages) (bytes : Option (List ℕ)) → Reslots old new key slot → frames_now ≡ with_frame frames key frame → option_map (λ s. held_in frame (page (told_pages contents) (first + s))) slot ≡ bytes → held_by first new.current frames_now contents ≡ with_page (held_by first old.current frames contents) key bytes
held-reslots {old = old} {new = new} {key = key} {slot = slot} first frames frame contents bytes re now is = ap (λ (f : FrameOf). held_by first new.current f contents) now ∙ fun_ext (λ other. elim (cases_Bool (is_same other key)) [
  | inl here ↦
      ap (held_by first new.current (with_frame frames key frame) contents) (is_same-true other key here)
      ∙ ap (λ (f : Option Frame). option_map (λ s. held_in f (page (told_pages contents) (first + s))) (slot_of new.current key)) (with_frame-same frames key frame)
      ∙ ap (option_map (λ s. held_in frame (page (told_pages contents) (first + s)))) (slot_of-here old.current new.current key slot re.was.distinct re.table.distinct re.changes) ∙ is
      ∙ sym (cond-true (is_same other key) bytes (held_by first old.current frames contents other) here)
  | inr off ↦
      ap (λ (f : Option Frame). option_map (λ s. held_in f (page (told_pages contents) (first + s))) (slot_of new.current other)) (with_frame-other frames key frame other (off_by other key off))
      ∙ ap (option_map (λ s. held_in (frames other) (page (told_pages contents) (first + s)))) (slot_of-others old.current new.current key slot re.was.distinct re.table.distinct re.changes other (off_by other key off))
      ∙ sym (cond-false (is_same other key) bytes (held_by first old.current frames contents other) off)
])

-- what a page in memory holds
pub held-there : (first : ℕ) (owners : Owners) (frames : FrameOf) (contents : Option Pages) (key : PageKey) (frame : Frame) → mapped_by owners key ≡ true → frames key ≡ Some frame → held_by first owners frames contents key ≡ Some frame.page
held-there first owners frames contents key frame mapped there =
    ap (option_map (λ s. held_in (frames key) (page (told_pages contents) (first + s)))) (the_slot owners key mapped).1
    ∙ ap (λ (f : Option Frame). Some (held_in f (page (told_pages contents) (first + (the_slot owners key mapped).0)))) there

-- ---- the notes

pub AreNotesOf-marked : {old new : Owners} {notes notes_now : NotesView} {key : PageKey} {is_mapped mapped : Bool} {note : Option ℕ} → length new ≡ length old → mapped_by new ≡ with_mapped (mapped_by old) key mapped → AreNotesOf old notes → Marks notes notes_now key is_mapped note → (is_noted_space key.space ≡ true → is_mapped ≡ mapped) → AreNotesOf new notes_now
AreNotesOf-marked {old = old} {notes = notes} {key = key} {is_mapped = is_mapped} {mapped = mapped} long now noted marks alike = record {
  slots = marks.slots ∙ noted.slots ∙ sym long;
  mapped = λ other space. ap (λ (m : Mapped). m other) marks.mapped ∙ elim (cases_Bool (is_same other key)) [
    | inl here ↦
        let at : is_noted_space key.space ≡ true = ap (λ (k : PageKey). is_noted_space k.space) (sym (is_same-true other key here)) ∙ space in
        cond-true (is_same other key) is_mapped (notes.mapped other) here ∙ alike at ∙ sym (cond-true (is_same other key) mapped (mapped_by old other) here)
    | inr off ↦ cond-false (is_same other key) is_mapped (notes.mapped other) off ∙ noted.mapped other space ∙ sym (cond-false (is_same other key) mapped (mapped_by old other) off)
  ] ∙ sym (ap (λ (m : Mapped). m other) now);
}

-- the note of a page is changed, or forgotten
pub AreNotesOf-noted : {owners : Owners} {notes notes_now : NotesView} {key : PageKey} {note : Option ℕ} → mapped_by owners key ≡ true → AreNotesOf owners notes → Marks notes notes_now key (notes.mapped key) note → AreNotesOf owners notes_now
AreNotesOf-noted {owners = owners} {key = key} is noted marks =
    AreNotesOf-marked refl (sym (with_mapped-same (mapped_by owners) key is)) noted marks (λ space. noted.mapped key space ∙ is)

-- ---- the whole

-- a frame that the page may have, with this slot
pub record Fits (shadow : Owners) (slot : Option ℕ) (frame : Frame) : Type 0 where
  pub changed : frame.changed ≡ true
  pub mapped : is_some slot ≡ true
  pub own : (s : ℕ) → slot ≡ Some s → owner_of shadow s ≡ None

pub Fits-changed : (shadow : Owners) (slot : ℕ) (frame : Frame) → frame.changed ≡ true → owner_of shadow slot ≡ None → (f : Frame) → Some frame ≡ Some f → Fits shadow (Some slot) f
Fits-changed shadow slot frame changed none f is = record {
  changed = ap (λ (x : Frame). x.changed) (sym (same_Some _ _ is)) ∙ changed;
  mapped = refl;
  own = λ s at. ap (owner_of shadow) (sym (same_Some slot s at)) ∙ none;
}

-- The page has this slot now, or none, its frame is this one, or none, and it has no note.
pub record ChangesPage (b : BufferView) (maps : Maps) (notes : NotesView) (frames : FrameOf) (key : PageKey) (slot : Option ℕ) (frame : Option Frame) : Type 0 where
  pub re : Reslots b.maps maps key slot
  pub now : frames ≡ with_frame b.frames key frame
  pub noted : AreNotesOf maps.current notes
  pub notes_now : notes.notes ≡ with_note b.notes.notes key None

pub changes_page : (b : BufferView) {maps : Maps} {notes : NotesView} {frames : FrameOf} {key : PageKey} {slot : Option ℕ} {is_mapped : Bool} (frame : Option Frame) → IsBuffer b → Reslots b.maps maps key slot → frames ≡ with_frame b.frames key frame → Marks b.notes notes key is_mapped None → (is_noted_space key.space ≡ true → is_mapped ≡ is_some slot) → ChangesPage b maps notes frames key slot frame
changes_page b frame buffer re now marks alike = record {
  re = re;
  now = now;
  noted = AreNotesOf-marked re.long (mapped-reslots re) buffer.noted marks alike;
  notes_now = marks.notes;
}

module _ {b : BufferView} {maps : Maps} {notes : NotesView} {frames : FrameOf} {key : PageKey} {slot : Option ℕ} {frame : Option Frame} (change : ChangesPage b maps notes frames key slot frame) where
  abbrev after : BufferView
  after = record b { maps = maps; notes = notes; frames = frames; stage = Changing }

  module _ (buffer : IsBuffer b) (fits : (f : Frame) → frame ≡ Some f → Fits b.maps.shadow slot f) where
    still_mapped : (other : PageKey) → other ≢ key → mapped_by b.maps.current other ≡ true → mapped_by maps.current other ≡ true
    still_mapped other off is =
        let found = the_slot b.maps.current other is in
        mapped-owned maps.current other found.0 ((change.re.changes.others found.0 other off).0 (owner_of-slot_of b.maps.current other found.0 found.1))

    AreFrames-reslots : AreFrames maps (with_frame b.frames key frame)
    AreFrames-reslots = record {
      mapped = λ other f is. elim (with_frame-cases b.frames key frame other f is) [
        | inl here ↦ ap (mapped_by maps.current) here.0 ∙ ap (λ (o : Option ℕ). is_some o) (slot_of-here b.maps.current maps.current key slot change.re.was.distinct change.re.table.distinct change.re.changes) ∙ (fits f here.1).mapped
        | inr there ↦ still_mapped other there.0 (buffer.frames_hold.mapped other f there.1)
      ];
      own_slot = λ other f s is changed owned. ap (λ (shadow : Owners). owner_of shadow s) change.re.shadow ∙ elim (with_frame-cases b.frames key frame other f is) [
        | inl here ↦ (fits f here.1).own s ((change.re.changes.here s).1 (owned ∙ ap Some here.0))
        | inr there ↦ buffer.frames_hold.own_slot other f s there.1 changed ((change.re.changes.others s other there.0).1 owned)
      ];
    }

    pub IsBuffer-changes : IsBuffer after
    IsBuffer-changes = subst (λ (f : FrameOf). IsBuffer (record b { maps = maps; notes = notes; frames = f; stage = Changing })) (sym change.now) (record {
      least = buffer.least;
      laid_out = record {
        table = change.re.table;
        count = ap (λ (owners : Owners). length owners) change.re.shadow ∙ buffer.laid_out.count ∙ sym change.re.long;
        room = change.re.room;
        place = buffer.laid_out.place ∙ ap (λ (n : ℕ). slots_at n b.log_pages) (sym change.re.long);
        ends = buffer.laid_out.ends ∙ ap (λ (n : ℕ). b.first + n) (sym change.re.long);
      };
      noted = change.noted;
      frames_hold = AreFrames-reslots;
      clean = λ pages is other f s there clean owned. elim (with_frame-cases b.frames key frame other f there) [
        | inl here ↦ absurd (let no : true ≡ false = sym (fits f here.1).changed ∙ clean in cc)
        | inr off ↦ buffer.clean pages is other f s off.1 clean ((change.re.changes.others s other off.0).1 owned)
      ];
      fixed = λ is. subst (λ (shadow : Owners). Told b.device.disk (StaysFixed b.device.disk b.first shadow)) (sym change.re.shadow) (buffer.fixed is);
      at_stage = record {
        none_changed = λ is. absurd (is refl);
        saved = λ area is. absurd (cc);
        synced = λ is. absurd (cc);
      };
    })

  -- ---- what a layer above sees of it

  module _ {old : BufferView} (keeps : KeepsPages old b) where
    -- the same shadow map, whose slots are fixed
    fixed_same : fixed_by b.first maps.shadow b.device.disk.contents ≡ fixed_by b.first b.maps.shadow b.device.disk.contents
    fixed_same = ap (λ (shadow : Owners). fixed_by b.first shadow b.device.disk.contents) change.re.shadow

    pub passes_on : {asks outs : ℕ} → PutsOut outs old.outs old.device.writes b.outs b.device.writes → PassesOn asks outs (pages_view old) (pages_view after)
    passes_on puts = record {
      slots = change.re.long ∙ ap (λ (m : Maps). length m.current) keeps.maps;
      backing = λ i. record { log_pages = keeps.log_pages i; area = keeps.area i; shadow = (change.re.shadow ∙ ap (λ (m : Maps). m.shadow) keeps.maps) i; frames = keeps.room i };
      leaves = subst (λ (f : Fixed). LeavesFixed (old.settled ≡ true) (b.settled ≡ true) old.device.disk b.device.disk (fixed_by old.first old.maps.shadow old.device.disk.contents) f) (sym fixed_same) keeps.leaves;
      later = keeps.later;
      asks_low = omega (arith, keeps.asks);
      asks_high = omega (arith, keeps.asks);
      writes_low = keeps.writes;
      writes_high = puts.all;
      outs_high = puts.few;
      drives = subst (λ (f : Fixed). DrivesOut (driven (pages_view old)) (record { disk = b.device.disk; free = IsUnfixed f; writes = b.device.writes; outs = b.outs })) (sym fixed_same) (drives_kept keeps puts);
    }

    mapped_now : mapped_by maps.current ≡ with_mapped (mapped_by old.maps.current) key (is_some slot)
    mapped_now = mapped-reslots change.re ∙ ap (λ (m : Maps). with_mapped (mapped_by m.current) key (is_some slot)) keeps.maps

    held_now : (bytes : Option (List ℕ)) → option_map (λ s. held_in frame (page (told_pages b.device.disk.contents) (b.first + s))) slot ≡ bytes → IsTold old.device.disk → held_of after ≡ with_page (held_of old) key bytes
    held_now bytes is told =
        held-reslots b.first b.frames frame b.device.disk.contents bytes change.re change.now is
        ∙ ap (λ (held : Held). with_page held key bytes) (keeps.held told)

    notes_now : notes.notes ≡ with_note old.notes.notes key None
    notes_now = change.notes_now ∙ ap (λ (n : NotesView). with_note n.notes key None) keeps.notes

    -- no other page was changed
    pub changed-off : (other : PageKey) → changed_by maps other ≡ true → (changed_by old.maps other ≡ true) ⊎ (other ≡ key)
    changed-off other is = elim (cases_Bool (is_same other key)) [
      | inl here ↦ inr (is_same-true other key here)
      | inr off ↦
          let slot_is = slot_of-others b.maps.current maps.current key slot change.re.was.distinct change.re.table.distinct change.re.changes other (off_by other key off) in
          let now_is : changed_by maps other ≡ changed_by b.maps other =
          ap (λ (o : Option ℕ). unwrap_or (option_map (λ s. is_none (owner_of maps.shadow s)) o) false) slot_is
          ∙ ap (λ (shadow : Owners). unwrap_or (option_map (λ s. is_none (owner_of shadow s)) (slot_of b.maps.current other)) false) change.re.shadow in
          inl (sym (ap (λ (m : Maps). changed_by m other) keeps.maps) ∙ sym now_is ∙ is)
    ]

-- ---- one page was written, taken or given

module _ {old b : BufferView} {maps : Maps} {notes : NotesView} {frames : FrameOf} {key : PageKey} (keeps : KeepsPages old b) where
  pub writes_page : {slot : ℕ} {bytes : List ℕ} → ChangesPage b maps notes frames key (Some slot) (Some (record { page = bytes; changed = true })) → mapped_by old.maps.current key ≡ true → WritesPage key bytes (pages_view old) (pages_view (record b { maps = maps; notes = notes; frames = frames; stage = Changing }))
  writes_page {bytes = bytes} change is = record {
    mapped = mapped_now change keeps ∙ with_mapped-same (mapped_by old.maps.current) key is;
    held = held_now change keeps (Some bytes) refl;
    notes = notes_now change keeps;
  }

  pub takes_page : {slot : ℕ} → ChangesPage b maps notes frames key (Some slot) (Some (record { page = zero_page; changed = true })) → TakesPage key (pages_view old) (pages_view (record b { maps = maps; notes = notes; frames = frames; stage = Changing }))
  takes_page change = record {
    mapped = mapped_now change keeps;
    held = held_now change keeps (Some zero_page) refl;
    notes = notes_now change keeps;
  }

  pub gives_page : ChangesPage b maps notes frames key None None → GivesPage key (pages_view old) (pages_view (record b { maps = maps; notes = notes; frames = frames; stage = Changing }))
  gives_page change = record {
    mapped = mapped_now change keeps;
    held = held_now change keeps None refl;
    notes = notes_now change keeps;
  }

-- ---- a call that changed no page

pub keeps_on : {old new : BufferView} {asks outs : ℕ} → KeepsPages old new → PutsOut outs old.outs old.device.writes new.outs new.device.writes → PassesOn asks outs (pages_view old) (pages_view new)
keeps_on keeps puts = record {
  slots = ap (λ (m : Maps). length m.current) keeps.maps;
  backing = λ i. record { log_pages = keeps.log_pages i; area = keeps.area i; shadow = ap (λ (m : Maps). m.shadow) keeps.maps i; frames = keeps.room i };
  leaves = keeps.leaves;
  later = keeps.later;
  asks_low = omega (arith, keeps.asks);
  asks_high = omega (arith, keeps.asks);
  writes_low = keeps.writes;
  writes_high = puts.all;
  outs_high = puts.few;
  drives = drives_kept keeps puts;
}

mapped_count : {view : BufferView} → IsBuffer view → mapped_pages (length view.maps.current) (mapped_by view.maps.current) ≡ page_count view.maps.current
mapped_count {view = view} buffer = mapped_pages-owners (length view.maps.current) view.maps.current (mapped_by view.maps.current) buffer.laid_out.table.allowed buffer.laid_out.table.distinct (λ key. refl)

-- where no page was changed the device was only read
looks : {old new : BufferView} {asks : ℕ} → IsBuffer old → KeepsPages (record old { asks = asks }) new → NoneChanged (pages_view old) → OnlyReads (device_below (pages_view old)) (device_below (pages_view new))
looks {old = old} buffer keeps none =
    let reads = keeps.unwritten (none-among old.frames (saveable_by buffer).waiting none) in
    record { contents = reads.contents; moments = reads.moments; same_writes = reads.same_writes; later = reads.later }

-- no page was touched, and as many are mapped as there may be in memory
pub keeps_step : {old new : BufferView} {touched : Keys} {asks outs : ℕ} → IsBuffer old → IsFilled old → KeepsPages old new → PutsOut outs old.outs old.device.writes new.outs new.device.writes → PagesStep touched asks outs (pages_view old) (pages_view new)
keeps_step {old = old} buffer full keeps puts = kept_all (keeps_on keeps puts) (ap (λ (m : Maps). changed_by m) keeps.maps) (ap (λ (m : Maps). mapped_by m.current) keeps.maps) keeps.held (ap (λ (n : NotesView). n.notes) keeps.notes) (looks {asks = old.asks} buffer keeps) (λ are. absurd (omega (arith, full, are.room, mapped_count buffer)))

-- the same of a page that was asked for
pub asked_step : {old new : BufferView} {asks outs : ℕ} → IsBuffer old → KeepsPages (record old { asks = asks }) new → old.asks ≤ asks → asks ≤ old.asks + 1 → PutsOut outs old.outs old.device.writes new.outs new.device.writes → (AreInMemory (pages_view old) → StaysIdle (pages_view old) (pages_view new)) → PagesStep no_page 1 outs (pages_view old) (pages_view new)
asked_step buffer keeps low high puts idle =
    let on = keeps_on {asks = 0} keeps puts in
    kept_all (record {
      slots = on.slots;
      backing = on.backing;
      leaves = on.leaves;
      later = on.later;
      asks_low = omega (arith, low, keeps.asks);
      asks_high = omega (arith, high, keeps.asks);
      writes_low = on.writes_low;
      writes_high = on.writes_high;
      outs_high = on.outs_high;
      drives = on.drives;
    }) (ap (λ (m : Maps). changed_by m) keeps.maps) (ap (λ (m : Maps). mapped_by m.current) keeps.maps) keeps.held (ap (λ (n : NotesView). n.notes) keeps.notes) (looks buffer keeps) idle

pub asked : {T : Type 0} {old new : BufferView} {asks : ℕ} {result : Result T PageFault} → IsBuffer old → MovesPages (record old { asks = asks }) new result → old.asks ≤ asks → asks ≤ old.asks + 1 → (AreInMemory (pages_view old) → StaysIdle (pages_view old) (pages_view new)) → PagesCall no_page 1 1 (pages_view old) (pages_view new) result
asked buffer call low high idle = record { step = asked_step buffer call.keeps low high call.puts idle; failed = call.cause.failed; sound = call.cause.sound; memory = call.cause.memory }
