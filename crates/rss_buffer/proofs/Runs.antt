-- What writing changed pages together to their slots does to a buffer.
use Rattle.std.proofs.Common.{◌≡◌, ◌≢◌, ◌⊎◌, inl, inr, ⊎_elim, ℕ, ◌+◌, ◌-◌, ◌<◌, ◌≤◌, true, false, List, [], length, take, Option, Some, None, refl, sym, ◌∙◌, ap, subst, arith, length-take-le}
use Rattle.std.specs.Prelude.{option_map, Result}
use Rattle.std.proofs.lemmas.List.{get_or-take}
use Rattle.std.proofs.lemmas.Bool.{cases_Bool, cond-true, cond-false}
use Rattle.std.proofs.lemmas.Option.{same_Some}
use Rattle.rss_base.specs.Devices.{DeviceView, WritesPages}
use Rattle.rss_base.specs.Runs.{HoldsRun}
use Rattle.rss_base.specs.declared.fault.Failed.{Failed}
use Rattle.rss_base.specs.DiskRule.{Disk, Pages, page, Told, IsTold, IsWithin, WritesIn}
use Rattle.rss_base.specs.PageMap.{owner_of}
use Rattle.rss_base.specs.Paged.{is_same, AreAmong}
use Rattle.rss_base.specs.declared.key.PageKey.{PageKey}
use Rattle.rss_base.proofs.Keys.{is_same-true, is_same-itself}
use Rattle.rss_base.proofs.Moments.{writes_among}
use Rattle.rss_shadow.proofs.Owned.{mapped-owned}
use Rattle.rss_frames.specs.Frames.{Frame, FrameOf}
use Rattle.rss_buffer.specs.Waiting.{is_changed, waiting_in}
use Rattle.rss_buffer.specs.declared.stage.Stage.TheVariants.{Changing, Saved, Switched}
use Rattle.rss_buffer.specs.Slots.{held_in, held_by}
use Rattle.rss_buffer.specs.Buffered.{BufferView, NoneChanged, AreFrames, AreClean, IsAtStage, IsBuffer, IsLoose, held_of, unchanged, WritesLoose, KeepsPages}
use Rattle.rss_buffer.specs.Gathered.{IsChangedAt, IsGathered, HasSlotAmong, AreSettled}
use Rattle.rss_buffer.proofs.Loose.{IsLoose-slot}
use Rattle.rss_buffer.proofs.Lookups.{with_unchanged}
use Rattle.rss_buffer.proofs.Turns.{held-same, held_in-same, IsBuffer-writes, KeepsPages-writes}
use Rattle.rss_buffer.proofs.Waits.{changed-waits, clean-waits, unchanged-clean, AreWaiting}

-- ---- a frame of a page that was written to its slot

unchanged_of : (before : Option Frame) (frame : Frame) → option_map unchanged before ≡ Some frame → (was : Frame) × (before ≡ Some was) × (unchanged was ≡ frame)
unchanged_of None frame is = absurd (cc)
unchanged_of (Some was) frame is = (was, refl, same_Some (unchanged was) frame is)

unchanged_clean : (before : Option Frame) (frame : Frame) → option_map unchanged before ≡ Some frame → frame.changed ≡ false
unchanged_clean before frame is = let was = unchanged_of before frame is in ap (λ (f : Frame). f.changed) (sym was.2)

unchanged-twice : (frame : Option Frame) → option_map unchanged (option_map unchanged frame) ≡ option_map unchanged frame
unchanged-twice None = refl
unchanged-twice (Some frame) = refl

held_in-unchanged : (frame : Option Frame) (bytes : List ℕ) → held_in (option_map unchanged frame) bytes ≡ held_in frame bytes
held_in-unchanged None bytes = refl
held_in-unchanged (Some frame) bytes = refl

with_unchanged-cases : (frames frames_now : FrameOf) (key other : PageKey) → frames_now ≡ with_unchanged frames key → ((other ≡ key) × (frames_now other ≡ option_map unchanged (frames key))) ⊎ ((other ≢ key) × (frames_now other ≡ frames other))
with_unchanged-cases frames frames_now key other now =
    let at = ap (λ (f : FrameOf). f other) now in
    elim (cases_Bool (is_same other key)) [
      | inl here ↦ inl (is_same-true other key here, at ∙ cond-true (is_same other key) (option_map unchanged (frames key)) (frames other) here)
      | inr off ↦ inr (
        (λ same. let no : true ≡ false = sym (ap (λ (k : PageKey). is_same k key) same ∙ is_same-itself key) ∙ off in cc),
        at ∙ cond-false (is_same other key) (option_map unchanged (frames key)) (frames other) off,
      )
    ]

-- ---- the frames, as one page after the other is taken as written

module _ (owners : List (Option PageKey)) (slot count : ℕ) (frames frames_mid : FrameOf) (settled : AreSettled owners slot count frames frames_mid) where
  wider : (key : PageKey) → HasSlotAmong owners slot count key → HasSlotAmong owners slot (count + 1) key
  wider key has = record { at = has.at; within = (has.within.0, omega (arith, has.within.1)); owned = has.owned }

  earlier : (at : ℕ) → IsWithin slot (count + 1) at → at ≢ slot + count → IsWithin slot count at
  earlier at within other = (within.0, omega (arith, within.1, other))

  -- the page of the next slot
  pub settled-more : (frames_now : FrameOf) (key : PageKey) → owner_of owners (slot + count) ≡ Some key → frames_now ≡ with_unchanged frames_mid key → AreSettled owners slot (count + 1) frames frames_now
  settled-more frames_now key owned now = record {
    each = λ other. elim (with_unchanged-cases frames_mid frames_now key other now) [
      | inl here ↦ inr (
        record { at = slot + count; within = (omega arith, omega arith); owned = owned ∙ ap Some (sym here.0) },
        here.1 ∙ ap (λ (k : PageKey). option_map unchanged (frames_mid k)) (sym here.0)
            ∙ ⊎_elim (ap (option_map unchanged)) (λ there. ap (option_map unchanged) there.1 ∙ unchanged-twice (frames other)) (settled.each other),
      )
      | inr off ↦ elim (settled.each other) [
        | inl same ↦ inl (off.1 ∙ same)
        | inr there ↦ inr (wider other there.0, off.1 ∙ there.1)
      ]
    ];
    written = λ at within other frame owns here. elim (with_unchanged-cases frames_mid frames_now key other now) [
      | inl same ↦ unchanged_clean (frames_mid key) frame (sym same.1 ∙ here)
      | inr off ↦ settled.written at (earlier at within (λ last. off.0 (same_Some other key (sym owns ∙ ap (owner_of owners) last ∙ owned)))) other frame owns (sym off.1 ∙ here)
    ];
  }

  -- the next slot is free
  pub settled-past : owner_of owners (slot + count) ≡ None → AreSettled owners slot (count + 1) frames frames_mid
  settled-past free = record {
    each = λ other. elim (settled.each other) [
      | inl same ↦ inl same
      | inr there ↦ inr (wider other there.0, there.1)
    ];
    written = λ at within other frame owns.
        settled.written at (earlier at within (λ last. let no : None ≡ Some other = sym free ∙ ap (owner_of owners) (sym last) ∙ owns in cc)) other frame owns;
  }

-- ---- the first pages of a run, as they are written in one write

first_long : {count : ℕ} (run : List (List ℕ)) {written : List (List ℕ)} → written ≡ take count run → count ≤ length run → length written ≡ count
first_long {count = count} run is few = ap (λ (l : List (List ℕ)). length l) is ∙ length-take-le count run few

-- they are those of the run
pub holds-run : {old new : Disk} {at place count : ℕ} (run : List (List ℕ)) {written : List (List ℕ)} → written ≡ take count run → count ≤ length run → at ≡ place → (IsTold new → IsTold old) → (IsTold old → Told new (HoldsRun at written)) → Told new (λ pages. (k : ℕ) → k < count → page pages (place + k) ≡ page run k)
holds-run {count = count} run is few here told holds = λ pages told_now k less.
    ap (λ (n : ℕ). page pages (n + k)) (sym here)
    ∙ holds (told (record { pages = pages; is = told_now })) pages told_now k (omega (arith, first_long run is few))
    ∙ ap (λ (l : List (List ℕ)). page l k) is ∙ get_or-take count run k [] less

-- ---- a buffer

-- the changed pages of so many slots from one on, and a device after they were written in these slots alone, whether that succeeded or not
pub record IsRunOf (b : BufferView) (slot count : ℕ) (run : List (List ℕ)) (device : DeviceView) : Type 0 where
  pub gathered : IsGathered b.maps.current b.frames slot count run
  pub some : 0 < count
  pub only : WritesIn (IsWithin (b.first + slot) count) b.device.disk device.disk
  pub few : device.writes ≤ b.device.writes + count

pub run_of : {T : Type 0} {b : BufferView} {device : DeviceView} {owners : List (Option PageKey)} {at slot count : ℕ} (run : List (List ℕ)) {written : List (List ℕ)} {result : Result T Failed} → owners ≡ b.maps.current → IsGathered owners b.frames slot count run → 0 < count → count ≤ length run → written ≡ take count run → at ≡ b.first + slot
    → WritesPages (IsWithin at (length written)) (length written) b.device device result → IsRunOf b slot count run device
run_of {b = b} {device = device} {at = at} {slot = slot} {count = count} run same gathered some few is here did = record {
  gathered = subst (λ (o : List (Option PageKey)). IsGathered o b.frames slot count run) same gathered;
  some = some;
  only = subst (λ (n : ℕ). WritesIn (IsWithin n count) b.device.disk device.disk) here (subst (λ (n : ℕ). WritesIn (IsWithin at n) b.device.disk device.disk) (first_long run is few) did.only);
  few = omega (arith, did.writes, first_long run is few);
}

module _ {b : BufferView} {slot count : ℕ} {run : List (List ℕ)} {device : DeviceView} (buffer : IsBuffer b) (writes : IsRunOf b slot count run device) where
  abbrev gathered : IsGathered b.maps.current b.frames slot count run
  gathered = writes.gathered

  abbrev only : WritesIn (IsWithin (b.first + slot) count) b.device.disk device.disk
  only = writes.only

  -- the page of the first slot
  abbrev pub first_page : IsChangedAt b.maps.current b.frames (slot + 0) (page run 0)
  first_page = writes.gathered 0 writes.some

  -- what is written are slots of changed pages
  pub loose-run : WritesLoose b.first b.maps.shadow b.device.disk device.disk
  loose-run = writes_among {wider = IsLoose b.first b.maps.shadow} loose only
    where
      loose : (q : ℕ) → IsWithin (b.first + slot) count q → IsLoose b.first b.maps.shadow q
      loose q within =
          let page_at = gathered (q - (b.first + slot)) (omega (arith, within.0, within.1)) in
          let at : b.first + (slot + (q - (b.first + slot))) ≡ q = omega (arith, within.0) in
          subst (IsLoose b.first b.maps.shadow) at (IsLoose-slot b.first b.maps.shadow _ (buffer.frames_hold.own_slot page_at.key page_at.frame _ page_at.there page_at.changed page_at.owned))

  -- no other page stands there
  apart : (key : PageKey) (s : ℕ) → ((frame : Frame) → b.frames key ≡ Some frame → frame.changed ≡ false) → owner_of b.maps.current s ≡ Some key → IsWithin (b.first + slot) count (b.first + s) → ⊥
  apart key s clean owned within =
      let page_at = gathered (s - slot) (omega (arith, within.0, within.1)) in
      let at : slot + (s - slot) ≡ s = omega (arith, within.0) in
      let same : page_at.key ≡ key = same_Some _ _ (sym page_at.owned ∙ ap (owner_of b.maps.current) at ∙ owned) in
      let no : true ≡ false = sym page_at.changed ∙ clean page_at.frame (ap b.frames (sym same) ∙ page_at.there) in
      cc

  -- each of them waited, and has a slot of its own
  pub run_waits : AreWaiting (waiting_in b.frames) count
  run_waits = record {
    key = λ k less. (gathered k less).key;
    apart = λ j k earlier less before same.
        let one = gathered j earlier in
        let other = gathered k less in
        let slots : slot + j ≡ slot + k = buffer.laid_out.table.distinct (slot + j) (slot + k) one.key one.owned (other.owned ∙ ap Some (sym same)) in
        omega (arith, slots, before);
    waits = λ k less. let page_at = gathered k less in changed-waits b.frames page_at.key page_at.frame page_at.there page_at.changed;
  }

  some_changed : NoneChanged b.frames → ⊥
  some_changed none = let no : true ≡ false = sym first_page.changed ∙ none first_page.key first_page.frame first_page.there in cc

  at_stage-run : (frames : FrameOf) → IsAtStage (record b { device = device; frames = frames })
  at_stage-run frames = record {
    none_changed = λ is. absurd (not_saved is);
    saved = λ area is. absurd (not_saved (λ at. let no : Saved area ≡ Changing = sym is ∙ at in cc));
    synced = λ is. absurd (not_saved (λ at. let no : Switched ≡ Changing = sym is ∙ at in cc));
  }
    where
      not_saved : (b.stage ≢ Changing) → ⊥
      not_saved is = some_changed (buffer.at_stage.none_changed is)

  -- what pages hold doesn't hang on it
  held-run : (frames : FrameOf) → ((key : PageKey) (bytes : List ℕ) → held_in (frames key) bytes ≡ held_in (b.frames key) bytes) → IsTold b.device.disk → held_by b.first b.maps.current frames device.disk.contents ≡ held_of b
  held-run frames alike is_told =
      let written = only.kept is_told.pages is_told.is in
      ap (held_by b.first b.maps.current frames) written.told
      ∙ held-same b.first b.maps.current b.frames frames is_told.pages written.after (λ key s is.
      alike key (page written.after (b.first + s)) ∙ held_in-same (b.frames key) (page is_told.pages (b.first + s)) (page written.after (b.first + s))
      (λ none. written.same.others (b.first + s) (apart key s (λ frame there. absurd (let no : None ≡ Some frame = sym none ∙ there in cc)) is)))
      ∙ sym (ap (held_by b.first b.maps.current b.frames) is_told.is)

  -- a page that wasn't changed still stands in its slot
  clean-others : (pages : Pages) → device.disk.contents ≡ Some pages → (key : PageKey) (frame : Frame) (s : ℕ) → b.frames key ≡ Some frame → frame.changed ≡ false → owner_of b.maps.current s ≡ Some key → frame.page ≡ page pages (b.first + s)
  clean-others pages is key frame s there clean owned =
      let was = only.told.1 (record { pages = pages; is = is }) in
      let kept = only.kept was.pages was.is in
      let after : kept.after ≡ pages = same_Some _ _ (sym kept.told ∙ is) in
      buffer.clean was.pages was.is key frame s there clean owned
      ∙ sym (kept.same.others (b.first + s) (apart key s (λ f here. ap (λ (x : Frame). x.changed) (same_Some _ _ (sym here ∙ there)) ∙ clean) owned))
      ∙ ap (λ (p : Pages). page p (b.first + s)) after

  -- the write failed
  pub IsBuffer-failed : device.size ≡ b.device.size → IsBuffer (record b { device = device })
  IsBuffer-failed size_same = IsBuffer-writes buffer loose-run size_same buffer.frames_hold clean-others (at_stage-run b.frames)

  pub KeepsPages-failed : b.device.writes ≤ device.writes → b.device.faults ≤ device.faults → KeepsPages b (record b { device = device })
  KeepsPages-failed more later = KeepsPages-writes buffer loose-run (λ none. absurd (some_changed none)) (λ key is. is) more later (held-run b.frames (λ key bytes. refl))

  -- the pages were written, and are taken as such
  module _ {frames : FrameOf} (settled : AreSettled b.maps.current slot count b.frames frames) where
    frames-settled : AreFrames b.maps frames
    frames-settled = record {
      mapped = λ key frame is. elim (settled.each key) [
        | inl same ↦ buffer.frames_hold.mapped key frame (sym same ∙ is)
        | inr there ↦ mapped-owned b.maps.current key there.0.at there.0.owned
      ];
      own_slot = λ key frame s is changed owned. elim (settled.each key) [
        | inl same ↦ buffer.frames_hold.own_slot key frame s (sym same ∙ is) changed owned
        | inr there ↦ let no : true ≡ false = sym changed ∙ unchanged_clean (b.frames key) frame (sym there.1 ∙ is) in absurd (cc)
      ];
    }

    held_in-settled : (key : PageKey) (bytes : List ℕ) → held_in (frames key) bytes ≡ held_in (b.frames key) bytes
    held_in-settled key bytes = elim (settled.each key) [
      | inl same ↦ ap (λ (o : Option Frame). held_in o bytes) same
      | inr there ↦ ap (λ (o : Option Frame). held_in o bytes) there.1 ∙ held_in-unchanged (b.frames key) bytes
    ]

    pub waits-settled : AreAmong (waiting_in frames) (waiting_in b.frames)
    waits-settled key is = elim (settled.each key) [
      | inl same ↦ ap is_changed (sym same) ∙ is
      | inr there ↦ let no : true ≡ false = sym is ∙ ap is_changed there.1 ∙ unchanged-clean (b.frames key) in absurd (cc)
    ]

    pub run_settled : (k : ℕ) (less : k < count) → waiting_in frames (run_waits.key k less) ≡ false
    unfolding run_waits
    run_settled k less =
        let page_at = gathered k less in
        clean-waits frames page_at.key (λ frame there. settled.written (slot + k) (omega arith, omega (arith, less)) page_at.key frame page_at.owned there)

    pub KeepsPages-written : b.device.writes ≤ device.writes → b.device.faults ≤ device.faults → KeepsPages b (record b { device = device; frames = frames })
    KeepsPages-written more later = KeepsPages-writes buffer loose-run (λ none. absurd (some_changed none)) waits-settled more later (held-run frames held_in-settled)

    pub IsBuffer-written : device.size ≡ b.device.size → Told device.disk (λ pages. (k : ℕ) → k < count → page pages (b.first + slot + k) ≡ page run k) → IsBuffer (record b { device = device; frames = frames })
    IsBuffer-written size_same stands = IsBuffer-writes buffer loose-run size_same frames-settled clean (at_stage-run frames)
      where
        in_slot : (pages : Pages) → device.disk.contents ≡ Some pages → (key : PageKey) (was : Frame) (s : ℕ) → IsWithin slot count s → b.frames key ≡ Some was → owner_of b.maps.current s ≡ Some key → was.page ≡ page pages (b.first + s)
        in_slot pages is key was s within there owned =
            let k = s - slot in
            let less : k < count = omega (arith, within.0, within.1) in
            let page_at = gathered k less in
            let at : slot + k ≡ s = omega (arith, within.0) in
            let same_key : page_at.key ≡ key = same_Some _ _ (sym page_at.owned ∙ ap (owner_of b.maps.current) at ∙ owned) in
            let same_frame : page_at.frame ≡ was = same_Some _ _ (sym page_at.there ∙ ap b.frames same_key ∙ there) in
            let place : b.first + slot + k ≡ b.first + s = omega (arith, at) in
            ap (λ (f : Frame). f.page) (sym same_frame) ∙ page_at.has ∙ sym (stands pages is k less) ∙ ap (page pages) place

        clean : Told device.disk (AreClean b.first b.maps frames)
        clean pages is key frame s here is_clean owned = elim (settled.each key) [
          | inl same ↦ clean-others pages is key frame s (sym same ∙ here) is_clean owned
          | inr there ↦
              let was = unchanged_of (b.frames key) frame (sym there.1 ∙ here) in
              let at : there.0.at ≡ s = buffer.laid_out.table.distinct there.0.at s key there.0.owned owned in
              ap (λ (f : Frame). f.page) (sym was.2) ∙ in_slot pages is key was.0 s (subst (IsWithin slot count) at there.0.within) was.1 owned
        ]
