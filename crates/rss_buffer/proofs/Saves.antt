-- What is written to the slots and to a map area, and what a switch then selects.
use Rattle.std.proofs.Common.{◌≡◌, inl, inr, ℕ, ◌+◌, ◌<◌, Bool, true, false, List, [], length, set, Option, Some, None, option_map, refl, sym, ◌∙◌, ap, subst, arith, length-set, get_or-set_other, get_or-set_same}
use Rattle.std.proofs.lemmas.Bool.{cases_eq, cases_Bool}
use Rattle.std.proofs.lemmas.Option.{same_Some}
use Rattle.rss_base.specs.Devices.{DeviceView}
use Rattle.rss_base.specs.DiskRule.{Disk, Pages, page, Told, IsTold, SameOff, Places, IsWithin, WritesIn}
use Rattle.rss_base.specs.Layout.{map_pages, map_at, IsAreaPage, slots_at, device_pages, selected, selected_by, root_page, IsWellFormed}
use Rattle.rss_base.specs.PageMap.{owner_of, HoldsMap}
use Rattle.std.specs.Prelude.{Result, Ok, Err, IsErr, IfErr}
use Rattle.rss_base.specs.Faults.{HasCause, Rises}
use Rattle.rss_base.specs.Paged.{Held, AreAmong, HasPageCause}
use Rattle.rss_base.specs.declared.fault.Failed.{Failed}
use Rattle.rss_base.specs.declared.fault.PageFault.{PageFault}
use Rattle.rss_base.specs.declared.fault.PageFault.TheVariants.{Device as DeviceFailed}
use Rattle.rss_base.specs.declared.root.Root.{Root}
use Rattle.rss_base.specs.declared.key.PageKey.{PageKey}
use Rattle.rss_base.proofs.Moments.{rises_since, writes_among, writes_then}
use Rattle.rss_pagemap.proofs.Owners.{owned_within}
use Rattle.rss_shadow.specs.Maps.{Maps}
use Rattle.rss_frames.specs.Frames.{Frame, FrameOf}
use Rattle.rss_buffer.specs.Waiting.{waiting_in}
use Rattle.rss_buffer.specs.Saving.{SavingStep, SavingCall}
use Rattle.rss_buffer.specs.Views.{pages_view, saving_view}
use Rattle.rss_buffer.specs.declared.stage.Stage.{Stage}
use Rattle.rss_buffer.specs.declared.stage.Stage.TheVariants.{Saved, Switched}
use Rattle.rss_buffer.specs.Gathered.{IsWritten}
use Rattle.rss_buffer.specs.Slots.{held_in, held_by}
use Rattle.rss_base.specs.StoredPages.{mapped_by}
use Rattle.rss_buffer.specs.Buffered.{BufferView, NoneChanged, HoldsMapAt, IsAtStage, IsBuffer, held_of, IsLoose, WritesLoose, KeepsPages, WritesPages}
use Rattle.rss_buffer.specs.Saved.{IsSaveable, AreWritten}
use Rattle.rss_base.specs.StoredPages.{StandInSlots, SavesPages, HoldsPages}
use Rattle.rss_shadow.proofs.Owned.{slot_of-owned, HasPage-mapped}
use Rattle.rss_buffer.proofs.Waits.{changed-waits, clean-waits}
use Rattle.rss_notes.specs.Notes.{NotesView}
use Rattle.rss_buffer.proofs.Elsewhere.{held_after, same_map, below_log, above_roots}

-- ---- the changed pages

-- one slot more, once its page is written, and no page waits more
pub one_written : (owners : List (Option PageKey)) (frames frames_now : FrameOf) (slot : ℕ) → IsWritten owners frames_now slot → AreAmong (waiting_in frames_now) (waiting_in frames) → AreWritten owners frames slot → AreWritten owners frames_now (slot + 1)
one_written owners frames frames_now slot now fewer before = λ s lt. elim (cases_eq s slot) [
  | inl at ↦ subst (IsWritten owners frames_now) (sym at) now
  | inr off ↦ λ key frame owned here. elim (cases_Bool frame.changed) [
    | inl changed ↦
        let waited = fewer key (changed-waits frames_now key frame here changed) in
        let clean = clean-waits frames key (λ f there. before s (omega (arith, off)) key f owned there) in
        let no : true ≡ false = sym waited ∙ clean in
        absurd (cc)
    | inr clean ↦ clean
  ]
]

-- the pages of all slots
pub all_written : (owners : List (Option PageKey)) (frames : FrameOf) (limit : ℕ) → limit ≡ length owners → ((key : PageKey) (frame : Frame) → frames key ≡ Some frame → mapped_by owners key ≡ true) → AreWritten owners frames limit → NoneChanged frames
all_written owners frames limit all mapped written = λ key frame here.
    let has = HasPage-mapped owners key (mapped key frame here) in
    written has.slot (omega (arith, all, owned_within owners has.slot key has.owned)) key frame has.owned here

-- ---- pages in their slots

in_slot : (frame : Option Frame) (bytes : List ℕ) → ((here : Frame) → frame ≡ Some here → here.page ≡ bytes) → held_in frame bytes ≡ bytes
in_slot None bytes same = refl
in_slot (Some here) bytes same = same here refl

module _ {b : BufferView} (buffer : IsBuffer b) (none : NoneChanged b.frames) where
  -- where no page was changed, each one stands in its slot
  pub stands : Told b.device.disk (λ pages. StandInSlots b.first pages b.maps.current (held_of b))
  stands = λ pages told slot key owned.
      ap (λ (contents : Option Pages). held_by b.first b.maps.current b.frames contents key) told
      ∙ ap (option_map (λ (s : ℕ). held_in (b.frames key) (page pages (b.first + s)))) (slot_of-owned b.maps.current key slot buffer.laid_out.table.distinct owned)
      ∙ ap Some (in_slot (b.frames key) (page pages (b.first + slot)) (λ frame here. buffer.clean pages told key frame slot here (none key frame here) owned))

  -- the same, by what was known before
  pub flushed : (maps : Maps) (log_pages : ℕ) (held : Held) → b.maps ≡ maps → b.log_pages ≡ log_pages → held_of b ≡ held → Told b.device.disk (λ pages. StandInSlots (slots_at (length maps.current) log_pages) pages maps.current held)
  flushed maps log_pages held same_maps same_log same_held = λ pages told slot key owned.
      let place : b.first ≡ slots_at (length maps.current) log_pages = buffer.laid_out.place ∙ ap (λ (m : Maps). slots_at (length m.current) b.log_pages) same_maps ∙ ap (slots_at (length maps.current)) same_log in
      let here : owner_of b.maps.current slot ≡ Some key = ap (λ (m : Maps). owner_of m.current slot) same_maps ∙ owned in
      ap (λ (h : Held). h key) (sym same_held) ∙ stands pages told slot key here ∙ ap (λ (n : ℕ). Some (page pages (n + slot))) place

-- what a flush of such pages leaves
pub flushed_from : {old new : BufferView} → IsBuffer new → KeepsPages old new → NoneChanged new.frames → IsTold old.device.disk → Told new.device.disk (λ pages. StandInSlots (slots_at (length old.maps.current) old.log_pages) pages old.maps.current (held_of old))
flushed_from {old = old} buffer keeps none told = flushed buffer none old.maps old.log_pages (held_of old) keeps.maps keeps.log_pages (keeps.held told)

-- pages that are the same in the area and in the slots of the owners save the same
pub same_saves : (log_pages area : ℕ) (owners : List (Option PageKey)) (held : Held) (before after : Pages) → ((q : ℕ) → IsWithin (map_at (length owners) area) (map_pages (length owners)) q → page after q ≡ page before q)
    → ((slot : ℕ) (key : PageKey) → owner_of owners slot ≡ Some key → page after (slots_at (length owners) log_pages + slot) ≡ page before (slots_at (length owners) log_pages + slot)) → SavesPages log_pages area before owners held → SavesPages log_pages area after owners held
same_saves log_pages area owners held before after in_area in_slots saves = record {
  map = same_map (length owners) (map_at (length owners) area) owners before after in_area saves.map;
  stand = λ slot key owned. saves.stand slot key owned ∙ ap Some (sym (in_slots slot key owned));
}

-- the map is written after the pages
pub saves_map : (log_pages area : ℕ) (owners : List (Option PageKey)) (held : Held) (before : Pages) (contents : Option Pages) → area < 2 → StandInSlots (slots_at (length owners) log_pages) before owners held → HoldsMap before (map_at (length owners) area) owners contents → (pages : Pages) → contents ≡ Some pages → SavesPages log_pages area pages owners held
saves_map log_pages area owners held before contents two stand holds pages told = subst (λ (p : Pages). SavesPages log_pages area p owners held) (same_Some holds.after pages (sym holds.told ∙ told)) (record {
  map = holds.map;
  stand = λ slot key owned. stand slot key owned ∙ ap Some (sym (holds.same.others (slots_at (length owners) log_pages + slot) (λ within. below_log (length owners) area (slots_at (length owners) log_pages + slot) two (omega arith) within)));
})

pub at_saved : (b : BufferView) (area : ℕ) {mid : Disk} → b.stage ≡ Saved area → NoneChanged b.frames → WritesIn (IsAreaPage (length b.maps.current) area) mid b.device.disk → Told mid (λ pages. HoldsMap pages (map_at (length b.maps.current) area) b.maps.current b.device.disk.contents) → IsAtStage b
at_saved b area at none only written = record {
  none_changed = λ other. none;
  saved = λ saved is pages now.
      let was = only.told.1 (record { pages = pages; is = now }) in
      let holds = written was.pages was.is in
      let stages : Saved area ≡ Saved saved = sym at ∙ is in
      let same : area ≡ saved = cc in
      subst (λ (n : ℕ). HoldsMapAt b.maps.current n pages) same (subst (HoldsMapAt b.maps.current area) (same_Some holds.after pages (sym holds.told ∙ now)) holds.map);
  synced = λ is. let stages : Saved area ≡ Switched = sym at ∙ is in absurd (cc);
}

-- ---- what a layer above sees of it

pub backing_kept : {old new : BufferView} → KeepsPages old new → (pages_view new).backing ≡ (pages_view old).backing
backing_kept keeps = λ i. record { log_pages = keeps.log_pages i; area = keeps.area i; shadow = ap (λ (m : Maps). m.shadow) keeps.maps i; frames = keeps.room i }

pub saving_kept : {old new : BufferView} → KeepsPages old new → SavingStep (pages_view old) (pages_view new) (saving_view old) (saving_view new)
saving_kept keeps = record {
  current = ap (λ (m : Maps). m.current) keeps.maps;
  waiting = keeps.waiting;
  held = keeps.held;
  notes = ap (λ (n : NotesView). n.notes) keeps.notes;
  log_pages = keeps.log_pages;
  frames = keeps.room;
  asks = keeps.asks;
  told = keeps.leaves.told;
  later = keeps.later;
}

-- a call that fails by the device alone
pub cause_of_device : {T : Type 0} {disk : Disk} {faults faults_now : ℕ} (result : Result T PageFault) → IfErr result (λ fault. fault ≡ DeviceFailed) → HasPageCause disk faults faults_now result → IsErr result → Rises faults faults_now
cause_of_device (Ok value) fault cause is = absurd (cc)
cause_of_device (Err e) fault cause is = cause.failed (ap Err fault)

pub saving_flushed : {T : Type 0} {old new : BufferView} (result : Result T PageFault) → WritesPages old new result → SavingCall (pages_view old) (pages_view new) (saving_view old) (saving_view new) result
saving_flushed result did = record { step = saving_kept did.keeps; fault = did.fault; cause = cause_of_device result did.fault did.cause }

-- and then something is written outside the data slots
pub saving_wrote : {T U : Type 0} {old mid : BufferView} {places : Places} {wrote : Result U Failed} {result : Result T PageFault} (device : DeviceView) {area : ℕ} {settled : Bool} {stage : Stage} → KeepsPages old mid → ((q : ℕ) → places q → q < mid.first) → WritesIn places mid.device.disk device.disk → HasCause mid.device.faults device.faults wrote → IfErr result (λ fault. fault ≡ DeviceFailed) → (IsErr result → IsErr wrote)
    → SavingCall (pages_view old) (pages_view (record mid { device = device; area = area; settled = settled; stage = stage })) (saving_view old) (saving_view (record mid { device = device; area = area; settled = settled; stage = stage })) result
saving_wrote {mid = mid} device keeps below only cause fault is_err = record {
  step = record {
    current = ap (λ (m : Maps). m.current) keeps.maps;
    waiting = keeps.waiting;
    held = λ is. held_after mid.device.disk device.disk mid.first mid.maps.current mid.frames below only (keeps.leaves.told.0 is) ∙ keeps.held is;
    notes = ap (λ (n : NotesView). n.notes) keeps.notes;
    log_pages = keeps.log_pages;
    frames = keeps.room;
    asks = keeps.asks;
    told = (λ is. only.told.0 (keeps.leaves.told.0 is), λ is. keeps.leaves.told.1 (only.told.1 is));
    later = omega (arith, keeps.later, cause.later);
  };
  fault = fault;
  cause = λ is. rises_since keeps.later (cause.failed (is_err is));
}

-- ---- what saving may write

module _ {first slots_first : ℕ} (maps : Maps) (area : ℕ) (place : first ≡ slots_first) (count : length maps.shadow ≡ length maps.current) where
  loose_saveable : (q : ℕ) → IsLoose first maps.shadow q → IsSaveable slots_first area maps.shadow q
  loose_saveable q is = inl (subst (λ (n : ℕ). IsLoose n maps.shadow q) place is)

  area_saveable : (q : ℕ) → IsWithin (map_at (length maps.current) area) (map_pages (length maps.current)) q → IsSaveable slots_first area maps.shadow q
  area_saveable q within = inr (subst (λ (n : ℕ). IsWithin (map_at n area) (map_pages n) q) (sym count) within)

  pub flush_writes : {old mid : Disk} → WritesLoose first maps.shadow old mid → WritesIn (IsSaveable slots_first area maps.shadow) old mid
  flush_writes = writes_among loose_saveable

  pub save_writes : {old mid new : Disk} → WritesLoose first maps.shadow old mid → WritesIn (IsAreaPage (length maps.current) area) mid new → WritesIn (IsSaveable slots_first area maps.shadow) old new
  save_writes writes table = writes_then (flush_writes writes) (writes_among area_saveable table)

-- ---- the switch

pub saved_by : {b : BufferView} (area : ℕ) → b.stage ≡ Saved area → IsBuffer b → Told b.device.disk (λ pages. SavesPages b.log_pages area pages b.maps.current (held_of b))
saved_by {b = b} area is buffer = λ pages told. record {
  map = buffer.at_stage.saved area is pages told;
  stand = flushed buffer (buffer.at_stage.none_changed (λ other. cc)) b.maps b.log_pages (held_of b) refl refl refl pages told;
}

-- a root is written and selected
pub holds_pages : (before : Pages) (number : ℕ) (root : Root) (selector : List ℕ) (owners : List (Option PageKey)) (held : Held) → 0 < number → number < 3 → selected_by selector ≡ number → IsWellFormed root → length owners ≡ root.slots → length before ≡ device_pages root → SavesPages root.log_pages root.area before owners held
    → HoldsPages (set (set before number (root_page root)) 0 selector) number root owners held
holds_pages before number root selector owners held low high names formed count size saves =
    let rooted : Pages = set before number (root_page root) in
    let image : Pages = set rooted 0 selector in
    let long : length rooted ≡ length before = length-set before number (root_page root) in
    let front : page image 0 ≡ selector = get_or-set_same rooted 0 selector [] (omega (arith, long, size)) in
    let selects : selected image ≡ number = ap selected_by front ∙ names in
    let there : page image number ≡ root_page root = get_or-set_other rooted 0 number selector [] (omega arith) ∙ get_or-set_same before number (root_page root) [] (omega (arith, size)) in
    let all : length image ≡ length before = length-set rooted 0 selector ∙ long in
    let same : SameOff (λ q. q < 3) before image = record { size = all; others = λ q off. get_or-set_other rooted 0 q selector [] (λ is. off (omega arith)) ∙ get_or-set_other before number q (root_page root) [] (λ is. off (omega arith)) } in
    record {
      root_there = record {
        selects = sym selects;
        there = record { spelled = ap (page image) selects ∙ there; formed = formed };
        size = all ∙ size;
      };
      count = count;
      saved = same_saves root.log_pages root.area owners held before image (λ q within. same.others q (λ low. above_roots (length owners) root.area q low within)) (λ slot key owned. same.others _ (λ low. omega arith)) saves;
    }
