-- Writes outside the data slots leave what pages hold, and those outside a map area leave its map.
use Rattle.std.proofs.Common.{◌≡◌, ◌≢◌, ⊎_elim, ℕ, ◌+◌, ◌*◌, ◌/◌, ◌%◌, ◌<◌, ◌≤◌, Bool, true, false, List, length, take, drop, Option, Some, None, option_map, refl, sym, ◌∙◌, ap, subst, arith}
use Rattle.std.proofs.Math.Path.{fun_ext}
use Rattle.std.proofs.lemmas.Option.{same_Some}
use Rattle.rss_base.specs.Devices.{DeviceView}
use Rattle.rss_base.specs.DiskRule.{Disk, Pages, page, Told, IsTold, LeavesOnly, SameOff, IsWithin, WritesIn}
use Rattle.rss_base.specs.Layout.{IsAreaPage, map_pages, map_at, log_at, slots_at}
use Rattle.rss_base.specs.PageMap.{IsMap, IsTable, entry_at, page_count}
use Rattle.rss_base.specs.Sizes.{head_pages}
use Rattle.rss_base.specs.Paged.{HasFixed}
use Rattle.rss_base.specs.declared.key.PageKey.{PageKey}
use Rattle.rss_pagemap.proofs.Written.{area_ends}
use Rattle.rss_root.specs.Roots.{IsSwitchPlace}
use Rattle.rss_shadow.specs.Maps.{Maps}
use Rattle.rss_frames.specs.Frames.{FrameOf, Frame}
use Rattle.rss_buffer.specs.Waiting.{least_frames}
use Rattle.rss_buffer.specs.Slots.{held_in, held_by, fixed_by}
use Rattle.rss_base.specs.StoredPages.{slot_of}
use Rattle.rss_buffer.specs.Buffered.{BufferView, NoneChanged, AreClean, StaysFixed, HoldsMapAt, IsAtStage, AreNotesOf, IsBuffer}
use Rattle.rss_buffer.specs.Saved.{unsynced}
use Rattle.rss_buffer.proofs.Loose.{fixed_page}
use Rattle.rss_buffer.proofs.Turns.{IsBuffer-after}
use Rattle.rss_buffer.specs.declared.stage.Stage.{Stage}
use Rattle.rss_buffer.specs.declared.stage.Stage.TheVariants.{Changing, Saved, Switched}

-- ---- what a write of some places leaves

-- what held of the pages before a write of some places holds after it, where it doesn't speak of these places
pub told_after : {old new : Disk} {places : ℕ → Type 0} (P Q : Pages → Type 0) → WritesIn places old new → ((before after : Pages) → SameOff places before after → P before → Q after) → Told old P → Told new Q
told_after P Q only step has = λ pages is.
    let was = only.told.1 (record { pages = pages; is = is }) in
    let rewritten = only.kept was.pages was.is in
    subst Q (same_Some rewritten.after pages (sym rewritten.told ∙ is)) (step was.pages rewritten.after rewritten.same (has was.pages was.is))

-- ---- pages below the data slots

pub same_held : (first : ℕ) (owners : List (Option PageKey)) (frames : FrameOf) (places : ℕ → Type 0) (before after : Pages) → ((q : ℕ) → places q → q < first) → SameOff places before after → held_by first owners frames (Some after) ≡ held_by first owners frames (Some before)
same_held first owners frames places before after below same =
    fun_ext (λ key. ap (λ (f : ℕ → List ℕ). option_map f (slot_of owners key)) (fun_ext (λ slot. ap (held_in (frames key)) (same.others (first + slot) (λ is. omega (arith, below (first + slot) is))))))

pub held_after : (old new : Disk) {places : ℕ → Type 0} (first : ℕ) (owners : List (Option PageKey)) (frames : FrameOf) → ((q : ℕ) → places q → q < first) → WritesIn places old new → IsTold old → held_by first owners frames new.contents ≡ held_by first owners frames old.contents
held_after old new {places = places} first owners frames below only told =
    let rewritten = only.kept told.pages told.is in
    ap (held_by first owners frames) rewritten.told ∙ same_held first owners frames places told.pages rewritten.after below rewritten.same ∙ ap (held_by first owners frames) (sym told.is)

pub clean_after : {old new : Disk} {places : ℕ → Type 0} (first : ℕ) (maps : Maps) (frames : FrameOf) → ((q : ℕ) → places q → q < first) → WritesIn places old new → Told old (AreClean first maps frames) → Told new (AreClean first maps frames)
clean_after first maps frames below only clean =
    told_after (AreClean first maps frames) (AreClean first maps frames) only (λ before after same was key frame slot here unchanged owned. was key frame slot here unchanged owned ∙ sym (same.others (first + slot) (λ is. omega (arith, below (first + slot) is)))) clean

-- ---- the pages of a map area

pub same_map : (slots first : ℕ) (owners : List (Option PageKey)) (before after : Pages) → ((q : ℕ) → IsWithin first (map_pages slots) q → page after q ≡ page before q) → IsMap slots before first owners → IsMap slots after first owners
same_map slots first owners before after same map =
    let count = map.count in
    let entry : (s : ℕ) → s / 512 < map_pages slots → entry_at after first s ≡ entry_at before first s = λ s lt. ap (λ (bytes : List ℕ). take 8 (drop (8 * (s % 512)) bytes)) (same (first + s / 512) (omega arith, omega arith)) in
    record {
      count = count;
      begins = record {
        entries = λ s lt. let was = map.begins.entries s lt in record { spelled = entry s (omega arith) ∙ was.spelled; allowed = was.allowed };
        distinct = map.begins.distinct;
      };
      rest = λ s past lt. entry s (omega arith) ∙ map.rest s past lt;
    }

-- no page of a map area is a log page or a data slot
pub below_log : (slots area q : ℕ) → area < 2 → log_at slots ≤ q → IsWithin (map_at slots area) (map_pages slots) q → ⊥
below_log slots area q two past within = omega (arith, within.1, area_ends slots area two)

pub below_slots : (slots log_pages area first q : ℕ) → area < 2 → first ≡ slots_at slots log_pages → IsWithin (map_at slots area) (map_pages slots) q → q < first
below_slots slots log_pages area first q two place within = omega (arith, within.1, area_ends slots area two)

-- nor the selector nor a root
pub above_roots : (slots area q : ℕ) → q < 3 → IsWithin (map_at slots area) (map_pages slots) q → ⊥
above_roots slots area q low within = omega (arith, within.0)

-- ---- the stage

pub changing : (b : BufferView) → b.stage ≡ Changing → IsAtStage b
changing b is = record {
  none_changed = λ other. absurd (other is);
  saved = λ area at. absurd (cc);
  synced = λ at. absurd (cc);
}

pub unsynced-area : (stage : Stage) → ((area : ℕ) → stage ≡ Saved area → area < 2) → (area : ℕ) → unsynced stage ≡ Saved area → area < 2
unsynced-area Changing low area is = absurd (cc)
unsynced-area (Saved saved) low area is = low area is
unsynced-area Switched low area is = absurd (cc)

-- how far the saving of a map that is kept has come
stage_by : (b : BufferView) → (b.stage ≢ Changing → NoneChanged b.frames) → ((area : ℕ) → b.stage ≡ Saved area → Told b.device.disk (HoldsMapAt b.maps.current area)) → (b.stage ≡ Switched → ⊥) → IsAtStage b
stage_by b none saved not = record { none_changed = none; saved = saved; synced = λ is. absurd (not is) }

-- after a write behind the map areas
pub unsynced-at : {b : BufferView} {places : ℕ → Type 0} (device : DeviceView) {settled : Bool} → ((q : ℕ) → places q → log_at (length b.maps.current) ≤ q) → ((area : ℕ) → b.stage ≡ Saved area → area < 2) → WritesIn places b.device.disk device.disk → IsAtStage b
    → IsAtStage (record b { device = device; settled = settled; stage = unsynced b.stage })
unsynced-at {b = b} {places = places} device {settled = settled} past low only at_stage = by b.stage refl
  where
    by : (stage : Stage) → b.stage ≡ stage → IsAtStage (record b { device = device; settled = settled; stage = unsynced stage })
    by Changing is = changing (record b { device = device; settled = settled; stage = Changing }) refl
    by (Saved saved) is = stage_by (record b { device = device; settled = settled; stage = Saved saved })
        (λ other. at_stage.none_changed (λ at. other (sym is ∙ at)))
        (λ area at. told_after (HoldsMapAt b.maps.current area) (HoldsMapAt b.maps.current area) only
        (λ before after same map. same_map (length b.maps.current) (map_at (length b.maps.current) area) b.maps.current before after
        (λ q within. same.others q (λ is_place. below_log (length b.maps.current) area q (low area (is ∙ at)) (past q is_place) within)) map)
        (at_stage.saved area (is ∙ at)))
        (λ at. cc)
    by Switched is = changing (record b { device = device; settled = settled; stage = Changing }) refl

-- ---- a buffer

module _ {b : BufferView} (buffer : IsBuffer b) where
  pub heads_below : (q : ℕ) → q < head_pages → q < b.first
  heads_below q head = omega (arith, head, buffer.laid_out.place)

  pub switched_below : {other : ℕ} → other < 3 → (q : ℕ) → IsSwitchPlace other q → q < b.first
  switched_below low q is = heads_below q (⊎_elim (λ selector. omega (arith, selector)) (λ root. omega (arith, root)) is)

  pub area_below : {area : ℕ} → area < 2 → (q : ℕ) → IsAreaPage (length b.maps.current) area q → q < b.first
  area_below {area = area} two q = below_slots (length b.maps.current) b.log_pages area b.first q two buffer.laid_out.place

-- after a write outside the data slots
pub buffer_after : {b : BufferView} {places : ℕ → Type 0} {device : DeviceView} {stage : Stage} → IsBuffer b → device.size ≡ b.device.size → ((q : ℕ) → places q → q < b.first) → WritesIn places b.device.disk device.disk
    → IsAtStage (record b { device = device; settled = false; stage = stage }) → IsBuffer (record b { device = device; settled = false; stage = stage })
buffer_after {b = b} buffer same below only =
    IsBuffer-after buffer same buffer.frames_hold (clean_after b.first b.maps b.frames below only buffer.clean) (λ is. cc)

-- what is fixed of pages they have themselves
pub fixed_itself : (first : ℕ) (shadow : List (Option PageKey)) (pages : Pages) → HasFixed (fixed_by first shadow (Some pages)) pages
fixed_itself first shadow pages = record { size = refl; pages = λ q bytes is. (fixed_page first shadow pages q bytes is).1 }

pub fixed_synced : (disk : Disk) (first : ℕ) (shadow : List (Option PageKey)) → Told disk (LeavesOnly disk) → Told disk (StaysFixed disk first shadow)
fixed_synced disk first shadow only = λ pages is image left. subst (λ (p : Pages). HasFixed (fixed_by first shadow (Some pages)) p) (sym (only pages is image left)) (fixed_itself first shadow pages)

-- a buffer with nothing in memory, of one map
pub buffer_new : (b : BufferView) → least_frames ≤ b.room → ((key : PageKey) → b.frames key ≡ None) → b.maps.shadow ≡ b.maps.current → b.stage ≡ Changing → IsTable b.maps.current → 2 * page_count b.maps.current ≤ length b.maps.current → b.first ≡ slots_at (length b.maps.current) b.log_pages → b.device.size ≡ b.first + length b.maps.current → AreNotesOf b.maps.current b.notes → Told b.device.disk (LeavesOnly b.device.disk) → IsBuffer b
buffer_new b least no_frames same stage table half place ends noted only = record {
  least = least;
  laid_out = record {
    table = table;
    count = ap (λ (o : List (Option PageKey)). length o) same;
    room = omega (arith, half, ap (λ (o : List (Option PageKey)). page_count o) same);
    place = place;
    ends = ends;
  };
  noted = noted;
  frames_hold = record {
    mapped = λ key frame here. none key frame here;
    own_slot = λ key frame slot here changed owned. none key frame here;
  };
  clean = λ pages told key frame slot here. none key frame here;
  fixed = λ is. fixed_synced b.device.disk b.first b.maps.shadow only;
  at_stage = changing b stage;
}
  where
    none : {P : Type 0} (key : PageKey) (frame : Frame) → b.frames key ≡ Some frame → P
    none key frame here = let no : None ≡ Some frame = sym (no_frames key) ∙ here in absurd (cc)

-- the current map becomes the shadow map
pub buffer_adopted : {b : BufferView} → b.stage ≡ Switched → 2 * page_count b.maps.current ≤ length b.maps.current → IsBuffer b → IsBuffer (record b { maps = record { current = b.maps.current; shadow = b.maps.current }; settled = true; stage = Changing })
buffer_adopted {b = b} is half buffer =
    let none = buffer.at_stage.none_changed (λ other. cc) in
    record {
      least = buffer.least;
      laid_out = record {
        table = buffer.laid_out.table;
        count = refl;
        room = omega (arith, half);
        place = buffer.laid_out.place;
        ends = buffer.laid_out.ends;
      };
      noted = buffer.noted;
      frames_hold = record {
        mapped = buffer.frames_hold.mapped;
        own_slot = λ key frame slot here changed owned. let not = none key frame here in absurd (cc);
      };
      clean = buffer.clean;
      fixed = λ settled. fixed_synced b.device.disk b.first b.maps.current (buffer.at_stage.synced is);
      at_stage = changing (record b { maps = record { current = b.maps.current; shadow = b.maps.current }; settled = true; stage = Changing }) refl;
    }
