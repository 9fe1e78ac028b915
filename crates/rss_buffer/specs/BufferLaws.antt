-- The laws of pages, for those of a buffer.
use Rattle.std.proofs.Common.{◌≡◌, ℕ, ◌+◌, ◌^◌, ◌<◌, true, false, List, length, Option, Some, None, refl, sym, ◌∙◌, ap, subst, arith}
use Rattle.std.specs.Prelude.{is_some, is_none, option_map, unwrap_or}
use Rattle.rss_base.specs.DiskRule.{Pages, page, IsTold, Leaves}
use Rattle.rss_base.specs.PageMap.{IsKey, owner_of}
use Rattle.rss_base.specs.Paged.{HasFixed, AreAmong}
use Rattle.rss_base.specs.Steps.{AreCounted}
use Rattle.rss_base.specs.StoredPages.{slot_of, mapped_by}
use Rattle.rss_base.specs.declared.key.PageKey.{PageKey}
use Rattle.rss_base.proofs.Counts.{mapped_pages-owners}
use Rattle.rss_base.proofs.Keys.{owner_of-slot_of, the_slot, the_number}
use Rattle.rss_notes.specs.Marks.{Marked, told}
use Rattle.rss_notes.proofs.Marking.{noted_mapped, mapped_space}
use Rattle.rss_shadow.specs.Maps.{Maps}
use Rattle.rss_frames.specs.Frames.{Frame, FrameOf}
use Rattle.rss_buffer.specs.Waiting.{is_changed, waiting_in}
use Rattle.rss_buffer.specs.Slots.{told_pages, held_in, fixed_by}
use Rattle.rss_buffer.specs.Buffered.{BufferView, AreNotesOf, IsBuffer, AreFrames, held_of}
use Rattle.rss_buffer.specs.Saving.{changed_by, AreSaveable}
use Rattle.rss_buffer.specs.Views.{pages_view, saving_view}

-- what was changed is mapped
pub changed_mapped : (maps : Maps) (key : PageKey) → changed_by maps key ≡ true → mapped_by maps.current key ≡ true
changed_mapped maps key is = by (slot_of maps.current key) is
  where
    by : (o : Option ℕ) → unwrap_or (option_map (λ slot. is_none (owner_of maps.shadow slot)) o) false ≡ true → is_some o ≡ true
    by None is = absurd (cc)
    by (Some slot) is = refl

-- a page that waits was changed
waiting_changed : (maps : Maps) (frames : FrameOf) → AreFrames maps frames → AreAmong (waiting_in frames) (changed_by maps)
waiting_changed maps frames are = λ key is. by key (frames key) refl is
  where
    -- a page with such a slot was changed
    at : (key : PageKey) (slot : ℕ) → slot_of maps.current key ≡ Some slot → owner_of maps.shadow slot ≡ None → changed_by maps key ≡ true
    at key slot here free =
        ap (λ (o : Option ℕ). unwrap_or (option_map (λ slot. is_none (owner_of maps.shadow slot)) o) false) here
        ∙ ap (λ (o : Option PageKey). is_none o) free

    by : (key : PageKey) (o : Option Frame) → frames key ≡ o → is_changed o ≡ true → changed_by maps key ≡ true
    by key None there is = absurd (cc)
    by key (Some frame) there is =
        let slot = the_slot maps.current key (are.mapped key frame there) in
        at key slot.0 slot.1 (are.own_slot key frame slot.0 there is (owner_of-slot_of maps.current key slot.0 slot.1))

-- what is noted is mapped
pub noted_by : {owners : List (Option PageKey)} (marked : Marked) → AreNotesOf owners (told marked) → (key : PageKey) → is_some ((told marked).notes key) ≡ true → mapped_by owners key ≡ true
noted_by marked noted key is =
    let note = the_number ((told marked).notes key) is in
    let mapped = noted_mapped marked key note.0 note.1 in
    sym (noted.mapped key (mapped_space marked key mapped)) ∙ mapped

module _ {view : BufferView} (buffer : IsBuffer view) where
  pub stays_by : view.settled ≡ true → IsTold view.device.disk → (image : Pages) → Leaves view.device.disk image → HasFixed (fixed_by view.first view.maps.shadow view.device.disk.contents) image
  stays_by is told image left =
      subst (λ (o : Option Pages). HasFixed (fixed_by view.first view.maps.shadow o) image) (sym told.is)
      (buffer.fixed is told.pages told.is image left)

  pub allowed_by : (key : PageKey) → mapped_by view.maps.current key ≡ true → IsKey (length view.maps.current) key
  allowed_by key is =
      let slot = the_slot view.maps.current key is in
      buffer.laid_out.table.allowed slot.0 key (owner_of-slot_of view.maps.current key slot.0 slot.1)

  pub few_by : length view.maps.current < 2 ^ 32
  few_by = omega (arith, buffer.laid_out.table.most)

  pub counted_by : AreCounted (pages_view view)
  counted_by =
      let maps = view.maps in
      omega (arith, buffer.laid_out.room, mapped_pages-owners (length maps.current) maps.current (mapped_by maps.current) buffer.laid_out.table.allowed buffer.laid_out.table.distinct (λ key. refl))

  pub saveable_by : AreSaveable (pages_view view) (saving_view view)
  saveable_by = record {
    table = buffer.laid_out.table;
    slots = refl;
    mapped = refl;
    changed = refl;
    waiting = waiting_changed view.maps view.frames buffer.frames_hold;
    fixed = ap (λ (n : ℕ). fixed_by n view.maps.shadow view.device.disk.contents) buffer.laid_out.place;
  }

pub holds_by : (view : BufferView) (key : PageKey) → is_some (held_of view key) ≡ mapped_by view.maps.current key
holds_by view key = alike (λ slot. held_in (view.frames key) (page (told_pages view.device.disk.contents) (view.first + slot))) (slot_of view.maps.current key)
  where
    alike : (f : ℕ → List ℕ) (o : Option ℕ) → is_some (option_map f o) ≡ is_some o
    alike f None = refl
    alike f (Some s) = refl
