-- A change of a tuple, with steps before it and behind it that touch no home or overflow page.
use Rattle.std.proofs.Common.{◌≡◌, inl, inr, ⊎_elim, ℕ, ◌+◌, ◌<◌, ◌≤◌, false, true, List, sym, ◌∙◌, ap, subst, arith}
use Rattle.std.specs.Prelude.{Option}
use Rattle.rss_base.specs.DiskRule.{IsTold}
use Rattle.rss_base.specs.Paged.{Mapped, Held, Backing, mapped_of, mapped_pages}
use Rattle.rss_base.specs.PageMap.{page_count}
use Rattle.rss_base.specs.Steps.{PagesView, PagesStep, Keys, AreCounted, no_page}
use Rattle.rss_base.specs.declared.tid.Tid.{Tid}
use Rattle.rss_base.specs.declared.key.PageKey.{PageKey}
use Rattle.rss_base.specs.declared.key.Space.TheVariants.{Home, Overflow, Image}
use Rattle.rss_base.proofs.Steps.{all_mapped, all_held}
use Rattle.rss_base.specs.Sizes.{bodies_room}
use Rattle.rss_page.specs.Slotted.{IsHeapKey}
use Rattle.rss_tuple.specs.Checked.{pages_of}
use Rattle.rss_tuple.specs.Directory.{Bodies, bodies_of, with_body}
use Rattle.rss_entries.specs.Rooms.{image_places}
use Rattle.rss_access.specs.Written.{heap_now}
use Rattle.rss_access.specs.Tuples.{body_at, size_of_body, bytes_at, ChangesTuple}
use Rattle.rss_access.proofs.Counting.{mapped_same, heap_one, pages_one}
use Rattle.rss_access.proofs.Heaped.{SameHeaps, bodies_alike, heaps_alike}
use Rattle.rss_access.proofs.Imaged.{SameImages}

-- ---- pages that were looked at first

module _ {asks outs : ℕ} {old mid : PagesView} (looked : PagesStep no_page asks outs old mid) where
  pub body_looked : IsTold old.disk → (segment : ℕ) (tid : Tid) → body_at mid segment tid ≡ body_at old segment tid
  body_looked told segment tid = ap (λ (h : Held). bodies_of h segment tid) (all_held looked told)

  pub changes_looked : {segment : ℕ} {tid : Tid} {body : Option (List ℕ)} {new : PagesView} → ChangesTuple segment tid body mid new → ChangesTuple segment tid body old new
  changes_looked {segment = segment} {tid = tid} {body = body} {new = new} changes = record {
    one = λ key other heap heap_too is not there none. changes.one key other heap heap_too is (was key not) there (was other none);
    changed = λ key heap is. ⊎_elim (λ before. ⊎_elim (λ same. inl same) (λ no. absurd no) (looked.changed_off key before)) (λ now. inr now) (changes.changed key heap is);
    sets = λ told.
        let sets = changes.sets (looked.passes.leaves.told.0 told) in
        record {
          bodies = sets.bodies ∙ ap (λ (h : Held). with_body (bodies_of h) segment tid body) (all_held looked told);
          heaps = sets.heaps;
          over = λ key space is not. sets.over key space is (was key not);
          grows = λ key space is not. subst (λ (b : Option (List ℕ)). size_of_body b < size_of_body body) (body_looked told segment tid) (sets.grows key space is (was key not));
        };
  }
    where
      was : (key : PageKey) → old.mapped key ≡ false → mid.mapped key ≡ false
      was key is = ap (λ (m : Mapped). m key) (all_mapped looked) ∙ is

-- ---- pages of images that change behind it

-- an image page is neither a home nor an overflow page
pub heap_no_image : (key : PageKey) → IsHeapKey key → key.space ≡ Image → ⊥
heap_no_image key (inl home) image = let both : Home ≡ Image = sym home ∙ image in absurd (cc)
heap_no_image key (inr over) image = let both : Overflow ≡ Image = sym over ∙ image in absurd (cc)

module _ {touched : Keys} {asks outs : ℕ} {mid new : PagesView} (images : (key : PageKey) → touched key → key.space ≡ Image) (step : PagesStep touched asks outs mid new) where
  heap_off : (key : PageKey) → IsHeapKey key → touched key → ⊥
  heap_off key heap is = heap_no_image key heap (images key is)

  pub changes_imaged : {segment : ℕ} {tid : Tid} {body : Option (List ℕ)} {old : PagesView} → (IsTold old.disk → IsTold mid.disk) → ChangesTuple segment tid body old mid → ChangesTuple segment tid body old new
  changes_imaged {segment = segment} {tid = tid} {body = body} {old = old} still changes = record {
    one = λ key other heap heap_too is not there none. changes.one key other heap heap_too (was key heap is) not (was other heap_too there) none;
    changed = λ key heap is. ⊎_elim (λ before. changes.changed key heap before) (λ now. absurd (heap_off key heap now)) (step.changed_off key is);
    sets = λ told.
        let sets = changes.sets told in
        let same : SameHeaps mid.held new.held = λ key heap. step.held_off (still told) key (heap_off key heap) in
        record {
          bodies = bodies_alike same ∙ sets.bodies;
          heaps = heaps_alike same (λ key heap. step.notes_off key (heap_off key heap)) sets.heaps;
          over = λ key space is not. subst (λ (b : Bodies). bodies_room < bytes_at b segment tid.page) (sym (bodies_alike same)) (sets.over key space (was key (inr space) is) not);
          grows = λ key space is not. sets.grows key space (was key (inr space) is) not;
        };
  }
    where
      was : (key : PageKey) → IsHeapKey key → new.mapped key ≡ true → mid.mapped key ≡ true
      was key heap is = sym (step.mapped_off key (heap_off key heap)) ∙ is

-- ---- room

-- one home or overflow page more is mapped at most
pub heap_two : {segment : ℕ} {tid : Tid} {body : Option (List ℕ)} {old new : PagesView} → new.slots ≡ old.slots → ChangesTuple segment tid body old new → heap_now new ≤ heap_now old + 2
heap_two {old = old} {new = new} slots changes =
    let at_home : mapped_of old.mapped Home new.slots ≡ mapped_of old.mapped Home old.slots = ap (mapped_of old.mapped Home) slots in
    let over : mapped_of old.mapped Overflow new.slots ≡ mapped_of old.mapped Overflow old.slots = ap (mapped_of old.mapped Overflow) slots in
    omega (arith, heap_one old.mapped new.mapped changes.one new.slots, at_home, over)

module _ {asks outs segment : ℕ} {old new : PagesView} (step : PagesStep (pages_of segment) asks outs old new) where
  -- no page of an image is touched
  pub images_same : IsTold old.disk → SameImages old.held new.held
  images_same told key image = step.held_off told key (λ is. heap_no_image key is.1 image)

  -- and so images have one place fewer at most
  pub places_left : {tid : Tid} {body : Option (List ℕ)} → ChangesTuple segment tid body old new → AreCounted old → AreCounted new → image_places old ≤ image_places new + 1
  places_left changes before now =
      let pages = pages_one old.mapped new.mapped changes.one new.slots (λ key off. step.mapped_off key (λ is. off is.1)) in
      let slots : mapped_pages new.slots old.mapped ≡ mapped_pages old.slots old.mapped = ap (λ (n : ℕ). mapped_pages n old.mapped) step.passes.slots in
      let shadow : page_count new.backing.shadow ≡ page_count old.backing.shadow = ap (λ (b : Backing). page_count b.shadow) step.passes.backing in
      let images : mapped_of new.mapped Image new.slots ≡ mapped_of old.mapped Image old.slots = mapped_same old.mapped new.mapped Image new.slots (λ key image. step.mapped_off key (λ is. heap_no_image key is.1 image)) ∙ ap (mapped_of old.mapped Image) step.passes.slots in
      omega (arith, pages, slots, shadow, images, before, now, step.passes.slots)
