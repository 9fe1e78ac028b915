-- An index and the slots in use, as they are filled from the first owners of a map.
use Rattle.std.proofs.Common.{◌≡◌, inl, inr, ℕ, ◌+◌, ◌*◌, ◌<◌, ◌≤◌, Bool, true, false, ◌||◌, ◌&&◌, List, [], length, set, take, replicate, refl, sym, ◌∙◌, ap, subst, arith, length-take, get_or-take}
use Rattle.std.specs.Prelude.{Option, Some, None, is_some, slice_index_or}
use Rattle.std.proofs.lemmas.Bool.{cases_eq, cases_lt}
use Rattle.std.proofs.lemmas.List.{take_all, get_or-replicate, length-replicate}
use Rattle.std.proofs.lemmas.List.Sums.{count_by-le-length}
use Rattle.rss_base.specs.PageMap.{IsKey, IsTable, owner_of, page_count}
use Rattle.rss_base.specs.declared.key.PageKey.{PageKey}
use Rattle.rss_shadow.specs.Maps.{Maps, AreMaps, heap_pages_of, is_heap, image_pages_of, is_image, LacksPage}
use Rattle.rss_shadow.specs.Index.{Columns, slot_in, numbers_of, pages_in, PutsSlot}
use Rattle.rss_shadow.specs.Shadow.{IsIndexOf, AreUsedBy, IsShadow}
use Rattle.rss_shadow.proofs.Counts.{Owners, one_page, one_heap_page, one_image_page, Assigns, Assigns-take, take-past}
use Rattle.rss_shadow.proofs.Slots.{Changes-gains, IsIndexOf-puts, unindexed, one_slot, AreUsedBy-set, AreUsedBy-stays}

-- the index and the set have so many of the owners, and the counts are theirs
pub record AreFilled (slots : ℕ) (owners : Owners) (done : ℕ) (index : Columns) (used : List Bool) (pages heap images : ℕ) : Type 0 where
  pub index_holds : IsIndexOf slots (take done owners) index
  pub used_hold : AreUsedBy slots (take done owners) [] used
  pub counted : pages ≡ page_count (take done owners)
  pub heap_counted : heap ≡ heap_pages_of (take done owners)
  pub images_counted : images ≡ image_pages_of (take done owners)

pub AreFilled-none : (slots : ℕ) (owners : Owners) (index : Columns) (used : List Bool) → numbers_of index ≡ slots → ((key : PageKey) → slot_in index key ≡ None) → pages_in index ≡ 0 → used ≡ replicate slots false → AreFilled slots owners 0 index used 0 0 0
AreFilled-none slots owners index used numbers empty pages is = record {
  index_holds = record {
    numbers = numbers;
    indexed = λ key slot allowed. (λ there. absurd (let none : slot_in index key ≡ None = empty key in cc), λ there. absurd (cc));
    counted = pages;
  };
  used_hold = record {
    count = ap length is ∙ length-replicate slots false;
    uses = λ slot within. ap (λ (l : List Bool). slice_index_or l slot true) is ∙ get_or-replicate slots slot false true within;
  };
  counted = refl;
  heap_counted = refl;
  images_counted = refl;
}

-- the next slot is free
pub AreFilled-free : (slots : ℕ) (owners : Owners) (done : ℕ) (index : Columns) (used : List Bool) (pages heap images : ℕ) → done < length owners → owner_of owners done ≡ None → AreFilled slots owners done index used pages heap images → AreFilled slots owners (done + 1) index used pages heap images
AreFilled-free slots owners done index used pages heap images within free filled =
    let one : Assigns (take done owners) (take (done + 1) owners) done None = subst (λ (o : Option PageKey). Assigns (take done owners) (take (done + 1) owners) done o) free (Assigns-take owners done within) in
    let was : owner_of (take done owners) done ≡ None = take-past owners done done (omega arith) in
    let same : (s : ℕ) → owner_of (take (done + 1) owners) s ≡ owner_of (take done owners) s = λ s. elim (cases_eq s done) [
      | inl here ↦ ap (owner_of (take (done + 1) owners)) here ∙ one.here ∙ sym (ap (owner_of (take done owners)) here ∙ was)
      | inr off ↦ one.others s off
    ] in
    record {
      index_holds = record {
        numbers = filled.index_holds.numbers;
        indexed = λ key slot allowed. (
          λ there. same slot ∙ (filled.index_holds.indexed key slot allowed).0 there,
          λ there. (filled.index_holds.indexed key slot allowed).1 (sym (same slot) ∙ there),
        );
        counted = omega (arith, filled.index_holds.counted, one.pages, ap one_page was);
      };
      used_hold = AreUsedBy-stays slots (take done owners) (take (done + 1) owners) [] used done None one (ap (λ (o : Option PageKey). is_some o || false) was) filled.used_hold;
      counted = omega (arith, filled.counted, one.pages, ap one_page was);
      heap_counted = omega (arith, filled.heap_counted, one.heap, ap one_heap_page was);
      images_counted = omega (arith, filled.images_counted, one.images, ap one_image_page was);
    }

-- the next slot has a page
pub AreFilled-more : (slots : ℕ) (owners : Owners) (done : ℕ) (key : PageKey) (index after : Columns) (used : List Bool) (pages heap images : ℕ) → IsTable owners → slots ≡ length owners → done < length owners → owner_of owners done ≡ Some key → PutsSlot index after key (Some done) → AreFilled slots owners done index used pages heap images → AreFilled slots owners (done + 1) after (set used done true) (pages + 1) (heap + one_heap_page (Some key)) (images + one_image_page (Some key))
AreFilled-more slots owners done key index after used pages heap images table long within owned puts filled =
    let one : Assigns (take done owners) (take (done + 1) owners) done (Some key) = subst (λ (o : Option PageKey). Assigns (take done owners) (take (done + 1) owners) done o) owned (Assigns-take owners done within) in
    let was : owner_of (take done owners) done ≡ None = take-past owners done done (omega arith) in
    let is : IsKey slots key = subst (λ (n : ℕ). IsKey n key) (sym long) (table.allowed done key owned) in
    let lacks : LacksPage (take done owners) key = λ s there. elim (cases_lt s done) [
      | inl below ↦ omega (arith, table.distinct s done key (sym (get_or-take done owners s None below) ∙ there) owned)
      | inr past ↦ let none : owner_of (take done owners) s ≡ None = take-past owners done s past in absurd (cc)
    ] in
    record {
      index_holds = IsIndexOf-puts slots (take done owners) (take (done + 1) owners) index after key (Some done) is filled.index_holds puts
          (Changes-gains (take done owners) (take (done + 1) owners) key done one was lacks)
          (omega (arith, one.pages, ap one_page was, ap one_slot (unindexed _ _ _ key filled.index_holds is lacks)));
      used_hold = AreUsedBy-set slots (take done owners) (take (done + 1) owners) [] used done (Some key) true (omega arith) one refl filled.used_hold;
      counted = omega (arith, filled.counted, one.pages, ap one_page was);
      heap_counted = omega (arith, filled.heap_counted, one.heap, ap one_heap_page was);
      images_counted = omega (arith, filled.images_counted, one.images, ap one_image_page was);
    }

pub AreFilled-few : (slots : ℕ) (owners : Owners) (done : ℕ) (index : Columns) (used : List Bool) (pages heap images : ℕ) → AreFilled slots owners done index used pages heap images → (pages ≤ done) × (heap ≤ done) × (images ≤ done)
AreFilled-few slots owners done index used pages heap images filled = (
  omega (arith, filled.counted, count_by-le-length is_some (take done owners), length-take done owners),
  omega (arith, filled.heap_counted, count_by-le-length is_heap (take done owners), length-take done owners),
  omega (arith, filled.images_counted, count_by-le-length is_image (take done owners), length-take done owners),
)

-- ---- both maps are one

pub AreMaps-both : (owners : Owners) → IsTable owners → 2 * page_count owners ≤ length owners → AreMaps (record { current = owners; shadow = owners })
AreMaps-both owners table room = record {
  current = table;
  shadow = table;
  count = refl;
  apart = λ s key uses. inr uses;
  room = omega arith;
}

AreUsedBy-both : (slots : ℕ) (owners : Owners) (used : List Bool) → AreUsedBy slots owners [] used → AreUsedBy slots owners owners used
AreUsedBy-both slots owners used holds = record {
  count = holds.count;
  uses = λ slot within. holds.uses slot within ∙ twice (owner_of owners slot);
}
  where
    twice : (o : Option PageKey) → (is_some o || false) ≡ (is_some o || is_some o)
    twice None = refl
    twice (Some key) = refl

pub IsShadow-filled : (slots : ℕ) (owners shadow : Owners) (done : ℕ) (index : Columns) (used : List Bool) (pages heap images : ℕ) → IsTable owners → slots ≡ length owners → length owners ≤ done → shadow ≡ owners → 2 * page_count owners ≤ length owners → AreFilled slots owners done index used pages heap images → IsShadow (record { current = owners; shadow = shadow }) index used pages heap images pages
IsShadow-filled slots owners shadow done index used pages heap images table long all same room filled =
    let whole : take done owners ≡ owners = take_all done owners all in
    subst (λ (s : Owners). IsShadow (record { current = owners; shadow = s }) index used pages heap images pages) (sym same) (record {
      maps_hold = AreMaps-both owners table room;
      index_holds = subst (λ (n : ℕ). IsIndexOf n owners index) long (subst (λ (o : Owners). IsIndexOf slots o index) whole filled.index_holds);
      used_hold = subst (λ (n : ℕ). AreUsedBy n owners owners used) long (AreUsedBy-both slots owners used (subst (λ (o : Owners). AreUsedBy slots o [] used) whole filled.used_hold));
      counted = filled.counted ∙ ap page_count whole;
      heap_counted = filled.heap_counted ∙ ap heap_pages_of whole;
      images_counted = filled.images_counted ∙ ap image_pages_of whole;
      shadow_counted = filled.counted ∙ ap page_count whole;
    })

-- the current map becomes the shadow map
pub IsShadow-adopts : (maps : Maps) (index : Columns) (used left : List Bool) (pages heap images shadow_pages : ℕ) (shadow : Owners) → IsShadow maps index used pages heap images shadow_pages → 2 * page_count maps.current ≤ length maps.current → shadow ≡ maps.current → length left ≡ length used → ((slot : ℕ) → slot < length maps.current → slice_index_or left slot true ≡ (is_some (owner_of maps.current slot) && slice_index_or used slot true)) → IsShadow (record { current = maps.current; shadow = shadow }) index left pages heap images pages
IsShadow-adopts maps index used left pages heap images shadow_pages shadow holds room same count removed =
    subst (λ (s : Owners). IsShadow (record { current = maps.current; shadow = s }) index left pages heap images pages) (sym same) (record {
      maps_hold = AreMaps-both maps.current holds.maps_hold.current room;
      index_holds = holds.index_holds;
      used_hold = record {
        count = count ∙ holds.used_hold.count;
        uses = λ slot within. removed slot within
            ∙ ap (λ (b : Bool). is_some (owner_of maps.current slot) && b) (holds.used_hold.uses slot within)
            ∙ both (owner_of maps.current slot) (owner_of maps.shadow slot);
      };
      counted = holds.counted;
      heap_counted = holds.heap_counted;
      images_counted = holds.images_counted;
      shadow_counted = holds.counted;
    })
  where
    both : (o p : Option PageKey) → (is_some o && (is_some o || is_some p)) ≡ (is_some o || is_some o)
    both None p = refl
    both (Some key) p = refl
