-- What holds of the maps between any two calls is kept by each operation.
use Rattle.std.proofs.Common.{◌≡◌, ◌⊎◌, inl, inr, ℕ, ◌+◌, ◌-◌, ◌<◌, Bool, true, false, List, length, set, refl, sym, ◌∙◌, ap, subst, arith, length-set}
use Rattle.std.specs.Prelude.{Option, Some, None, is_some}
use Rattle.std.proofs.lemmas.Bool.{cases_eq}
use Rattle.std.proofs.lemmas.List.{set-set, set-get_or}
use Rattle.rss_base.specs.PageMap.{IsKey, owner_of}
use Rattle.rss_base.specs.declared.key.PageKey.{PageKey}
use Rattle.rss_pagemap.proofs.Owners.{table_set}
use Rattle.rss_shadow.specs.Maps.{Maps, AreMaps, IsFree, spare, LacksPage, MovesPage}
use Rattle.rss_shadow.specs.Index.{Columns, PutsSlot}
use Rattle.rss_shadow.specs.Shadow.{IsIndexOf, AreUsedBy, IsShadow}
use Rattle.rss_shadow.proofs.Counts.{Owners, no_owner, one_page, one_heap_page, one_image_page, Assigns-set, owned_within}
use Rattle.rss_shadow.proofs.Slots.{Changes, Changes-then, Changes-gains, Changes-loses, IsIndexOf-puts, AreUsedBy-set, AreUsedBy-stays, unindexed, one_slot}

-- the maps with one owner of the current map changed
abbrev pub assigned : Maps → ℕ → Option PageKey → Maps
assigned maps slot owner = record { current = set maps.current slot owner; shadow = maps.shadow }

-- ---- a page gets a free slot

pub AreMaps-gains : (maps : Maps) (slot : ℕ) (key : PageKey) → AreMaps maps → IsFree maps slot → IsKey (length maps.current) key → LacksPage maps.current key → 0 < spare maps → AreMaps (assigned maps slot (Some key))
AreMaps-gains maps slot key are free is lacks room =
    let one = Assigns-set maps.current slot (Some key) free.within in
    let long = length-set maps.current slot (Some key) in
    record {
      current = table_set maps.current slot (Some key) are.current free.within is (λ other owned. absurd (lacks other owned));
      shadow = are.shadow;
      count = are.count ∙ sym long;
      apart = λ s other uses. elim (cases_eq s slot) [
        | inl same ↦ absurd (let none : owner_of maps.shadow s ≡ None = ap (owner_of maps.shadow) same ∙ free.shadow in cc)
        | inr off ↦ subst (λ (o : Option PageKey). (o ≡ None) ⊎ (o ≡ Some other)) (sym (one.others s off)) (are.apart s other uses)
      ];
      room = omega (arith, one.pages, ap one_page free.current, are.room);
    }

pub AreMaps-loses : (maps : Maps) (slot : ℕ) (key : PageKey) → AreMaps maps → owner_of maps.current slot ≡ Some key → AreMaps (assigned maps slot None)
AreMaps-loses maps slot key are owned =
    let within = owned_within maps.current slot key owned in
    let one = Assigns-set maps.current slot None within in
    let long = length-set maps.current slot no_owner in
    record {
      current = table_set maps.current slot None are.current within tt tt;
      shadow = are.shadow;
      count = are.count ∙ sym long;
      apart = λ s other uses. elim (cases_eq s slot) [
        | inl same ↦ inl (ap (owner_of (set maps.current slot None)) same ∙ one.here)
        | inr off ↦ subst (λ (o : Option PageKey). (o ≡ None) ⊎ (o ≡ Some other)) (sym (one.others s off)) (are.apart s other uses)
      ];
      room = omega (arith, one.pages, are.room);
    }

-- the map has a page in one slot alone
Changes-free : (maps : Maps) (slot : ℕ) (key : PageKey) → AreMaps maps → owner_of maps.current slot ≡ Some key → Changes maps.current (set maps.current slot None) key None
Changes-free maps slot key are owned = Changes-loses maps.current (set maps.current slot None) key slot (Assigns-set maps.current slot None (owned_within maps.current slot key owned)) owned are.current.distinct

pub lacks_after : (maps : Maps) (slot : ℕ) (key : PageKey) → AreMaps maps → owner_of maps.current slot ≡ Some key → LacksPage (set maps.current slot None) key
lacks_after maps slot key are owned s is = let none : None ≡ Some s = ((Changes-free maps slot key are owned).here s).1 is in absurd (cc)

free_after : (maps : Maps) (from slot : ℕ) (key : PageKey) → owner_of maps.current from ≡ Some key → IsFree maps slot → IsFree (assigned maps from None) slot
free_after maps from slot key owned free =
    let one = Assigns-set maps.current from None (owned_within maps.current from key owned) in
    record {
      within = omega (arith, length-set maps.current from no_owner, free.within);
      current = elim (cases_eq slot from) [
        | inl same ↦ ap (owner_of (set maps.current from None)) same ∙ one.here
        | inr off ↦ one.others slot off ∙ free.current
      ];
      shadow = free.shadow;
    }

-- ---- how many pages can be taken

pub spare-gains : (maps : Maps) (slot : ℕ) (key : PageKey) → AreMaps maps → IsFree maps slot → 0 < spare maps → spare (assigned maps slot (Some key)) + 1 ≡ spare maps
spare-gains maps slot key are free room =
    let one = Assigns-set maps.current slot (Some key) free.within in
    omega (arith, one.pages, ap one_page free.current, length-set maps.current slot (Some key))

pub spare-loses : (maps : Maps) (slot : ℕ) (key : PageKey) → AreMaps maps → owner_of maps.current slot ≡ Some key → spare (assigned maps slot None) ≡ spare maps + 1
spare-loses maps slot key are owned =
    let one = Assigns-set maps.current slot None (owned_within maps.current slot key owned) in
    omega (arith, one.pages, ap one_page owned, length-set maps.current slot no_owner, are.room)

pub spare-moves : (maps : Maps) (from slot : ℕ) (key : PageKey) → AreMaps maps → owner_of maps.current from ≡ Some key → IsFree maps slot → spare (assigned (assigned maps from None) slot (Some key)) ≡ spare maps
spare-moves maps from slot key are owned free =
    let first = spare-loses maps from key are owned in
    let second = spare-gains (assigned maps from None) slot key (AreMaps-loses maps from key are owned) (free_after maps from slot key owned free) (omega (arith, first)) in
    omega (arith, first, second)

-- ---- a page that is to be written

pub MovesPage-stays : (maps : Maps) (slot : ℕ) (key : PageKey) → owner_of maps.current slot ≡ Some key → owner_of maps.shadow slot ≡ None → MovesPage maps maps key slot
MovesPage-stays maps slot key owned free = record {
  from = slot;
  owned = owned;
  stays = λ none. refl;
  free = λ uses. absurd (uses free);
  current = sym (set-set maps.current slot None (Some key) ∙ ap (λ (o : Option PageKey). set maps.current slot o) (sym owned) ∙ set-get_or maps.current slot None);
  shadow = refl;
}

pub MovesPage-moves : (maps : Maps) (from slot : ℕ) (key other : PageKey) → owner_of maps.current from ≡ Some key → owner_of maps.shadow from ≡ Some other → IsFree maps slot → MovesPage maps (assigned (assigned maps from None) slot (Some key)) key slot
MovesPage-moves maps from slot key other owned shadowed free = record {
  from = from;
  owned = owned;
  stays = λ none. absurd (cc);
  free = λ uses. free;
  current = refl;
  shadow = refl;
}

-- ---- the whole

module _ {maps : Maps} {index : Columns} {used : List Bool} {pages heap images shadow_pages : ℕ} (holds : IsShadow maps index used pages heap images shadow_pages) where
  pub IsShadow-gains : {after : Columns} {slot : ℕ} {key : PageKey} → IsFree maps slot → IsKey (length maps.current) key → LacksPage maps.current key → 0 < spare maps → PutsSlot index after key (Some slot) → IsShadow (assigned maps slot (Some key)) after (set used slot true) (pages + 1) (heap + one_heap_page (Some key)) (images + one_image_page (Some key)) shadow_pages
  IsShadow-gains {after = after} {slot = slot} {key = key} free is lacks room puts =
      let current : Owners = set maps.current slot (Some key) in
      let one = Assigns-set maps.current slot (Some key) free.within in
      let long = sym (length-set maps.current slot (Some key)) in
      record {
        maps_hold = AreMaps-gains maps slot key holds.maps_hold free is lacks room;
        index_holds = subst (λ (n : ℕ). IsIndexOf n current after) long
            (IsIndexOf-puts (length maps.current) maps.current current index after key (Some slot) is holds.index_holds puts
            (Changes-gains maps.current current key slot one free.current lacks)
            (omega (arith, one.pages, ap one_page free.current, ap one_slot (unindexed _ _ _ key holds.index_holds is lacks))));
        used_hold = subst (λ (n : ℕ). AreUsedBy n current maps.shadow (set used slot true)) long
            (AreUsedBy-set (length maps.current) maps.current current maps.shadow used slot (Some key) true free.within one refl holds.used_hold);
        counted = omega (arith, holds.counted, one.pages, ap one_page free.current);
        heap_counted = omega (arith, holds.heap_counted, one.heap, ap one_heap_page free.current);
        images_counted = omega (arith, holds.images_counted, one.images, ap one_image_page free.current);
        shadow_counted = holds.shadow_counted;
      }

  -- a page is unmapped, and these slots are in use then
  IsShadow-loses : (after : Columns) (left : List Bool) (slot : ℕ) (key : PageKey) → owner_of maps.current slot ≡ Some key → PutsSlot index after key None → AreUsedBy (length maps.current) (set maps.current slot None) maps.shadow left → IsShadow (assigned maps slot None) after left (pages - 1) (heap - one_heap_page (Some key)) (images - one_image_page (Some key)) shadow_pages
  IsShadow-loses after left slot key owned puts uses =
      let current : Owners = set maps.current slot None in
      let one = Assigns-set maps.current slot None (owned_within maps.current slot key owned) in
      let long = sym (length-set maps.current slot no_owner) in
      let is = holds.maps_hold.current.allowed slot key owned in
      record {
        maps_hold = AreMaps-loses maps slot key holds.maps_hold owned;
        index_holds = subst (λ (n : ℕ). IsIndexOf n current after) long
            (IsIndexOf-puts (length maps.current) maps.current current index after key None is holds.index_holds puts
            (Changes-free maps slot key holds.maps_hold owned)
            (omega (arith, one.pages, ap one_page owned, ap one_slot ((holds.index_holds.indexed key slot is).1 owned))));
        used_hold = subst (λ (n : ℕ). AreUsedBy n current maps.shadow left) long uses;
        counted = omega (arith, holds.counted, one.pages, ap one_page owned);
        heap_counted = omega (arith, holds.heap_counted, one.heap, ap one_heap_page owned);
        images_counted = omega (arith, holds.images_counted, one.images, ap one_image_page owned);
        shadow_counted = holds.shadow_counted;
      }

  -- its slot is free then
  pub IsShadow-frees : (slot : ℕ) {after : Columns} {key : PageKey} → owner_of maps.current slot ≡ Some key → owner_of maps.shadow slot ≡ None → PutsSlot index after key None → IsShadow (assigned maps slot None) after (set used slot false) (pages - 1) (heap - one_heap_page (Some key)) (images - one_image_page (Some key)) shadow_pages
  IsShadow-frees slot {after = after} {key = key} owned free puts =
      let within = owned_within maps.current slot key owned in
      IsShadow-loses after (set used slot false) slot key owned puts
      (AreUsedBy-set (length maps.current) maps.current (set maps.current slot None) maps.shadow used slot None false within (Assigns-set maps.current slot None within) (sym (ap (λ (o : Option PageKey). is_some o) free)) holds.used_hold)

  -- the shadow map uses its slot
  pub IsShadow-leaves : (slot : ℕ) {after : Columns} {key other : PageKey} → owner_of maps.current slot ≡ Some key → owner_of maps.shadow slot ≡ Some other → PutsSlot index after key None → IsShadow (assigned maps slot None) after used (pages - 1) (heap - one_heap_page (Some key)) (images - one_image_page (Some key)) shadow_pages
  IsShadow-leaves slot {after = after} {key = key} owned shadowed puts =
      let within = owned_within maps.current slot key owned in
      IsShadow-loses after used slot key owned puts
      (AreUsedBy-stays (length maps.current) maps.current (set maps.current slot None) maps.shadow used slot None (Assigns-set maps.current slot None within) (cc) holds.used_hold)

  -- a page moves from a slot that the shadow map uses
  pub IsShadow-moves : (from : ℕ) {after : Columns} {slot : ℕ} {key other : PageKey} → owner_of maps.current from ≡ Some key → owner_of maps.shadow from ≡ Some other → IsFree maps slot → PutsSlot index after key (Some slot) → IsShadow (assigned (assigned maps from None) slot (Some key)) after (set used slot true) pages heap images shadow_pages
  IsShadow-moves from {after = after} {slot = slot} {key = key} owned shadowed free puts =
      let middle : Owners = set maps.current from None in
      let last : Owners = set middle slot (Some key) in
      let is = holds.maps_hold.current.allowed from key owned in
      let one = Assigns-set maps.current from None (owned_within maps.current from key owned) in
      let then_free = free_after maps from slot key owned free in
      let lacks = lacks_after maps from key holds.maps_hold owned in
      let two = Assigns-set middle slot (Some key) then_free.within in
      let still : IsKey (length middle) key = subst (λ (n : ℕ). IsKey n key) (sym (length-set maps.current from None)) is in
      let long : length maps.current ≡ length last = sym (length-set middle slot (Some key) ∙ length-set maps.current from None) in
      let spared : 0 < spare (assigned maps from None) = omega (arith, spare-loses maps from key holds.maps_hold owned) in
      record {
        maps_hold = AreMaps-gains (assigned maps from None) slot key (AreMaps-loses maps from key holds.maps_hold owned) then_free still lacks spared;
        index_holds = subst (λ (n : ℕ). IsIndexOf n last after) long
            (IsIndexOf-puts (length maps.current) maps.current last index after key (Some slot) is holds.index_holds puts
            (Changes-then maps.current middle last key None (Some slot) (Changes-free maps from key holds.maps_hold owned) (Changes-gains middle last key slot two then_free.current lacks))
            (omega (arith, one.pages, two.pages, ap one_page owned, ap one_page then_free.current, ap one_slot ((holds.index_holds.indexed key from is).1 owned))));
        used_hold = subst (λ (n : ℕ). AreUsedBy n last maps.shadow (set used slot true)) long
            (AreUsedBy-set (length maps.current) middle last maps.shadow used slot (Some key) true free.within two refl
            (AreUsedBy-stays (length maps.current) maps.current middle maps.shadow used from None one (cc) holds.used_hold));
        counted = omega (arith, holds.counted, one.pages, two.pages, ap one_page owned, ap one_page then_free.current);
        heap_counted = omega (arith, holds.heap_counted, one.heap, two.heap, ap one_heap_page owned, ap one_heap_page then_free.current);
        images_counted = omega (arith, holds.images_counted, one.images, two.images, ap one_image_page owned, ap one_image_page then_free.current);
        shadow_counted = holds.shadow_counted;
      }
