-- What the index and the slots in use tell of the maps.
use Rattle.std.proofs.Common.{◌≡◌, ◌≢◌, inl, inr, ℕ, ◌<◌, ◌≤◌, Bool, true, false, List, length, refl, sym, ◌∙◌, ap, subst, arith}
use Rattle.std.specs.Prelude.{Option, Some, None, is_some, IsSome, IfSome, IfNone, slice_index_or}
use Rattle.std.specs.List.{All}
use Rattle.std.proofs.lemmas.Bool.{cases_Bool, true_from_ne_false}
use Rattle.std.proofs.lemmas.List.{get_or_read}
use Rattle.std.proofs.lemmas.List.Elements.{All-from_get_or}
use Rattle.rss_base.specs.PageMap.{IsKey, IsSegmentOf, number_limit, owner_of}
use Rattle.rss_base.specs.declared.key.Space.{Space}
use Rattle.rss_base.specs.declared.key.Space.TheVariants.{Home, Overflow, Image, System}
use Rattle.rss_base.specs.declared.key.PageKey.{PageKey}
use Rattle.rss_base.specs.Paged.{page_key, mapped_of, IsMappedAt, IsUnmappedAt, IsFirstFrom, NoneFrom}
use Rattle.rss_base.specs.StoredPages.{mapped_by}
use Rattle.rss_base.proofs.Counts.{images-owners}
use Rattle.rss_shadow.specs.Maps.{Maps, is_image, is_image_space, IsFree, spare, HasPage, LacksPage, IsLeastLacking}
use Rattle.rss_shadow.specs.Index.{Columns, slot_in, numbers_of, IsIndexed, IsUnindexed}
use Rattle.rss_shadow.specs.Numbers.{IsAbsent}
use Rattle.rss_shadow.specs.Shadow.{IsShadow}
use Rattle.rss_shadow.proofs.Counts.{owned_within, pages-cover, pages-cover_twice}
use Rattle.rss_shadow.proofs.Firsts.{first_told, none_told}
use Rattle.rss_shadow.proofs.Mapped.{none_at}
use Rattle.rss_shadow.proofs.Owned.{mapped-has, mapped-lacks, HasPage-mapped, LacksPage-unmapped}
use Rattle.rss_shadow.proofs.Slots.{lacks_unindexed, unused, Cover-used}

-- a page has this slot
pub record IsThere (maps : Maps) (used : List Bool) (key : PageKey) (slot : ℕ) : Type 0 where
  pub owned : owner_of maps.current slot ≡ Some key
  pub within : slot < length maps.current
  pub in_shadow : slot < length maps.shadow
  pub in_used : slot < length used

some_from : {T : Type 0} (o : Option T) → is_some o ≡ true → (x : T) × (o ≡ Some x)
some_from None is = absurd (cc)
some_from (Some x) is = (x, refl)

-- a page of another space is none of images
no_image : (space : Space) → space ≢ Image → is_image_space space ≡ false
no_image Home not = refl
no_image Overflow not = refl
no_image System not = refl
no_image Image not = absurd (not refl)

-- what was read of the shadow map at a page's slot
module _ {maps : Maps} {used : List Bool} {key : PageKey} {slot : ℕ} (there : IsThere maps used key slot) where
  shadow_read : (n : ℕ) (was : Option PageKey) → n ≡ slot → was ≡ slice_index_or maps.shadow n was → owner_of maps.shadow slot ≡ was
  shadow_read n was same read = sym (get_or_read maps.shadow slot was there.in_shadow (read ∙ ap (λ (m : ℕ). slice_index_or maps.shadow m was) same) None)

  pub shadow_lacks : {n : ℕ} {was : Option PageKey} → n ≡ slot → was ≡ slice_index_or maps.shadow n was → is_some was ≡ false → owner_of maps.shadow slot ≡ None
  shadow_lacks {n = n} {was = was} same read is = shadow_read n was same read ∙ none_at was is

  pub shadow_uses : {n : ℕ} {was : Option PageKey} → n ≡ slot → was ≡ slice_index_or maps.shadow n was → is_some was ≡ true → (other : PageKey) × (owner_of maps.shadow slot ≡ Some other)
  shadow_uses {n = n} {was = was} same read is = let some = some_from was is in (some.0, shadow_read n was same read ∙ some.1)

module _ {maps : Maps} {index : Columns} {used : List Bool} {pages heap images shadow_pages : ℕ} (holds : IsShadow maps index used pages heap images shadow_pages) where
  -- now: the maps as callers see them
  pub IsKey-mapped : {now : Maps} {key : PageKey} → maps ≡ now → HasPage now.current key → IsKey (numbers_of index) key
  IsKey-mapped {key = key} view has =
      let mapped : HasPage maps.current key = subst (λ (m : Maps). HasPage m.current key) (sym view) has in
      subst (λ (n : ℕ). IsKey n key) (sym holds.index_holds.numbers) (holds.maps_hold.current.allowed mapped.slot key mapped.owned)

  pub IsThere-answer : {now : Maps} {key : PageKey} {slot : ℕ} {answer : Option ℕ} → maps ≡ now → HasPage now.current key → answer ≡ slot_in index key → answer ≡ Some slot → IsThere maps used key slot
  IsThere-answer {key = key} {slot = slot} view has told is =
      let mapped : HasPage maps.current key = subst (λ (m : Maps). HasPage m.current key) (sym view) has in
      let owned = (holds.index_holds.indexed key slot (holds.maps_hold.current.allowed mapped.slot key mapped.owned)).0 (sym told ∙ is) in
      let within = owned_within maps.current slot key owned in
      record { owned = owned; within = within; in_shadow = omega (arith, holds.maps_hold.count); in_used = omega (arith, holds.used_hold.count) }

  pub IsFree-unused : {slot : ℕ} → slot < length used → slice_index_or used slot true ≡ false → IsFree maps slot
  IsFree-unused {slot = slot} within is =
      let inside : slot < length maps.current = omega (arith, holds.used_hold.count) in
      let neither = unused (length maps.current) maps.current maps.shadow used slot holds.used_hold inside is in
      record { within = inside; current = neither.0; shadow = neither.1 }

  -- the pages of images are counted
  pub images_told : {now : Maps} → maps ≡ now → images ≡ mapped_of (mapped_by now.current) Image (length now.current)
  images_told view =
      let table = holds.maps_hold.current in
      let same = images-owners is_image refl (λ key is. ap is_image_space is) (λ key not. no_image key.space not)
      (length maps.current) maps.current (mapped_by maps.current) table.allowed table.distinct (λ key. refl) in
      holds.images_counted ∙ sym same ∙ ap (λ (m : Maps). mapped_of (mapped_by m.current) Image (length m.current)) view

  all_used : NoneFrom (IsAbsent used) 0 → All (λ (u : Bool). u ≡ true) used
  all_used none = All-from_get_or (λ (u : Bool). u ≡ true) used true (λ slot within. true_from_ne_false _ (none slot (omega arith)))

  -- a slot isn't in use while a page can be taken, and while both maps use some slot
  pub some_unused : NoneFrom (IsAbsent used) 0 → 0 < spare maps → ⊥
  some_unused none room =
      let all = all_used none in
      omega (arith, pages-cover maps.current maps.shadow (sym holds.maps_hold.count) (Cover-used maps.current maps.shadow used holds.used_hold all))

  pub some_unused_twice : (slot : ℕ) {key other : PageKey} → NoneFrom (IsAbsent used) 0 → owner_of maps.current slot ≡ Some key → owner_of maps.shadow slot ≡ Some other → ⊥
  some_unused_twice slot {key = key} {other = other} none owned shadowed =
      let all = all_used none in
      omega (arith, pages-cover_twice maps.current maps.shadow slot key other (sym holds.maps_hold.count) (Cover-used maps.current maps.shadow used holds.used_hold all) owned shadowed, holds.maps_hold.room)

  -- ---- the pages of a segment and a space
  module _ {segment : ℕ} {space : Space} (low : 1 ≤ segment) (high : segment ≤ 8) (apart : space ≢ System) where
    in_segment : (space : Space) → space ≢ System → IsSegmentOf space segment
    in_segment Home apart = (low, high)
    in_segment Overflow apart = (low, high)
    in_segment Image apart = (low, high)
    in_segment System apart = absurd (apart refl)

    all_slots : (slots : ℕ) (space : Space) → space ≢ System → number_limit slots space ≡ slots
    all_slots slots Home apart = refl
    all_slots slots Overflow apart = refl
    all_slots slots Image apart = refl
    all_slots slots System apart = absurd (apart refl)

    IsKey-number : (k : ℕ) → k < length maps.current → IsKey (length maps.current) (page_key segment space k)
    IsKey-number k below = record { segment = in_segment space apart; number = omega (arith, all_slots (length maps.current) space apart) }

    -- the numbers whose pages are mapped, and those below the number of slots whose pages aren't
    abbrev Mapped : ℕ → Type 0
    Mapped = IsMappedAt (mapped_by maps.current) segment space

    abbrev Unmapped : ℕ → Type 0
    Unmapped = IsUnmappedAt (length maps.current) (mapped_by maps.current) segment space

    indexed_has : (k : ℕ) → IsIndexed index segment space k → HasPage maps.current (page_key segment space k)
    indexed_has k is =
        let below : k < length maps.current = omega (arith, is.within, holds.index_holds.numbers) in
        let some = some_from _ is.has in
        record { slot = some.0; owned = (holds.index_holds.indexed (page_key segment space k) some.0 (IsKey-number k below)).0 some.1 }

    indexed_mapped : (k : ℕ) → IsIndexed index segment space k → Mapped k
    indexed_mapped k is = mapped-has maps.current (page_key segment space k) (indexed_has k is)

    mapped_indexed : (k : ℕ) → Mapped k → IsIndexed index segment space k
    mapped_indexed k is =
        let key : PageKey = page_key segment space k in
        let has = HasPage-mapped maps.current key is in
        let allowed : IsKey (length maps.current) key = holds.maps_hold.current.allowed has.slot key has.owned in
        record {
          within = omega (arith, allowed.number, all_slots (length maps.current) space apart, holds.index_holds.numbers);
          has = ap is_some ((holds.index_holds.indexed key has.slot allowed).1 has.owned);
        }

    unindexed_lacks : (k : ℕ) → IsUnindexed index segment space k → (k < length maps.current) × LacksPage maps.current (page_key segment space k)
    unindexed_lacks k is =
        let below : k < length maps.current = omega (arith, is.within, holds.index_holds.numbers) in
        (below, lacks_unindexed (length maps.current) maps.current index (page_key segment space k) holds.index_holds (IsKey-number k below) is.lacks)

    unindexed_unmapped : (k : ℕ) → IsUnindexed index segment space k → Unmapped k
    unindexed_unmapped k is =
        let lacks = unindexed_lacks k is in
        record { within = lacks.0; free = mapped-lacks maps.current (page_key segment space k) lacks.1 }

    unmapped_unindexed : (k : ℕ) → Unmapped k → IsUnindexed index segment space k
    unmapped_unindexed k is =
        let lacks = LacksPage-unmapped maps.current (page_key segment space k) is.free in
        record {
          within = omega (arith, is.within, holds.index_holds.numbers);
          lacks = elim (cases_Bool (is_some (slot_in index (page_key segment space k)))) [
            | inl some ↦
                let found = some_from _ some in
                absurd (lacks found.0 ((holds.index_holds.indexed (page_key segment space k) found.0 (IsKey-number k is.within)).0 found.1))
            | inr none ↦ none_at _ none
          ];
        }

    pub first_mapped_told : (from : ℕ) (result : Option ℕ) → IfSome result (IsFirstFrom (IsIndexed index segment space) from) → IfSome result (IsFirstFrom Mapped from)
    first_mapped_told from result = first_told from result indexed_mapped mapped_indexed

    pub none_mapped_told : (from : ℕ) (result : Option ℕ) → IfNone result (NoneFrom (IsIndexed index segment space) from) → IfNone result (NoneFrom Mapped from)
    none_mapped_told from result = none_told (IsIndexed index segment space) Mapped from result mapped_indexed

    pub first_unmapped_told : (from : ℕ) (result : Option ℕ) → IfSome result (IsFirstFrom (IsUnindexed index segment space) from) → IfSome result (IsFirstFrom Unmapped from)
    first_unmapped_told from result = first_told from result unindexed_unmapped unmapped_unindexed

    pub none_unmapped_told : (from : ℕ) (result : Option ℕ) → IfNone result (NoneFrom (IsUnindexed index segment space) from) → IfNone result (NoneFrom Unmapped from)
    none_unmapped_told from result = none_told (IsUnindexed index segment space) Unmapped from result unmapped_unindexed

    pub IsLeastLacking-free : {now : Maps} (number : ℕ) → maps ≡ now → number < numbers_of index → slot_in index (page_key segment space number) ≡ None → ((k : ℕ) → k < number → IsSome (slot_in index (page_key segment space k))) → IsLeastLacking now.current segment space number
    IsLeastLacking-free number view within free lesser =
        let lacks = unindexed_lacks number (record { within = within; lacks = free }) in
        subst (λ (m : Maps). IsLeastLacking m.current segment space number) view (record {
          within = lacks.0;
          lacking = lacks.1;
          lesser = λ k below. indexed_has k (record { within = omega arith; has = lesser k below });
        })
