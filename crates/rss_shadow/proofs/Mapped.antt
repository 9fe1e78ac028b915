-- Lemmas on which numbers of a column have a slot.
use Rattle.std.proofs.Common.{◌≡◌, inl, inr, ℕ, zero, suc, ◌<◌, Bool, true, false, List, ◌∷◌, length, get_or, map, set, replicate, refl, sym, ◌∙◌, ap, arith}
use Rattle.std.specs.Prelude.{Option, Some, None, IfSome, IfNone, is_some, is_none}
use Rattle.std.proofs.lemmas.Bool.{cases_lt, true≢false, false≢true, not-false, not_from_true}
use Rattle.std.proofs.lemmas.List.{length-map, get_or-map, get_or_past, map-set}
use Rattle.rss_base.specs.Paged.{IsFirstFrom, NoneFrom}
use Rattle.rss_shadow.specs.Numbers.{IsAbsent}
use Rattle.rss_shadow.specs.Index.{AreTold, HasSlot, LacksSlot}
use Rattle.rss_shadow.proofs.Firsts.{first_told, none_told, absent_within}

pub map-replicate : {X Y : Type 0} (f : X → Y) (n : ℕ) (x : X) → map f (replicate n x) ≡ replicate n (f x)
map-replicate f zero x = refl
map-replicate f (suc n) x = ap (λ ys. f x ∷ ys) (map-replicate f n x)

pub none_at : {X : Type 0} (o : Option X) → is_some o ≡ false → o ≡ None
none_at None is = refl
none_at (Some x) is = absurd (true≢false is)

pub HasSlot-within : (column : List (Option ℕ)) (k : ℕ) → HasSlot column k → k < length column
HasSlot-within column k is = elim (cases_lt k (length column)) [
  | inl within ↦ within
  | inr past ↦ absurd (false≢true (sym (ap is_some (get_or_past column k None past)) ∙ is))
]

-- what the sets of a column tell
module _ {column : List (Option ℕ)} {slotted free : List Bool} (told : AreTold column slotted free) where
  slotted_at : (k : ℕ) → k < length column → get_or slotted k true ≡ is_some (get_or column k None)
  slotted_at k within = ap (λ m. get_or m k true) told.slotted_told ∙ get_or-map is_some column k None true within

  free_at : (k : ℕ) → k < length column → get_or free k true ≡ is_none (get_or column k None)
  free_at k within = ap (λ m. get_or m k true) told.free_told ∙ get_or-map is_none column k None true within

  absent_lacks : (k : ℕ) → IsAbsent slotted k → LacksSlot column k
  absent_lacks k is =
      let within : k < length column = omega (arith, absent_within slotted k is, ap length told.slotted_told, length-map column is_some) in
      record { within = within; lacks = none_at _ (sym (slotted_at k within) ∙ is) }

  lacks_absent : (k : ℕ) → LacksSlot column k → IsAbsent slotted k
  lacks_absent k is = slotted_at k is.within ∙ ap is_some is.lacks

  absent_has : (k : ℕ) → IsAbsent free k → HasSlot column k
  absent_has k is =
      let within : k < length column = omega (arith, absent_within free k is, ap length told.free_told, length-map column is_none) in
      not-false _ (sym (free_at k within) ∙ is)

  has_absent : (k : ℕ) → HasSlot column k → IsAbsent free k
  has_absent k is = free_at k (HasSlot-within column k is) ∙ not_from_true _ is

  pub first_slotted_told : (from : ℕ) (result : Option ℕ) → IfSome result (IsFirstFrom (IsAbsent free) from) → IfSome result (IsFirstFrom (HasSlot column) from)
  first_slotted_told from result = first_told from result absent_has has_absent

  pub none_slotted_told : (from : ℕ) (result : Option ℕ) → IfNone result (NoneFrom (IsAbsent free) from) → IfNone result (NoneFrom (HasSlot column) from)
  none_slotted_told from result = none_told (IsAbsent free) (HasSlot column) from result has_absent

  pub first_free_told : (from : ℕ) (result : Option ℕ) → IfSome result (IsFirstFrom (IsAbsent slotted) from) → IfSome result (IsFirstFrom (LacksSlot column) from)
  first_free_told from result = first_told from result absent_lacks lacks_absent

  pub none_free_told : (from : ℕ) (result : Option ℕ) → IfNone result (NoneFrom (IsAbsent slotted) from) → IfNone result (NoneFrom (LacksSlot column) from)
  none_free_told from result = none_told (IsAbsent slotted) (LacksSlot column) from result lacks_absent

  -- a page gets a slot or loses it
  pub AreTold-put : (k : ℕ) (slot : Option ℕ) (slotted_now free_now : List Bool) → slotted_now ≡ set slotted k (is_some slot) → free_now ≡ set free k (is_none slot) → AreTold (set column k slot) slotted_now free_now
  AreTold-put k slot slotted_now free_now slotted_is free_is = record {
    slotted_told = slotted_is ∙ ap (λ m. set m k (is_some slot)) told.slotted_told ∙ sym (map-set is_some column k slot);
    free_told = free_is ∙ ap (λ m. set m k (is_none slot)) told.free_told ∙ sym (map-set is_none column k slot);
  }
