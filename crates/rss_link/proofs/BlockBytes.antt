-- Blocks as bytes: a block says one thing.
use Rattle.std.proofs.Common.{◌≡◌, ℕ, ◌+◌, ◌<◌, ◌≤◌, Bool, true, false, List, ◌∷◌, ◌++◌, ◌⊎◌, inl, inr, suc, length, get_or, take, drop, Option, None, refl, sym, ◌∙◌, ap, subst, arith}
use Rattle.std.specs.Prelude.{IsSome}
use Rattle.std.proofs.lemmas.List.{length-take, length-drop, length-append, drop-drop}
use Rattle.std.proofs.Math.Seq.{take-add, drop-cons}
use Rattle.rss_base.specs.LogRecords.{place_bytes}
use Rattle.rss_base.specs.declared.tid.Tid.{Tid}
use Rattle.rss_base.specs.Prefixes.{Ends, parent_block}
use Rattle.rss_link.specs.declared.blocks.Standing.{Standing}
use Rattle.rss_link.specs.declared.blocks.Standing.TheVariants.{Outside, Within}
use Rattle.rss_link.specs.Blocks.{IsPointer, IsStanding, HasBytes, HasStanding, HasEnds, standing_bytes, child_size}
use Rattle.rss_link.proofs.Pointers.{long_pointer, pointer_one, pointers_one}

-- ---- lengths

pub length-standing_bytes : (unary : Bool) (standing : Standing) → length (standing_bytes unary standing) ≡ child_size unary
length-standing_bytes true Outside = refl
length-standing_bytes true (Within parent previous next) = omega (arith, length-append (place_bytes previous) (place_bytes next), long_pointer previous, long_pointer next)
length-standing_bytes false Outside = refl
length-standing_bytes false (Within parent previous next) = omega (arith, length-append (place_bytes parent) (place_bytes previous ++ place_bytes next), length-append (place_bytes previous) (place_bytes next), long_pointer parent, long_pointer previous, long_pointer next)

pub length-parent_block : (ends : Ends) → length (parent_block ends) ≡ 12
length-parent_block ends = omega (arith, length-append (place_bytes ends.first) (place_bytes ends.last), long_pointer ends.first, long_pointer ends.last)

-- ---- bytes at a place

pub has_bytes : (body : List ℕ) (at n : ℕ) (bytes : List ℕ) → length bytes ≡ n → take n (drop at body) ≡ bytes → HasBytes body at bytes
has_bytes body at n bytes long is = ap (λ (k : ℕ). take k (drop at body)) long ∙ is

pub bytes_had : (body : List ℕ) (at n : ℕ) (bytes : List ℕ) → length bytes ≡ n → HasBytes body at bytes → take n (drop at body) ≡ bytes
bytes_had body at n bytes long has = ap (λ (k : ℕ). take k (drop at body)) (sym long) ∙ has

-- they lie within the body
pub within_body : (body : List ℕ) (at n : ℕ) (bytes : List ℕ) → length bytes ≡ n → 0 < n → HasBytes body at bytes → at + n ≤ length body
within_body body at n bytes long some has = omega (arith, ap length (bytes_had body at n bytes long has), length-take n (drop at body), length-drop at body)

-- ---- a block says one thing

pub none_some : (p : Option Tid) → p ≡ None → IsSome p → ⊥
none_some p is some = let none : IsSome {T = Tid} None = subst IsSome is some in cc

standing_one : (unary : Bool) (a b : Standing) → IsStanding unary a → IsStanding unary b → standing_bytes unary a ≡ standing_bytes unary b → a ≡ b
standing_one true Outside Outside fits fits_too same = refl
standing_one true Outside (Within q m s) fits fits_too same = let e : 0 ≡ 1 = ap (λ (l : List ℕ). get_or l 0 0) same in absurd (omega (arith, e))
standing_one true (Within p l r) Outside fits fits_too same = let e : 1 ≡ 0 = ap (λ (l : List ℕ). get_or l 0 0) same in absurd (omega (arith, e))
standing_one true (Within p l r) (Within q m s) fits fits_too same =
    let tails : place_bytes l ++ place_bytes r ≡ place_bytes m ++ place_bytes s = ap (drop 1) same in
    let one = pointers_one l m (place_bytes r) (place_bytes s) fits.2 fits_too.2 tails in
    let two : r ≡ s = pointer_one r s fits.3 fits_too.3 one.1 in
    let parents : p ≡ q = fits.0 ∙ sym fits_too.0 in
    λ i. Within (parents i) (one.0 i) (two i)
standing_one false Outside Outside fits fits_too same = refl
standing_one false Outside (Within q m s) fits fits_too same =
    let one = pointers_one None q (place_bytes None ++ place_bytes None) (place_bytes m ++ place_bytes s) tt fits_too.1 same in
    absurd (none_some q (sym one.0) fits_too.0)
standing_one false (Within p l r) Outside fits fits_too same =
    let one = pointers_one p None (place_bytes l ++ place_bytes r) (place_bytes None ++ place_bytes None) fits.1 tt same in
    absurd (none_some p one.0 fits.0)
standing_one false (Within p l r) (Within q m s) fits fits_too same =
    let one = pointers_one p q (place_bytes l ++ place_bytes r) (place_bytes m ++ place_bytes s) fits.1 fits_too.1 same in
    let two = pointers_one l m (place_bytes r) (place_bytes s) fits.2 fits_too.2 one.1 in
    let three : r ≡ s = pointer_one r s fits.3 fits_too.3 two.1 in
    λ i. Within (one.0 i) (two.0 i) (three i)

pub one_standing : (unary : Bool) (body : List ℕ) (at : ℕ) (a b : Standing) → HasStanding unary body at a → HasStanding unary body at b → a ≡ b
one_standing unary body at a b has has_too =
    standing_one unary a b has.fits has_too.fits
    (sym (bytes_had body at (child_size unary) (standing_bytes unary a) (length-standing_bytes unary a) has.bytes)
    ∙ bytes_had body at (child_size unary) (standing_bytes unary b) (length-standing_bytes unary b) has_too.bytes)

pub one_ends : (body : List ℕ) (at : ℕ) (a b : Ends) → HasEnds body at a → HasEnds body at b → a ≡ b
one_ends body at a b has has_too =
    let same : parent_block a ≡ parent_block b = sym (bytes_had body at 12 (parent_block a) (length-parent_block a) has.bytes) ∙ bytes_had body at 12 (parent_block b) (length-parent_block b) has_too.bytes in
    let one = pointers_one a.first b.first (place_bytes a.last) (place_bytes b.last) has.fits.first has_too.fits.first same in
    let two : a.last ≡ b.last = pointer_one a.last b.last has.fits.last has_too.fits.last one.1 in
    λ i. record { first = one.0 i; last = two i }

-- ---- the parts of blocks

pub twelve : (body : List ℕ) (at : ℕ) → take 12 (drop at body) ≡ take 6 (drop at body) ++ take 6 (drop (at + 6) body)
twelve body at = take-add 6 6 (drop at body) ∙ ap (λ (l : List ℕ). take 6 (drop at body) ++ take 6 l) (drop-drop 6 at body)

twelve_in : (at : ℕ) → at + 6 + 6 ≡ at + 12
twelve_in at = omega arith

pub eighteen : (body : List ℕ) (at : ℕ) → take 18 (drop at body) ≡ take 6 (drop at body) ++ (take 6 (drop (at + 6) body) ++ take 6 (drop (at + 12) body))
eighteen body at =
    take-add 6 12 (drop at body)
    ∙ ap (λ (l : List ℕ). take 6 (drop at body) ++ take 12 l) (drop-drop 6 at body)
    ∙ ap (λ (l : List ℕ). take 6 (drop at body) ++ l) (twelve body (at + 6) ∙ ap (λ (k : ℕ). take 6 (drop (at + 6) body) ++ take 6 (drop k body)) (twelve_in at))

pub thirteen : (body : List ℕ) (at : ℕ) → at < length body → take 13 (drop at body) ≡ get_or body at 0 ∷ (take 6 (drop (at + 1) body) ++ take 6 (drop (at + 7) body))
thirteen body at low =
    let one : suc at ≡ at + 1 = omega arith in
    let seven : at + 1 + 6 ≡ at + 7 = omega arith in
    ap (take 13) (drop-cons body at 0 low)
    ∙ ap (λ (l : List ℕ). get_or body at 0 ∷ l) (ap (λ (k : ℕ). take 12 (drop k body)) one ∙ twelve body (at + 1) ∙ ap (λ (k : ℕ). take 6 (drop (at + 1) body) ++ take 6 (drop k body)) seven)

-- ---- what is read

module _ (body : List ℕ) (at : ℕ) where
  pub ends_read : (first last : Option Tid) → place_bytes first ≡ take 6 (drop at body) → place_bytes last ≡ take 6 (drop (at + 6) body)
      → IsPointer first → IsPointer last → HasEnds body at (record { first = first; last = last })
  ends_read first last is_first is_last first_fits last_fits = record {
    bytes = has_bytes body at 12 (place_bytes first ++ place_bytes last) (length-parent_block (record { first = first; last = last })) (twelve body at ∙ (λ i. sym is_first i ++ sym is_last i));
    fits = record { first = first_fits; last = last_fits };
  }

  module _ (previous next : Option Tid) (previous_fits : IsPointer previous) (next_fits : IsPointer next) where
    module _ (is_previous : place_bytes previous ≡ take 6 (drop (at + 1) body)) (is_next : place_bytes next ≡ take 6 (drop (at + 7) body)) (low : at < length body) where
      member_bytes : take 13 (drop at body) ≡ get_or body at 0 ∷ (place_bytes previous ++ place_bytes next)
      member_bytes = thirteen body at low ∙ (λ i. get_or body at 0 ∷ (sym is_previous i ++ sym is_next i))

      pub member_within : get_or body at 0 ≡ 1 → HasStanding true body at (Within None previous next)
      member_within one = record {
        bytes = has_bytes body at 13 (standing_bytes true (Within None previous next)) (length-standing_bytes true (Within None previous next)) (member_bytes ∙ ap (λ (b : ℕ). b ∷ (place_bytes previous ++ place_bytes next)) one);
        fits = (refl, tt, previous_fits, next_fits);
      }

      pub member_outside : get_or body at 0 ≡ 0 → previous ≡ None → next ≡ None → HasStanding true body at Outside
      member_outside zero none none_too = record {
        bytes = has_bytes body at 13 (standing_bytes true Outside) refl (member_bytes ∙ (λ i. zero i ∷ (place_bytes (none i) ++ place_bytes (none_too i))));
        fits = tt;
      }

      pub member_parts : (standing : Standing) → HasStanding true body at standing → ((get_or body at 0 ≡ 0) × (previous ≡ None) × (next ≡ None)) ⊎ (get_or body at 0 ≡ 1)
      member_parts Outside has =
          let same : get_or body at 0 ∷ (place_bytes previous ++ place_bytes next) ≡ 0 ∷ (place_bytes None ++ place_bytes None) = sym member_bytes ∙ has.bytes in
          let tails : place_bytes previous ++ place_bytes next ≡ place_bytes None ++ place_bytes None = ap (drop 1) same in
          let one = pointers_one previous None (place_bytes next) (place_bytes None) previous_fits tt tails in
          inl (ap (λ (l : List ℕ). get_or l 0 0) same, one.0, pointer_one next None next_fits tt one.1)
      member_parts (Within p l r) has =
          let same : get_or body at 0 ∷ (place_bytes previous ++ place_bytes next) ≡ 1 ∷ (place_bytes l ++ place_bytes r) = sym member_bytes ∙ bytes_had body at 13 (standing_bytes true (Within p l r)) (length-standing_bytes true (Within p l r)) has.bytes in
          inr (ap (λ (l : List ℕ). get_or l 0 0) same)

    module _ (parent : Option Tid) (parent_fits : IsPointer parent) (is_parent : place_bytes parent ≡ take 6 (drop at body))
        (is_previous : place_bytes previous ≡ take 6 (drop (at + 6) body)) (is_next : place_bytes next ≡ take 6 (drop (at + 12) body)) where
      child_bytes : take 18 (drop at body) ≡ place_bytes parent ++ (place_bytes previous ++ place_bytes next)
      child_bytes = eighteen body at ∙ (λ i. sym is_parent i ++ (sym is_previous i ++ sym is_next i))

      pub child_within : IsSome parent → HasStanding false body at (Within parent previous next)
      child_within some = record {
        bytes = has_bytes body at 18 (standing_bytes false (Within parent previous next)) (length-standing_bytes false (Within parent previous next)) child_bytes;
        fits = (some, parent_fits, previous_fits, next_fits);
      }

      pub child_outside : parent ≡ None → previous ≡ None → next ≡ None → HasStanding false body at Outside
      child_outside none_first none none_too = record {
        bytes = has_bytes body at 18 (standing_bytes false Outside) refl (child_bytes ∙ (λ i. place_bytes (none_first i) ++ (place_bytes (none i) ++ place_bytes (none_too i))));
        fits = tt;
      }

      pub child_parts : (standing : Standing) → HasStanding false body at standing → ((previous ≡ None) × (next ≡ None)) ⊎ IsSome parent
      child_parts Outside has =
          let same : place_bytes parent ++ (place_bytes previous ++ place_bytes next) ≡ place_bytes None ++ (place_bytes None ++ place_bytes None) = sym child_bytes ∙ has.bytes in
          let one = pointers_one parent None (place_bytes previous ++ place_bytes next) (place_bytes None ++ place_bytes None) parent_fits tt same in
          let two = pointers_one previous None (place_bytes next) (place_bytes None) previous_fits tt one.1 in
          inl (two.0, pointer_one next None next_fits tt two.1)
      child_parts (Within p l r) has =
          let same : place_bytes parent ++ (place_bytes previous ++ place_bytes next) ≡ place_bytes p ++ (place_bytes l ++ place_bytes r) = sym child_bytes ∙ bytes_had body at 18 (standing_bytes false (Within p l r)) (length-standing_bytes false (Within p l r)) has.bytes in
          let one = pointers_one parent p (place_bytes previous ++ place_bytes next) (place_bytes l ++ place_bytes r) parent_fits has.fits.1 same in
          inr (subst IsSome (sym one.0) has.fits.0)
