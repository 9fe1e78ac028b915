-- What stands in bodies before the values, where a change is made.
use Rattle.std.proofs.Common.{◌≡◌, ℕ, ◌+◌, ◌-◌, ◌≤◌, true, false, List, ◌∷◌, ◌++◌, length, take, drop, refl, sym, ◌∙◌, ap, subst, arith}
use Rattle.std.specs.Prelude.{Option, Some, None, IfSome, MatchOption}
use Rattle.std.specs.Cmp.Lexicographic.{pointwise}
use Rattle.std.proofs.Math.Dec.{eqb}
use Rattle.std.proofs.lemmas.Bool.{true≢false}
use Rattle.std.proofs.lemmas.Bool.Decides.{Decides-eqb}
use Rattle.std.proofs.lemmas.Option.{same_Some}
use Rattle.std.proofs.lemmas.Slice.Eq.{slice_eq-Decides, strip_prefix_is, strip_suffix_is}
use Rattle.std.specs.Borrow.{Bor}
use Rattle.rss_base.specs.Listings.{Listing}
use Rattle.rss_base.specs.declared.tid.Tid.{Tid}
use Rattle.rss_base.specs.declared.change.Change as told
use Rattle.rss_members.specs.Members.{blank_prefix}
use Rattle.rss_members.proofs.Prefixed.{long_blank}
use Rattle.rss_access.specs.declared.edit.Edit.{Edit}
use Rattle.rss_access.specs.declared.edit.Edit.TheVariants.{Insert, Delete, Update}
use Rattle.rss_access.specs.Edits.{told_of}
use Rattle.rss_access.specs.Alterations.{IsFront, IsFound, IsNotFound, with_front}
use Rattle.rss_access.specs.Told.{values_after}
use Rattle.rss_access.specs.Tuples.{IsShortBody}

-- a tuple that comes has a blank prefix
pub insert_front : (listing : Listing) (number : ℕ) (tid : Tid) {edit : Edit} {values : Bor (List ℕ)} → edit ≡ Insert values → {front : List ℕ} → front ≡ number ∷ blank_prefix listing number → IsFront listing (told_of number tid edit) front
insert_front listing number tid is {front = front} blank = subst (λ (edit : Edit). IsFront listing (told_of number tid edit) front) (sym is) (record {
  prefix = blank_prefix listing number;
  fitting = record { long = long_blank number listing.links; blank = λ off. refl };
  is = blank;
})

-- and so has one that goes
pub delete_front : (listing : Listing) (number : ℕ) (tid : Tid) {edit : Edit} {values : Bor (List ℕ)} → edit ≡ Delete values → (bytes body : List ℕ) (found : Option (List ℕ)) → IfSome found (λ front. (front ≡ number ∷ blank_prefix listing number) × (body ≡ front ++ bytes)) → IfSome found (IsFront listing (told_of number tid edit))
delete_front listing number tid is bytes body None of = tt
delete_front listing number tid is bytes body (Some front) of = subst (λ (edit : Edit). IsFront listing (told_of number tid edit) front) (sym is) (record {
  prefix = blank_prefix listing number;
  fitting = record { long = long_blank number listing.links; blank = λ off. refl };
  is = of.0;
})

-- what is found of the bytes that are lent is found of the body
pub found_as : {A : Type 0} (told_change : told.Change) {held lent : Option (List ℕ)} (found : Option (List ℕ)) → (A → held ≡ lent) → IfSome found (IsFound told_change lent) → IfSome found (λ front. A → IsFound told_change held front)
found_as told_change None same is = tt
found_as told_change (Some front) same is = λ a. same a ∙ is

pub not_found_as : {listing : Listing} {told_change : told.Change} {held lent : Option (List ℕ)} → held ≡ lent → IsNotFound listing told_change lent → IsNotFound listing told_change held
not_found_as same none front is found = none front is (sym same ∙ found)

-- what stands there, where it was found
pub front_given : (listing : Listing) (told_change : told.Change) (found : Option (List ℕ)) (front : List ℕ) → found ≡ Some front → IfSome found (IsFront listing told_change) → IsFront listing told_change front
front_given listing told_change found front is all = subst (λ (o : Option (List ℕ)). IfSome o (IsFront listing told_change)) is all

pub found_given : {A : Type 0} (told_change : told.Change) (held found : Option (List ℕ)) (front : List ℕ) → found ≡ Some front → IfSome found (λ f. A → IsFound told_change held f) → A → IsFound told_change held front
found_given {A = A} told_change held found front is all = subst (λ (o : Option (List ℕ)). IfSome o (λ f. A → IsFound told_change held f)) is all

pub front_begun : {listing : Listing} {told_change : told.Change} {front : List ℕ} → IsFront listing told_change front → 1 ≤ length front
front_begun of = let same = ap (λ (b : List ℕ). length b) of.is in omega (arith, same)

-- ---- bytes before others

of_none : {N : Type 0} (S : Bor (List ℕ) → Type 0) (found : Option (Bor (List ℕ))) → found ≡ None → MatchOption found N S → N
of_none S None is cases = cases
of_none S (Some x) is cases = absurd (cc)

of_some : (N : Type 0) (S : Bor (List ℕ) → Type 0) (found : Option (Bor (List ℕ))) (x : Bor (List ℕ)) → found ≡ Some x → MatchOption found N S → S x
of_some N S None x is cases = absurd (cc)
of_some N S (Some y) x is cases = subst S (same_Some y x is) cases

abbrev SuffixCases : List ℕ → List ℕ → Option (Bor (List ℕ)) → Type 0
SuffixCases s p r = MatchOption r (pointwise eqb (drop (length s - length p) s) p ≡ false) (λ x. (pointwise eqb (drop (length s - length p) s) p ≡ true) × (x.now ≡ take (length s - length p) s) × (length x.now + length p ≡ length s))

abbrev PrefixCases : List ℕ → List ℕ → Option (Bor (List ℕ)) → Type 0
PrefixCases s p r = MatchOption r (pointwise eqb (take (length p) s) p ≡ false) (λ x. (pointwise eqb (take (length p) s) p ≡ true) × (x.now ≡ drop (length p) s) × (length x.now + length p ≡ length s))

pub no_suffix : (s p : List ℕ) (r : Option (Bor (List ℕ))) → SuffixCases s p r → r ≡ None → (front : List ℕ) → s ≡ front ++ p → ⊥
no_suffix s p r cases is = of_none _ r is (strip_suffix_is Decides-eqb s p r cases)

pub has_suffix : (s p : List ℕ) (r : Option (Bor (List ℕ))) → SuffixCases s p r → (x : Bor (List ℕ)) → r ≡ Some x → s ≡ x.now ++ p
has_suffix s p r cases x is = of_some _ _ r x is (strip_suffix_is Decides-eqb s p r cases)

pub no_prefix : (s p : List ℕ) (r : Option (Bor (List ℕ))) → PrefixCases s p r → r ≡ None → (rest : List ℕ) → s ≡ p ++ rest → ⊥
no_prefix s p r cases is = of_none _ r is (strip_prefix_is Decides-eqb s p r cases)

pub has_prefix : (s p : List ℕ) (r : Option (Bor (List ℕ))) → PrefixCases s p r → (x : Bor (List ℕ)) → r ≡ Some x → s ≡ p ++ x.now
has_prefix s p r cases x is = of_some _ _ r x is (strip_prefix_is Decides-eqb s p r cases)

-- bytes that compare equal are the same
pub same_bytes : (xs ys : List ℕ) → pointwise eqb xs ys ≡ true → xs ≡ ys
same_bytes xs ys is = (slice_eq-Decides Decides-eqb xs ys (pointwise eqb xs ys) refl).0 is

pub other_bytes : (xs ys : List ℕ) → pointwise eqb xs ys ≡ false → xs ≡ ys → ⊥
other_bytes xs ys off same = true≢false (sym ((slice_eq-Decides Decides-eqb xs ys (pointwise eqb xs ys) refl).1 same) ∙ off)

-- ---- what is put

pub short_insert : (number : ℕ) (tid : Tid) {edit : Edit} {values : Bor (List ℕ)} → edit ≡ Insert values → (front : List ℕ) → IsShortBody (with_front front (values_after (told_of number tid edit))) → length (front ++ values.now) ≤ 2400
short_insert number tid is front short = subst (λ (edit : Edit). IsShortBody (with_front front (values_after (told_of number tid edit)))) is short

pub short_update : (number : ℕ) (tid : Tid) {edit : Edit} {from to : Bor (List ℕ)} → edit ≡ Update from to → (front : List ℕ) → IsShortBody (with_front front (values_after (told_of number tid edit))) → length (front ++ to.now) ≤ 2400
short_update number tid is front short = subst (λ (edit : Edit). IsShortBody (with_front front (values_after (told_of number tid edit)))) is short

pub absent_insert : (number : ℕ) (tid : Tid) {edit : Edit} {values : Bor (List ℕ)} → edit ≡ Insert values → (front : List ℕ) (held : Option (List ℕ)) → IsFound (told_of number tid edit) held front → held ≡ None
absent_insert number tid is front held found = subst (λ (edit : Edit). IsFound (told_of number tid edit) held front) is found
