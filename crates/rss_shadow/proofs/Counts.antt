-- How many slots two maps use.
use Rattle.std.proofs.Common.{◌≡◌, ◌≢◌, inl, inr, ℕ, ◌+◌, ◌<◌, ◌≤◌, suc, true, ◌||◌, cond, List, [], ◌∷◌, length, set, take, sym, ◌∙◌, ap, arith, length-set, length-take, get_or-set_same, get_or-set_other, get_or-take}
use Rattle.std.specs.Prelude.{Option, Some, None, is_some}
use Rattle.std.proofs.lemmas.Bool.{cases_eq, cases_lt, cond_both}
use Rattle.std.proofs.lemmas.List.{get_or_past}
use Rattle.std.proofs.lemmas.List.Sums.{sum_by-set, sum_by-cons, sum_by_more}
use Rattle.rss_base.specs.PageMap.{owner_of, page_count}
use Rattle.rss_base.specs.declared.key.PageKey.{PageKey}
use Rattle.rss_shadow.specs.Maps.{heap_pages_of, is_heap, image_pages_of, is_image}

abbrev pub Owners : Type 0
Owners = List (Option PageKey)

abbrev pub no_owner : Option PageKey
no_owner = None

-- 1 for an owner, for one that is counted as heap, or for one that is a page of images
abbrev pub one_page : Option PageKey → ℕ
one_page owner = cond (is_some owner) 1 0

abbrev pub one_heap_page : Option PageKey → ℕ
one_heap_page owner = cond (is_heap owner) 1 0

abbrev pub one_image_page : Option PageKey → ℕ
one_image_page owner = cond (is_image owner) 1 0

pub one_heap_page-le : (owner : Option PageKey) → one_heap_page owner ≤ 1
one_heap_page-le owner = cond_both (is_heap owner) 1 0 (λ (n : ℕ). n ≤ 1) (λ yes. omega arith) (λ no. omega arith)

pub one_image_page-le : (owner : Option PageKey) → one_image_page owner ≤ 1
one_image_page-le owner = cond_both (is_image owner) 1 0 (λ (n : ℕ). n ≤ 1) (λ yes. omega arith) (λ no. omega arith)

-- a slot's owner is another, and each other slot has the one that it had
pub record Assigns (old new : Owners) (slot : ℕ) (owner : Option PageKey) : Type 0 where
  pub here : owner_of new slot ≡ owner
  pub others : (s : ℕ) → s ≢ slot → owner_of new s ≡ owner_of old s
  pub pages : page_count new + one_page (owner_of old slot) ≡ page_count old + one_page owner
  pub heap : heap_pages_of new + one_heap_page (owner_of old slot) ≡ heap_pages_of old + one_heap_page owner
  pub images : image_pages_of new + one_image_page (owner_of old slot) ≡ image_pages_of old + one_image_page owner

pub Assigns-set : (owners : Owners) (slot : ℕ) (owner : Option PageKey) → slot < length owners → Assigns owners (set owners slot owner) slot owner
Assigns-set owners slot owner within = record {
  here = get_or-set_same owners slot owner None within;
  others = λ s apart. get_or-set_other owners slot s owner None apart;
  pages = sum_by-set one_page owners slot owner None within;
  heap = sum_by-set one_heap_page owners slot owner None within;
  images = sum_by-set one_image_page owners slot owner None within;
}

pub take-past : (owners : Owners) (n s : ℕ) → n ≤ s → owner_of (take n owners) s ≡ None
take-past owners n s past = get_or_past (take n owners) s None (omega (arith, length-take n owners))

-- one owner more of a map
pub Assigns-take : (owners : Owners) (slot : ℕ) → slot < length owners → Assigns (take slot owners) (take (slot + 1) owners) slot (owner_of owners slot)
Assigns-take owners slot within =
    let free : owner_of (take slot owners) slot ≡ None = take-past owners slot slot (omega arith) in
    record {
      here = get_or-take (slot + 1) owners slot None (omega arith);
      others = λ s apart. elim (cases_lt s slot) [
        | inl below ↦ get_or-take (slot + 1) owners s None (omega arith) ∙ sym (get_or-take slot owners s None below)
        | inr above ↦ take-past owners (slot + 1) s (omega arith) ∙ sym (take-past owners slot s above)
      ];
      pages = omega (arith, sum_by_more one_page owners slot None within, ap one_page free);
      heap = omega (arith, sum_by_more one_heap_page owners slot None within, ap one_heap_page free);
      images = omega (arith, sum_by_more one_image_page owners slot None within, ap one_image_page free);
    }

pub owned_within : (owners : Owners) (slot : ℕ) (key : PageKey) → owner_of owners slot ≡ Some key → slot < length owners
owned_within owners slot key owned = elim (cases_lt slot (length owners)) [
  | inl within ↦ within
  | inr past ↦ let none : owner_of owners slot ≡ None = get_or_past owners slot None past in absurd (cc)
]

-- each slot is used by one map or the other
abbrev pub Cover : Owners → Owners → Type 0
Cover xs ys = (s : ℕ) → s < length xs → (is_some (owner_of xs s) || is_some (owner_of ys s)) ≡ true

-- then the slots are no more than the pages of both
pub pages-cover : (xs ys : Owners) → length xs ≡ length ys → Cover xs ys → length xs ≤ page_count xs + page_count ys
pages-cover [] ys long all = omega arith
pages-cover (x ∷ xs) [] long all = absurd (omega arith)
pages-cover (x ∷ xs) (y ∷ ys) long all =
    let rest = pages-cover xs ys (omega arith) (λ s within. all (suc s) (omega arith)) in
    omega (arith, rest, sum_by-cons one_page x xs, sum_by-cons one_page y ys, one_of x y (all 0 (omega arith)))
  where
    one_of : (x y : Option PageKey) → (is_some x || is_some y) ≡ true → 1 ≤ one_page x + one_page y
    one_of None None is = absurd (cc)
    one_of None (Some key) is = omega arith
    one_of (Some key) None is = omega arith
    one_of (Some key) (Some other) is = omega arith

-- and fewer, where both maps use some slot
pub pages-cover_twice : (xs ys : Owners) (slot : ℕ) (key other : PageKey) → length xs ≡ length ys → Cover xs ys → owner_of xs slot ≡ Some key → owner_of ys slot ≡ Some other → length xs + 1 ≤ page_count xs + page_count ys
pages-cover_twice xs ys slot key other long all first second =
    let one = Assigns-set xs slot None (owned_within xs slot key first) in
    let still : Cover (set xs slot None) ys = λ s within. elim (cases_eq s slot) [
      | inl same ↦ ap (λ (t : ℕ). is_some (owner_of (set xs slot None) t) || is_some (owner_of ys t)) same
          ∙ ap (λ (o : Option PageKey). is_some o || is_some (owner_of ys slot)) one.here ∙ ap (λ (o : Option PageKey). is_some o) second
      | inr apart ↦ ap (λ (o : Option PageKey). is_some o || is_some (owner_of ys s)) (one.others s apart) ∙ all s (omega (arith, length-set xs slot no_owner))
    ] in
    omega (arith, pages-cover (set xs slot None) ys (length-set xs slot None ∙ long) still, length-set xs slot no_owner, one.pages, ap one_page first)
