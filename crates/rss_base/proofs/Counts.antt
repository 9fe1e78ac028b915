-- How many pages are mapped.
use Rattle.std.proofs.Common.{◌≡◌, ◌≢◌, ◌⊎◌, inl, inr, ℕ, zero, suc, ◌+◌, ◌<◌, ◌≤◌, Bool, true, false, cond, List, [], ◌∷◌, Option, Some, None, refl, sym, ◌∙◌, ap, arith}
use Rattle.std.specs.Prelude.{sum_by, count_by, is_some}
use Rattle.std.specs.List.{range_with_len}
use Rattle.std.proofs.lemmas.Bool.{cases_eq, cond-true, cond-false, false_from_ne_true}
use Rattle.std.proofs.lemmas.List.Sums.{sum_by-cons}
use Rattle.rss_base.specs.PageMap.{IsKey, owner_of, page_count, AreDistinct}
use Rattle.rss_base.specs.Paged.{Mapped, is_same, page_key, mapped_in, mapped_of, mapped_pages}
use Rattle.rss_base.specs.StoredPages.{slot_from, mapped_by}
use Rattle.rss_base.specs.declared.key.PageKey.{PageKey}
use Rattle.rss_base.specs.declared.key.Space.{Space}
use Rattle.rss_base.specs.declared.key.Space.TheVariants.{Home, Overflow, Image, System}
use Rattle.rss_base.proofs.Keys.{is_same-itself, is_same-other, found_at, the_number}

-- ---- sums over a range of numbers

range-same : (f g : ℕ → ℕ) (a n : ℕ) → ((j : ℕ) → a ≤ j → g j ≡ f j) → sum_by g (range_with_len a n) ≡ sum_by f (range_with_len a n)
range-same f g a zero same = refl
range-same f g a (suc n) same =
    let rest = range-same f g (a + 1) n (λ j from. same j (omega arith)) in
    omega (arith, rest, same a (omega arith), sum_by-cons f a (range_with_len (a + 1) n), sum_by-cons g a (range_with_len (a + 1) n))

-- one number counts one more
range-one : (f g : ℕ → ℕ) (a n k : ℕ) → a ≤ k → k < a + n → g k ≡ f k + 1 → ((j : ℕ) → j ≢ k → g j ≡ f j) → sum_by g (range_with_len a n) ≡ sum_by f (range_with_len a n) + 1
range-one f g a zero k low high one others = absurd (omega arith)
range-one f g a (suc n) k low high one others =
    let cons_f = sum_by-cons f a (range_with_len (a + 1) n) in
    let cons_g = sum_by-cons g a (range_with_len (a + 1) n) in
    elim (cases_eq a k) [
      | inl here ↦
          let rest = range-same f g (a + 1) n (λ j from. others j (λ is. absurd (omega (arith, is)))) in
          let at : g a ≡ f a + 1 = ap g here ∙ one ∙ ap (λ (x : ℕ). f x + 1) (sym here) in
          omega (arith, rest, at, cons_f, cons_g)
      | inr apart ↦
          let rest = range-one f g (a + 1) n k (omega (arith, apart)) (omega arith) one others in
          omega (arith, rest, others a apart, cons_f, cons_g)
    ]

-- ---- pages that are the same but for one

abbrev count_of : Bool → ℕ
count_of b = cond b 1 0

module _ (old new : Mapped) where
  in-same : (space : Space) (limit segment : ℕ) → ((number : ℕ) → new (page_key segment space number) ≡ old (page_key segment space number)) → mapped_in new space limit segment ≡ mapped_in old space limit segment
  in-same space limit segment same =
      range-same (λ n. count_of (old (page_key segment space n))) (λ n. count_of (new (page_key segment space n))) 0 limit (λ n low. ap count_of (same n))

  of-same : (space : Space) (limit : ℕ) → ((segment number : ℕ) → new (page_key segment space number) ≡ old (page_key segment space number)) → mapped_of new space limit ≡ mapped_of old space limit
  of-same space limit same = range-same (mapped_in old space limit) (mapped_in new space limit) 1 8 (λ segment low. in-same space limit segment (same segment))

  -- the same pages are as many
  pub mapped_pages-same : (slots : ℕ) → ((key : PageKey) → new key ≡ old key) → mapped_pages slots new ≡ mapped_pages slots old
  unfolding mapped_pages
  mapped_pages-same slots same =
      omega (arith, of-same Home slots (λ s n. same _), of-same Overflow slots (λ s n. same _), of-same Image slots (λ s n. same _), in-same System 10 0 (λ n. same _))

  module _ (space : Space) (segment number : ℕ) (free : old (page_key segment space number) ≡ false) (here : new (page_key segment space number) ≡ true) (others : (other : PageKey) → (other ≡ page_key segment space number → ⊥) → new other ≡ old other) where
    in-one : (limit : ℕ) → number < limit → mapped_in new space limit segment ≡ mapped_in old space limit segment + 1
    in-one limit within =
        range-one (λ n. count_of (old (page_key segment space n))) (λ n. count_of (new (page_key segment space n))) 0 limit number (omega arith) (omega arith)
        (ap count_of here ∙ ap (λ (b : Bool). count_of b + 1) (sym free))
        (λ j apart. ap count_of (others (page_key segment space j) (λ is. apart (ap (λ (k : PageKey). k.number) is))))

    of-one : (limit : ℕ) → number < limit → 1 ≤ segment → segment ≤ 8 → mapped_of new space limit ≡ mapped_of old space limit + 1
    of-one limit within low high =
        range-one (mapped_in old space limit) (mapped_in new space limit) 1 8 segment low (omega arith) (in-one limit within)
        (λ j apart. in-same space limit j (λ n. others (page_key j space n) (λ is. apart (ap (λ (k : PageKey). k.segment) is))))

    -- a page of another space
    off : (other : Space) → (other ≡ space → ⊥) → (s n : ℕ) → new (page_key s other n) ≡ old (page_key s other n)
    off other apart s n = others (page_key s other n) (λ is. apart (ap (λ (k : PageKey). k.space) is))

one_more_at : (old new : Mapped) (slots : ℕ) (space : Space) (segment number : ℕ) → IsKey slots (page_key segment space number) → old (page_key segment space number) ≡ false → new (page_key segment space number) ≡ true
    → ((other : PageKey) → (other ≡ page_key segment space number → ⊥) → new other ≡ old other) → mapped_pages slots new ≡ mapped_pages slots old + 1
unfolding mapped_pages
one_more_at old new slots Home segment number allowed free here others =
    let apart = off old new Home segment number free here others in
    omega (arith, of-one old new Home segment number free here others slots allowed.number allowed.segment.0 allowed.segment.1, of-same old new Overflow slots (apart Overflow (λ is. cc)), of-same old new Image slots (apart Image (λ is. cc)), in-same old new System 10 0 (apart System (λ is. cc) 0))
one_more_at old new slots Overflow segment number allowed free here others =
    let apart = off old new Overflow segment number free here others in
    omega (arith, of-one old new Overflow segment number free here others slots allowed.number allowed.segment.0 allowed.segment.1, of-same old new Home slots (apart Home (λ is. cc)), of-same old new Image slots (apart Image (λ is. cc)), in-same old new System 10 0 (apart System (λ is. cc) 0))
one_more_at old new slots Image segment number allowed free here others =
    let apart = off old new Image segment number free here others in
    omega (arith, of-one old new Image segment number free here others slots allowed.number allowed.segment.0 allowed.segment.1, of-same old new Home slots (apart Home (λ is. cc)), of-same old new Overflow slots (apart Overflow (λ is. cc)), in-same old new System 10 0 (apart System (λ is. cc) 0))
one_more_at old new slots System segment number allowed free here others =
    let apart = off old new System segment number free here others in
    let first : segment ≡ 0 = allowed.segment in
    let one = in-one old new System segment number free here others 10 allowed.number in
    omega (arith, ap (λ (s : ℕ). mapped_in new System 10 s) first, ap (λ (s : ℕ). mapped_in old System 10 s) first, one, of-same old new Home slots (apart Home (λ is. cc)), of-same old new Overflow slots (apart Overflow (λ is. cc)), of-same old new Image slots (apart Image (λ is. cc)))

-- one page more
pub one_more : (old new : Mapped) (slots : ℕ) (key : PageKey) → IsKey slots key → old key ≡ false → new key ≡ true → ((other : PageKey) → (other ≡ key → ⊥) → new other ≡ old other) → mapped_pages slots new ≡ mapped_pages slots old + 1
one_more old new slots key allowed free here others = one_more_at old new slots key.space key.segment key.number allowed free here others

-- ---- the pages of a map

range-none : (f : ℕ → ℕ) (a n : ℕ) → ((j : ℕ) → f j ≡ 0) → sum_by f (range_with_len a n) ≡ 0
range-none f a zero none = refl
range-none f a (suc n) none = omega (arith, none a, range-none f (a + 1) n none, sum_by-cons f a (range_with_len (a + 1) n))

-- no page is mapped
none_in : (space : Space) (limit segment : ℕ) → mapped_in (λ key. false) space limit segment ≡ 0
none_in space limit segment = range-none (λ n. 0) 0 limit (λ n. refl)

none_of : (space : Space) (limit : ℕ) → mapped_of (λ key. false) space limit ≡ 0
none_of space limit = range-none (mapped_in (λ key. false) space limit) 1 8 (none_in space limit)

none_pages : (slots : ℕ) → mapped_pages slots (λ key. false) ≡ 0
unfolding mapped_pages
none_pages slots = omega (arith, none_of Home slots, none_of Overflow slots, none_of Image slots, none_in System 10 0)

-- the first owner is none of the later ones, and is found before them
first_free : (n : ℕ) (owner : PageKey) (owners : List (Option PageKey)) → AreDistinct (Some owner ∷ owners) → is_some (slot_from (n + 1) owners owner) ≡ false
first_free n owner owners distinct = false_from_ne_true _ (λ is.
    let at = the_number (slot_from (n + 1) owners owner) is in
    let found = found_at (n + 1) owners owner at.0 at.1 in
    let no : 0 ≡ suc found.0 = distinct 0 (suc found.0) owner refl found.2 in
    omega arith)

first_here : (n : ℕ) (owner : PageKey) (owners : List (Option PageKey)) → is_some (slot_from n (Some owner ∷ owners) owner) ≡ true
first_here n owner owners = ap is_some (cond-true (is_same owner owner) (Some n) (slot_from (n + 1) owners owner) (is_same-itself owner))

first_others : (n : ℕ) (owner : PageKey) (owners : List (Option PageKey)) (other : PageKey) → (other ≡ owner → ⊥) → is_some (slot_from n (Some owner ∷ owners) other) ≡ is_some (slot_from (n + 1) owners other)
first_others n owner owners other off = ap is_some (cond-false (is_same owner other) (Some n) (slot_from (n + 1) owners other) (is_same-other owner other (λ at. off (sym at))))

-- the pages of the owners of the slots from one on
pages_from : (slots n : ℕ) (owners : List (Option PageKey)) → ((s : ℕ) (key : PageKey) → owner_of owners s ≡ Some key → IsKey slots key) → AreDistinct owners → mapped_pages slots (λ key. is_some (slot_from n owners key)) ≡ page_count owners
pages_from slots n [] allowed distinct = none_pages slots
pages_from slots n (None ∷ owners) allowed distinct =
    pages_from slots (n + 1) owners (λ s. allowed (suc s)) (λ s t key here there. omega (arith, distinct (suc s) (suc t) key here there))
pages_from slots n (Some owner ∷ owners) allowed distinct =
    let rest = pages_from slots (n + 1) owners (λ s. allowed (suc s)) (λ s t key here there. omega (arith, distinct (suc s) (suc t) key here there)) in
    let old : Mapped = λ key. is_some (slot_from (n + 1) owners key) in
    let new : Mapped = λ key. is_some (slot_from n (Some owner ∷ owners) key) in
    let one = one_more old new slots owner (allowed 0 owner refl) (first_free n owner owners distinct) (first_here n owner owners) (first_others n owner owners) in
    omega (arith, one, rest, sum_by-cons (λ o. cond (is_some o) 1 0) (Some owner) owners)

-- A map has as many pages as are mapped by it.
pub mapped_pages-owners : (slots : ℕ) (owners : List (Option PageKey)) (mapped : Mapped) → ((s : ℕ) (key : PageKey) → owner_of owners s ≡ Some key → IsKey slots key) → AreDistinct owners → ((key : PageKey) → mapped key ≡ mapped_by owners key) → mapped_pages slots mapped ≡ page_count owners
mapped_pages-owners slots owners mapped allowed distinct same = mapped_pages-same (mapped_by owners) mapped slots same ∙ pages_from slots 0 owners allowed distinct

-- ---- the pages of images

image_at : (old new : Mapped) (slots : ℕ) (space : Space) (segment number : ℕ) → IsKey slots (page_key segment space number) → old (page_key segment space number) ≡ false → new (page_key segment space number) ≡ true
    → ((other : PageKey) → (other ≡ page_key segment space number → ⊥) → new other ≡ old other) → space ≡ Image → mapped_of new Image slots ≡ mapped_of old Image slots + 1
image_at old new slots Image segment number allowed free here others is = of-one old new Image segment number free here others slots allowed.number allowed.segment.0 allowed.segment.1
image_at old new slots _ segment number allowed free here others is = absurd (cc)

-- one page of images more
one_image : (old new : Mapped) (slots : ℕ) (key : PageKey) → IsKey slots key → old key ≡ false → new key ≡ true → ((other : PageKey) → (other ≡ key → ⊥) → new other ≡ old other) → key.space ≡ Image → mapped_of new Image slots ≡ mapped_of old Image slots + 1
one_image old new slots key allowed free here others is = image_at old new slots key.space key.segment key.number allowed free here others is

-- a page of another space leaves them as many
other_page : (old new : Mapped) (slots : ℕ) (key : PageKey) → ((other : PageKey) → (other ≡ key → ⊥) → new other ≡ old other) → key.space ≢ Image → mapped_of new Image slots ≡ mapped_of old Image slots
other_page old new slots key others not = of-same old new Image slots (λ segment number. others (page_key segment Image number) (λ at. not (sym (ap (λ (k : PageKey). k.space) at))))

cases_image : (space : Space) → (space ≡ Image) ⊎ (space ≢ Image)
cases_image Image = inl refl
cases_image Home = inr (λ is. cc)
cases_image Overflow = inr (λ is. cc)
cases_image System = inr (λ is. cc)

-- what tells the owners that are pages of images
module _ (is_image : Option PageKey → Bool) (no_owner : is_image None ≡ false) (an_image : (key : PageKey) → key.space ≡ Image → is_image (Some key) ≡ true) (no_image : (key : PageKey) → key.space ≢ Image → is_image (Some key) ≡ false) where
  images_from : (slots n : ℕ) (owners : List (Option PageKey)) → ((s : ℕ) (key : PageKey) → owner_of owners s ≡ Some key → IsKey slots key) → AreDistinct owners → mapped_of (λ key. is_some (slot_from n owners key)) Image slots ≡ count_by is_image owners
  images_from slots n [] allowed distinct = none_of Image slots
  images_from slots n (None ∷ owners) allowed distinct =
      let rest = images_from slots (n + 1) owners (λ s. allowed (suc s)) (λ s t key here there. omega (arith, distinct (suc s) (suc t) key here there)) in
      omega (arith, rest, ap count_of no_owner, sum_by-cons (λ o. cond (is_image o) 1 0) None owners)
  images_from slots n (Some owner ∷ owners) allowed distinct =
      let rest = images_from slots (n + 1) owners (λ s. allowed (suc s)) (λ s t key here there. omega (arith, distinct (suc s) (suc t) key here there)) in
      let old : Mapped = λ key. is_some (slot_from (n + 1) owners key) in
      let new : Mapped = λ key. is_some (slot_from n (Some owner ∷ owners) key) in
      let cons = sum_by-cons (λ o. cond (is_image o) 1 0) (Some owner) owners in
      elim (cases_image owner.space) [
        | inl is ↦ omega (arith, one_image old new slots owner (allowed 0 owner refl) (first_free n owner owners distinct) (first_here n owner owners) (first_others n owner owners) is, rest, cons, ap count_of (an_image owner is))
        | inr not ↦ omega (arith, other_page old new slots owner (first_others n owner owners) not, rest, cons, ap count_of (no_image owner not))
      ]

  -- A map has as many pages of images as are mapped by it.
  pub images-owners : (slots : ℕ) (owners : List (Option PageKey)) (mapped : Mapped) → ((s : ℕ) (key : PageKey) → owner_of owners s ≡ Some key → IsKey slots key) → AreDistinct owners → ((key : PageKey) → mapped key ≡ mapped_by owners key) → mapped_of mapped Image slots ≡ count_by is_image owners
  images-owners slots owners mapped allowed distinct same = of-same (mapped_by owners) mapped Image slots (λ segment number. same (page_key segment Image number)) ∙ images_from slots 0 owners allowed distinct
