-- No more image pages are mapped than a list of keys has that has each of them.
use Rattle.std.proofs.Common.{◌≡◌, ◌≢◌, ◌<◌, ◌≤◌, ◌+◌, ℕ, zero, suc, Bool, true, false, cond, List, [], ◌∷◌, ◌++◌, length, get_or, refl, sym, ◌∙◌, ap, subst, arith, ⊎_elim, length-append}
use Rattle.std.specs.Prelude.{sum_by}
use Rattle.std.specs.List.{range_with_len}
use Rattle.std.proofs.lemmas.Bool.{cond-true, cond-false, true≢false}
use Rattle.std.proofs.lemmas.List.Sums.{sum_by-cons}
use Rattle.rss_base.specs.Paged.{Mapped, is_same, page_key, with_mapped, mapped_in, mapped_of}
use Rattle.rss_base.specs.declared.key.PageKey.{PageKey}
use Rattle.rss_base.specs.declared.key.Space.{Space}
use Rattle.rss_base.proofs.Keys.{is_same-itself, is_same-other}
use Rattle.rss_model.proofs.LogLists.{by_test, by_same}
use Rattle.rss_model.proofs.Mixing.{In, in_left, in_right}

-- ---- sums over a range of numbers

range_at_most : (f g : ℕ → ℕ) (a n : ℕ) → ((j : ℕ) → g j ≤ f j) → sum_by g (range_with_len a n) ≤ sum_by f (range_with_len a n)
range_at_most f g a zero least = omega arith
range_at_most f g a (suc n) least =
    omega (arith, least a, range_at_most f g (a + 1) n least, sum_by-cons f a (range_with_len (a + 1) n), sum_by-cons g a (range_with_len (a + 1) n))

-- where one number counts one more, and only from a number behind it
range_past : (f g : ℕ → ℕ) (k a n : ℕ) → k < a → ((j : ℕ) → j ≢ k → g j ≤ f j) → sum_by g (range_with_len a n) ≤ sum_by f (range_with_len a n)
range_past f g k a zero past least = omega arith
range_past f g k a (suc n) past least =
    omega (arith, least a (λ is. omega arith), range_past f g k (a + 1) n (omega arith) least, sum_by-cons f a (range_with_len (a + 1) n), sum_by-cons g a (range_with_len (a + 1) n))

-- and from any number on
range_one_more : (f g : ℕ → ℕ) (k a n : ℕ) → g k ≤ f k + 1 → ((j : ℕ) → j ≢ k → g j ≤ f j) → sum_by g (range_with_len a n) ≤ sum_by f (range_with_len a n) + 1
range_one_more f g k a zero one least = omega arith
range_one_more f g k a (suc n) one least =
    let first = sum_by-cons f a (range_with_len (a + 1) n) in
    let second = sum_by-cons g a (range_with_len (a + 1) n) in
    by_same a k
    (λ here.
    let at : g a ≤ f a + 1 = subst (λ (j : ℕ). g j ≤ f j + 1) (sym here) one in
    let rest = range_past f g k (a + 1) n (omega (arith, here)) least in
    omega (arith, at, rest, first, second))
    (λ off.
    let at : g a ≤ f a = least a off in
    let rest = range_one_more f g k (a + 1) n one least in
    omega (arith, at, rest, first, second))

range_zero : (f : ℕ → ℕ) (a n : ℕ) → ((j : ℕ) → f j ≡ 0) → sum_by f (range_with_len a n) ≡ 0
range_zero f a zero none = refl
range_zero f a (suc n) none = omega (arith, none a, range_zero f (a + 1) n none, sum_by-cons f a (range_with_len (a + 1) n))

range_same : (f g : ℕ → ℕ) (a n : ℕ) → ((j : ℕ) → g j ≡ f j) → sum_by g (range_with_len a n) ≡ sum_by f (range_with_len a n)
range_same f g a zero same = refl
range_same f g a (suc n) same =
    omega (arith, same a, range_same f g (a + 1) n same, sum_by-cons f a (range_with_len (a + 1) n), sum_by-cons g a (range_with_len (a + 1) n))

-- ---- one page less

abbrev count_of : Bool → ℕ
count_of b = cond b 1 0

one_at_most : (b : Bool) (n : ℕ) → count_of b ≤ n + 1
one_at_most true n = omega arith
one_at_most false n = omega arith

-- the same pages of a space are as many
pub same_mapped_of : (old new : Mapped) (space : Space) (limit : ℕ) → ((segment number : ℕ) → new (page_key segment space number) ≡ old (page_key segment space number)) → mapped_of new space limit ≡ mapped_of old space limit
same_mapped_of old new space limit same =
    range_same (mapped_in old space limit) (mapped_in new space limit) 1 8
    (λ segment. range_same (λ n. count_of (old (page_key segment space n))) (λ n. count_of (new (page_key segment space n))) 0 limit (λ n. ap count_of (same segment n)))

pub same_mapped_in : (old new : Mapped) (space : Space) (limit segment : ℕ) → ((number : ℕ) → new (page_key segment space number) ≡ old (page_key segment space number)) → mapped_in new space limit segment ≡ mapped_in old space limit segment
same_mapped_in old new space limit segment same =
    range_same (λ n. count_of (old (page_key segment space n))) (λ n. count_of (new (page_key segment space n))) 0 limit (λ n. ap count_of (same n))

module _ (mapped : Mapped) (space : Space) (limit : ℕ) (key : PageKey) where
  abbrev less : Mapped
  less = with_mapped mapped key false

  less_at : (other : PageKey) → other ≢ key → less other ≡ mapped other
  less_at other apart = cond-false (is_same other key) false (mapped other) (is_same-other other key apart)

  same_count : (segment n : ℕ) → page_key segment space n ≢ key → count_of (mapped (page_key segment space n)) ≤ count_of (less (page_key segment space n))
  same_count segment n apart = omega (arith, ap count_of (less_at (page_key segment space n) apart))

  less_in : (segment : ℕ) → mapped_in mapped space limit segment ≤ mapped_in less space limit segment + 1
  less_in segment = range_one_more (λ n. count_of (less (page_key segment space n))) (λ n. count_of (mapped (page_key segment space n))) key.number 0 limit
      (one_at_most (mapped (page_key segment space key.number)) (count_of (less (page_key segment space key.number))))
      (λ n apart. same_count segment n (λ is. apart (ap (λ (k : PageKey). k.number) is)))

  less_of : mapped_of mapped space limit ≤ mapped_of less space limit + 1
  less_of = range_one_more (mapped_in less space limit) (mapped_in mapped space limit) key.segment 1 8 (less_in key.segment)
      (λ segment apart. range_at_most (λ n. count_of (less (page_key segment space n))) (λ n. count_of (mapped (page_key segment space n))) 0 limit
      (λ n. same_count segment n (λ is. apart (ap (λ (k : PageKey). k.segment) is))))

-- ---- lists of keys

-- the list has each mapped page of a space
abbrev pub HasMapped : Space → Mapped → List PageKey → Type 0
HasMapped space mapped keys = (key : PageKey) → key.space ≡ space → mapped key ≡ true → In key keys

none_of : (space : Space) (mapped : Mapped) (limit : ℕ) → HasMapped space mapped [] → mapped_of mapped space limit ≡ 0
none_of space mapped limit has = range_zero (mapped_in mapped space limit) 1 8
    (λ segment. range_zero (λ n. count_of (mapped (page_key segment space n))) 0 limit (λ n. by_test (mapped (page_key segment space n))
    (λ is. absurd (has (page_key segment space n) refl is)) (λ off. ap count_of off)))

pub mapped_at_most : (space : Space) (limit : ℕ) (keys : List PageKey) (mapped : Mapped) → HasMapped space mapped keys → mapped_of mapped space limit ≤ length keys
mapped_at_most space limit [] mapped has = omega (arith, none_of space mapped limit has)
mapped_at_most space limit (key ∷ keys) mapped has =
    let rest = mapped_at_most space limit keys (with_mapped mapped key false) still in
    omega (arith, rest, less_of mapped space limit key)
  where
    still : HasMapped space (with_mapped mapped key false) keys
    still other its is = by_test (is_same other key)
        (λ here. absurd (true≢false (sym is ∙ cond-true (is_same other key) false (mapped other) here)))
        (λ off. ⊎_elim
        (λ (same : key ≡ other). absurd (true≢false (sym (is_same-itself key) ∙ ap (λ (k : PageKey). is_same k key) same ∙ off)))
        (λ (more : In other keys). more)
        (has other its (sym (cond-false (is_same other key) false (mapped other) off) ∙ is)))

-- ---- keys by numbers

-- the lists of some numbers, from one on, as many as another list has items
abbrev pub keys_from : {A : Type 0} → (ℕ → List PageKey) → ℕ → List A → List PageKey
keys_from pages n [] = []
keys_from pages n (item ∷ items) = pages n ++ keys_from pages (n + 1) items

module _ {A : Type 0} (pages : ℕ → List PageKey) where
  pub among_keys : (n : ℕ) (items : List A) (j : ℕ) (key : PageKey) → j < length items → In key (pages (n + j)) → In key (keys_from pages n items)
  among_keys n [] j key low is = absurd (omega (arith, low))
  among_keys n (item ∷ items) zero key low is = in_left (pages n) (keys_from pages (n + 1) items) key (subst (λ (m : ℕ). In key (pages m)) (omega arith) is)
  among_keys n (item ∷ items) (suc j) key low is = in_right (pages n) (keys_from pages (n + 1) items) key
      (among_keys (n + 1) items j key (omega (arith, low)) (subst (λ (m : ℕ). In key (pages m)) (omega arith) is))

  module _ (room : A → ℕ) (none : A) where
    pub keys_few : (n : ℕ) (items : List A) → ((j : ℕ) → j < length items → length (pages (n + j)) ≤ room (get_or items j none)) → length (keys_from pages n items) ≤ sum_by room items
    keys_few n [] few = omega arith
    keys_few n (item ∷ items) few =
        let here : length (pages (n + 0)) ≤ room item = few 0 (omega arith) in
        let at : length (pages (n + 0)) ≡ length (pages n) = ap (λ (m : ℕ). length (pages m)) (omega arith) in
        let rest = keys_few (n + 1) items (λ j low. subst (λ (m : ℕ). length (pages m) ≤ room (get_or items j none)) (omega arith) (few (suc j) (omega (arith, low)))) in
        omega (arith, here, at, rest, length-append (pages n) (keys_from pages (n + 1) items), sum_by-cons room item items)

    -- with the length of one list in place of its room
    pub keys_but : (n : ℕ) (items : List A) (j : ℕ) → j < length items → ((i : ℕ) → i < length items → length (pages (n + i)) ≤ room (get_or items i none)) → length (keys_from pages n items) + room (get_or items j none) ≤ sum_by room items + length (pages (n + j))
    keys_but n [] j low few = absurd (omega (arith, low))
    keys_but n (item ∷ items) zero low few =
        let at : length (pages (n + 0)) ≡ length (pages n) = ap (λ (m : ℕ). length (pages m)) (omega arith) in
        let rest = keys_few (n + 1) items (λ j low. subst (λ (m : ℕ). length (pages m) ≤ room (get_or items j none)) (omega arith) (few (suc j) (omega (arith, low)))) in
        omega (arith, at, rest, length-append (pages n) (keys_from pages (n + 1) items), sum_by-cons room item items)
    keys_but n (item ∷ items) (suc j) low few =
        let here : length (pages (n + 0)) ≤ room item = few 0 (omega arith) in
        let at : length (pages (n + 0)) ≡ length (pages n) = ap (λ (m : ℕ). length (pages m)) (omega arith) in
        let same : length (pages (n + 1 + j)) ≡ length (pages (n + suc j)) = ap (λ (m : ℕ). length (pages m)) (omega arith) in
        let rest = keys_but (n + 1) items j (omega (arith, low)) (λ i low. subst (λ (m : ℕ). length (pages m) ≤ room (get_or items i none)) (omega arith) (few (suc i) (omega (arith, low)))) in
        omega (arith, here, at, same, rest, length-append (pages n) (keys_from pages (n + 1) items), sum_by-cons room item items)
