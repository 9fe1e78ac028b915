-- Lists in which each tuple stands once.
use Rattle.std.proofs.Common.{◌≡◌, ◌⊎◌, inl, inr, ◌≤◌, Bool, true, false, List, [], ◌∷◌, ◌++◌, length, refl, sym, ◌∙◌, ap, arith, length-append}
use Rattle.std.specs.Prelude.{◌||◌}
use Rattle.std.proofs.lemmas.Bool.{cases_Bool}
use Rattle.rss_base.specs.Prefixes.{is_tid}
use Rattle.rss_base.specs.declared.tid.Tid.{Tid}
use Rattle.rss_model.specs.Chains.{stands_in, StandOnce}
use Rattle.rss_link.proofs.Lists.{false_true, false_where}
use Rattle.rss_link.proofs.Operations.{is_tid-true, or_true, split_at, stands_there}

-- ---- whether a tuple stands in a list

pub stands_more : (t x : Tid) (xs : List Tid) → stands_in t xs ≡ true → stands_in t (x ∷ xs) ≡ true
stands_more t x xs there = or_true (is_tid t x) (stands_in t xs) there

pub stands_first : (t x : Tid) (xs : List Tid) → t ≡ x → stands_in t (x ∷ xs) ≡ true
stands_first t x xs same = ap (λ (y : Tid). stands_in y (x ∷ xs)) same ∙ stands_there x [] xs

pub stands_cases : (t x : Tid) (xs : List Tid) → stands_in t (x ∷ xs) ≡ true → (t ≡ x) ⊎ (stands_in t xs ≡ true)
stands_cases t x xs there = elim (cases_Bool (is_tid t x)) [
  | inl same ↦ inl (is_tid-true t x same)
  | inr differ ↦ inr (sym (ap (λ (b : Bool). b || stands_in t xs) differ) ∙ there)
]

pub stands_left : (t : Tid) (xs ys : List Tid) → stands_in t xs ≡ true → stands_in t (xs ++ ys) ≡ true
stands_left t [] ys there = absurd (false_true false refl there)
stands_left t (x ∷ xs) ys there = elim (stands_cases t x xs there) [
  | inl same ↦ stands_first t x (xs ++ ys) same
  | inr rest ↦ stands_more t x (xs ++ ys) (stands_left t xs ys rest)
]

pub stands_right : (t : Tid) (xs ys : List Tid) → stands_in t ys ≡ true → stands_in t (xs ++ ys) ≡ true
stands_right t [] ys there = there
stands_right t (x ∷ xs) ys there = stands_more t x (xs ++ ys) (stands_right t xs ys there)

pub stands_both : (t : Tid) (xs ys : List Tid) → stands_in t (xs ++ ys) ≡ true → (stands_in t xs ≡ true) ⊎ (stands_in t ys ≡ true)
stands_both t [] ys there = inr there
stands_both t (x ∷ xs) ys there = elim (stands_cases t x (xs ++ ys) there) [
  | inl same ↦ inl (stands_first t x xs same)
  | inr rest ↦ elim (stands_both t xs ys rest) [
    | inl left ↦ inl (stands_more t x xs left)
    | inr right ↦ inr right
  ]
]

-- ---- once

pub once_both : (xs ys : List Tid) → StandOnce xs → StandOnce ys → ((t : Tid) → stands_in t xs ≡ true → stands_in t ys ≡ true → ⊥) → StandOnce (xs ++ ys)
once_both [] ys one two apart = two
once_both (x ∷ xs) ys one two apart = (
  false_where (stands_in x (xs ++ ys)) (λ there. elim (stands_both x xs ys there) [
    | inl left ↦ false_true (stands_in x xs) one.0 left
    | inr right ↦ apart x (stands_there x [] xs) right
  ]),
  once_both xs ys one.1 two (λ t left right. apart t (stands_more t x xs left) right),
)

-- tuples that stand once, and stand in another list, are no more than it has
pub few : (xs ys : List Tid) → StandOnce xs → ((t : Tid) → stands_in t xs ≡ true → stands_in t ys ≡ true) → length xs ≤ length ys
few [] ys once there = omega arith
few (x ∷ xs) ys once there =
    let split = split_at x ys (there x (stands_there x [] xs)) in
    let others : (t : Tid) → stands_in t xs ≡ true → stands_in t (split.before ++ split.after) ≡ true = λ t is.
    elim (stands_both t split.before (x ∷ split.after) (ap (stands_in t) (sym split.is) ∙ there t (stands_more t x xs is))) [
      | inl left ↦ stands_left t split.before split.after left
      | inr right ↦ elim (stands_cases t x split.after right) [
        | inl same ↦ absurd (false_true (stands_in x xs) once.0 (ap (λ (y : Tid). stands_in y xs) (sym same) ∙ is))
        | inr behind ↦ stands_right t split.before split.after behind
      ]
    ] in
    let rest : length xs ≤ length (split.before ++ split.after) = few xs (split.before ++ split.after) once.1 others in
    omega (arith, rest, ap length split.is, length-append split.before (x ∷ split.after), length-append split.before split.after)

-- and where they are as many, there is no other one
pub all_there : (xs ys : List Tid) → StandOnce xs → ((t : Tid) → stands_in t xs ≡ true → stands_in t ys ≡ true) → length ys ≤ length xs → (t : Tid) → stands_in t ys ≡ true → stands_in t xs ≡ true
all_there xs ys once there many t is = elim (cases_Bool (stands_in t xs)) [
  | inl among ↦ among
  | inr off ↦
      let more : length (t ∷ xs) ≤ length ys = few (t ∷ xs) ys (off, once) (λ u one. elim (stands_cases u t xs one) [
        | inl same ↦ ap (λ (y : Tid). stands_in y ys) same ∙ is
        | inr old ↦ there u old
      ]) in
      absurd (omega (arith, more, many))
]
