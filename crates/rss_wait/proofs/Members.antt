-- Numbers in a list.
use Rattle.std.proofs.Common.{◌≡◌, ◌≢◌, ◌⊎◌, inl, inr, ℕ, ◌≤◌, Bool, true, false, List, [], ◌∷◌, ◌++◌, length, refl, sym, ◌∙◌, ap, arith, length-append}
use Rattle.std.specs.Prelude.{◌||◌, ◌==◌}
use Rattle.std.proofs.lemmas.Bool.{or_cases, or_left, or_right, or_parts, or_from, eqb-true, eq-eqb, ne_eqb, true≢false}
use Rattle.rss_wait.specs.Waits.{is_in, IsOnce}

pub or_twice : (a b c : Bool) → (a || (b || c)) ≡ ((a || b) || c)
or_twice true b c = refl
or_twice false b c = refl

pub or_swap : (a b : Bool) → (a || b) ≡ (b || a)
or_swap true true = refl
or_swap true false = refl
or_swap false true = refl
or_swap false false = refl

pub in_both : (t : ℕ) (xs ys : List ℕ) → is_in (xs ++ ys) t ≡ (is_in xs t || is_in ys t)
in_both t [] ys = refl
in_both t (x ∷ xs) ys = ap (λ (b : Bool). (x == t) || b) (in_both t xs ys) ∙ or_twice (x == t) (is_in xs t) (is_in ys t)

pub in_itself : (t : ℕ) (ts : List ℕ) → is_in (t ∷ ts) t ≡ true
in_itself t ts = or_left (t == t) (is_in ts t) (eq-eqb t t refl)

pub cases_in : (t u : ℕ) (us : List ℕ) → is_in (u ∷ us) t ≡ true → (u ≡ t) ⊎ (is_in us t ≡ true)
cases_in t u us there = elim (or_cases (u == t) (is_in us t) there) [
  | inl same ↦ inl (eqb-true u t same)
  | inr rest ↦ inr rest
]

pub not_in : (t u : ℕ) (us : List ℕ) → u ≢ t → is_in us t ≡ false → is_in (u ∷ us) t ≡ false
not_in t u us differ away = or_from (u == t) (is_in us t) (ne_eqb u t differ) away

pub apart_in : (t u : ℕ) (us : List ℕ) → is_in (u ∷ us) t ≡ false → (u ≢ t) × (is_in us t ≡ false)
apart_in t u us away =
    let parts = or_parts (u == t) (is_in us t) away in
    (λ same. true≢false (sym (eq-eqb u t same) ∙ parts.0), parts.1)

-- a list with a number in it
pub record Around (t : ℕ) (xs : List ℕ) : Type 0 where
  pub before : List ℕ
  pub after : List ℕ
  pub is : xs ≡ before ++ t ∷ after

pub around : (t : ℕ) (xs : List ℕ) → is_in xs t ≡ true → Around t xs
around t [] there = absurd (true≢false (sym there))
around t (x ∷ xs) there = elim (cases_in t x xs there) [
  | inl same ↦ record { before = []; after = xs; is = ap (λ (u : ℕ). u ∷ xs) same }
  | inr rest ↦ let split = around t xs rest in record { before = x ∷ split.before; after = split.after; is = ap (λ (l : List ℕ). x ∷ l) split.is }
]

off : (x t : ℕ) (before after : List ℕ) → x ≢ t → is_in (before ++ x ∷ after) t ≡ true → is_in (before ++ after) t ≡ true
off x t before after differ there =
    in_both t before after
    ∙ sym (ap (λ (b : Bool). is_in before t || (b || is_in after t)) (ne_eqb x t differ))
    ∙ sym (in_both t before (x ∷ after))
    ∙ there

-- numbers none of which is there twice, and that are all in another list, are no more than it has
pub few : (xs ys : List ℕ) → IsOnce xs → ((t : ℕ) → is_in xs t ≡ true → is_in ys t ≡ true) → length xs ≤ length ys
few [] ys once into = omega arith
few (x ∷ xs) ys once into =
    let split = around x ys (into x (in_itself x xs)) in
    let others : (t : ℕ) → is_in xs t ≡ true → is_in (split.before ++ split.after) t ≡ true = λ t there.
    off x t split.before split.after (λ same. true≢false (sym there ∙ ap (λ (u : ℕ). is_in xs u) (sym same) ∙ once.0))
    (ap (λ (l : List ℕ). is_in l t) (sym split.is) ∙ into t (or_right (x == t) (is_in xs t) there)) in
    let long : length ys ≡ length (split.before ++ x ∷ split.after) = ap (λ (l : List ℕ). length l) split.is in
    omega (arith, few xs (split.before ++ split.after) once.1 others, long, length-append split.before (x ∷ split.after), length-append split.before split.after)

-- of a list in which none is twice, the others don't have it
pub once_around : (t : ℕ) (before after : List ℕ) → IsOnce (before ++ t ∷ after) → (is_in before t ≡ false) × (is_in after t ≡ false)
once_around t [] after once = (refl, once.0)
once_around t (x ∷ before) after once =
    let rest = once_around t before after once.1 in
    let differ : x ≢ t = λ same. true≢false (sym (in_both t before (t ∷ after) ∙ or_right (is_in before t) (is_in (t ∷ after) t) (in_itself t after)) ∙ ap (λ (u : ℕ). is_in (before ++ t ∷ after) u) (sym same) ∙ once.0) in
    (not_in t x before differ rest.0, rest.1)
