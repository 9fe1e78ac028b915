-- Lists of frames.
use Rattle.std.proofs.Common.{◌≡◌, ◌≢◌, ℕ, ◌+◌, ◌<◌, ◌≤◌, ◌⊎◌, inl, inr, List, [], ◌∷◌, ◌++◌, length, Some, refl, sym, ◌∙◌, ap, subst, arith}
use Prim.Native.Nat.{zero, suc}
use Rattle.std.proofs.lemmas.Bool.{cases_eq, eq-eqb, ne_eqb}
use Rattle.rss_frames.specs.Lists.{Has, Apart, without, last_from, last_frame}

-- ---- lists without a frame

pub without-absent : (i : ℕ) (xs : List ℕ) → (Has i xs → ⊥) → without i xs ≡ xs
without-absent i [] absent = refl
without-absent i (x ∷ xs) absent = rw (ne_eqb i x (λ e. absent (inl e))) (ap (λ l. x ∷ l) (without-absent i xs (λ h. absent (inr h))))

pub Has-without : (i k : ℕ) (xs : List ℕ) → Has k (without i xs) → Has k xs × (k ≢ i)
Has-without i k [] h = absurd h
Has-without i k (x ∷ xs) h = elim (cases_eq i x) [
  | inl e ↦ let h' = rw (eq-eqb i x e) at h in let on = Has-without i k xs h' in (inr on.0, on.1)
  | inr off ↦ let h' = rw (ne_eqb i x off) at h in elim h' [
    | inl here ↦ (inl here, λ same. off (sym same ∙ here))
    | inr there ↦ let on = Has-without i k xs there in (inr on.0, on.1)
  ]
]

pub Has-kept : (i k : ℕ) (xs : List ℕ) → Has k xs → k ≢ i → Has k (without i xs)
Has-kept i k [] h off = absurd h
Has-kept i k (x ∷ xs) (inl e) off = rw (ne_eqb i x (λ f. off (e ∙ sym f))) (inl e)
Has-kept i k (x ∷ xs) (inr h) off = elim (cases_eq i x) [
  | inl e ↦ rw (eq-eqb i x e) (Has-kept i k xs h off)
  | inr f ↦ rw (ne_eqb i x f) (inr (Has-kept i k xs h off))
]

pub Apart-without : (i : ℕ) (xs : List ℕ) → Apart xs → Apart (without i xs)
Apart-without i [] a = tt
Apart-without i (x ∷ xs) a = elim (cases_eq i x) [
  | inl e ↦ rw (eq-eqb i x e) (Apart-without i xs a.1)
  | inr off ↦ rw (ne_eqb i x off) (λ h. a.0 (Has-without i x xs h).0, Apart-without i xs a.1)
]

pub length-without : (i : ℕ) (xs : List ℕ) → Apart xs → Has i xs → length (without i xs) + 1 ≡ length xs
length-without i [] a h = absurd h
length-without i (x ∷ xs) a (inl e) = rw (eq-eqb i x e, without-absent i xs (λ h. a.0 (subst (λ k. Has k xs) e h))) (omega arith)
length-without i (x ∷ xs) a (inr h) = rw (ne_eqb i x (λ e. a.0 (subst (λ k. Has k xs) e h))) (omega (arith, length-without i xs a.1 h))

-- a list that has the frame, or hasn't
pub cases_has : (i : ℕ) (xs : List ℕ) → Has i xs ⊎ (Has i xs → ⊥)
cases_has i [] = inr (λ h. absurd h)
cases_has i (x ∷ xs) = elim (cases_eq i x) [
  | inl e ↦ inl (inl e)
  | inr off ↦ elim (cases_has i xs) [ inl h ↦ inl (inr h) | inr none ↦ inr (λ h. elim h [ inl e ↦ off e | inr g ↦ none g ]) ]
]

-- as many frames as there are numbers below n, at most
pub length_apart : (n : ℕ) (xs : List ℕ) → Apart xs → ((i : ℕ) → Has i xs → i < n) → length xs ≤ n
length_apart zero [] a within = omega arith
length_apart zero (x ∷ xs) a within = absurd (omega (arith, within x (inl refl)))
length_apart (suc n) xs a within = elim (cases_has n xs) [
  | inl h ↦ omega (arith, length-without n xs a h, length_apart n (without n xs) (Apart-without n xs a) (λ i g. let on = Has-without n i xs g in let off : i ≢ n = on.1 in omega (arith, within i on.0)))
  | inr none ↦ omega (arith, length_apart n xs a (λ i g. let off : i ≢ n = λ e. none (subst (λ k. Has k xs) e g) in omega (arith, within i g)))
]

-- the last frame of those, taken out
last_in : (x : ℕ) (xs : List ℕ) → Has (last_from x xs) (x ∷ xs)
last_in x [] = inl refl
last_in x (y ∷ ys) = inr (last_in y ys)

without-last : (x : ℕ) (xs : List ℕ) → Apart (x ∷ xs) → x ∷ xs ≡ without (last_from x xs) (x ∷ xs) ++ last_from x xs ∷ []
without-last x [] a = rw (eq-eqb x x refl) refl
without-last x (y ∷ ys) a =
    let other : last_from y ys ≢ x = λ e. a.0 (subst (λ k. Has k (y ∷ ys)) e (last_in y ys)) in
    rw (ne_eqb (last_from y ys) x other) (ap (λ l. x ∷ l) (without-last y ys a.1))

pub last_out : (xs : List ℕ) (i : ℕ) → Apart xs → last_frame xs ≡ Some i → Has i xs × (xs ≡ without i xs ++ i ∷ [])
last_out [] i a e = absurd (cc)
last_out (x ∷ xs) i a e =
    let is : last_from x xs ≡ i = cc in
    (subst (λ k. Has k (x ∷ xs)) is (last_in x xs), subst (λ k. x ∷ xs ≡ without k (x ∷ xs) ++ k ∷ []) is (without-last x xs a))

pub last_has : (xs : List ℕ) (i : ℕ) → last_frame xs ≡ Some i → Has i xs
last_has [] i e = absurd (cc)
last_has (x ∷ xs) i e = let is : last_from x xs ≡ i = cc in subst (λ k. Has k (x ∷ xs)) is (last_in x xs)
