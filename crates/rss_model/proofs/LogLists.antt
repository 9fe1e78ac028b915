-- Lists, and parts of them by a test.
use Rattle.std.proofs.Common.{◌≡◌, ℕ, List, [], ◌∷◌, ◌++◌, refl, sym, ◌∙◌, ap, subst}
use Rattle.std.specs.Prelude.{Bool, true, false, Option, Some, None, is_some, ◌&&◌, ◌==◌, filter}
use Rattle.std.specs.List.{AllByRecursion}
use Rattle.std.proofs.lemmas.Bool.{eqb-true, eqb-false}

pub by_test : {G : Type 0} (b : Bool) → (b ≡ true → G) → (b ≡ false → G) → G
by_test true is not' = is refl
by_test false is not' = not' refl

pub by_same : {G : Type 0} (m n : ℕ) → (m ≡ n → G) → ((m ≡ n → ⊥) → G) → G
by_same m n same other = by_test (m == n) (λ e. same (eqb-true m n e)) (λ e. other (eqb-false m n e))

pub false_true : {G : Type 0} {b : Bool} → b ≡ true → b ≡ false → G
false_true e f = absurd (clash (sym f ∙ e))
  where
    clash : false ≡ true → ⊥
    clash e = cc (e)

-- what an option has
pub some_of : {A : Type 0} (o : Option A) → is_some o ≡ true → (held : A) × (o ≡ Some held)
some_of None is = absurd (cc (is))
some_of (Some held) is = (held, refl)

pub none_some : {A G : Type 0} {a : A} → None ≡ Some a → G
none_some e = absurd (cc (e))

module _ {X : Type 0} where
  pub filter_yes : (p : X → Bool) (x : X) (xs : List X) → p x ≡ true → filter p (x ∷ xs) ≡ x ∷ filter p xs
  filter_yes p x xs e = rw e

  pub filter_no : (p : X → Bool) (x : X) (xs : List X) → p x ≡ false → filter p (x ∷ xs) ≡ filter p xs
  filter_no p x xs e = rw e

  -- the same test
  pub filter_same : (p q : X → Bool) (xs : List X) → ((x : X) → p x ≡ q x) → filter p xs ≡ filter q xs
  filter_same p q [] same = refl
  filter_same p q (x ∷ xs) same = by_test (q x)
      (λ e. filter_yes p x xs (same x ∙ e) ∙ ap (λ (l : List X). x ∷ l) (filter_same p q xs same) ∙ sym (filter_yes q x xs e))
      (λ e. filter_no p x xs (same x ∙ e) ∙ filter_same p q xs same ∙ sym (filter_no q x xs e))

  -- one test after another
  pub filter_filter : (p q : X → Bool) (xs : List X) → filter p (filter q xs) ≡ filter (λ x. q x && p x) xs
  filter_filter p q [] = refl
  filter_filter p q (x ∷ xs) = by_test (q x)
      (λ e. by_test (p x)
      (λ f. ap (filter p) (filter_yes q x xs e) ∙ filter_yes p x (filter q xs) f ∙ ap (λ (l : List X). x ∷ l) (filter_filter p q xs) ∙ sym (filter_yes (λ y. q y && p y) x xs (both _ _ e f)))
      (λ f. ap (filter p) (filter_yes q x xs e) ∙ filter_no p x (filter q xs) f ∙ filter_filter p q xs ∙ sym (filter_no (λ y. q y && p y) x xs (second _ _ e f))))
      (λ e. ap (filter p) (filter_no q x xs e) ∙ filter_filter p q xs ∙ sym (filter_no (λ y. q y && p y) x xs (first _ _ e)))
    where
      both : (a b : Bool) → a ≡ true → b ≡ true → (a && b) ≡ true
      both a b e f = rw (e, f)

      second : (a b : Bool) → a ≡ true → b ≡ false → (a && b) ≡ false
      second a b e f = rw (e, f)

      first : (a b : Bool) → a ≡ false → (a && b) ≡ false
      first a b e = rw e

  -- all pass
  pub filter_all : (p : X → Bool) (xs : List X) → AllByRecursion (λ x. p x ≡ true) xs → filter p xs ≡ xs
  filter_all p [] all = refl
  filter_all p (x ∷ xs) all = filter_yes p x xs all.0 ∙ ap (λ (l : List X). x ∷ l) (filter_all p xs all.1)

  pub filter_none : (p : X → Bool) (xs : List X) → AllByRecursion (λ x. p x ≡ false) xs → filter p xs ≡ []
  filter_none p [] all = refl
  filter_none p (x ∷ xs) all = filter_no p x xs all.0 ∙ filter_none p xs all.1

  pub all_filter : (P Q : X → Type 0) (p : X → Bool) (xs : List X) → ((x : X) → p x ≡ true → P x → Q x) → AllByRecursion P xs → AllByRecursion Q (filter p xs)
  all_filter P Q p [] is all = tt
  all_filter P Q p (x ∷ xs) is all = by_test (p x)
      (λ e. subst (AllByRecursion Q) (sym (filter_yes p x xs e)) (is x e all.0, all_filter P Q p xs is all.1))
      (λ e. subst (AllByRecursion Q) (sym (filter_no p x xs e)) (all_filter P Q p xs is all.1))

  pub all_weaker : (P Q : X → Type 0) (xs : List X) → ((x : X) → P x → Q x) → AllByRecursion P xs → AllByRecursion Q xs
  all_weaker P Q [] is all = tt
  all_weaker P Q (x ∷ xs) is all = (is x all.0, all_weaker P Q xs is all.1)

  pub all_append : (P : X → Type 0) (xs ys : List X) → AllByRecursion P xs → AllByRecursion P ys → AllByRecursion P (xs ++ ys)
  all_append P [] ys front back = back
  all_append P (x ∷ xs) ys front back = (front.0, all_append P xs ys front.1 back)

  pub all_front : (P : X → Type 0) (xs ys : List X) → AllByRecursion P (xs ++ ys) → AllByRecursion P xs
  all_front P [] ys all = tt
  all_front P (x ∷ xs) ys all = (all.0, all_front P xs ys all.1)

  pub all_back : (P : X → Type 0) (xs ys : List X) → AllByRecursion P (xs ++ ys) → AllByRecursion P ys
  all_back P [] ys all = all
  all_back P (x ∷ xs) ys all = all_back P xs ys all.1
