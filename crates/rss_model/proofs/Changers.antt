-- How many transactions have changes: no more than are open, and no more once some are taken back.
use Rattle.std.proofs.Common.{◌≡◌, inl, inr, ℕ, suc, ◌+◌, ◌≤◌, Bool, true, false, ◌==◌, nat_le, List, [], ◌∷◌, length, refl, sym, ◌∙◌, ap, subst, arith}
use Rattle.std.specs.Prelude.{Option, Some, None, is_some, ◌||◌, map}
use Rattle.std.specs.List.{list_any}
use Rattle.std.specs.Ordering.{nat_cmp}
use Rattle.std.specs.FinMap as finite
use Rattle.std.specs.FinMap.{FinMap}
use Rattle.std.proofs.lemmas.Bool.{ne_eqb, eq-eqb}
use Rattle.std.proofs.lemmas.Bool.Decides.{nat_tests}
use Rattle.rss_model.specs.Changes.{Change, maker, mine, kept_to}
use Rattle.rss_model.specs.Meter.{Stamp, changers}
use Rattle.rss_model.specs.Steps.{stamp_by}
use Rattle.rss_model.proofs.LogLists.{by_test, by_same, false_true}
use Rattle.rss_model.proofs.Locking.{in_any}
use Rattle.rss_model.proofs.Mixing.{In}
use Rattle.rss_model.proofs.EndKeeping.{remove_other, len_less}

abbrev has_by : ℕ → List Stamp → Bool
has_by u stamps = list_any (λ other. other.by == u) stamps

-- ---- one more

pub more_changers : (x : Stamp) (xs : List Stamp) → changers xs ≤ changers (x ∷ xs)
more_changers x xs = by_test (has_by x.by xs) (λ e. rw e (omega arith)) (λ e. rw e (omega arith))

-- ---- some are taken back

less_too : (n m : ℕ) → nat_le n (suc m) ≡ false → nat_le n m ≡ false
less_too n m e = grind (arith, nat_tests)

module _ (t n : ℕ) where
  few_below : (x : Stamp) (xs : List Stamp) → nat_le n (length (mine stamp_by t (x ∷ xs))) ≡ false → nat_le n (length (mine stamp_by t xs)) ≡ false
  few_below x xs few = by_test (x.by == t) (λ e. less_too n (length (mine stamp_by t xs)) (rw e at few)) (λ e. rw e at few)

  stamps_all : (xs : List Stamp) → nat_le n (length (mine stamp_by t xs)) ≡ false → kept_to stamp_by t n xs ≡ xs
  stamps_all [] few = refl
  stamps_all (x ∷ xs) few =
      let less = few_below x xs few in
      by_test (x.by == t) (λ e. rw (e, less) (ap (λ (l : List Stamp). x ∷ l) (stamps_all xs less))) (λ e. rw e (ap (λ (l : List Stamp). x ∷ l) (stamps_all xs less)))

  others_stay : (u : ℕ) (xs : List Stamp) → (u ≡ t → ⊥) → has_by u (kept_to stamp_by t n xs) ≡ has_by u xs
  others_stay u [] off = refl
  others_stay u (x ∷ xs) off = by_same x.by t
      (λ e. let here : (x.by == t) ≡ true = eq-eqb x.by t e in
      let not_u : (x.by == u) ≡ false = ne_eqb x.by u (λ f. off (sym f ∙ e)) in
      by_test (nat_le n (length (mine stamp_by t xs)))
      (λ f. rw (here, f, not_u) (others_stay u xs off))
      (λ f. rw (here, f, not_u) (others_stay u xs off)))
      (λ e. let there : (x.by == t) ≡ false = ne_eqb x.by t e in rw there (ap (λ (b : Bool). (x.by == u) || b) (others_stay u xs off)))

  pub fewer_changers : (xs : List Stamp) → changers (kept_to stamp_by t n xs) ≤ changers xs
  fewer_changers [] = omega arith
  fewer_changers (x ∷ xs) =
      let rest = fewer_changers xs in
      by_same x.by t
      (λ e. let here : (x.by == t) ≡ true = eq-eqb x.by t e in
      by_test (nat_le n (length (mine stamp_by t xs)))
      (λ f. rw (here, f) (omega (arith, rest, more_changers x xs)))
      (λ f. rw (here, f) (omega (arith, ap (λ (l : List Stamp). changers (x ∷ l)) (stamps_all xs f)))))
      (λ e. let there : (x.by == t) ≡ false = ne_eqb x.by t e in
      let same = others_stay x.by xs e in
      by_test (has_by x.by xs)
      (λ f. rw there (let g : has_by x.by (kept_to stamp_by t n xs) ≡ true = same ∙ f in rw (f, g) rest))
      (λ f. rw there (let g : has_by x.by (kept_to stamp_by t n xs) ≡ false = same ∙ f in rw (f, g) (omega (arith, rest)))))

-- ---- all are open

not_by : (u : ℕ) (xs : List Stamp) → has_by u xs ≡ false → (y : Stamp) → In y xs → y.by ≡ u → ⊥
not_by u xs none y is e = false_true (in_any (λ (other : Stamp). other.by == u) xs y is (eq-eqb y.by u e)) none

module _ {V : Type 0} where
  one_less : (m : FinMap nat_cmp V) (k : ℕ) → is_some (finite.get m k) ≡ true → finite.len (finite.remove m k) + 1 ≡ finite.len m
  one_less m k some = by (finite.get m k) refl some
    where
      by : (o : Option V) → finite.get m k ≡ o → is_some o ≡ true → finite.len (finite.remove m k) + 1 ≡ finite.len m
      by None is e = absurd (cc (e))
      by (Some v) is e = len_less m k v is

  pub changers_few : (m : FinMap nat_cmp V) (xs : List Stamp) → ((x : Stamp) → In x xs → is_some (finite.get m x.by) ≡ true) → changers xs ≤ finite.len m
  changers_few m [] there = omega arith
  changers_few m (x ∷ xs) there = by_test (has_by x.by xs)
      (λ e. rw e (changers_few m xs (λ y is. there y (inr is))))
      (λ e. rw e (omega (
        arith,
        changers_few (finite.remove m x.by) xs (λ y is. ap is_some (remove_other m x.by y.by (not_by x.by xs e y is)) ∙ there y (inr is)),
        one_less m x.by (there x (inl refl)),
      )))

-- who stamped made a change
pub made_by : (P : ℕ → Type 0) (xs : List Stamp) (cs : List Change) → map stamp_by xs ≡ map maker cs → ((c : Change) → In c cs → P c.by) → (x : Stamp) → In x xs → P x.by
made_by P [] cs same all x is = absurd is
made_by P (y ∷ ys) [] same all x is = absurd (cc (same))
made_by P (y ∷ ys) (c ∷ cs) same all x (inl e) =
    let first : y.by ≡ c.by = cc (same) in
    subst (λ (s : Stamp). P s.by) e (subst P (sym first) (all c (inl refl)))
made_by P (y ∷ ys) (c ∷ cs) same all x (inr is) =
    let rest : map stamp_by ys ≡ map maker cs = cc (same) in
    made_by P ys cs rest (λ d i. all d (inr i)) x is

pub no_stamps : (xs : List Stamp) (cs : List Change) → map stamp_by xs ≡ map maker cs → cs ≡ [] → xs ≡ []
no_stamps [] cs same none = refl
no_stamps (x ∷ xs) [] same none = absurd (cc (same))
no_stamps (x ∷ xs) (c ∷ cs) same none = absurd (cc (none))
