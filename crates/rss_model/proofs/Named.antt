-- Lists of names, and what a map of names has once one is put into it or taken out.
use Rattle.std.proofs.Common.{◌≡◌, ◌≢◌, ◌⊎◌, inl, inr, ℕ, zero, suc, ◌+◌, ◌-◌, ◌<◌, ◌≤◌, true, false, List, [], ◌∷◌, length, get_or, refl, sym, ◌∙◌, ap, arith}
use Rattle.std.specs.Prelude.{Some, None, is_some}
use Rattle.std.specs.Ordering.{eq_by_cmp}
use Rattle.std.specs.Cmp.{Equal-is}
use Rattle.std.specs.FinMap as map
use Rattle.std.specs.FinMap.{FinMap, get-insert, get-remove, len-insert, len-remove}
use Rattle.std.specs.List.{list_any}
use Rattle.std.proofs.lemmas.Bool.{cases_Bool, true≢false, cond-true, cond-false, or_parts, or_from, true_from_ne_false}
use Rattle.std.proofs.lemmas.List.Folds.{list_any_at, list_any_none}
use Rattle.rss_base.specs.Names.{AreApart}
use Rattle.rss_base.specs.declared.name.Name.{Name}
use Rattle.rss_model.specs.Items.{name_cmp}
use Rattle.rss_model.specs.Defining.{has_twice}
use Rattle.rss_model.proofs.Codes.{name_total, name_apart}
use Rattle.rss_model.proofs.Contents.{tied, not_tied}

-- ---- names that stand twice

-- the first name is none of the others
not_again : (name : Name) (names : List Name) (k : ℕ) (d : Name) → suc k < length (name ∷ names) → list_any (eq_by_cmp name_cmp name) names ≡ false → name ≡ get_or names k d → ⊥
not_again name names k d lt none same =
    true≢false (sym (list_any_at (eq_by_cmp name_cmp name) names k d (omega (arith, lt)) (ap (eq_by_cmp name_cmp name) (sym same) ∙ tied name_total name_apart name)) ∙ none)

pub apart_once : (names : List Name) → has_twice names ≡ false → AreApart names
apart_once [] none j k d low high same = absurd (omega (arith, low))
apart_once (name ∷ names) none zero zero d low high same = refl
apart_once (name ∷ names) none zero (suc k) d low high same = absurd (not_again name names k d high (or_parts (list_any (eq_by_cmp name_cmp name) names) (has_twice names) none).0 same)
apart_once (name ∷ names) none (suc j) zero d low high same = absurd (not_again name names j d low (or_parts (list_any (eq_by_cmp name_cmp name) names) (has_twice names) none).0 (sym same))
apart_once (name ∷ names) none (suc j) (suc k) d low high same = ap suc (apart_once names (or_parts (list_any (eq_by_cmp name_cmp name) names) (has_twice names) none).1 j k d (omega (arith, low)) (omega (arith, high)) same)

pub once_apart : (names : List Name) → AreApart names → has_twice names ≡ false
once_apart [] apart = refl
once_apart (name ∷ names) apart = or_from (list_any (eq_by_cmp name_cmp name) names) (has_twice names)
    (list_any_none (eq_by_cmp name_cmp name) names (λ k d lt. not_tied name_total name_apart name (get_or names k d) (λ same. absurd (first_again k d lt same))))
    (once_apart names (λ j k d low high same. later j k (apart (suc j) (suc k) d (omega (arith, low)) (omega (arith, high)) same)))
  where
    first_again : (k : ℕ) (d : Name) → k < length names → name ≡ get_or names k d → ⊥
    first_again k d lt same = let one : zero ≡ suc k = apart zero (suc k) d (omega arith) (omega (arith, lt)) same in omega (arith, one)

    later : (j k : ℕ) → suc j ≡ suc k → j ≡ k
    later j k same = omega (arith, same)

-- names that are not apart
pub twice_is : (names : List Name) → (AreApart names → ⊥) → has_twice names ≡ true
twice_is names not = true_from_ne_false (has_twice names) (λ none. not (apart_once names none))

-- one name at two places
pub twice_at : (names : List Name) (j k : ℕ) (d : Name) → j < k → k < length names → get_or names j d ≡ get_or names k d → has_twice names ≡ true
twice_at names j k d less low same = twice_is names (λ apart. let one : j ≡ k = apart j k d (omega (arith, less, low)) low same in omega (arith, one, less))

-- ---- a map of names

-- a name is another, or the same
pub cases_name : (q name : Name) → (q ≡ name) ⊎ (eq_by_cmp name_cmp q name ≡ false)
cases_name q name = elim (cases_Bool (eq_by_cmp name_cmp q name)) [
  | inl same ↦ inl (name_apart q name ((Equal-is (name_cmp q name)).0 same))
  | inr other ↦ inr other
]

module _ {X : Type 0} (m : FinMap name_cmp X) (name : Name) where
  pub made_here : (x : X) → map.get (map.insert m name x) name ≡ Some x
  made_here x = get-insert name_total m name x name ∙ cond-true _ (Some x) (map.get m name) (tied name_total name_apart name)

  pub made_other : (x : X) (q : Name) → q ≢ name → map.get (map.insert m name x) q ≡ map.get m q
  made_other x q other = get-insert name_total m name x q ∙ cond-false _ (Some x) (map.get m q) (not_tied name_total name_apart q name other)

  -- what is found now is the new one, or it was there
  pub made : (x : X) (q : Name) → (q ≡ name) ⊎ (map.get (map.insert m name x) q ≡ map.get m q)
  made x q = elim (cases_name q name) [
    | inl same ↦ inl same
    | inr other ↦ inr (get-insert name_total m name x q ∙ cond-false _ (Some x) (map.get m q) other)
  ]

  -- what was there still is
  pub made_still : (x : X) (q : Name) → is_some (map.get m q) ≡ true → is_some (map.get (map.insert m name x) q) ≡ true
  made_still x q there = elim (cases_name q name) [
    | inl same ↦ ap (λ (n : Name). is_some (map.get (map.insert m name x) n)) same ∙ ap is_some (made_here x)
    | inr other ↦ ap is_some (get-insert name_total m name x q ∙ cond-false _ (Some x) (map.get m q) other) ∙ there
  ]

  pub made_len : (x : X) → is_some (map.get m name) ≡ false → map.len (map.insert m name x) ≡ map.len m + 1
  made_len x fresh = len-insert name_total m name x ∙ cond-false _ (map.len m) (map.len m + 1) fresh

  pub gone_here : map.get (map.remove m name) name ≡ None
  gone_here = get-remove name_total m name name ∙ cond-true _ None (map.get m name) (tied name_total name_apart name)

  pub gone_other : (q : Name) → q ≢ name → map.get (map.remove m name) q ≡ map.get m q
  gone_other q other = get-remove name_total m name q ∙ cond-false _ None (map.get m q) (not_tied name_total name_apart q name other)

  -- what is found now is another, and was there
  pub gone : (q : Name) → is_some (map.get (map.remove m name) q) ≡ true → (q ≢ name) × (map.get (map.remove m name) q ≡ map.get m q)
  gone q there =
      let other : q ≢ name = λ same. true≢false (sym there ∙ ap (λ (n : Name). is_some (map.get (map.remove m name) n)) same ∙ ap is_some gone_here) in
      (other, gone_other q other)

  pub gone_len : map.len (map.remove m name) ≤ map.len m
  gone_len = elim (cases_Bool (map.contains_key m name)) [
    | inl there ↦ omega (arith, len-remove name_total m name, cond-true _ (map.len m - 1) (map.len m) there)
    | inr absent ↦ omega (arith, len-remove name_total m name, cond-false _ (map.len m - 1) (map.len m) absent)
  ]
