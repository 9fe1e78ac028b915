-- Records in a row, from the last one on.
use Rattle.std.proofs.Common.{◌≡◌, ℕ, ◌-◌, ◌<◌, ◌≤◌, suc, List, ◌∷◌, ◌++◌, length, drop, get_or, sym, ap, ◌∙◌, arith}
use Rattle.std.proofs.Math.Seq.{drop-cons}
use Rattle.rss_restart.specs.declared.survey.walk.Kept.{Kept}
use Rattle.rss_restart.specs.declared.survey.walk.Placed.{Placed}
use Rattle.rss_restart.specs.Events.{passed, front, kept_at, kept_in, lost}

one_more : {X : Type 0} (xs : List X) (i : ℕ) (d : X) → 0 < i → i ≤ length xs → drop (i - 1) xs ≡ get_or xs (i - 1) d ∷ drop i xs
one_more xs i d some within =
    let next : suc (i - 1) ≡ i = omega arith in
    drop-cons xs (i - 1) d (omega arith) ∙ ap (λ (n : ℕ). get_or xs (i - 1) d ∷ drop n xs) next

module _ (ended : ℕ) (behind now : ℕ → ℕ) (ps : List Placed) (i : ℕ) (d : Placed) (some : 0 < i) (within : i ≤ length ps) (is : (t : ℕ) → now t ≡ front ended behind (drop i ps) t) where
  pub front_more : (t : ℕ) → passed ended (get_or ps (i - 1) d).event t (now t) ≡ front ended behind (drop (i - 1) ps) t
  front_more t =
      ap (passed ended (get_or ps (i - 1) d).event t) (is t)
      ∙ ap (λ (qs : List Placed). front ended behind qs t) (sym (one_more ps i d some within))

  pub kept_more : (kept : List Kept) → kept ≡ kept_in ended behind (drop i ps) → kept ++ kept_at (get_or ps (i - 1) d).at (get_or ps (i - 1) d).event now ≡ kept_in ended behind (drop (i - 1) ps)
  kept_more kept is_kept =
      (λ j. is_kept j ++ kept_at (get_or ps (i - 1) d).at (get_or ps (i - 1) d).event (λ t. is t j))
      ∙ ap (kept_in ended behind) (sym (one_more ps i d some within))

-- ---- the same positions behind

pub kept_same : (ended too : ℕ) (f g : ℕ → ℕ) (ps : List Placed) → ended ≡ too → ((t : ℕ) → f t ≡ g t) → kept_in ended f ps ≡ kept_in too g ps
kept_same ended too f g ps e same = λ j. kept_in (e j) (λ t. same t j) ps

pub front_same : (ended too : ℕ) (f g : ℕ → ℕ) (ps : List Placed) (t : ℕ) → ended ≡ too → ((u : ℕ) → f u ≡ g u) → front ended f ps t ≡ front too g ps t
front_same ended too f g ps t e same = λ j. front (e j) (λ u. same u j) ps t

pub lost_same : (f g : ℕ → ℕ) (changes : List Kept) → ((t : ℕ) → f t ≡ g t) → lost f changes ≡ lost g changes
lost_same f g changes same = λ j. lost (λ t. same t j) changes
