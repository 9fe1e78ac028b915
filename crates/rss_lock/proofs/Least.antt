-- The least number of which a fact holds, once the fact holds of more.
use Rattle.std.proofs.Common.{◌≡◌, ◌⊎◌, inl, inr, ℕ, ◌+◌, ◌<◌, ◌≤◌, min, List, get_or, sym, ◌∙◌, ap, subst, arith}
use Rattle.std.specs.Prelude.{Option, Some, None}
use Rattle.std.proofs.lemmas.Bool.{cases_lt}
use Rattle.rss_base.specs.declared.need.Mode.{Mode}
use Rattle.rss_lock.specs.declared.places.Holder.{Holder}
use Rattle.rss_lock.specs.Table.{IsLeast, IsLeastOf, DisagreesAt, DisagreesIn, is_of, lesser}
use mathlib.Core.Bool.{true≢false}

-- the same numbers
pub least_kept : (P Q : ℕ → Type 0) (least : Option ℕ) → ((t : ℕ) → P t → Q t) → ((t : ℕ) → Q t → P t) → IsLeastOf P least → IsLeastOf Q least
least_kept P Q None there back none = λ t q. none t (back t q)
least_kept P Q (Some n) there back is = record { here = there n is.here; least = λ t q. is.least t (back t q) }

-- one more
pub least_more : (P Q : ℕ → Type 0) (least : Option ℕ) (more : ℕ) → ((t : ℕ) → P t → Q t) → Q more → ((t : ℕ) → Q t → P t ⊎ (t ≡ more)) → IsLeastOf P least → IsLeast Q (lesser least more)
least_more P Q None more there new back none = record {
  here = new;
  least = λ t q. elim (back t q) [ inl p ↦ absurd (none t p) | inr same ↦ omega arith ];
}
least_more P Q (Some n) more there new back is = record {
  here = elim (cases_lt n more) [
    | inl below ↦ let e : min n more ≡ n = omega arith in subst Q (sym e) (there n is.here)
    | inr above ↦ let e : min n more ≡ more = omega arith in subst Q (sym e) new
  ];
  least = λ t q. elim (back t q) [
    | inl p ↦ let below : n ≤ t = is.least t p in omega arith
    | inr same ↦ omega arith
  ];
}

-- ---- of the places below one and that one

module _ (holders : List (Option Holder)) (modes : List (Option Mode)) (mode : Mode) (besides : Option ℕ) (end : ℕ) where
  abbrev Below : ℕ → Type 0
  Below = DisagreesIn holders modes mode besides end

  abbrev To : ℕ → Type 0
  To = DisagreesIn holders modes mode besides (end + 1)

  abbrev Here : ℕ → Type 0
  Here = DisagreesAt (get_or holders end None) (get_or modes end None) mode besides

  wider : (t : ℕ) → Below t → To t
  wider t p = record { place = p.place; within = let below : p.place < end = p.within in omega arith; there = p.there }

  pub here_too : (t : ℕ) → Here t → To t
  here_too t h = record { place = end; within = omega arith; there = h }

  last : (t place : ℕ) → place < end + 1 → DisagreesAt (get_or holders place None) (get_or modes place None) mode besides t → Below t ⊎ Here t
  last t place within there = elim (cases_lt place end) [
    | inl below ↦ inl (record { place = place; within = below; there = there })
    | inr above ↦ let e : place ≡ end = omega arith in
        inr (subst (λ (k : ℕ). DisagreesAt (get_or holders k None) (get_or modes k None) mode besides t) e there)
  ]

  -- none is found there
  pub least_skips : (least : Option ℕ) → ((t : ℕ) → Here t → ⊥) → IsLeastOf Below least → IsLeastOf To least
  least_skips least none is = least_kept Below To least wider (λ t q. elim (last t q.place q.within q.there) [ inl p ↦ p | inr h ↦ absurd (none t h) ]) is

  pub least_finds : (least : Option ℕ) (found : ℕ) → Here found → ((t : ℕ) → Here t → t ≡ found) → IsLeastOf Below least → IsLeast To (lesser least found)
  least_finds least found here one is = least_more Below To least found wider (here_too found here) (λ t q. elim (last t q.place q.within q.there) [ inl p ↦ inl p | inr h ↦ inr (one t h) ]) is

-- ---- of all places, where those from an end on are free

pub least_whole : (holders : List (Option Holder)) (modes : List (Option Mode)) (mode : Mode) (besides : Option ℕ) (end : ℕ) (least : Option ℕ) → end ≤ 32 → ((k : ℕ) → end ≤ k → get_or holders k None ≡ None)
    → IsLeastOf (DisagreesIn holders modes mode besides end) least → IsLeastOf (DisagreesIn holders modes mode besides 32) least
least_whole holders modes mode besides end least few free = least_kept (DisagreesIn holders modes mode besides end) (DisagreesIn holders modes mode besides 32) least
    (λ t d. let below : d.place < end = d.within in record { place = d.place; within = omega arith; there = d.there })
    (λ t d. elim (cases_lt d.place end) [
      | inl below ↦ record { place = d.place; within = below; there = d.there }
      | inr past ↦ absurd (true≢false (sym d.there.of ∙ ap (is_of t) (free d.place past)))
    ])
