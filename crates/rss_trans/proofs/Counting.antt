-- The counts of a transaction's changes, with one change more or less.
use Rattle.std.proofs.Common.{◌≡◌, ◌≢◌, ◌⊎◌, inl, inr, ℕ, ◌+◌, ◌<◌, ◌≤◌, Bool, true, false, cond, ◌&&◌, List, [], ◌∷◌, ◌++◌, length, get_or, set, refl, sym, ◌∙◌, ap, subst, arith, length-append, length-set, get_or-set_same, get_or-set_other, eqb-true, eq-eqb}
use Rattle.std.specs.Prelude.{Option, Some, None, count_by, ◌==◌}
use Rattle.std.proofs.lemmas.List.{get_or_read}
use Rattle.std.proofs.lemmas.List.Sums.{sum_by-append, count_by-le-length}
use Rattle.rss_trans.specs.declared.noted.Noted.{Noted}
use Rattle.rss_trans.specs.declared.tally.Tally.{Tally}
use Rattle.rss_trans.specs.Transactions.{any, of_relation, is_in, kind, changes_most}
use Rattle.rss_trans.specs.Tallies.{IsTally, AreTallies, more_by, less_by, zero_tally}
use mathlib.Core.Bool.{true≢false}

pub cases : (b : Bool) → (b ≡ true) ⊎ (b ≡ false)
cases true = inl refl
cases false = inr refl

abbrev pub one_if : Bool → ℕ
one_if b = cond b 1 0

one_more : (p : Noted → Bool) (changes : List Noted) (change : Noted) → count_by p (changes ++ change ∷ []) ≡ count_by p changes + one_if (p change)
one_more p changes change = let e = sum_by-append (λ c. cond (p c) 1 0) changes (change ∷ []) in omega (arith, e)

passes : (which : Noted → Bool) (change : Noted) → which change ≡ true → one_if (which change && change.is_delete) ≡ one_if change.is_delete
passes which change e = ap (λ (b : Bool). one_if (b && change.is_delete)) e

fails : (which : Noted → Bool) (change : Noted) → which change ≡ false → one_if (which change && change.is_delete) ≡ 0
fails which change e = ap (λ (b : Bool). one_if (b && change.is_delete)) e

module _ (which : Noted → Bool) (changes : List Noted) (change : Noted) (tally : Tally) where
  abbrev longer : List Noted
  longer = changes ++ change ∷ []

  abbrev deletes : List Noted → ℕ
  deletes cs = count_by (λ c. which c && c.is_delete) cs

  pub tally_more : which change ≡ true → IsTally which changes tally → IsTally which longer (more_by change.is_delete tally)
  tally_more e is =
      let a = is.changes_are in
      let b = is.deletes_are in
      let c = one_more which changes change in
      let d = one_more (λ c. which c && c.is_delete) changes change in
      let f = passes which change e in
      let g : one_if (which change) ≡ 1 = ap one_if e in
      record { changes_are = omega arith; deletes_are = omega arith }

  pub tally_same : which change ≡ false → IsTally which changes tally → IsTally which longer tally
  tally_same e is =
      let a = is.changes_are in
      let b = is.deletes_are in
      let c = one_more which changes change in
      let d = one_more (λ c. which c && c.is_delete) changes change in
      let f = fails which change e in
      let g : one_if (which change) ≡ 0 = ap one_if e in
      record { changes_are = omega arith; deletes_are = omega arith }

  -- enough is counted for the change to be taken away
  pub counts_it : which change ≡ true → IsTally which longer tally → (1 ≤ tally.changes) × (one_if change.is_delete ≤ tally.deletes)
  counts_it e is =
      let a = is.changes_are in
      let b = is.deletes_are in
      let c = one_more which changes change in
      let d = one_more (λ c. which c && c.is_delete) changes change in
      let f = passes which change e in
      let g : one_if (which change) ≡ 1 = ap one_if e in
      (omega arith, omega arith)

  pub tally_less : which change ≡ true → IsTally which longer tally → IsTally which changes (less_by change.is_delete tally)
  tally_less e is =
      let a = is.changes_are in
      let b = is.deletes_are in
      let c = one_more which changes change in
      let d = one_more (λ c. which c && c.is_delete) changes change in
      let f = passes which change e in
      let g : one_if (which change) ≡ 1 = ap one_if e in
      record { changes_are = omega arith; deletes_are = omega arith }

  pub tally_left : which change ≡ false → IsTally which longer tally → IsTally which changes tally
  tally_left e is =
      let a = is.changes_are in
      let b = is.deletes_are in
      let c = one_more which changes change in
      let d = one_more (λ c. which c && c.is_delete) changes change in
      let f = fails which change e in
      let g : one_if (which change) ≡ 0 = ap one_if e in
      record { changes_are = omega arith; deletes_are = omega arith }

-- a count is no more than there are changes
pub tally_few : (which : Noted → Bool) (changes : List Noted) (tally : Tally) → IsTally which changes tally → (tally.changes ≤ length changes) × (tally.deletes ≤ length changes)
tally_few which changes tally is =
    let a = is.changes_are in
    let b = is.deletes_are in
    let c = count_by-le-length which changes in
    let d = count_by-le-length (λ c. which c && c.is_delete) changes in
    (omega arith, omega arith)

-- ---- of all relations

in_itself : (change : Noted) (relation : ℕ) → change.relation ≡ Some relation → of_relation relation change ≡ true
in_itself change relation e = ap (is_in relation) e ∙ eq-eqb relation relation refl

in_other : (change : Noted) (relation other : ℕ) → change.relation ≡ Some relation → relation ≢ other → of_relation other change ≡ false
in_other change relation other e off = ap (is_in other) e ∙ elim (cases (relation == other)) [
  | inl same ↦ absurd (off (eqb-true relation other same))
  | inr apart ↦ apart
]

in_none : (change : Noted) (other : ℕ) → change.relation ≡ None → of_relation other change ≡ false
in_none change other e = ap (is_in other) e

module _ (changes : List Noted) (change : Noted) (all : Tally) (tallies : List Tally) where
  pub noted_in : (relation : ℕ) → change.relation ≡ Some relation → relation < 256 → length changes + 1 ≤ changes_most → AreTallies changes all tallies → AreTallies (changes ++ change ∷ []) (more_by change.is_delete all) (set tallies relation (more_by change.is_delete (get_or tallies relation zero_tally)))
  noted_in relation e within few are = record {
    few = omega (arith, length-append changes (change ∷ []));
    total = tally_more any changes change all refl are.total;
    numbers = length-set tallies relation (more_by change.is_delete (get_or tallies relation zero_tally)) ∙ are.numbers;
    each = λ k below. elim (cases (relation == k)) [
      | inl same ↦
          let is : relation ≡ k = eqb-true relation k same in
          let fits : relation < length tallies = let long : length tallies ≡ 256 = are.numbers in omega arith in
          subst (λ (n : ℕ). IsTally (of_relation n) (changes ++ change ∷ []) (get_or (set tallies relation (more_by change.is_delete (get_or tallies relation zero_tally))) n zero_tally)) is
          (subst (IsTally (of_relation relation) (changes ++ change ∷ [])) (sym (get_or-set_same tallies relation (more_by change.is_delete (get_or tallies relation zero_tally)) zero_tally fits))
          (tally_more (of_relation relation) changes change (get_or tallies relation zero_tally) (in_itself change relation e) (are.each relation within)))
      | inr apart ↦
          let off : relation ≢ k = λ is. true≢false (sym (eq-eqb relation k is) ∙ apart) in
          let away : k ≢ relation = λ is. off (sym is) in
          subst (IsTally (of_relation k) (changes ++ change ∷ [])) (sym (get_or-set_other tallies relation k (more_by change.is_delete (get_or tallies relation zero_tally)) zero_tally away))
          (tally_same (of_relation k) changes change (get_or tallies k zero_tally) (in_other change relation k e off) (are.each k below))
    ];
  }

  pub taken_none : change.relation ≡ None → AreTallies (changes ++ change ∷ []) all tallies → AreTallies changes (less_by change.is_delete all) tallies
  taken_none e are = record {
    few = let most = are.few in omega (arith, length-append changes (change ∷ []));
    total = tally_less any changes change all refl are.total;
    numbers = are.numbers;
    each = λ k below. tally_left (of_relation k) changes change (get_or tallies k zero_tally) (in_none change k e) (are.each k below);
  }

  pub taken_in : (relation : ℕ) → change.relation ≡ Some relation → relation < 256 → AreTallies (changes ++ change ∷ []) all tallies → AreTallies changes (less_by change.is_delete all) (set tallies relation (less_by change.is_delete (get_or tallies relation zero_tally)))
  taken_in relation e within are = record {
    few = let most = are.few in omega (arith, length-append changes (change ∷ []));
    total = tally_less any changes change all refl are.total;
    numbers = length-set tallies relation (less_by change.is_delete (get_or tallies relation zero_tally)) ∙ are.numbers;
    each = λ k below. elim (cases (relation == k)) [
      | inl same ↦
          let is : relation ≡ k = eqb-true relation k same in
          let fits : relation < length tallies = let long : length tallies ≡ 256 = are.numbers in omega arith in
          subst (λ (n : ℕ). IsTally (of_relation n) changes (get_or (set tallies relation (less_by change.is_delete (get_or tallies relation zero_tally))) n zero_tally)) is
          (subst (IsTally (of_relation relation) changes) (sym (get_or-set_same tallies relation (less_by change.is_delete (get_or tallies relation zero_tally)) zero_tally fits))
          (tally_less (of_relation relation) changes change (get_or tallies relation zero_tally) (in_itself change relation e) (are.each relation within)))
      | inr apart ↦
          let off : relation ≢ k = λ is. true≢false (sym (eq-eqb relation k is) ∙ apart) in
          let away : k ≢ relation = λ is. off (sym is) in
          subst (IsTally (of_relation k) changes) (sym (get_or-set_other tallies relation k (less_by change.is_delete (get_or tallies relation zero_tally)) zero_tally away))
          (tally_left (of_relation k) changes change (get_or tallies k zero_tally) (in_other change relation k e off) (are.each k below))
    ];
  }

  pub counts_in : (relation : ℕ) → change.relation ≡ Some relation → relation < 256 → AreTallies (changes ++ change ∷ []) all tallies → (1 ≤ (get_or tallies relation zero_tally).changes) × (one_if change.is_delete ≤ (get_or tallies relation zero_tally).deletes)
  counts_in relation e within are = counts_it (of_relation relation) changes change (get_or tallies relation zero_tally) (in_itself change relation e) (are.each relation within)

-- a tally of a relation is read
pub read_tally : (tallies : List Tally) (relation : ℕ) (read : Tally) → length tallies ≡ 256 → relation < 256 → read ≡ get_or tallies relation read → read ≡ get_or tallies relation zero_tally
read_tally tallies relation read long within is = get_or_read tallies relation read (omega arith) is zero_tally

pub tells_in : (changes : List Noted) (all : Tally) (tallies : List Tally) → AreTallies changes all tallies → (relation : ℕ) → relation < 256 → (read : Tally) → read ≡ get_or tallies relation zero_tally → (which : Option ℕ) → which ≡ Some relation → IsTally (kind which) changes read
tells_in changes all tallies are relation within read is which some =
    subst (λ (o : Option ℕ). IsTally (kind o) changes read) (sym some) (subst (IsTally (of_relation relation) changes) (sym is) (are.each relation within))

pub tells_all : (changes : List Noted) (all : Tally) (tallies : List Tally) → AreTallies changes all tallies → (which : Option ℕ) → which ≡ None → IsTally (kind which) changes all
tells_all changes all tallies are which none = subst (λ (o : Option ℕ). IsTally (kind o) changes all) (sym none) are.total
