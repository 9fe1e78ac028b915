use Rattle.std.proofs.Common.{◌≡◌, ◌⊎◌, inl, inr, ◌<◌, ◌^◌, ◌%◌, ◌*◌, List, ℕ, get_or, set, length, sym, ◌∙◌, ap, subst, length-set, get_or-set_same, get_or-set_other}
use Rattle.std.specs.Prelude.{bit_or}
use Rattle.std.specs.Int.{bit_at, w128}
use Rattle.std.proofs.lemmas.Bool.{cases_eq}
use Rattle.std.proofs.lemmas.Nat.Bits.{bit_at_set_same, bit_at_set_other}
use Rattle.rss_page.specs.Content.{Forward}
use Rattle.rss_tuple.specs.Looks.{IsMarked, MarksGoal}
use Rattle.rss_tuple.proofs.checking.mark.Goals as goal

marks_one : (marks : List ℕ) (page slot : ℕ) → page < length marks → slot < 128 → MarksGoal (Forward page slot) marks (set marks page (bit_or (get_or marks page 0) (1 * 2 ^ slot % 2 ^ 128)))
marks_one marks page slot within low = record {
  size = length-set marks page both;
  marked = λ p s. (
    is_there p s,
    λ either. elim either [
      | inl was ↦ stays p s was
      | inr at ↦ subst (λ (n : ℕ). IsMarked now n s) (the_page p s at) (subst (λ (n : ℕ). IsMarked now page n) (the_slot p s at) here)
    ],
  );
}
  where
    both : ℕ
    both = bit_or (get_or marks page 0) (1 * 2 ^ slot % 2 ^ 128)

    now : List ℕ
    now = set marks page both

    the_page : (p s : ℕ) → Forward page slot ≡ Forward p s → page ≡ p
    the_page p s at = cc

    the_slot : (p s : ℕ) → Forward page slot ≡ Forward p s → slot ≡ s
    the_slot p s at = cc

    word : get_or now page 0 ≡ both
    word = get_or-set_same marks page both 0 within

    here : IsMarked now page slot
    here = ap (λ (n : ℕ). bit_at n slot) word ∙ bit_at_set_same w128 (get_or marks page 0) slot low

    same_word : (s : ℕ) → (s ≡ slot → ⊥) → bit_at (get_or now page 0) s ≡ bit_at (get_or marks page 0) s
    same_word s off = ap (λ (n : ℕ). bit_at n s) word ∙ bit_at_set_other w128 (get_or marks page 0) slot low s off

    other : (p s : ℕ) → (p ≡ page → ⊥) → bit_at (get_or now p 0) s ≡ bit_at (get_or marks p 0) s
    other p s off = ap (λ (n : ℕ). bit_at n s) (get_or-set_other marks page p both 0 off)

    is_there : (p s : ℕ) → IsMarked now p s → IsMarked marks p s ⊎ (Forward page slot ≡ Forward p s)
    is_there p s is = elim (cases_eq p page) [
      | inr off ↦ inl (sym (other p s off) ∙ is)
      | inl at ↦ elim (cases_eq s slot) [
        | inl same ↦ inr (λ i. Forward (sym at i) (sym same i))
        | inr differ ↦ inl (subst (λ (n : ℕ). IsMarked marks n s) (sym at) (sym (same_word s differ) ∙ subst (λ (n : ℕ). IsMarked now n s) at is))
      ]
    ]

    stays : (p s : ℕ) → IsMarked marks p s → IsMarked now p s
    stays p s was = elim (cases_eq p page) [
      | inr off ↦ other p s off ∙ was
      | inl at ↦ elim (cases_eq s slot) [
        | inl same ↦ subst (λ (n : ℕ). IsMarked now n s) (sym at) (subst (λ (n : ℕ). IsMarked now page n) (sym same) here)
        | inr differ ↦ subst (λ (n : ℕ). IsMarked now n s) (sym at) (same_word s differ ∙ subst (λ (n : ℕ). IsMarked marks n s) at was)
      ]
    ]

pub returns-clause-marks : goal.returns-clause-marks
returns-clause-marks c = marks_one c.args.led.now c.args.page c.args.slot c.requires.page c.requires.slot
