use Rattle.std.proofs.Common.{◌≡◌, inl, inr, ◌<◌, ◌≤◌, ◌*◌, ◌/◌, ◌%◌, ◌^◌, ℕ, List, [], ◌∷◌, length, get_or, set, refl, sym, ◌∙◌, ap, subst, arith, length-set, get_or-set_same, get_or-set_other}
use Rattle.std.specs.Prelude.{bit_or}
use Rattle.std.specs.Int.{bit_at, w64}
use Rattle.std.proofs.lemmas.Bool.{cases_eq}
use Rattle.std.proofs.lemmas.Nat.Bits.{bit_at_set_same, bit_at_set_other}
use Rattle.rss_image.specs.Marks.{IsMarked, MarksAll}
use Rattle.rss_image.proofs.marks.mark.Goals as goal

marks_past : (marks : List ℕ) (number : ℕ) → length marks ≤ number / 64 → MarksAll (number ∷ []) marks marks
marks_past marks number past = record {
  only = record { size = refl; kept = λ other is. is; only = λ other is. inl is };
  all = λ other is low. elim is [
    | inl same ↦ absurd (omega (arith, same, low, past))
    | inr none ↦ absurd none
  ];
}

marks_one : (marks : List ℕ) (number : ℕ) → number / 64 < length marks → MarksAll (number ∷ []) marks (set marks (number / 64) (bit_or (get_or marks (number / 64) 0) (1 * 2 ^ (number % 64) % 2 ^ 64)))
marks_one marks number within = record {
  only = record {
    size = length-set marks (number / 64) both;
    kept = λ other was. elim (cases_eq other number) [
      | inl same ↦ subst (IsMarked now) (sym same) here
      | inr differ ↦ off other differ ∙ was
    ];
    only = λ other is. elim (cases_eq other number) [
      | inl same ↦ inr (inl (sym same))
      | inr differ ↦ inl (sym (off other differ) ∙ is)
    ];
  };
  all = λ other is low. elim is [
    | inl same ↦ subst (IsMarked now) same here
    | inr none ↦ absurd none
  ];
}
  where
    both : ℕ
    both = bit_or (get_or marks (number / 64) 0) (1 * 2 ^ (number % 64) % 2 ^ 64)

    now : List ℕ
    now = set marks (number / 64) both

    low : number % 64 < 64
    low = omega arith

    word : get_or now (number / 64) 0 ≡ both
    word = get_or-set_same marks (number / 64) both 0 within

    here : IsMarked now number
    here = ap (λ (n : ℕ). bit_at n (number % 64)) word ∙ bit_at_set_same w64 (get_or marks (number / 64) 0) (number % 64) low

    same_word : (bit : ℕ) → (bit ≡ number % 64 → ⊥) → bit_at (get_or now (number / 64) 0) bit ≡ bit_at (get_or marks (number / 64) 0) bit
    same_word bit apart = ap (λ (n : ℕ). bit_at n bit) word ∙ bit_at_set_other w64 (get_or marks (number / 64) 0) (number % 64) low bit apart

    off : (other : ℕ) → (other ≡ number → ⊥) → bit_at (get_or now (other / 64) 0) (other % 64) ≡ bit_at (get_or marks (other / 64) 0) (other % 64)
    off other differ = elim (cases_eq (other / 64) (number / 64)) [
      | inr apart ↦ ap (λ (n : ℕ). bit_at n (other % 64)) (get_or-set_other marks (number / 64) (other / 64) both 0 apart)
      | inl same ↦
          ap (λ (n : ℕ). bit_at (get_or now n 0) (other % 64)) same
          ∙ same_word (other % 64) (λ bits. differ (omega (arith, same, bits)))
          ∙ ap (λ (n : ℕ). bit_at (get_or marks n 0) (other % 64)) (sym same)
    ]

pub returns-then-at-marks : goal.returns-then-at-marks
returns-then-at-marks c = marks_past c.args.marks.now c.args.number (omega arith)

pub returns : goal.returns
returns c = marks_one c.args.marks.now c.args.number (omega arith)
