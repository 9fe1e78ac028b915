-- The two numbers of an identifier.
use Rattle.std.proofs.Common.{◌≡◌, ◌∙◌, ℕ, ◌^◌, ◌<◌, List, [], ◌∷◌, ◌++◌, length, get_or, Option, Some, None, ap₂, sym, arith, append_assoc}
use Rattle.std.specs.Prelude.{◌≢◌, MatchOption, codes, decimal}
use Rattle.std.specs.Borrow.{Bor}
use Rattle.std.specs.Str.Parse.{AllDigits}
use Rattle.std.proofs.lemmas.Fmt.{digits_decimal}
use Rattle.std.proofs.lemmas.Str.Parse.{numerals_by_value, tells_digits, not_in_digits}
use Rattle.std.proofs.lemmas.Str.Pattern.{IsSplitOnceResult, split_after, split_parts}
use Rattle.std.proofs.lemmas.Option.{MatchOption-at_none, MatchOption-at_some}
use Rattle.rss_base.specs.declared.tid.Tid.{Tid}
use Rattle.rss_model.specs.Script.{IsTid}

pub no_point : (n : ℕ) → n < 2 ^ 64 → (i : ℕ) → i < length (decimal n) → get_or (decimal n) i 0 ≢ 46
no_point n small = let own = numerals_by_value (AllDigits 10) tells_digits in
    not_in_digits own (decimal n) 46 (digits_decimal own n small) (λ h. omega arith)

module _ (word : List ℕ) (r : Option (Bor (List ℕ) × Bor (List ℕ))) (tid : Tid) (cut : IsSplitOnceResult 46 word r) (is : IsTid word tid) where
  parts : MatchOption r ⊥ (λ x. (x.0.now ≡ decimal tid.page) × (x.1.now ≡ decimal tid.slot))
  parts = split_after 46 word (decimal tid.page) (decimal tid.slot) r cut (omega arith)
      (is.spelled ∙ append_assoc (decimal tid.page) (codes ".") (decimal tid.slot)) (no_point tid.page (let h = is.page in omega arith))

  pub tid_cut : r ≡ None → ⊥
  tid_cut none = MatchOption-at_none ⊥ (λ x. (x.0.now ≡ decimal tid.page) × (x.1.now ≡ decimal tid.slot)) none parts

  pub tid_parts : (x : Bor (List ℕ) × Bor (List ℕ)) → r ≡ Some x → (x.0.now ≡ decimal tid.page) × (x.1.now ≡ decimal tid.slot)
  tid_parts x some = MatchOption-at_some ⊥ (λ x. (x.0.now ≡ decimal tid.page) × (x.1.now ≡ decimal tid.slot)) x some parts

pub same_tid : (x y : Tid) → x.page ≡ y.page → x.slot ≡ y.slot → x ≡ y
same_tid x y page slot = ap₂ (λ p s. record { page = p; slot = s }) page slot

-- what is cut at a byte stands on both sides of it
pub cut_at : (c : ℕ) → c < 128 → (word : List ℕ) (r : Option (Bor (List ℕ) × Bor (List ℕ))) (x : Bor (List ℕ) × Bor (List ℕ)) → IsSplitOnceResult c word r → r ≡ Some x → word ≡ x.0.now ++ (c ∷ []) ++ x.1.now
cut_at c low word r x cut some =
    (MatchOption-at_some ((i : ℕ) → i < length word → get_or word i 0 ≢ c)
    (λ y. (word ≡ y.0.now ++ (c ∷ y.1.now)) × ((i : ℕ) → i < length y.0.now → get_or y.0.now i 0 ≢ c)) x some (split_parts c word r cut low)).0
    ∙ sym (append_assoc x.0.now (c ∷ []) x.1.now)
