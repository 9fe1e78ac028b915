-- Two pages of a slice, by the two parts of a cut.
use Rattle.std.proofs.Common.{◌≡◌, ℕ, ◌-◌, ◌<◌, List, [], ◌++◌, length, get_or, set, take, drop, sym, ◌∙◌, ap, arith}
use Rattle.std.proofs.lemmas.List.{take-append-drop, length-take-le, length-set, set-append_left, set-append_right, set_comm, get_or-take, get_or-drop}
use Rattle.rss_frames.specs.Pairs.{page_at, with_two}

module _ (pages : List (List ℕ)) (low high : ℕ) (order : low < high) (within : high < length pages) (l r : List (List ℕ)) (le : l ≡ take high pages) (re : r ≡ drop high pages) where
  len : length l ≡ high
  len = ap length le ∙ length-take-le high pages (omega arith)

  whole : pages ≡ l ++ r
  whole = sym (ap (λ (k : List (List ℕ)). k ++ r) le ∙ ap (λ (k : List (List ℕ)). take high pages ++ k) re ∙ take-append-drop high pages)

  pub both : (v w : List ℕ) → set l low v ++ set r 0 w ≡ with_two pages low high v w
  both v w =
      let none : high - high ≡ 0 = omega arith in
      let len' : length (set l low v) ≡ high = simp length-set len in
      sym (ap (λ (k : List (List ℕ)). set (set k low v) high w) whole
      ∙ ap (λ (k : List (List ℕ)). set k high w) (set-append_left l r low v (omega (arith, len)))
      ∙ set-append_right (set l low v) r high high w len' (omega arith)
      ∙ ap (λ (k : ℕ). set l low v ++ set r k w) none)

  pub both_turned : (v w : List ℕ) → set l low w ++ set r 0 v ≡ with_two pages high low v w
  both_turned v w = both w v ∙ set_comm pages low high w v (omega arith)

  pub low_page : get_or l low [] ≡ page_at pages low
  low_page = ap (λ (k : List (List ℕ)). get_or k low []) le ∙ get_or-take high pages low [] order

  pub high_page : get_or r 0 [] ≡ page_at pages high
  high_page = ap (λ (k : List (List ℕ)). get_or k 0 []) re ∙ get_or-drop high pages 0 [] ∙ ap (λ (k : ℕ). get_or pages k []) (omega arith)
