-- The entries of a page, one of them written.
use Rattle.std.proofs.Common.{◌≡◌, ◌≢◌, inl, inr, ℕ, ◌+◌, ◌-◌, ◌*◌, ◌<◌, ◌≤◌, List, ◌++◌, length, take, drop, ◌∙◌, ap, arith, length-take-le, length-drop, length-append, append_assoc}
use Rattle.std.proofs.lemmas.Bool.{cases_lt}
use Rattle.std.proofs.lemmas.List.{drop_at, take_at, drop-append-le, take-append-le, drop-take, take-take, drop-drop}
use Rattle.std.proofs.Math.Seq.{drop-append-add}

pub entry_put : (page bytes : List ℕ) (j : ℕ) → length bytes ≡ 8 → 8 * j + 8 ≤ length page → take 8 (drop (8 * j) (take (8 * j) page ++ bytes ++ drop (8 * j + length bytes) page)) ≡ bytes
entry_put page bytes j eight within =
    let rest : List ℕ = drop (8 * j + length bytes) page in
    ap (λ (l : List ℕ). take 8 (drop (8 * j) l)) (append_assoc (take (8 * j) page) bytes rest)
    ∙ ap (λ (l : List ℕ). take 8 l) (drop_at (take (8 * j) page) (bytes ++ rest) (8 * j) (length-take-le (8 * j) page (omega arith)))
    ∙ take_at bytes rest 8 eight

-- the entries in front of a place stay
before : (page rest : List ℕ) (j k : ℕ) → 8 * j ≤ length page → k < j → take 8 (drop (8 * k) (take (8 * j) page ++ rest)) ≡ take 8 (drop (8 * k) page)
before page rest j k within lt =
    let front : List ℕ = take (8 * j) page in
    let long : length front ≡ 8 * j = length-take-le (8 * j) page within in
    ap (λ (l : List ℕ). take 8 l) (drop-append-le (8 * k) front rest (omega arith))
    ∙ take-append-le 8 (drop (8 * k) front) rest (omega (arith, length-drop (8 * k) front))
    ∙ ap (λ (n : ℕ). take 8 (drop (8 * k) (take n page))) (omega arith)
    ∙ ap (λ (l : List ℕ). take 8 l) (drop-take (8 * k) (8 * j - 8 * k) page)
    ∙ take-take 8 (8 * j - 8 * k) (drop (8 * k) page) (omega arith)

-- and those behind it
behind : (page front : List ℕ) (j k : ℕ) → length front ≡ 8 * j + 8 → j < k → drop (8 * k) (front ++ drop (8 * j + 8) page) ≡ drop (8 * k) page
behind page front j k long lt =
    ap (λ (n : ℕ). drop n (front ++ drop (8 * j + 8) page)) (omega arith)
    ∙ drop-append-add front (drop (8 * j + 8) page) (8 * k - (8 * j + 8))
    ∙ drop-drop (8 * k - (8 * j + 8)) (8 * j + 8) page
    ∙ ap (λ (n : ℕ). drop n page) (omega arith)

pub entry_kept : (page bytes : List ℕ) (j k : ℕ) → length bytes ≡ 8 → 8 * j + 8 ≤ length page → k ≢ j → take 8 (drop (8 * k) (take (8 * j) page ++ bytes ++ drop (8 * j + length bytes) page)) ≡ take 8 (drop (8 * k) page)
entry_kept page bytes j k eight within other = elim (cases_lt k j) [
  | inl lt ↦
      ap (λ (l : List ℕ). take 8 (drop (8 * k) l)) (append_assoc (take (8 * j) page) bytes (drop (8 * j + length bytes) page))
      ∙ before page (bytes ++ drop (8 * j + length bytes) page) j k (omega arith) lt
  | inr le ↦
      ap (λ (n : ℕ). take 8 (drop (8 * k) (take (8 * j) page ++ bytes ++ drop (8 * j + n) page))) eight
      ∙ ap (λ (l : List ℕ). take 8 l) (behind page (take (8 * j) page ++ bytes) j k (omega (arith, length-append (take (8 * j) page) bytes, length-take-le (8 * j) page (omega arith))) (omega arith))
]
