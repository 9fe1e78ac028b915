-- The bytes of a ring by their positions.
use Rattle.std.proofs.Common.{◌≡◌, ◌≢◌, ℕ, zero, suc, ◌+◌, ◌-◌, ◌/◌, ◌%◌, ◌<◌, ◌≤◌, List, [], ◌∷◌, ◌++◌, length, take, drop, get_or, inl, inr, refl, sym, ◌∙◌, ap, arith}
use Rattle.std.proofs.lemmas.Bool.{cases_lt}
use Rattle.std.proofs.lemmas.Nat.{row_fits, div-add-mod'}
use Rattle.std.proofs.lemmas.List.{drop_at, take_at}
use Rattle.std.proofs.Math.Nat.{mul-le-mul_right}
use Rattle.rss_log.specs.Rings.{ring_bytes}

-- ---- positions

-- fewer apart than the ring is long, positions stand in different places
pub ring_apart : (ring j k : ℕ) → j < k → k < j + ring → j % ring ≡ k % ring → ⊥
ring_apart ring j k lt near same = elim (cases_lt (j / ring) (k / ring)) [
  | inl below ↦ omega (arith, row_fits (j / ring) ring (k / ring) ring below (omega arith), div-add-mod' j ring, div-add-mod' k ring)
  | inr past ↦ omega (arith, mul-le-mul_right ring past, div-add-mod' j ring, div-add-mod' k ring)
]

-- ---- bytes in a row

pub length-ring_bytes : (ring : List ℕ) (position n : ℕ) → length (ring_bytes ring position n) ≡ n
length-ring_bytes ring position zero = refl
length-ring_bytes ring position (suc n) = ap suc (length-ring_bytes ring (position + 1) n)

pub ring_bytes-append : (ring : List ℕ) (position m n : ℕ) → ring_bytes ring position (m + n) ≡ ring_bytes ring position m ++ ring_bytes ring (position + m) n
ring_bytes-append ring position zero n =
    let none : 0 + n ≡ n = omega arith in
    let here : position ≡ position + 0 = omega arith in
    ap (ring_bytes ring position) none ∙ ap (λ (p : ℕ). ring_bytes ring p n) here
ring_bytes-append ring position (suc m) n =
    let one : suc m + n ≡ suc (m + n) = omega arith in
    let next : position + 1 + m ≡ position + suc m = omega arith in
    ap (ring_bytes ring position) one
    ∙ ap (λ (l : List ℕ). get_or ring (position % length ring) 0 ∷ l) (ring_bytes-append ring (position + 1) m n ∙ ap (λ (p : ℕ). ring_bytes ring (position + 1) m ++ ring_bytes ring p n) next)

-- the bytes from a later position on
pub drop-ring_bytes : (ring : List ℕ) (position later n : ℕ) → position ≤ later → later ≤ position + n → drop (later - position) (ring_bytes ring position n) ≡ ring_bytes ring later (position + n - later)
drop-ring_bytes ring position later n low high =
    let parts : n ≡ (later - position) + (position + n - later) = omega arith in
    let at : position + (later - position) ≡ later = omega arith in
    let front : List ℕ = ring_bytes ring position (later - position) in
    ap (λ (m : ℕ). drop (later - position) (ring_bytes ring position m)) parts
    ∙ ap (drop (later - position)) (ring_bytes-append ring position (later - position) (position + n - later))
    ∙ drop_at front (ring_bytes ring (position + (later - position)) (position + n - later)) (later - position) (length-ring_bytes ring position (later - position))
    ∙ ap (λ (p : ℕ). ring_bytes ring p (position + n - later)) at

-- the first bytes
pub take-ring_bytes : (ring : List ℕ) (position m n : ℕ) → m ≤ n → take m (ring_bytes ring position n) ≡ ring_bytes ring position m
take-ring_bytes ring position m n le =
    let parts : n ≡ m + (n - m) = omega arith in
    ap (λ (k : ℕ). take m (ring_bytes ring position k)) parts
    ∙ ap (take m) (ring_bytes-append ring position m (n - m))
    ∙ take_at (ring_bytes ring position m) (ring_bytes ring (position + m) (n - m)) m (length-ring_bytes ring position m)

-- ---- what a write leaves

-- bytes that stand in the places of their positions
pub ring_bytes_are : (ring bytes : List ℕ) (position : ℕ) → ((j : ℕ) → j < length bytes → get_or ring ((position + j) % length ring) 0 ≡ get_or bytes j 0) → ring_bytes ring position (length bytes) ≡ bytes
ring_bytes_are ring [] position each = refl
ring_bytes_are ring (b ∷ bytes) position each =
    let here : position + 0 ≡ position = omega arith in
    let first : get_or ring (position % length ring) 0 ≡ b = ap (λ (p : ℕ). get_or ring (p % length ring) 0) (sym here) ∙ each 0 (omega arith) in
    let rest : ring_bytes ring (position + 1) (length bytes) ≡ bytes = ring_bytes_are ring bytes (position + 1) (λ j lt.
    let next : position + 1 + j ≡ position + suc j = omega arith in
    ap (λ (p : ℕ). get_or ring (p % length ring) 0) next ∙ each (suc j) (omega arith)) in
    λ i. first i ∷ rest i

-- rings that have the same bytes in these places
pub ring_bytes_same : (ring other : List ℕ) (position n : ℕ) → length ring ≡ length other → ((k : ℕ) → k < n → get_or ring ((position + k) % length ring) 0 ≡ get_or other ((position + k) % length ring) 0) → ring_bytes ring position n ≡ ring_bytes other position n
ring_bytes_same ring other position zero long each = refl
ring_bytes_same ring other position (suc n) long each =
    let here : position + 0 ≡ position = omega arith in
    let first : get_or ring (position % length ring) 0 ≡ get_or other (position % length other) 0 =
    ap (λ (p : ℕ). get_or ring (p % length ring) 0) (sym here) ∙ each 0 (omega arith) ∙ (λ i. get_or other (here i % long i) 0) in
    let rest : ring_bytes ring (position + 1) n ≡ ring_bytes other (position + 1) n = ring_bytes_same ring other (position + 1) n long (λ k lt.
    let next : position + 1 + k ≡ position + suc k = omega arith in
    ap (λ (p : ℕ). get_or ring (p % length ring) 0) next ∙ each (suc k) (omega arith) ∙ ap (λ (p : ℕ). get_or other (p % length ring) 0) (sym next)) in
    λ i. first i ∷ rest i

-- Bytes that were written behind others, in a ring that has room for all of them, stand behind them.
pub written_behind : (old new bytes : List ℕ) (base position : ℕ) → length new ≡ length old → base ≤ position → position + length bytes ≤ base + length old
    → ((j : ℕ) → j < length bytes → get_or new ((position + j) % length old) 0 ≡ get_or bytes j 0)
    → ((q : ℕ) → ((j : ℕ) → j < length bytes → q ≢ (position + j) % length old) → get_or new q 0 ≡ get_or old q 0)
    → ring_bytes new base (position + length bytes - base) ≡ ring_bytes old base (position - base) ++ bytes
written_behind old new bytes base position long order room written others =
    let n : ℕ = position - base in
    let parts : position + length bytes - base ≡ n + length bytes = omega arith in
    let at : base + n ≡ position = omega arith in
    let back : ring_bytes new position (length bytes) ≡ bytes = ring_bytes_are new bytes position (λ j lt. ap (λ (m : ℕ). get_or new ((position + j) % m) 0) long ∙ written j lt) in
    let front : ring_bytes new base n ≡ ring_bytes old base n = ring_bytes_same new old base n long (λ k lt.
    others ((base + k) % length new) (λ j below is. ring_apart (length old) (base + k) (position + j) (omega arith) (omega arith) (ap (λ (m : ℕ). (base + k) % m) (sym long) ∙ is))) in
    ap (ring_bytes new base) parts ∙ ring_bytes-append new base n (length bytes) ∙ (λ i. front i ++ (ap (λ (p : ℕ). ring_bytes new p (length bytes)) at ∙ back) i)
