-- Parts of a page, where some bytes of it are written.
use Rattle.std.proofs.Common.{◌≡◌, ◌⊎◌, inl, inr, ⊎_elim, ℕ, suc, zero, ◌+◌, ◌-◌, ◌<◌, ◌≤◌, List, [], ◌∷◌, ◌++◌, length, take, drop, get_or, replicate, sym, ◌∙◌, ap, arith, length-take-le, length-drop, length-append, append_assoc}
use Rattle.std.proofs.lemmas.List.{drop_at, take_at, drop-append-le, take-append-le, drop-take, take-take, drop-drop, get_or-take, get_or-drop, get_or_past, length-take, take-replicate, drop-replicate}
use Rattle.std.proofs.lemmas.Bool.{cases_lt}
use Rattle.std.specs.Int.{w16, w32, to_be_bytes}
use Rattle.std.proofs.Math.Seq.{drop-append-add}
use Rattle.rss_node.specs.Nodes.{part, put, IsBytes}

pub length-put : (page : List ℕ) (at : ℕ) (bytes : List ℕ) → at + length bytes ≤ length page → length (put page at bytes) ≡ length page
length-put page at bytes within = omega (arith, length-append (take at page ++ bytes) (drop (at + length bytes) page), length-append (take at page) bytes, length-take-le at page (omega arith), length-drop (at + length bytes) page)

pub part_put : (page : List ℕ) (at : ℕ) (bytes : List ℕ) → at + length bytes ≤ length page → part (put page at bytes) at (length bytes) ≡ bytes
part_put page at bytes within =
    let rest : List ℕ = drop (at + length bytes) page in
    ap (λ (l : List ℕ). part l at (length bytes)) (append_assoc (take at page) bytes rest)
    ∙ ap (λ (l : List ℕ). take (length bytes) l) (drop_at (take at page) (bytes ++ rest) at (length-take-le at page (omega arith)))
    ∙ take_at bytes rest (length bytes) (λ i. length bytes)

-- what stands in front of the bytes stays
pub before : (page rest : List ℕ) (at from count : ℕ) → at ≤ length page → from + count ≤ at → part (take at page ++ rest) from count ≡ part page from count
before page rest at from count within lt =
    let front : List ℕ = take at page in
    let long : length front ≡ at = length-take-le at page within in
    ap (λ (l : List ℕ). take count l) (drop-append-le from front rest (omega arith))
    ∙ take-append-le count (drop from front) rest (omega (arith, length-drop from front))
    ∙ ap (λ (n : ℕ). part (take n page) from count) (omega arith)
    ∙ ap (λ (l : List ℕ). take count l) (drop-take from (at - from) page)
    ∙ take-take count (at - from) (drop from page) (omega arith)

-- and what stands behind them
pub behind : (page front : List ℕ) (end from : ℕ) → length front ≡ end → end ≤ from → drop from (front ++ drop end page) ≡ drop from page
behind page front end from long le =
    ap (λ (n : ℕ). drop n (front ++ drop end page)) (omega arith)
    ∙ drop-append-add front (drop end page) (from - end)
    ∙ drop-drop (from - end) end page
    ∙ ap (λ (n : ℕ). drop n page) (omega arith)

pub part_kept : (page : List ℕ) (at : ℕ) (bytes : List ℕ) (from count : ℕ) → at + length bytes ≤ length page → (from + count ≤ at) ⊎ (at + length bytes ≤ from) → part (put page at bytes) from count ≡ part page from count
part_kept page at bytes from count within apart = elim apart [
  | inl lt ↦
      ap (λ (l : List ℕ). part l from count) (append_assoc (take at page) bytes (drop (at + length bytes) page))
      ∙ before page (bytes ++ drop (at + length bytes) page) at from count (omega arith) lt
  | inr le ↦ ap (λ (l : List ℕ). take count l) (behind page (take at page ++ bytes) (at + length bytes) from (omega (arith, length-append (take at page) bytes, length-take-le at page (omega arith))) le)
]

-- the first byte of a page, by its header
pub first_byte : (old new : List ℕ) → part new 0 16 ≡ part old 0 16 → get_or new 0 0 ≡ get_or old 0 0
first_byte old new same = sym (get_or-take 16 new 0 0 (omega arith)) ∙ ap (λ (l : List ℕ). get_or l 0 0) same ∙ get_or-take 16 old 0 0 (omega arith)

-- what stands within the bytes that are written
pub part_inside : (page : List ℕ) (at : ℕ) (bytes : List ℕ) (from count : ℕ) → at + length bytes ≤ length page → from + count ≤ length bytes → part (put page at bytes) (at + from) count ≡ part bytes from count
part_inside page at bytes from count within few =
    let rest : List ℕ = drop (at + length bytes) page in
    ap (λ (l : List ℕ). take count l) (sym (drop-drop from at (put page at bytes)))
    ∙ ap (λ (l : List ℕ). take count (drop from (drop at l))) (append_assoc (take at page) bytes rest)
    ∙ ap (λ (l : List ℕ). take count (drop from l)) (drop_at (take at page) (bytes ++ rest) at (length-take-le at page (omega arith)))
    ∙ ap (λ (l : List ℕ). take count l) (drop-append-le from bytes rest (omega arith))
    ∙ take-append-le count (drop from bytes) rest (omega (arith, length-drop from bytes))

pub part_zeros : (n from count : ℕ) → from + count ≤ n → part (replicate {A = ℕ} n 0) from count ≡ replicate count 0
part_zeros n from count within = ap (λ (l : List ℕ). take count l) (drop-replicate from n 0) ∙ take-replicate count (n - from) 0 (omega arith)

-- ---- bytes

pub low_append : (xs ys : List ℕ) → IsBytes xs → IsBytes ys → IsBytes (xs ++ ys)
low_append [] ys one two i = two i
low_append (x ∷ xs) ys one two zero = one 0
low_append (x ∷ xs) ys one two (suc i) = low_append xs ys (λ j. one (suc j)) two i

pub low_drop : (n : ℕ) (bytes : List ℕ) → IsBytes bytes → IsBytes (drop n bytes)
low_drop n bytes low i = omega (arith, get_or-drop n bytes i 0, low (n + i))

pub low_take : (n : ℕ) (bytes : List ℕ) → IsBytes bytes → IsBytes (take n bytes)
low_take n bytes low i = ⊎_elim
    (λ (lt : i < n). omega (arith, get_or-take n bytes i 0 lt, low i))
    (λ (le : n ≤ i). omega (arith, get_or_past (take n bytes) i 0 (omega (arith, length-take n bytes))))
    (cases_lt i n)

pub low_put : (page : List ℕ) (at : ℕ) (bytes : List ℕ) → IsBytes page → IsBytes bytes → IsBytes (put page at bytes)
low_put page at bytes one two =
    low_append (take at page ++ bytes) (drop (at + length bytes) page) (low_append (take at page) bytes (low_take at page one) two) (low_drop (at + length bytes) page one)

low_none : (i : ℕ) → get_or {A = ℕ} [] i 0 < 256
low_none i = omega (arith, get_or_past {X = ℕ} [] i 0 (omega arith))

pub low_two : (n : ℕ) → IsBytes (to_be_bytes w16 n)
low_two n zero = omega arith
low_two n (suc zero) = omega arith
low_two n (suc (suc i)) = low_none i

pub low_four : (n : ℕ) → IsBytes (to_be_bytes w32 n)
low_four n zero = omega arith
low_four n (suc zero) = omega arith
low_four n (suc (suc zero)) = omega arith
low_four n (suc (suc (suc zero))) = omega arith
low_four n (suc (suc (suc (suc i)))) = low_none i

pub low_zeros : (n : ℕ) → IsBytes (replicate n 0)
low_zeros zero i = low_none i
low_zeros (suc n) zero = omega arith
low_zeros (suc n) (suc i) = low_zeros n i
