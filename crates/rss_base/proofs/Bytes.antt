-- A page, written from its front on.
use Rattle.std.proofs.Common.{◌≡◌, ℕ, ◌+◌, List, ◌++◌, length, take, drop, replicate, ◌∙◌, ap, arith}
use Rattle.std.proofs.lemmas.List.{drop-replicate}
use Rattle.std.proofs.Math.Seq.{take-append_seam, drop-append-add}

-- bytes that are written where the zeros begin
pub written : (front bytes page : List ℕ) (at m k : ℕ) → page ≡ front ++ replicate m 0 → at ≡ length front → m ≡ length bytes + k → take at page ++ bytes ++ drop (at + length bytes) page ≡ front ++ bytes ++ replicate k 0
written front bytes page at m k was here room =
    let before : take at page ≡ front = ap (take at) was ∙ ap (λ (n : ℕ). take n (front ++ replicate m 0)) here ∙ take-append_seam front (replicate m 0) in
    let past : drop (at + length bytes) page ≡ replicate k 0 =
    ap (drop (at + length bytes)) was ∙ ap (λ (n : ℕ). drop (n + length bytes) (front ++ replicate m 0)) here ∙ drop-append-add front (replicate m 0) (length bytes) ∙ drop-replicate (length bytes) m 0
    ∙ ap (λ (n : ℕ). replicate n 0) (omega (arith, room)) in
    λ i. before i ++ bytes ++ past i
