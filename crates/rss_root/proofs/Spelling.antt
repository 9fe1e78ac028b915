-- How a root is written from its front on.
use Rattle.std.proofs.Common.{◌≡◌, ℕ, suc, ◌+◌, List, [], ◌∷◌, ◌++◌, length, take, drop, set, replicate, refl, sym, ◌∙◌, ap, arith, length-append}
use Rattle.std.proofs.lemmas.List.{length-replicate, replicate-append-replicate, append_assoc, set_at}
use Rattle.rss_base.proofs.Bytes.{written}

-- a field that is written behind zeros that stay
pub field_put : (front field page bytes new : List ℕ) (at m gap k : ℕ) → page ≡ front ++ replicate m 0 → bytes ≡ field → new ≡ take at page ++ bytes ++ drop (at + length bytes) page → at ≡ length front + gap → m ≡ gap + (length field + k)
    → new ≡ front ++ replicate gap 0 ++ field ++ replicate k 0
field_put front field page bytes new at m gap k was is now here room =
    let parted : page ≡ front ++ replicate gap 0 ++ replicate (length field + k) 0 =
    was ∙ ap (λ (n : ℕ). front ++ replicate n 0) room ∙ ap (λ (l : List ℕ). front ++ l) (sym (replicate-append-replicate gap (length field + k) 0)) ∙ sym (append_assoc front (replicate gap 0) (replicate (length field + k) 0)) in
    now
    ∙ ap (λ (l : List ℕ). take at page ++ l ++ drop (at + length l) page) is
    ∙ written (front ++ replicate gap 0) field page at (length field + k) k parted (omega (arith, length-append front (replicate gap 0), length-replicate {A = ℕ} gap 0)) refl

-- a byte that is written where the zeros begin
pub byte_put : (front page : List ℕ) (byte at m k : ℕ) → page ≡ front ++ replicate m 0 → length front ≡ at → m ≡ suc k → set page at byte ≡ front ++ byte ∷ [] ++ replicate k 0
byte_put front page byte at m k was here room =
    ap (λ (l : List ℕ). set l at byte) (was ∙ ap (λ (n : ℕ). front ++ replicate n 0) room) ∙ set_at front 0 (replicate k 0) byte at here ∙ sym (append_assoc front (byte ∷ []) (replicate k 0))
