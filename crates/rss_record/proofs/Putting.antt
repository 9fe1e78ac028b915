-- Bytes put one behind the other.
use Rattle.std.proofs.Common.{◌≡◌, ℕ, ◌+◌, ◌≤◌, List, ◌++◌, length, take, drop, append_assoc, sym, ◌∙◌, ap, arith, length-take-le, drop-drop}
use Rattle.std.proofs.lemmas.List.{length-append, take_at}
use Rattle.std.proofs.Math.Seq.{drop-append-add}
use Rattle.rss_record.specs.Writing.{Puts}

pub puts_then : {at mid : ℕ} {xs ys a b c : List ℕ} → Puts at xs a b → Puts mid ys b c → mid ≡ at + length xs → mid + length ys ≤ length a → Puts at (xs ++ ys) a c
puts_then {at = at} {mid = mid} {xs = xs} {ys = ys} {a = a} {b = b} {c = c} first second is fits =
    let front : List ℕ = take at a in
    let rest : List ℕ = drop (at + length xs) a in
    let long : length (front ++ xs) ≡ mid = omega (arith, length-append front xs, length-take-le at a (omega arith)) in
    let b_is : b ≡ (front ++ xs) ++ rest = first.is ∙ sym (append_assoc front xs rest) in
    let before : take mid b ≡ front ++ xs = ap (take mid) b_is ∙ take_at (front ++ xs) rest mid long in
    let behind : drop (mid + length ys) b ≡ drop (at + length (xs ++ ys)) a =
    ap (drop (mid + length ys)) b_is
    ∙ ap (λ (n : ℕ). drop n ((front ++ xs) ++ rest)) (omega (arith, long))
    ∙ drop-append-add (front ++ xs) rest (length ys)
    ∙ drop-drop (length ys) (at + length xs) a
    ∙ ap (λ (n : ℕ). drop n a) (omega (arith, length-append xs ys)) in
    let end : List ℕ = drop (at + length (xs ++ ys)) a in
    record { is = second.is ∙ (λ i. before i ++ (ys ++ behind i)) ∙ append_assoc front xs (ys ++ end) ∙ ap (λ (l : List ℕ). front ++ l) (sym (append_assoc xs ys end)) }
