-- A text that has no quote.
use Rattle.std.proofs.Common.{◌≡◌, ◌∙◌, ℕ, suc, ◌+◌, Option, None, Ok, List, [], ◌∷◌, ◌++◌, take, drop, cond, Bool, true, false, not, ◌==◌, refl, ap, sym, subst, arith}
use Rattle.std.specs.List.{prefix_len}
use Rattle.std.proofs.lemmas.List.{take-append-drop}
use Rattle.std.proofs.lemmas.Bool.{eqb-false}
use Rattle.rss_model.specs.Spellings.{quote, doubled}
use Rattle.rss_line.specs.Reads.{is_unquoted, IsOff, ReadsByte}
use Rattle.rss_line.proofs.Cuts.{off_quote}

-- what stands before the first quote is written as it is
as_it_is : (b : ℕ) (bytes : List ℕ) (t : Bool) → (b == quote) ≡ t → doubled (take (prefix_len is_unquoted bytes) bytes) ≡ take (prefix_len is_unquoted bytes) bytes
    → doubled (take (cond (not t) (1 + prefix_len is_unquoted bytes) 0) (b ∷ bytes)) ≡ take (cond (not t) (1 + prefix_len is_unquoted bytes) 0) (b ∷ bytes)
as_it_is b bytes true is rest = refl
as_it_is b bytes false is rest =
    let one : suc (prefix_len is_unquoted bytes) ≡ 1 + prefix_len is_unquoted bytes = omega arith in
    subst (λ k. doubled (take k (b ∷ bytes)) ≡ take k (b ∷ bytes)) one (off_quote b (take (prefix_len is_unquoted bytes) bytes) (eqb-false b quote is) ∙ ap (λ l. b ∷ l) rest)

front_unquoted : (bytes : List ℕ) → doubled (take (prefix_len is_unquoted bytes) bytes) ≡ take (prefix_len is_unquoted bytes) bytes
front_unquoted [] = refl
front_unquoted (b ∷ bytes) = as_it_is b bytes (b == quote) refl (front_unquoted bytes)

-- a text that ends at the first quote
pub unquoted_read : {old bytes front back read : List ℕ} (new : List ℕ) {n : ℕ} {byte : Option ℕ} → bytes ≡ old → n ≡ prefix_len is_unquoted bytes → front ≡ take n bytes → back ≡ drop n bytes
    → ReadsByte back read (Ok byte) → new ≡ read → byte ≡ None → (old ≡ front ++ quote ∷ new) × IsOff quote new × (doubled front ≡ front)
unquoted_read {bytes = bytes} {front = front} {back = back} {read = read} new {n = n} same count is_front is_back reads left ends =
    let closing : ReadsByte back new (Ok None) = subst (λ (l : List ℕ). ReadsByte back l (Ok None)) (sym left) (subst (λ (b : Option ℕ). ReadsByte back read (Ok b)) ends reads) in
    let whole : bytes ≡ front ++ quote ∷ new =
    sym (take-append-drop n bytes) ∙ (ap (λ l. l ++ drop n bytes) (sym is_front) ∙ ap (λ l. front ++ l) (sym is_back ∙ closing.0)) in
    let counted : front ≡ take (prefix_len is_unquoted bytes) bytes = is_front ∙ ap (λ k. take k bytes) count in
    (sym same ∙ whole, closing.1, ap doubled counted ∙ (front_unquoted bytes ∙ sym counted))
