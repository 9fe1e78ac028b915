-- Bytes that were read, and go to a line.
use Rattle.std.proofs.Common.{◌≡◌, ℕ, zero, suc, ◌+◌, ◌-◌, ◌<◌, ◌≤◌, true, List, [], ◌∷◌, ◌++◌, length, take, drop, get_or, min, refl, sym, ◌∙◌, ap, arith, length-take, length-drop}
use Rattle.std.proofs.lemmas.List.{take_min, take-take, take-append-drop, drop-take, drop-drop, drop_more}
use Rattle.std.proofs.Math.Seq.{take-append-add}
use Rattle.rss_model.specs.Script.{IsUnbroken}
use Rattle.rss_lines.specs.Lines.{LinesView}
use Rattle.rss_lines.specs.Pieces.{passed, FindsEnd}

-- the front of a list, of which some is there already
fill-take : (n : ℕ) (xs ys : List ℕ) → length xs ≤ n → xs ++ take (min (length ys) (n - length xs)) ys ≡ take n (xs ++ ys)
fill-take n xs ys le =
    let whole : min (length ys) (n - length xs) ≡ min (n - length xs) (length ys) = omega arith in
    let more : length xs + (n - length xs) ≡ n = omega arith in
    ap (λ (k : ℕ). xs ++ take k ys) whole ∙ ap (λ (l : List ℕ). xs ++ l) (take_min (n - length xs) ys) ∙ sym (take-append-add xs ys (n - length xs)) ∙ ap (λ (k : ℕ). take k (xs ++ ys)) more

-- what is kept of a front with more bytes is known from what was kept of it
pub take-take_append : (n : ℕ) (left bytes : List ℕ) → take n (take n left ++ bytes) ≡ take n (left ++ bytes)
take-take_append zero left bytes = refl
take-take_append (suc n) [] bytes = refl
take-take_append (suc n) (b ∷ left) bytes = ap (λ (l : List ℕ). b ∷ l) (take-take_append n left bytes)

-- nothing is left behind the last place
pub none_left : (piece : List ℕ) (from until : ℕ) → from ≡ until → take (until - from) (drop from piece) ≡ []
none_left piece from until is = let none : until - from ≡ 0 = omega arith in ap (λ (k : ℕ). take k (drop from piece)) none

-- so many bytes of what stands in the piece
module _ (piece : List ℕ) (from until count : ℕ) (within : from + count ≤ until) (inside : until ≤ length piece) where
  abbrev rest : List ℕ
  rest = take (until - from) (drop from piece)

  pub rest_passed : take (until - (from + count)) (drop (from + count) piece) ≡ drop count rest
  rest_passed =
      let both : count + (until - (from + count)) ≡ until - from = omega arith in
      sym (ap (λ (k : ℕ). drop count (take k (drop from piece))) (sym both) ∙ drop-take count (until - (from + count)) (drop from piece) ∙ ap (λ (l : List ℕ). take (until - (from + count)) l) (drop-drop count from piece))

  pub line_passed : (keep kept : ℕ) (line : List ℕ) → length line ≤ keep → kept ≡ min count (keep - length line) → line ++ take (from + kept - from) (drop from piece) ≡ take keep (line ++ take count rest)
  line_passed keep kept line few is =
      let long : length (take count rest) ≡ count = omega (arith, length-take count rest, length-take (until - from) (drop from piece), length-drop from piece) in
      let same : from + kept - from ≡ kept = omega arith in
      let size : kept ≡ min (length (take count rest)) (keep - length line) = omega (arith, is, long) in
      ap (λ (k : ℕ). line ++ take k (drop from piece)) same
      ∙ ap (λ (l : List ℕ). line ++ l) (sym (take-take kept (until - from) (drop from piece) (omega arith)) ∙ sym (take-take kept count rest (omega arith)))
      ∙ ap (λ (k : ℕ). line ++ take k (take count rest)) size
      ∙ fill-take keep line (take count rest) few

-- the end of the line stands at this place of what was read
pub ends_at : {old now : LinesView} (at : ℕ) → at < length old.rest → get_or old.rest at 0 ≡ 10 → IsUnbroken (take at old.rest) → now ≡ record (passed old at) { rest = drop (at + 1) old.rest } → FindsEnd old now true
ends_at {old = old} {now = now} at within end unbroken is = record {
  bytes = take at old.rest;
  unbroken = unbroken;
  parts = sym (take-append-drop at old.rest) ∙ ap (λ (l : List ℕ). take at old.rest ++ l) (drop_more old.rest at 0 within) ∙ ap (λ (b : ℕ). take at old.rest ++ b ∷ drop (at + 1) old.rest) end ∙ ap (λ (v : LinesView). take at old.rest ++ 10 ∷ v.rest) (sym is);
  none = λ there. absurd (cc);
  is = is ∙ ap (λ (v : LinesView). record old { line = take old.keep (old.line ++ take at old.rest); rest = v.rest }) (sym is);
}
