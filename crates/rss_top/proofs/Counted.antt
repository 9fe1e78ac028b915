-- Lines of a text, while they are counted.
use Rattle.std.proofs.Common.{◌≡◌, ℕ, ◌+◌, ◌-◌, ◌<◌, ◌≤◌, cond, List, [], ◌∷◌, ◌++◌, length, take, drop, get_or, sym, ◌∙◌, ap, subst, arith, length-append, length-drop, take-append-drop}
use Rattle.std.specs.Prelude.{All}
use Rattle.std.proofs.lemmas.List.{take_rest, take_more}
use Rattle.std.proofs.lemmas.List.Elements.{All-push}
use Rattle.std.proofs.lemmas.List.Sums.{sum_by-append}
use Rattle.std.proofs.Math.Seq.{take-add}
use Rattle.rss_model.specs.Script.{joined, IsUnbroken, last_line}
use Rattle.rss_top.specs.Trial.{is_refusal, refusals, IsTally}
use Rattle.rss_top.proofs.Stories.{joined-append, one_line}

-- the line that ends at a place of what is left after a place of the piece
module _ (piece : List ℕ) (done at : ℕ) where
  abbrev line_part : List ℕ
  line_part = take (done + at - done) (drop done piece)

  line_is : line_part ≡ take at (drop done piece)
  line_is = let same : done + at - done ≡ at = omega arith in ap (λ (k : ℕ). take k (drop done piece)) same

  line_unbroken : IsUnbroken (take at (take (length piece - done) (drop done piece))) → IsUnbroken line_part
  line_unbroken unbroken = subst IsUnbroken (ap (λ (l : List ℕ). take at l) (take_rest piece done) ∙ sym line_is) unbroken

  pub line_within : done ≤ length piece → at < length (take (length piece - done) (drop done piece)) → done + at < length piece
  line_within le lt = let rest : length (take (length piece - done) (drop done piece)) ≡ length piece - done = ap length (take_rest piece done) ∙ length-drop done piece in omega (arith, rest, lt)

  -- the line and its end
  line_ended : at < length (take (length piece - done) (drop done piece)) → get_or (take (length piece - done) (drop done piece)) at 0 ≡ 10 → take done piece ++ (line_part ++ 10 ∷ []) ≡ take (done + at + 1) piece
  line_ended lt end =
      let rest = take_rest piece done in
      let inside : at < length (drop done piece) = subst (λ (l : List ℕ). at < length l) rest lt in
      let byte : get_or (drop done piece) at 0 ≡ 10 = sym (ap (λ (l : List ℕ). get_or l at 0) rest) ∙ end in
      let count : done + at + 1 ≡ done + (at + 1) = omega arith in
      ap (λ (l : List ℕ). take done piece ++ l) (ap (λ (l : List ℕ). l ++ 10 ∷ []) line_is ∙ ap (λ (b : ℕ). take at (drop done piece) ++ b ∷ []) (sym byte) ∙ sym (take_more (drop done piece) at 0 inside))
      ∙ sym (take-add done (at + 1) piece) ∙ ap (λ (k : ℕ). take k piece) (sym count)

-- the lines that end in the front of a text, counted
pub record Counted (text : List ℕ) (done ok refused : ℕ) : Type 0 where
  pub ended : List (List ℕ)
  pub parts : take done text ≡ joined ended
  pub whole : All IsUnbroken ended
  pub all : ok + refused ≡ length ended
  pub some : refused ≡ refusals ended
  pub few : ok + refused ≤ done

refusals-push : (lines : List (List ℕ)) (line : List ℕ) → refusals (lines ++ line ∷ []) ≡ refusals lines + refusals (line ∷ [])
refusals-push lines line = sum_by-append (λ (l : List ℕ). cond (is_refusal l) 1 0) lines (line ∷ [])

-- one line more
module _ {text : List ℕ} {done ok refused : ℕ} (counted : Counted text done ok refused) (n m : ℕ) where
  pub counted_more : (at : ℕ) → at < length (take (length text - done) (drop done text)) → get_or (take (length text - done) (drop done text)) at 0 ≡ 10
      → IsUnbroken (take at (take (length text - done) (drop done text)))
      → n + m ≡ ok + refused + 1 → m ≡ refused + refusals (line_part text done at ∷ []) → Counted text (done + (at + 1)) n m
  counted_more at low end unbroken all some =
      let line = line_part text done at in
      let next : done + (at + 1) ≡ done + at + 1 = omega arith in
      record {
        ended = counted.ended ++ line ∷ [];
        parts = ap (λ (k : ℕ). take k text) next ∙ sym (line_ended text done at low end) ∙ ap (λ (l : List ℕ). l ++ (line ++ 10 ∷ [])) counted.parts ∙ sym (joined-append counted.ended (line ∷ []));
        whole = All-push IsUnbroken counted.ended line counted.whole (line_unbroken text done at unbroken);
        all = omega (arith, all, counted.all, length-append counted.ended (line ∷ []));
        some = some ∙ ap (λ (k : ℕ). k + refusals (line ∷ [])) counted.some ∙ sym (refusals-push counted.ended line);
        few = omega (arith, all, counted.few);
      }

-- what is left has no end of a line
module _ {text : List ℕ} {done ok refused : ℕ} (counted : Counted text done ok refused) (unbroken : IsUnbroken (take (length text - done) (drop done text))) where
  pub tally_last : (n m : ℕ) → done < length text → n + m ≡ ok + refused + 1 → m ≡ refused + refusals (take (length text - done) (drop done text) ∷ []) → IsTally text n m
  tally_last n m low all some =
      let last : last_line (drop done text) ≡ drop done text ∷ [] = one_line (drop done text) (omega (arith, length-drop done text, low)) in
      record {
        replies = counted.ended ++ drop done text ∷ [];
        are_lines = record {
          ended = counted.ended;
          left = drop done text;
          splits = record {
            parts = sym (take-append-drop done text) ∙ ap (λ (l : List ℕ). l ++ drop done text) counted.parts;
            whole = counted.whole;
            front = subst IsUnbroken (take_rest text done) unbroken;
          };
          all = ap (λ (l : List (List ℕ)). counted.ended ++ l) (sym last);
        };
        all = omega (arith, all, counted.all, length-append counted.ended (drop done text ∷ []));
        some = some ∙ ap (λ (l : List ℕ). refused + refusals (l ∷ [])) (take_rest text done) ∙ ap (λ (k : ℕ). k + refusals (drop done text ∷ [])) counted.some ∙ sym (refusals-push counted.ended (drop done text));
      }
