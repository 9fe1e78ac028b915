-- Writing a list piece by piece.
use Rattle.std.proofs.Common.{◌≡◌, ◌∙◌, ℕ, ◌+◌, ◌<◌, ◌≤◌, List, [], ◌∷◌, ◌++◌, length, take, drop, get_or, refl, ap, sym, arith, append_assoc, append-nil, length-append, Bool, true, false, ◌==◌}
use Rattle.std.specs.Prelude.{Result, Ok, Err, OnErr, codes}
use Rattle.std.specs.Prelude.{if◌then◌else◌}
use Rattle.std.proofs.lemmas.List.{take_more, take-append-drop}
use Rattle.std.proofs.lemmas.List.Sums.{fold-append}
use Rattle.rss_base.specs.declared.value.Value.{Value}
use Rattle.rss_model.specs.Spellings.{doubled, value_text}
use Rattle.rss_model.specs.ReplyText.{values_text}
use Rattle.rss_line.specs.declared.word.Word.{Word}
use Rattle.rss_line.specs.Words.{word_text, with_words}

pub on_err : {T E P : Type 0} (r : Result T E) → P → OnErr r P
on_err (Ok x) p = tt
on_err (Err e) p = p

-- where a piece had no room, all had none
pub full_from : (old now said piece all : List ℕ) (room room_now len len_now : ℕ) → len ≡ length old → len_now ≡ length now → now ≡ old ++ said → room ≤ room_now → room_now < len_now + length piece → length said + length piece ≤ length all → room < len + length all
full_from old now said piece all room room_now len len_now is is_now e grown full fits = omega (arith, ap length e, length-append old said)

-- f writes each element, one after another, and x stands at this index
module _ {A : Type 0} (f : List A → List ℕ) (joins : (xs ys : List A) → f (xs ++ ys) ≡ f xs ++ f ys) (xs : List A) (i : ℕ) (x d : A) (is : x ≡ get_or xs i d) (below : i < length xs) where
  next_piece : f (take (i + 1) xs) ≡ f (take i xs) ++ f (x ∷ [])
  next_piece = ap f (take_more xs i d below) ∙ (joins (take i xs) (get_or xs i d ∷ []) ∙ ap (λ y. f (take i xs) ++ f (y ∷ [])) (sym is))

  pub piece_fits : length (f (take i xs)) + length (f (x ∷ [])) ≤ length (f xs)
  piece_fits =
      let parts : f (take (i + 1) xs) ++ f (drop (i + 1) xs) ≡ f xs = sym (joins (take (i + 1) xs) (drop (i + 1) xs)) ∙ ap f (take-append-drop (i + 1) xs) in
      omega (arith, ap length parts, length-append (f (take (i + 1) xs)) (f (drop (i + 1) xs)), ap length next_piece, length-append (f (take i xs)) (f (x ∷ [])))

  pub piece_said : (old now new : List ℕ) → now ≡ old ++ f (take i xs) → new ≡ now ++ f (x ∷ []) → new ≡ old ++ f (take (i + 1) xs)
  piece_said old now new before here =
      here ∙ (ap (λ l. l ++ f (x ∷ [])) before ∙ (append_assoc old (f (take i xs)) (f (x ∷ [])) ∙ ap (λ l. old ++ l) (sym next_piece)))

pub doubled-append : (xs ys : List ℕ) → doubled (xs ++ ys) ≡ doubled xs ++ doubled ys
doubled-append [] ys = refl
doubled-append (x ∷ xs) ys = rw (doubled-append xs ys) (choice (x == 34) (doubled xs) (doubled ys) x)
  where
    choice : (b : Bool) (xs ys : List ℕ) (x : ℕ) → (if b then 34 ∷ 34 ∷ (xs ++ ys) else x ∷ (xs ++ ys)) ≡ (if b then 34 ∷ 34 ∷ xs else x ∷ xs) ++ ys
    choice true xs ys x = refl
    choice false xs ys x = refl

pub values_text-append : (xs ys : List Value) → values_text (xs ++ ys) ≡ values_text xs ++ values_text ys
values_text-append [] ys = refl
values_text-append (x ∷ xs) ys = ap (λ l. 32 ∷ l) (ap (λ l. value_text x ++ l) (values_text-append xs ys) ∙ sym (append_assoc (value_text x) (values_text xs) (values_text ys)))

-- words behind a text
pub words_behind : (text : List ℕ) (words : List Word) → with_words text words ≡ text ++ with_words [] words
words_behind text [] = sym (append-nil text)
words_behind text (word ∷ words) =
    words_behind (text ++ codes " " ++ word_text word) words
    ∙ (ap (λ l. l ++ with_words [] words) (append_assoc text (codes " ") (word_text word))
    ∙ (append_assoc text (codes " " ++ word_text word) (with_words [] words) ∙ ap (λ l. text ++ l) (sym (words_behind (codes " " ++ word_text word) words))))

pub words-append : (xs ys : List Word) → with_words [] (xs ++ ys) ≡ with_words [] xs ++ with_words [] ys
words-append xs ys = fold-append (λ text word. text ++ codes " " ++ word_text word) [] xs ys ∙ words_behind (with_words [] xs) ys

-- three pieces, one after another
pub three_pieces : (old first second third head item between tail : List ℕ) → first ≡ old ++ head → second ≡ first ++ item → third ≡ second ++ (between ++ tail) → third ≡ old ++ (head ++ (item ++ between ++ tail))
three_pieces old first second third head item between tail one two three = three ∙ (ap (λ l. l ++ (between ++ tail)) (two ∙ ap (λ l. l ++ item) one) ∙ simp append_assoc)
