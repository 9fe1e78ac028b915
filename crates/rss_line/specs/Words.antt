-- The text of words with one space between two.
use Rattle.std.specs.Prelude.{ℕ, List, ◌++◌, codes, decimal, fold}
use Rattle.rss_model.specs.Spellings.{name_text, tid_text}
use Rattle.rss_line.specs.declared.word.Word.{Word}
use Rattle.rss_line.specs.declared.word.Word.TheVariants.{Text, Number, Name, Tid}

abbrev pub word_text : Word → List ℕ
word_text (Text text) = text.now
word_text (Number number) = decimal number
word_text (Name name) = name_text name
word_text (Tid tid) = tid_text tid

-- a text, and then each word after a space
abbrev pub with_words : List ℕ → List Word → List ℕ
with_words text words = fold (λ text word. text ++ codes " " ++ word_text word) text words
