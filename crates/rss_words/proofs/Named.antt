-- The file that words name, and the sizes that they ask for.
use Rattle.std.proofs.Common.{◌≡◌, ◌⊎◌, inl, inr, ℕ, List, [], length, refl, sym, ap, ◌∙◌}
use Rattle.std.specs.Prelude.{slice_index_or}
use Rattle.rss_words.specs.Words.{AreFormat, AskFor, IsCommand, IsFileOf}
use Rattle.rss_words.specs.Words.IsFileOf.{on_file, format, trial}
use Rattle.rss_words.specs.declared.command.Command.{Command}
use Rattle.rss_words.specs.declared.command.Command.TheVariants.{OnFile, Format, Generate, Trial}
use Rattle.rss_words.proofs.GoodWords.{distinct}

-- ---- the file

abbrev third : List (List ℕ) → List ℕ
third words = slice_index_or words 2 []

pub named_by_three : (words : List (List ℕ)) (file : List ℕ) → length words ≡ 3 → third words ≡ file → IsCommand words → IsFileOf words file
named_by_three words file many is good = asks good.command good.asked
  where
    asks : (command : Command) → AskFor words command → IsFileOf words file
    asks (OnFile _) are = on_file are (sym is ∙ ap third are.spelled)
    asks (Format slots log_pages) are = absurd (distinct 3 5 refl (sym many ∙ ap length are.spelled))
    asks (Generate number count) are = absurd (distinct 3 4 refl (sym many ∙ ap length are.spelled))
    asks (Trial number count) are = absurd (distinct 3 5 refl (sym many ∙ ap length are.spelled))

pub named_by_five : (words : List (List ℕ)) (file : List ℕ) → length words ≡ 5 → third words ≡ file → IsCommand words → IsFileOf words file
named_by_five words file many is good = asks good.command good.asked
  where
    asks : (command : Command) → AskFor words command → IsFileOf words file
    asks (OnFile _) are = absurd (distinct 5 3 refl (sym many ∙ ap length are.spelled))
    asks (Format slots log_pages) are = format are (sym is ∙ ap third are.spelled)
    asks (Generate number count) are = absurd (distinct 5 4 refl (sym many ∙ ap length are.spelled))
    asks (Trial number count) are = trial are (sym is ∙ ap third are.spelled)

-- words that name a file are a command, and they are three or five
pub named_good : {words : List (List ℕ)} {file : List ℕ} → IsFileOf words file → IsCommand words
named_good (on_file {task = task} are is) = record { command = OnFile task; asked = are }
named_good (format {slots = slots} {log_pages = log_pages} are is) = record { command = Format slots log_pages; asked = are }
named_good (trial {number = number} {count = count} are is) = record { command = Trial number count; asked = are }

pub named_many : {words : List (List ℕ)} {file : List ℕ} → IsFileOf words file → (length words ≡ 3) ⊎ (length words ≡ 5)
named_many (on_file are is) = inl (ap length are.spelled)
named_many (format are is) = inr (ap length are.spelled)
named_many (trial are is) = inr (ap length are.spelled)

-- ---- the sizes

pub format_good_words : {words : List (List ℕ)} {slots log_pages : ℕ} → AreFormat words slots log_pages → IsCommand words
format_good_words {slots = slots} {log_pages = log_pages} are = record { command = Format slots log_pages; asked = are }
