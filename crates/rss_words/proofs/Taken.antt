-- What clap makes of good words.
use Rattle.std.proofs.Common.{◌≡◌, ℕ, ◌^◌, ◌<◌, ◌≤◌, List, [], ◌∷◌, ◌++◌, refl, sym, ap, subst, ◌∙◌, true, false, codes, arith}
use Rattle.std.specs.Prelude.{Option, Some, None, ◌==◌, decimal, option_map, slice_index_or}
use Rattle.std.specs.Str.{bytes_eq}
use Rattle.std.proofs.lemmas.Bool.Decides.{nat_tests}
use Rattle.clap.specs.Lexer.{long_of, short_of}
use Rattle.clap.specs.Words.{Row, Text, takes, first_of, subcommand_of, subcommand_rows_of, subcommand_name_of, is_simple}
use Rattle.clap.specs.declared.parser.matches.ArgMatches.{ArgMatches}
use Rattle.std.proofs.lemmas.Fmt.{decimal_by_steps}
use Rattle.std.proofs.lemmas.Option.{none-some, same_Some}
use Rattle.clap.proofs.OnLiterals.{clap_on_literals}
use Rattle.rss_words.specs.Words.{IsPlain, task_name, IsTask, IsCommand, AskFor}
use Rattle.rss_words.specs.declared.command.Command.{Command}
use Rattle.rss_words.specs.declared.command.Command.TheVariants.{OnFile, Format, Generate, Trial}
use Rattle.rss_words.specs.declared.task.Task.{Task}
use Rattle.rss_words.specs.declared.task.Task.TheVariants.{Run, Talk}
use Rattle.rss_words.proofs.GoodWords.{distinct}
use Rattle.rss_words.specs.Rows.{rss, Has, Finds, Tells}
use Rattle.rss_model.specs.Generator.{most_employees}

-- ---- a word that is no flag

pub record IsValue (word : Text) : Type 0 where
  pub dashes : bytes_eq word (45 ∷ 45 ∷ []) ≡ false
  pub long : long_of word ≡ None
  pub short : short_of word ≡ None

off_hyphen : (b : ℕ) → (b ≡ 45 → ⊥) → (b == 45) ≡ false
off_hyphen b off = grind (arith, nat_tests)

pub plain_value : (word : Text) → IsPlain word → IsValue word
plain_value [] plain = record { dashes = refl; long = refl; short = refl }
plain_value (b ∷ bytes) plain =
    let off = off_hyphen b plain in
    record { dashes = rw off refl; long = rw off refl; short = rw off refl }

-- a number is one

abbrev BeginsWithDigit : Text → Type 0
BeginsWithDigit [] = ⊥
BeginsWithDigit (b ∷ bytes) = 48 ≤ b

digit_first : (word more : Text) → BeginsWithDigit word → BeginsWithDigit (word ++ more)
digit_first [] more first = absurd first
digit_first (b ∷ bytes) more first = first

digit_plain : (word : Text) → BeginsWithDigit word → IsPlain word
digit_plain [] first = absurd first
digit_plain (b ∷ bytes) first = λ is. absurd (omega (arith, first, is))

decimal_plain : (n : ℕ) → n < 2 ^ 64 → IsPlain (decimal n)
decimal_plain n fits = digit_plain (decimal n)
    (decimal_by_steps (λ m word. BeginsWithDigit word) (λ m low. omega arith) (λ m word high first. digit_first word _ first) n fits)

pub decimal_value : (n : ℕ) → n < 2 ^ 64 → IsValue (decimal n)
decimal_value n fits = plain_value (decimal n) (decimal_plain n fits)

-- ---- the parse of a command

abbrev name_in : Option (Text × List Row) → Option Text
name_in = option_map (λ p. p.0)

abbrev word_in : Text → Option (Text × List Row) → Option (Option Text)
word_in id = option_map (λ p. first_of id p.1)

abbrev on_file_words : Task → Text → Text → List Text
on_file_words task program file = program ∷ task_name task ∷ file ∷ []

on_file_taken : (task : Task) (program file : Text) → IsValue file → takes rss (on_file_words task program file) ≡ true
unfolding clap_on_literals
on_file_taken Run program file value =
    let dashes = value.dashes in let long = value.long in let short = value.short in
    rw (dashes, long, short) refl
on_file_taken Talk program file value =
    let dashes = value.dashes in let long = value.long in let short = value.short in
    rw (dashes, long, short) refl

on_file_named : (task : Task) (program file : Text) → name_in (subcommand_of rss (on_file_words task program file)) ≡ Some (task_name task)
unfolding clap_on_literals
on_file_named Run program file = refl
on_file_named Talk program file = refl

abbrev generate_words : Text → Text → Text → List Text
generate_words program number count = program ∷ codes "gen" ∷ number ∷ count ∷ []

generate_taken : (program number count : Text) → IsValue number → IsValue count → takes rss (generate_words program number count) ≡ true
unfolding clap_on_literals
generate_taken program number count value more =
    let dashes = value.dashes in let long = value.long in let short = value.short in
    let more_dashes = more.dashes in let more_long = more.long in let more_short = more.short in
    simp (dashes, long, short, more_dashes, more_long, more_short) refl

generate_named : (program number count : Text) → name_in (subcommand_of rss (generate_words program number count)) ≡ Some (codes "gen")
unfolding clap_on_literals
generate_named program number count = refl

generate_number : (program number count : Text) → IsValue number → IsValue count → word_in (codes "NUMBER") (subcommand_of rss (generate_words program number count)) ≡ Some (Some number)
unfolding clap_on_literals
generate_number program number count value more =
    let dashes = value.dashes in let long = value.long in let short = value.short in
    let more_dashes = more.dashes in let more_long = more.long in let more_short = more.short in
    simp (dashes, long, short, more_dashes, more_long, more_short) refl

generate_count : (program number count : Text) → IsValue number → IsValue count → word_in (codes "COUNT") (subcommand_of rss (generate_words program number count)) ≡ Some (Some count)
unfolding clap_on_literals
generate_count program number count value more =
    let dashes = value.dashes in let long = value.long in let short = value.short in
    let more_dashes = more.dashes in let more_long = more.long in let more_short = more.short in
    simp (dashes, long, short, more_dashes, more_long, more_short) refl

abbrev format_words : Text → Text → Text → Text → List Text
format_words program file slots log_pages = program ∷ codes "format" ∷ file ∷ slots ∷ log_pages ∷ []

format_taken : (program file slots log_pages : Text) → IsValue file → IsValue slots → IsValue log_pages → takes rss (format_words program file slots log_pages) ≡ true
unfolding clap_on_literals
format_taken program file slots log_pages value more last =
    let dashes = value.dashes in let long = value.long in let short = value.short in
    let more_dashes = more.dashes in let more_long = more.long in let more_short = more.short in
    let last_dashes = last.dashes in let last_long = last.long in let last_short = last.short in
    simp (dashes, long, short, more_dashes, more_long, more_short, last_dashes, last_long, last_short) refl

format_named : (program file slots log_pages : Text) → name_in (subcommand_of rss (format_words program file slots log_pages)) ≡ Some (codes "format")
unfolding clap_on_literals
format_named program file slots log_pages = refl

format_slots : (program file slots log_pages : Text) → IsValue file → IsValue slots → IsValue log_pages → word_in (codes "N") (subcommand_of rss (format_words program file slots log_pages)) ≡ Some (Some slots)
unfolding clap_on_literals
format_slots program file slots log_pages value more last =
    let dashes = value.dashes in let long = value.long in let short = value.short in
    let more_dashes = more.dashes in let more_long = more.long in let more_short = more.short in
    let last_dashes = last.dashes in let last_long = last.long in let last_short = last.short in
    simp (dashes, long, short, more_dashes, more_long, more_short, last_dashes, last_long, last_short) refl

format_log_pages : (program file slots log_pages : Text) → IsValue file → IsValue slots → IsValue log_pages → word_in (codes "G") (subcommand_of rss (format_words program file slots log_pages)) ≡ Some (Some log_pages)
unfolding clap_on_literals
format_log_pages program file slots log_pages value more last =
    let dashes = value.dashes in let long = value.long in let short = value.short in
    let more_dashes = more.dashes in let more_long = more.long in let more_short = more.short in
    let last_dashes = last.dashes in let last_long = last.long in let last_short = last.short in
    simp (dashes, long, short, more_dashes, more_long, more_short, last_dashes, last_long, last_short) refl

abbrev trial_words : Text → Text → Text → Text → List Text
trial_words program file number count = program ∷ codes "trial" ∷ file ∷ number ∷ count ∷ []

trial_taken : (program file number count : Text) → IsValue file → IsValue number → IsValue count → takes rss (trial_words program file number count) ≡ true
unfolding clap_on_literals
trial_taken program file number count value more last =
    let dashes = value.dashes in let long = value.long in let short = value.short in
    let more_dashes = more.dashes in let more_long = more.long in let more_short = more.short in
    let last_dashes = last.dashes in let last_long = last.long in let last_short = last.short in
    simp (dashes, long, short, more_dashes, more_long, more_short, last_dashes, last_long, last_short) refl

trial_named : (program file number count : Text) → name_in (subcommand_of rss (trial_words program file number count)) ≡ Some (codes "trial")
unfolding clap_on_literals
trial_named program file number count = refl

trial_number : (program file number count : Text) → IsValue file → IsValue number → IsValue count → word_in (codes "NUMBER") (subcommand_of rss (trial_words program file number count)) ≡ Some (Some number)
unfolding clap_on_literals
trial_number program file number count value more last =
    let dashes = value.dashes in let long = value.long in let short = value.short in
    let more_dashes = more.dashes in let more_long = more.long in let more_short = more.short in
    let last_dashes = last.dashes in let last_long = last.long in let last_short = last.short in
    simp (dashes, long, short, more_dashes, more_long, more_short, last_dashes, last_long, last_short) refl

trial_count : (program file number count : Text) → IsValue file → IsValue number → IsValue count → word_in (codes "COUNT") (subcommand_of rss (trial_words program file number count)) ≡ Some (Some count)
unfolding clap_on_literals
trial_count program file number count value more last =
    let dashes = value.dashes in let long = value.long in let short = value.short in
    let more_dashes = more.dashes in let more_long = more.long in let more_short = more.short in
    let last_dashes = last.dashes in let last_long = last.long in let last_short = last.short in
    simp (dashes, long, short, more_dashes, more_long, more_short, last_dashes, last_long, last_short) refl

pub simple : is_simple rss ≡ true
simple = refl

-- ---- good words

record Entered (entered : Option (Text × List Row)) (name : Text) : Type 0 where
  rows : List Row
  found : entered ≡ Some (name, rows)

entered_by : (entered : Option (Text × List Row)) (name : Text) → name_in entered ≡ Some name → Entered entered name
entered_by None name is = absurd (none-some name is)
entered_by (Some p) name is = record { rows = p.1; found = ap (λ (n : Text). Some (n, p.1)) (same_Some p.0 name is) }

word_of : (entered : Option (Text × List Row)) (name id word : Text) (rows : List Row) → entered ≡ Some (name, rows) → word_in id entered ≡ Some (Some word) → first_of id rows ≡ Some word
word_of entered name id word rows found is = same_Some (first_of id rows) (Some word) (sym (ap (word_in id) found) ∙ is)

pub good_taken : (words : List Text) → IsCommand words → takes rss words ≡ true
good_taken words good = asks good.command good.asked
  where
    asks : (command : Command) → AskFor words command → takes rss words ≡ true
    asks (OnFile task) are = ap (takes rss) are.spelled ∙ on_file_taken task are.program are.file (plain_value are.file are.plain)
    asks (Format slots log_pages) are = ap (takes rss) are.spelled
        ∙ format_taken are.program are.file (decimal slots) (decimal log_pages) (plain_value are.file are.plain) (decimal_value slots are.slots_fit) (decimal_value log_pages are.log_pages_fit)
    asks (Generate number count) are = ap (takes rss) are.spelled
        ∙ generate_taken are.program (decimal number) (decimal count) (decimal_value number are.number_fits) (decimal_value count (omega (arith, are.few)))
    asks (Trial number count) are = ap (takes rss) are.spelled
        ∙ trial_taken are.program are.file (decimal number) (decimal count) (plain_value are.file are.plain) (decimal_value number are.number_fits) (decimal_value count (omega (arith, are.few)))

pub good_found : (words : List Text) (command : Command) → AskFor words command → (matches : ArgMatches) → subcommand_rows_of matches ≡ subcommand_of rss words → Finds matches command
good_found words (OnFile task) are matches is =
    let entered = subcommand_of rss words in
    let here = entered_by entered (task_name task) (ap (λ (w : List Text). name_in (subcommand_of rss w)) are.spelled ∙ on_file_named task are.program are.file) in record {
      name = task_name task;
      rows = here.rows;
      found = is ∙ here.found;
      tells = refl;
    }
good_found words (Format slots log_pages) are matches is =
    let entered = subcommand_of rss words in
    let file = plain_value are.file are.plain in
    let n = decimal_value slots are.slots_fit in
    let g = decimal_value log_pages are.log_pages_fit in
    let here = entered_by entered (codes "format") (ap (λ (w : List Text). name_in (subcommand_of rss w)) are.spelled ∙ format_named are.program are.file (decimal slots) (decimal log_pages)) in record {
      name = codes "format";
      rows = here.rows;
      found = is ∙ here.found;
      tells = (
        refl,
        record {
          word = word_of entered (codes "format") (codes "N") (decimal slots) here.rows here.found (ap (λ (w : List Text). word_in (codes "N") (subcommand_of rss w)) are.spelled ∙ format_slots are.program are.file (decimal slots) (decimal log_pages) file n g);
          fits = are.slots_fit;
        },
        record {
          word = word_of entered (codes "format") (codes "G") (decimal log_pages) here.rows here.found (ap (λ (w : List Text). word_in (codes "G") (subcommand_of rss w)) are.spelled ∙ format_log_pages are.program are.file (decimal slots) (decimal log_pages) file n g);
          fits = are.log_pages_fit;
        },
      );
    }
good_found words (Generate number count) are matches is =
    let entered = subcommand_of rss words in
    let n = decimal_value number are.number_fits in
    let fits : count < 2 ^ 64 = omega (arith, are.few) in
    let c = decimal_value count fits in
    let here = entered_by entered (codes "gen") (ap (λ (w : List Text). name_in (subcommand_of rss w)) are.spelled ∙ generate_named are.program (decimal number) (decimal count)) in record {
      name = codes "gen";
      rows = here.rows;
      found = is ∙ here.found;
      tells = (
        refl,
        record {
          word = word_of entered (codes "gen") (codes "NUMBER") (decimal number) here.rows here.found (ap (λ (w : List Text). word_in (codes "NUMBER") (subcommand_of rss w)) are.spelled ∙ generate_number are.program (decimal number) (decimal count) n c);
          fits = are.number_fits;
        },
        record {
          word = word_of entered (codes "gen") (codes "COUNT") (decimal count) here.rows here.found (ap (λ (w : List Text). word_in (codes "COUNT") (subcommand_of rss w)) are.spelled ∙ generate_count are.program (decimal number) (decimal count) n c);
          fits = fits;
        },
        are.few,
      );
    }
good_found words (Trial number count) are matches is =
    let entered = subcommand_of rss words in
    let file = plain_value are.file are.plain in
    let n = decimal_value number are.number_fits in
    let fits : count < 2 ^ 64 = omega (arith, are.few) in
    let c = decimal_value count fits in
    let here = entered_by entered (codes "trial") (ap (λ (w : List Text). name_in (subcommand_of rss w)) are.spelled ∙ trial_named are.program are.file (decimal number) (decimal count)) in record {
      name = codes "trial";
      rows = here.rows;
      found = is ∙ here.found;
      tells = (
        refl,
        record {
          word = word_of entered (codes "trial") (codes "NUMBER") (decimal number) here.rows here.found (ap (λ (w : List Text). word_in (codes "NUMBER") (subcommand_of rss w)) are.spelled ∙ trial_number are.program are.file (decimal number) (decimal count) file n c);
          fits = are.number_fits;
        },
        record {
          word = word_of entered (codes "trial") (codes "COUNT") (decimal count) here.rows here.found (ap (λ (w : List Text). word_in (codes "COUNT") (subcommand_of rss w)) are.spelled ∙ trial_count are.program are.file (decimal number) (decimal count) file n c);
          fits = fits;
        },
        are.few,
      );
    }

-- ---- what is told of the matches

names_agree : {B : Type 0} (n : B → Text) (r : B → List Row) (o : Option B) → option_map n o ≡ name_in (option_map (λ b. (n b, r b)) o)
names_agree n r None = refl
names_agree n r (Some b) = refl

named : (matches : ArgMatches) → subcommand_name_of matches ≡ name_in (subcommand_rows_of matches)
named matches = names_agree _ _ _

pub told : (matches : ArgMatches) (command : Command) (name : Text) (rows : List Row) → Some name ≡ subcommand_name_of matches → Some rows ≡ option_map (λ p. p.1) (subcommand_rows_of matches) → Finds matches command → Tells name rows command
told matches command name rows is has finds =
    let same_name : finds.name ≡ name = same_Some finds.name name (sym (is ∙ (named matches ∙ ap name_in finds.found))) in
    let same_rows : finds.rows ≡ rows = same_Some finds.rows rows (sym (has ∙ ap (option_map (λ p. p.1)) finds.found)) in
    subst (λ (n : Text). Tells n rows command) same_name (subst (λ (r : List Row). Tells finds.name r command) same_rows finds.tells)

pub not_none : (matches : ArgMatches) (command : Command) → Finds matches command → None ≡ subcommand_name_of matches → ⊥
not_none matches command finds is = none-some finds.name (is ∙ (named matches ∙ ap name_in finds.found))

-- no two names are one
abbrev first_byte : Text → ℕ
first_byte word = slice_index_or word 0 0

abbrev second_byte : Text → ℕ
second_byte word = slice_index_or word 1 0

not_format : (task : Task) → task_name task ≡ codes "format" → ⊥
not_format Run is = distinct 114 102 refl (ap first_byte is)
not_format Talk is = distinct 116 102 refl (ap first_byte is)

not_gen : (task : Task) → task_name task ≡ codes "gen" → ⊥
not_gen Run is = distinct 114 103 refl (ap first_byte is)
not_gen Talk is = distinct 116 103 refl (ap first_byte is)

not_trial : (task : Task) → task_name task ≡ codes "trial" → ⊥
not_trial Run is = distinct 114 116 refl (ap first_byte is)
not_trial Talk is = distinct 97 114 refl (ap second_byte is)

same_task : (task other : Task) → task_name task ≡ task_name other → task ≡ other
same_task Run Run is = refl
same_task Run Talk is = absurd (distinct 114 116 refl (ap first_byte is))
same_task Talk Run is = absurd (distinct 116 114 refl (ap first_byte is))
same_task Talk Talk is = refl

pub as_task : (name : Text) (rows : List Row) (command : Command) (task : Task) → name ≡ task_name task → Tells name rows command → OnFile task ≡ command
as_task name rows (OnFile other) task is tells = ap OnFile (same_task task other (sym is ∙ tells))
as_task name rows (Format slots log_pages) task is tells = absurd (not_format task (sym is ∙ tells.0))
as_task name rows (Generate number count) task is tells = absurd (not_gen task (sym is ∙ tells.0))
as_task name rows (Trial number count) task is tells = absurd (not_trial task (sym is ∙ tells.0))

pub record AreSizes (rows : List Row) (command : Command) : Type 0 where
  pub slots : ℕ
  pub log_pages : ℕ
  pub is : Format slots log_pages ≡ command
  pub first : Has rows (codes "N") slots
  pub second : Has rows (codes "G") log_pages

pub as_format : (name : Text) (rows : List Row) (command : Command) → name ≡ codes "format" → Tells name rows command → AreSizes rows command
as_format name rows (OnFile task) is tells = absurd (not_format task (sym tells ∙ is))
as_format name rows (Format slots log_pages) is tells = record { slots = slots; log_pages = log_pages; is = refl; first = tells.1; second = tells.2 }
as_format name rows (Generate number count) is tells = absurd (distinct 102 103 refl (ap first_byte (sym is ∙ tells.0)))
as_format name rows (Trial number count) is tells = absurd (distinct 102 116 refl (ap first_byte (sym is ∙ tells.0)))

pub record AreNumbers (make : ℕ → ℕ → Command) (rows : List Row) (command : Command) : Type 0 where
  pub number : ℕ
  pub count : ℕ
  pub is : make number count ≡ command
  pub first : Has rows (codes "NUMBER") number
  pub second : Has rows (codes "COUNT") count
  pub few : count ≤ most_employees

pub as_generate : (name : Text) (rows : List Row) (command : Command) → name ≡ codes "gen" → Tells name rows command → AreNumbers Generate rows command
as_generate name rows (OnFile task) is tells = absurd (not_gen task (sym tells ∙ is))
as_generate name rows (Format slots log_pages) is tells = absurd (distinct 103 102 refl (ap first_byte (sym is ∙ tells.0)))
as_generate name rows (Generate number count) is tells = record { number = number; count = count; is = refl; first = tells.1; second = tells.2; few = tells.3 }
as_generate name rows (Trial number count) is tells = absurd (distinct 103 116 refl (ap first_byte (sym is ∙ tells.0)))

pub as_trial : (name : Text) (rows : List Row) (command : Command) → name ≡ codes "trial" → Tells name rows command → AreNumbers Trial rows command
as_trial name rows (OnFile task) is tells = absurd (not_trial task (sym tells ∙ is))
as_trial name rows (Format slots log_pages) is tells = absurd (distinct 116 102 refl (ap first_byte (sym is ∙ tells.0)))
as_trial name rows (Generate number count) is tells = absurd (distinct 116 103 refl (ap first_byte (sym is ∙ tells.0)))
as_trial name rows (Trial number count) is tells = record { number = number; count = count; is = refl; first = tells.1; second = tells.2; few = tells.3 }

-- what stands in no row of names is no command
pub as_none : (name : Text) (rows : List Row) (command : Command) → (IsTask name → ⊥) → (name ≡ codes "format" → ⊥) → (name ≡ codes "gen" → ⊥) → (name ≡ codes "trial" → ⊥) → Tells name rows command → ⊥
as_none name rows (OnFile task) no_task format gen trial tells = no_task (record { task = task; spelled = tells })
as_none name rows (Format slots log_pages) no_task format gen trial tells = format tells.0
as_none name rows (Generate number count) no_task format gen trial tells = gen tells.0
as_none name rows (Trial number count) no_task format gen trial tells = trial tells.0
