use Rattle.std.proofs.Common.{◌≡◌, ◌∙◌, ap, ap₂}
use Rattle.std.specs.Prelude.{Some}
use Rattle.std.proofs.lemmas.Option.{none-some, same_Some}
use Rattle.clap.specs.Words.{found_of, rows_of}
use Rattle.rss_words.specs.declared.command.Command.TheVariants.{Format, Generate, Trial}
use Rattle.rss_words.proofs.Taken.{told, as_task, as_format, as_generate, as_trial, as_none, not_none}
use Rattle.rss_words.proofs.parsing.command_of.Goals as goal

pub returns-in_err-number_in-in-format : goal.returns-in_err-number_in-in-format
returns-in_err-number_in-in-format c = λ command finds.
    let rows = rows_of (found_of c.in_ok-name.values.now) in
    let are = as_format c.in_ok-name.name.now rows command c.in-format.is (told c.args.matches.now command c.in_ok-name.name.now rows c.in_ok-name.ensures.name c.in_ok-name.ensures.rows finds) in
    absurd (none-some are.slots (c.in_err-number_in-in-format.ensures are.slots are.first))

pub returns-in_err-number_in-in-format-2 : goal.returns-in_err-number_in-in-format-2
returns-in_err-number_in-in-format-2 c = λ command finds.
    let rows = rows_of (found_of c.in_ok-name.values.now) in
    let are = as_format c.in_ok-name.name.now rows command c.in-format.is (told c.args.matches.now command c.in_ok-name.name.now rows c.in_ok-name.ensures.name c.in_ok-name.ensures.rows finds) in
    absurd (none-some are.log_pages (c.in_err-number_in-in-format-2.ensures are.log_pages are.second))

pub returns-in_ok-number_in-in-format-2 : goal.returns-in_ok-number_in-in-format-2
returns-in_ok-number_in-in-format-2 c = λ command finds.
    let rows = rows_of (found_of c.in_ok-name.values.now) in
    let are = as_format c.in_ok-name.name.now rows command c.in-format.is (told c.args.matches.now command c.in_ok-name.name.now rows c.in_ok-name.ensures.name c.in_ok-name.ensures.rows finds) in
    let slots : c.in_ok-number_in-in-format.field-0 ≡ are.slots = same_Some c.in_ok-number_in-in-format.field-0 are.slots (c.in_ok-number_in-in-format.ensures are.slots are.first) in
    let log_pages : c.in_ok-number_in-in-format-2.field-0 ≡ are.log_pages = same_Some c.in_ok-number_in-in-format-2.field-0 are.log_pages (c.in_ok-number_in-in-format-2.ensures are.log_pages are.second) in
    ap Some (ap₂ Format slots log_pages ∙ are.is)

pub returns-in_err-number_in-in-gen : goal.returns-in_err-number_in-in-gen
returns-in_err-number_in-in-gen c = λ command finds.
    let rows = rows_of (found_of c.in_ok-name.values.now) in
    let are = as_generate c.in_ok-name.name.now rows command c.in-gen.is (told c.args.matches.now command c.in_ok-name.name.now rows c.in_ok-name.ensures.name c.in_ok-name.ensures.rows finds) in
    absurd (none-some are.number (c.in_err-number_in-in-gen.ensures are.number are.first))

pub returns-in_err-count_in-in-gen : goal.returns-in_err-count_in-in-gen
returns-in_err-count_in-in-gen c = λ command finds.
    let rows = rows_of (found_of c.in_ok-name.values.now) in
    let are = as_generate c.in_ok-name.name.now rows command c.in-gen.is (told c.args.matches.now command c.in_ok-name.name.now rows c.in_ok-name.ensures.name c.in_ok-name.ensures.rows finds) in
    absurd (none-some are.count (c.in_err-count_in-in-gen.ensures are.count are.second are.few))

pub returns-in_ok-count_in-in-gen : goal.returns-in_ok-count_in-in-gen
returns-in_ok-count_in-in-gen c = λ command finds.
    let rows = rows_of (found_of c.in_ok-name.values.now) in
    let are = as_generate c.in_ok-name.name.now rows command c.in-gen.is (told c.args.matches.now command c.in_ok-name.name.now rows c.in_ok-name.ensures.name c.in_ok-name.ensures.rows finds) in
    let number : c.in_ok-number_in-in-gen.field-0 ≡ are.number = same_Some c.in_ok-number_in-in-gen.field-0 are.number (c.in_ok-number_in-in-gen.ensures are.number are.first) in
    let count : c.in_ok-count_in-in-gen.field-0 ≡ are.count = same_Some c.in_ok-count_in-in-gen.field-0 are.count (c.in_ok-count_in-in-gen.ensures are.count are.second are.few) in
    ap Some (ap₂ Generate number count ∙ are.is)

pub returns-in_err-number_in-in-trial : goal.returns-in_err-number_in-in-trial
returns-in_err-number_in-in-trial c = λ command finds.
    let rows = rows_of (found_of c.in_ok-name.values.now) in
    let are = as_trial c.in_ok-name.name.now rows command c.in-trial.is (told c.args.matches.now command c.in_ok-name.name.now rows c.in_ok-name.ensures.name c.in_ok-name.ensures.rows finds) in
    absurd (none-some are.number (c.in_err-number_in-in-trial.ensures are.number are.first))

pub returns-in_err-count_in-in-trial : goal.returns-in_err-count_in-in-trial
returns-in_err-count_in-in-trial c = λ command finds.
    let rows = rows_of (found_of c.in_ok-name.values.now) in
    let are = as_trial c.in_ok-name.name.now rows command c.in-trial.is (told c.args.matches.now command c.in_ok-name.name.now rows c.in_ok-name.ensures.name c.in_ok-name.ensures.rows finds) in
    absurd (none-some are.count (c.in_err-count_in-in-trial.ensures are.count are.second are.few))

pub returns-in_ok-count_in-in-trial : goal.returns-in_ok-count_in-in-trial
returns-in_ok-count_in-in-trial c = λ command finds.
    let rows = rows_of (found_of c.in_ok-name.values.now) in
    let are = as_trial c.in_ok-name.name.now rows command c.in-trial.is (told c.args.matches.now command c.in_ok-name.name.now rows c.in_ok-name.ensures.name c.in_ok-name.ensures.rows finds) in
    let number : c.in_ok-number_in-in-trial.field-0 ≡ are.number = same_Some c.in_ok-number_in-in-trial.field-0 are.number (c.in_ok-number_in-in-trial.ensures are.number are.first) in
    let count : c.in_ok-count_in-in-trial.field-0 ≡ are.count = same_Some c.in_ok-count_in-in-trial.field-0 are.count (c.in_ok-count_in-in-trial.ensures are.count are.second are.few) in
    ap Some (ap₂ Trial number count ∙ are.is)

pub returns-in_err-named-in_default : goal.returns-in_err-named-in_default
returns-in_err-named-in_default c = λ command finds.
    let rows = rows_of (found_of c.in_ok-name.values.now) in
    absurd (as_none c.in_ok-name.name.now rows command c.in_err-named-in_default.ensures.none c.in_default.not-format c.in_default.not-gen c.in_default.not-trial (told c.args.matches.now command c.in_ok-name.name.now rows c.in_ok-name.ensures.name c.in_ok-name.ensures.rows finds))

pub returns-in_ok-named-in_default : goal.returns-in_ok-named-in_default
returns-in_ok-named-in_default c = λ command finds.
    let rows = rows_of (found_of c.in_ok-name.values.now) in
    ap Some (as_task c.in_ok-name.name.now rows command _ c.in_ok-named-in_default.ensures.some (told c.args.matches.now command c.in_ok-name.name.now rows c.in_ok-name.ensures.name c.in_ok-name.ensures.rows finds))

pub returns-in_err-name : goal.returns-in_err-name
returns-in_err-name c = λ command finds. absurd (not_none c.args.matches.now command finds c.in_err-name.ensures.name)
