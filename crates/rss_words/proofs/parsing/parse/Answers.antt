use Rattle.std.proofs.Common.{◌≡◌, ◌∙◌, map, ap, sym, subst, true}
use Rattle.std.specs.Prelude.{string_bytes}
use Rattle.std.proofs.lemmas.Option.{none-some, same_Some}
use Rattle.clap.specs.Words.{App, app_of, is_simple, subcommand_of, subcommand_rows_of, takes}
use Rattle.rss_words.specs.Words.{AskFor}
use Rattle.rss_words.specs.declared.command.Command.{Command}
use Rattle.rss_words.specs.Rows.{rss}
use Rattle.rss_words.proofs.Taken.{simple, good_found, good_taken}
use Rattle.rss_words.proofs.parsing.parse.Goals as goal

pub unreachable-requires : goal.unreachable-requires
unreachable-requires c =
    let words = map string_bytes c.args.words.now in
    let app = c.in_ok-rss.ensures in
    let found : subcommand_rows_of c.in-Ok.matches ≡ subcommand_of rss words = (c.in-Ok.ensures.matches (ap is_simple app ∙ simple)).1 ∙ ap (λ (a : App). subcommand_of a words) app in
    let finds = good_found words c.requires.command c.requires.asked c.in-Ok.matches found in
    none-some c.requires.command (c.in-None.ensures c.requires.command finds)

pub returns-in-Some : goal.returns-in-Some
returns-in-Some c =
    let words = map string_bytes c.args.words.now in
    let app = c.in_ok-rss.ensures in
    let found : subcommand_rows_of c.in-Ok.matches ≡ subcommand_of rss words = (c.in-Ok.ensures.matches (ap is_simple app ∙ simple)).1 ∙ ap (λ (a : App). subcommand_of a words) app in
    let finds = good_found words c.requires.command c.requires.asked c.in-Ok.matches found in
    let same : c.in-Some.command ≡ c.requires.command = same_Some c.in-Some.command c.requires.command (c.in-Some.ensures c.requires.command finds) in
    subst (λ (command : Command). AskFor words command) (sym same) c.requires.asked

pub prove-unreachable-requires : goal.prove-unreachable-requires
prove-unreachable-requires c =
    let words = map string_bytes c.args.words.now in
    let taken : takes (app_of c.in_ok-rss.field-0) words ≡ true = ap (λ (a : App). takes a words) c.in_ok-rss.ensures ∙ good_taken words c.requires in
    let kind = c.kind.ensures ∙ c.in-Err.ensures.passes taken in
    let no = rw kind at c.if-prove.ensures in
    cc
