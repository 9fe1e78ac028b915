-- The command line as clap has it: the subcommands with their arguments, and what is found of one.
use Rattle.std.specs.Prelude.{◌≡◌, ℕ, ◌^◌, ◌<◌, ◌≤◌, true, false, List, Some, codes, decimal}
use Rattle.clap.specs.Words.{App, Row, Rule, Text, app_of, new_app, new_rule, with_rule, with_subcommand, first_of, subcommand_rows_of}
use Rattle.clap.specs.declared.builder.command.Command.{Command as Subcommand}
use Rattle.clap.specs.declared.builder.command.Command.TheViews.{out-Command}
use Rattle.clap.specs.declared.parser.matches.ArgMatches.{ArgMatches}
use Rattle.rss_model.specs.Generator.{most_employees}
use Rattle.rss_words.specs.declared.command.Command.{Command}
use Rattle.rss_words.specs.declared.command.Command.TheVariants.{OnFile, Format, Generate, Trial}
use Rattle.rss_words.specs.declared.task.Task.TheVariants.{Run, Talk}
use Rattle.rss_words.specs.Words.{task_name}

-- ---- the subcommands

abbrev pub required : Text → Rule
required name = record (new_rule name) { required = true }

abbrev pub format_row : App
format_row = with_rule (with_rule (with_rule (new_app (codes "format"))
    (required (codes "FILE"))) (required (codes "N"))) (required (codes "G"))

abbrev pub task_row : Text → App
task_row name = with_rule (new_app name) (required (codes "FILE"))

abbrev pub generate_row : App
generate_row = with_rule (with_rule (new_app (codes "gen"))
    (required (codes "NUMBER"))) (required (codes "COUNT"))

abbrev pub trial_row : App
trial_row = with_rule (with_rule (with_rule (new_app (codes "trial"))
    (required (codes "FILE"))) (required (codes "NUMBER"))) (required (codes "COUNT"))

-- a subcommand is this row
pub record IsRow (row : App) (command : Subcommand) : Type 0 where
  pub app : app_of command ≡ row
  pub local : (out-Command command).has_globals ≡ false

-- one of them is to be there, and there is no help and no version
abbrev pub bare : App
bare = record (new_app (codes "rss")) {
  top = record (new_app (codes "rss")).top {
    subcommand_required = true;
    disable_help_flag = true;
    disable_help_subcommand = true;
    disable_version_flag = true;
  };
}

abbrev pub rss : App
rss = with_subcommand (with_subcommand (with_subcommand (with_subcommand (with_subcommand bare
    format_row.top) (task_row (task_name Run)).top) generate_row.top) trial_row.top) (task_row (task_name Talk)).top

-- ---- what is found

-- the argument is this number
pub record Has (rows : List Row) (name : Text) (n : ℕ) : Type 0 where
  pub word : first_of name rows ≡ Some (decimal n)
  pub fits : n < 2 ^ 64

-- a subcommand with these arguments is this command
abbrev pub Tells : Text → List Row → Command → Type 0
Tells name rows (OnFile task) = name ≡ task_name task
Tells name rows (Format slots log_pages) =
    (name ≡ codes "format") × Has rows (codes "N") slots × Has rows (codes "G") log_pages
Tells name rows (Generate number count) =
    (name ≡ codes "gen") × Has rows (codes "NUMBER") number × Has rows (codes "COUNT") count
    × (count ≤ most_employees)
Tells name rows (Trial number count) =
    (name ≡ codes "trial") × Has rows (codes "NUMBER") number × Has rows (codes "COUNT") count
    × (count ≤ most_employees)

pub record Finds (matches : ArgMatches) (command : Command) : Type 0 where
  pub name : Text
  pub rows : List Row
  pub found : subcommand_rows_of matches ≡ Some (name, rows)
  pub tells : Tells name rows command
