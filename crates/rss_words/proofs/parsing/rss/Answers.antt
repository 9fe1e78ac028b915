use Rattle.std.proofs.Common.{ap, ap₂, ◌≡◌, ◌∙◌}
use Rattle.std.proofs.lemmas.Result.{IfOk-weaker}
use Rattle.clap.specs.Words.{App, app_of, with_subcommand}
use Rattle.rss_words.specs.Rows.{bare, task_row, format_row, generate_row, trial_row}
use Rattle.rss_words.specs.Words.{task_name}
use Rattle.rss_words.specs.declared.task.Task.TheVariants.{Run}
use Rattle.rss_words.proofs.parsing.rss.Goals as goal

pub returns : goal.returns
returns c =
    let first : app_of c.in_ok-subcommand.field-0 ≡ with_subcommand bare format_row.top = c.in_ok-subcommand.ensures.shape c.in_ok-format_row.ensures.local
    ∙ ap₂ with_subcommand c.bare.ensures (ap (λ (a : App). a.top) c.in_ok-format_row.ensures.app) in
    let second : app_of c.in_ok-subcommand-2.field-0 ≡ with_subcommand (with_subcommand bare format_row.top) (task_row (task_name Run)).top = c.in_ok-subcommand-2.ensures.shape c.in_ok-task_row.ensures.local
    ∙ ap₂ with_subcommand first (ap (λ (a : App). a.top) c.in_ok-task_row.ensures.app) in
    let third : app_of c.in_ok-subcommand-3.field-0 ≡ with_subcommand (with_subcommand (with_subcommand bare format_row.top) (task_row (task_name Run)).top) generate_row.top = c.in_ok-subcommand-3.ensures.shape c.in_ok-generate_row.ensures.local
    ∙ ap₂ with_subcommand second (ap (λ (a : App). a.top) c.in_ok-generate_row.ensures.app) in
    let fourth : app_of c.in_ok-subcommand-4.field-0 ≡ with_subcommand (with_subcommand (with_subcommand (with_subcommand bare format_row.top) (task_row (task_name Run)).top) generate_row.top) trial_row.top = c.in_ok-subcommand-4.ensures.shape c.in_ok-trial_row.ensures.local
    ∙ ap₂ with_subcommand third (ap (λ (a : App). a.top) c.in_ok-trial_row.ensures.app) in
    IfOk-weaker c.subcommand-5.result _ _ (λ command adds. adds.shape c.in_ok-task_row-2.ensures.local
    ∙ ap₂ with_subcommand fourth (ap (λ (a : App). a.top) c.in_ok-task_row-2.ensures.app)) c.subcommand-5.ensures
