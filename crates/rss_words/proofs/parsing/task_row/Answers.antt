use Rattle.std.proofs.Common.{rules, ap₂, ◌∙◌}
use Rattle.std.proofs.lemmas.Result.{IfOk-weaker}
use Rattle.clap.specs.Words.{with_rule}
use Rattle.rss_words.proofs.parsing.task_row.Goals as goal

pub returns : goal.returns
returns c = IfOk-weaker c.arg.result _ _ (λ command adds. record {
  app = adds.shape c.word.ensures.local ∙ ap₂ with_rule c.new.ensures.app c.word.ensures.rule;
  local = search (rules, adds.globals);
}) c.arg.ensures
