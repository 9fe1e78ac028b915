use Rattle.std.proofs.Common.{rules, ap₂, ◌∙◌}
use Rattle.std.proofs.lemmas.Result.{IfOk-weaker}
use Rattle.clap.specs.Words.{with_rule}
use Rattle.rss_words.proofs.parsing.format_row.Goals as goal

pub returns : goal.returns
returns c = IfOk-weaker c.arg-3.result _ _ (λ command adds. record {
  app = adds.shape c.word-3.ensures.local
      ∙ ap₂ with_rule (c.in_ok-arg-2.ensures.shape c.word-2.ensures.local ∙ ap₂ with_rule (c.in_ok-arg.ensures.shape c.word.ensures.local ∙ ap₂ with_rule c.new.ensures.app c.word.ensures.rule) c.word-2.ensures.rule) c.word-3.ensures.rule;
  local = search (rules, adds.globals);
}) c.arg-3.ensures
