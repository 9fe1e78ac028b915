use Rattle.std.proofs.Common.{◌-◌, sym, ◌∙◌, arith}
use Rattle.rss_value.proofs.Standing.{some_behind}
use Rattle.rss_value.proofs.codec.standing.Goals as goal

pub returns-else-is_undefined-clause-least : goal.returns-else-is_undefined-clause-least
returns-else-is_undefined-clause-least c count below =
    some_behind c.args.values.now count (c.loop-count.count - 1) c.index-values-count.result (omega arith) (omega arith) c.index-values-count.is (sym c.is_undefined.ensures ∙ c.if-is_undefined.false)
