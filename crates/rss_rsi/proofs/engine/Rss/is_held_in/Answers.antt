use Rattle.std.proofs.Common.{◌∙◌}
use Rattle.rss_base.specs.declared.item.Item.TheVariants.{Tuple}
use Rattle.rss_lock.specs.Table.{told}
use Rattle.rss_rsi.proofs.Held.{check_held}
use Rattle.rss_rsi.proofs.engine.Rss.is_held_in.Goals as goal

pub returns : goal.returns
returns g c = c.is_some.ensures ∙ check_held (told c.args.self.now.locks).locks c.args.transaction (Tuple c.args.relation.now c.args.tid) c.tuple_need-need.result c.check.result c.tuple_need-need.ensures.is c.check.ensures.some c.check.ensures.none
