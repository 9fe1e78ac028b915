use Rattle.std.proofs.lemmas.Result.{IfOk-weaker}
use Rattle.rss_rsi.proofs.ImageScans.{image_lists}
use Rattle.rss_rsi.proofs.engine.Rss.image_needs.Goals as goal

pub returns-clause-lists : goal.returns-clause-lists
returns-clause-lists g c = IfOk-weaker c.relation_needs.result _ _ (λ needs lists image named. image_lists (record { at = c.image.ensures.is; within = c.relation.ensures.is }) lists image named) c.relation_needs.ensures.lists
