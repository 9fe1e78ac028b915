use Rattle.rss_base.specs.declared.item.Item.TheVariants.{Tuple}
use Rattle.rss_model.specs.Needs.{need, relation_needs}
use Rattle.rss_rsi.specs.Parts.{parts_of}
use Rattle.rss_rsi.proofs.KeyLocks.{tuple_pushed}
use Rattle.rss_rsi.proofs.engine.Rss.plain_needs.Goals as goal

pub returns-clause-lists : goal.returns-clause-lists
returns-clause-lists g c = tuple_pushed (parts_of c.args.self.now) (λ tables. relation_needs tables c.args.relation.now c.args.coarse c.args.coarse) c.in_ok-needs.needs.items c.push.new.self.items c.tuple_need.result (need (Tuple c.args.relation.now c.args.tid) c.args.mode) c.in_ok-needs.ensures.lists c.in_ok-push.ensures.items c.tuple_need.ensures.is
