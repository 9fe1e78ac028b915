use Rattle.std.proofs.Common.{[], ◌∷◌, ◌++◌, ◌∙◌, ap}
use Rattle.rss_base.specs.declared.item.Item.TheVariants.{Tuple as TupleItem}
use Rattle.rss_base.specs.declared.need.Mode.TheVariants.{X}
use Rattle.rss_base.specs.declared.need.Need.{Need}
use Rattle.rss_rsi.specs.Parts.{parts_of}
use Rattle.rss_rsi.proofs.KeyLocks.{puts_access}
use Rattle.rss_rsi.proofs.Sayable.{more_sayable}
use Rattle.rss_rsi.proofs.engine.Rss.new_needs.Goals as goal

pub returns-clause-lists : goal.returns-clause-lists
returns-clause-lists g c =
    puts_access (parts_of c.args.self.now) c.args.relation.now c.args.tid c.args.number c.args.tuple.now c.in_ok-needs.needs.items c.push_keys.new.needs.items c.push.new.self.items c.tuple_need.result
    c.requires.known c.in_ok-needs.ensures.lists c.in_ok-push_keys.ensures.keys c.in_ok-push.ensures.items c.tuple_need.ensures.is

pub returns-clause-sayable : goal.returns-clause-sayable
returns-clause-sayable g c =
    more_sayable c.push_keys.new.needs.items c.push.new.self.items (TupleItem c.args.relation.now c.args.tid) X
    (c.in_ok-push.ensures.items ∙ ap (λ (n : Need). c.push_keys.new.needs.items ++ n ∷ []) c.tuple_need.ensures.is) c.in_ok-push_keys.ensures.sayable c.tuple_need.ensures.sayable
