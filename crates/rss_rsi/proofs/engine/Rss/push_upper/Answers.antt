use Rattle.std.proofs.Common.{[], ◌∷◌, ◌++◌, ◌∙◌, ap}
use Rattle.rss_base.specs.declared.need.Need.{Need}
use Rattle.rss_rsi.specs.Parts.{parts_of}
use Rattle.rss_rsi.proofs.LinkNeeds.{above_read, none_above, none_given}
use Rattle.rss_rsi.proofs.Sayable.{more_sayable}
use Rattle.rss_rsi.proofs.engine.Rss.push_upper.Goals as goal

pub returns-in_default-clause-pushed : goal.returns-in_default-clause-pushed
returns-in_default-clause-pushed g c = none_above (parts_of c.args.self.now) c.args.link.now c.args.number c.requires.known c.link.ensures.is c.args.parent c.args.needs.now.items c.in_default.is

pub returns-in_default-parent-clause-pushed : goal.returns-in_default-parent-clause-pushed
returns-in_default-parent-clause-pushed g c = none_given (parts_of c.args.self.now) c.args.link.now c.args.number c.requires.known c.link.ensures.is c.args.parent c.args.needs.now.items c.in_default-parent.is

pub returns-clause-pushed : goal.returns-clause-pushed
returns-clause-pushed g c = above_read (parts_of c.args.self.now) c.args.link.now c.args.number c.requires.known c.link.ensures.is c.in-Some.relation c.in-Some.is c.relation.ensures.is c.args.parent c.in-Some-parent.tid c.in-Some-parent.is
    c.args.needs.now.items c.push_relation.new.needs.items c.push.new.self.items c.tuple_need.result c.in_ok-push_relation.ensures.pushed c.in_ok-push.ensures.items c.tuple_need.ensures.is

pub returns-clause-sayable : goal.returns-clause-sayable
returns-clause-sayable g c = more_sayable c.push_relation.new.needs.items c.push.new.self.items _ _ (c.in_ok-push.ensures.items ∙ ap (λ (n : Need). c.push_relation.new.needs.items ++ n ∷ []) c.tuple_need.ensures.is) c.in_ok-push_relation.ensures.sayable c.tuple_need.ensures.sayable
