use Rattle.std.proofs.Common.{[], ◌∷◌, ◌++◌, ◌∙◌, ap}
use Rattle.rss_base.specs.declared.need.Need.{Need}
use Rattle.rss_rsi.specs.Parts.{parts_of}
use Rattle.rss_rsi.proofs.Chained.{link_entry}
use Rattle.rss_rsi.proofs.LinkNeeds.{chain_behind}
use Rattle.rss_rsi.proofs.Sayable.{more_sayable}
use Rattle.rss_rsi.proofs.engine.Rss.push_chain.Goals as goal

pub returns-clause-pushed : goal.returns-clause-pushed
returns-clause-pushed g c = chain_behind (parts_of c.args.self.now) c.args.link.now c.args.number c.requires.known (link_entry c.args.self.now.session.store.catalog.listing c.args.link.now c.args.number c.requires.known).at c.args.parent
    c.args.needs.now.items c.push_upper.new.needs.items c.push.new.self.items c.chain_need.result c.in_ok-push_upper.ensures.pushed c.in_ok-push.ensures.items c.chain_need.ensures.is

pub returns-clause-sayable : goal.returns-clause-sayable
returns-clause-sayable g c = more_sayable c.push_upper.new.needs.items c.push.new.self.items _ _ (c.in_ok-push.ensures.items ∙ ap (λ (n : Need). c.push_upper.new.needs.items ++ n ∷ []) c.chain_need.ensures.is) c.in_ok-push_upper.ensures.sayable c.chain_need.ensures.sayable
