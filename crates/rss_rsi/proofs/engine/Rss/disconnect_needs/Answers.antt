use Rattle.std.proofs.Common.{sym, subst, Vec, Global}
use Rattle.rss_base.specs.declared.need.Need.{Need}
use Rattle.rss_rsi.specs.Linking.{ListsPlaced}
use Rattle.rss_rsi.specs.Parts.{parts_of}
use Rattle.rss_rsi.proofs.Chained.{link_entry}
use Rattle.rss_rsi.proofs.LinkNeeds.{outside_lists, placed_lists}
use Rattle.rss_rsi.proofs.engine.Rss.disconnect_needs.Goals as goal
use Rattle.rss_rsi.proofs.engine.Rss.disconnect_needs.Goals.{in-Some+in_ok-push_chain, in_default}

pub returns-clause-lists : goal.returns-clause-lists
returns-clause-lists g c = elim c.match-place.branch [
  | in-Some+in_ok-push_chain w ↦ subst (λ (v : Vec Need Global). ListsPlaced (parts_of c.args.self.now) c.args.link.now c.args.child c.args.place.now v.items) (sym w.needs-is)
      (placed_lists (parts_of c.args.self.now) c.args.link.now c.args.number c.requires.known (link_entry c.args.self.now.session.store.catalog.listing c.args.link.now c.args.number c.requires.known).at c.args.child c.args.place.now w.in-Some.place w.in-Some.is c.in_ok-needs.ensures.lists w.in_ok-push_chain.ensures.pushed)
  | in_default w ↦ subst (λ (v : Vec Need Global). ListsPlaced (parts_of c.args.self.now) c.args.link.now c.args.child c.args.place.now v.items) (sym w.needs-is)
      (outside_lists (parts_of c.args.self.now) c.args.link.now c.args.child c.args.place.now w.in_default.is c.in_ok-needs.ensures.lists)
]
