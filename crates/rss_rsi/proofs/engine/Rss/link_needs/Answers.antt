use Rattle.std.proofs.Common.{List, subst}
use Rattle.std.specs.FinMap.{get}
use Rattle.rss_base.specs.declared.need.Need.{Need}
use Rattle.rss_model.specs.Tables.{Tables}
use Rattle.rss_rsi.specs.Linking.{ListsBehind, upper_list}
use Rattle.rss_rsi.specs.Parts.{parts_of}
use Rattle.rss_rsi.proofs.LinkNeeds.{scan_lists}
use Rattle.rss_rsi.proofs.engine.Rss.link_needs.Goals as goal

pub returns-clause-lists : goal.returns-clause-lists
returns-clause-lists g c = scan_lists (parts_of c.args.self.now) c.args.link.now c.args.number c.requires.known c.link.ensures.is c.relation.ensures.is c.args.parent
    (subst (λ (before : List Need). ListsBehind (parts_of c.args.self.now) (λ (tables : Tables). upper_list tables c.args.parent (get tables.definitions.links c.args.link.now)) before c.push_upper.new.needs.items) c.new-needs.ensures.items c.in_ok-push_upper.ensures.pushed)
    c.in_ok-push_relation.ensures.pushed
