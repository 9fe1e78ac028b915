use Rattle.std.proofs.Common.{List, subst}
use Rattle.rss_base.specs.declared.need.Need.{Need}
use Rattle.rss_model.specs.Needs.{relation_needs}
use Rattle.rss_model.specs.Tables.{Tables}
use Rattle.rss_rsi.specs.Linking.{ListsBehind}
use Rattle.rss_rsi.specs.Parts.{parts_of}
use Rattle.rss_rsi.proofs.engine.Rss.relation_needs.Goals as goal

pub returns-clause-lists : goal.returns-clause-lists
returns-clause-lists g c =
    subst (λ (before : List Need). ListsBehind (parts_of c.args.self.now) (λ (tables : Tables). relation_needs tables c.args.relation.now c.args.coarse c.args.mode) before c.push_relation.new.needs.items)
    c.in_ok-needs.ensures.items c.in_ok-push_relation.ensures.pushed
