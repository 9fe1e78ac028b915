use Rattle.std.proofs.Common.{sym, subst}
use Rattle.std.specs.FinMap.{get}
use Rattle.std.specs.Prelude.{IfOk}
use Rattle.std.proofs.lemmas.Result.{IfOk-weaker}
use Rattle.rss_model.specs.Tables.{Tables}
use Rattle.rss_rsi.specs.Linking.{child_list}
use Rattle.rss_rsi.specs.Locking.{Lists}
use Rattle.rss_rsi.specs.Parts.{parts_of}
use Rattle.rss_rsi.specs.declared.locking.Access.{Access}
use Rattle.rss_rsi.proofs.LinkNeeds.{child_changed, child_read}
use Rattle.rss_rsi.proofs.engine.Rss.child_needs.Goals as goal

pub returns-in-Read-clause-lists : goal.returns-in-Read-clause-lists
returns-in-Read-clause-lists g c =
    subst (λ (access : Access). IfOk c.plain_needs.result (λ needs. Lists (parts_of c.args.self.now) (λ (tables : Tables). child_list tables access c.args.child (get tables.definitions.links c.args.link.now)) needs.items)) (sym c.in-Read.is)
    (IfOk-weaker c.plain_needs.result _ _ (λ needs lists. child_read (parts_of c.args.self.now) c.args.link.now c.args.number c.requires.known c.link.ensures.is c.relation.ensures.is c.args.child lists) c.plain_needs.ensures.lists)

pub returns-in-Change-clause-lists : goal.returns-in-Change-clause-lists
returns-in-Change-clause-lists g c =
    subst (λ (access : Access). IfOk c.plain_needs-in-Change.result (λ needs. Lists (parts_of c.args.self.now) (λ (tables : Tables). child_list tables access c.args.child (get tables.definitions.links c.args.link.now)) needs.items)) (sym c.in-Change.is)
    (IfOk-weaker c.plain_needs-in-Change.result _ _ (λ needs lists. child_changed (parts_of c.args.self.now) c.args.link.now c.args.number c.requires.known c.link.ensures.is c.relation.ensures.is c.args.child lists) c.plain_needs-in-Change.ensures.lists)
