use Rattle.std.proofs.Common.{sym, ◌∙◌, ap}
use Rattle.std.proofs.lemmas.Option.{same_Some}
use Rattle.rss_base.specs.Listings.{with_count}
use Rattle.rss_base.specs.declared.relation.RelationEntry.{RelationEntry}
use Rattle.rss_access.proofs.Rerooting.{keeps_counted, counted_itself}
use Rattle.rss_access.proofs.applying.recount.Goals as goal

pub returns-then-relation-count-clause-keeps : goal.returns-then-relation-count-clause-keeps
returns-then-relation-count-clause-keeps g = keeps_counted g.args.number (with_count g.args.count g.relation.result.now) (g.set_count.ensures.lists g.relation.result.now g.relation.ensures.is)

pub returns-else-relation-count-clause-lists : goal.returns-else-relation-count-clause-lists
returns-else-relation-count-clause-lists g = λ entry at. counted_itself g.args.catalog.now.listing g.args.number g.args.count entry at (sym g.if-relation-count.false ∙ ap (λ (e : RelationEntry). e.live) (same_Some _ _ (sym g.relation.ensures.is ∙ at)))
