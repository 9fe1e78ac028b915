use Rattle.std.proofs.Common.{◌∙◌, ap, sym, List, Option}
use Rattle.rss_base.specs.Listings.{numbered}
use Rattle.rss_base.specs.declared.relation.RelationEntry.{RelationEntry}
use Rattle.rss_catalog.proofs.catalog.Catalog.relation.Goals as goal

pub returns-clause-safe : goal.returns-clause-safe
returns-clause-safe c = c.self.inside.safe c.args.number _ (ap (λ (l : List (Option RelationEntry)). numbered l c.args.number) (sym c.deref.ensures.value) ∙ c.in-Some.ensures.some)
