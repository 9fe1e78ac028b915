-- There is a place for each number up to the last.
use Rattle.std.proofs.Common.{sym, ◌∙◌, ap, arith}
use Rattle.rss_base.specs.Listings.{relation_at}
use Rattle.rss_catalog.specs.Catalogs.{CatalogView}
use Rattle.rss_catalog.proofs.Numbered.{numbered_past}
use Rattle.rss_catalog.proofs.catalog.Catalog.last_relation.Goals as goal

pub returns-clause-none : goal.returns-clause-none
returns-clause-none c = λ number above.
    ap (λ (v : CatalogView). relation_at v.listing number) (sym c.self.view_is)
    ∙ numbered_past c.self.inside.relations.items number (omega (arith, above))
