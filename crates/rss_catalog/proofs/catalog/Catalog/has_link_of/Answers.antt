-- A link of the relation is an entry that belongs to it.
use Rattle.std.proofs.Common.{ℕ, ◌∙◌, ap, sym, subst, List, Option, Some}
use Rattle.rss_base.specs.Listings.{has_role}
use Rattle.rss_base.specs.declared.link.LinkEntry.{LinkEntry}
use Rattle.rss_catalog.specs.Catalogs.{CatalogView}
use Rattle.rss_catalog.specs.Checking.{HasEntryOf}
use Rattle.rss_catalog.proofs.catalog.Catalog.has_link_of.Goals as goal

pub returns : goal.returns
returns c =
    let belongs = λ (link : LinkEntry) (number : ℕ). has_role number (Some link) in
    let same = c.deref.ensures.value ∙ ap (λ (v : CatalogView). v.listing.links) c.self.view_is in (
      λ yes. let has = subst (λ (l : List (Option LinkEntry)). HasEntryOf belongs l c.args.relation) same (c.has_entry_of.ensures.0 yes) in record { number = has.place; link = has.entry; at = has.at; of = has.of },
      λ has. c.has_entry_of.ensures.1 (subst (λ (l : List (Option LinkEntry)). HasEntryOf belongs l c.args.relation) (sym same) (record { place = has.number; entry = has.link; at = has.at; of = has.of })),
    )
