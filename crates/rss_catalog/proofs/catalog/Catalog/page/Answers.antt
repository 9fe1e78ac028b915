-- Each page is put together of the places that it spells.
use Rattle.std.proofs.Common.{◌∙◌, ◌-◌, ap, sym, arith, List, Option}
use Rattle.rss_base.specs.declared.link.LinkEntry.{LinkEntry}
use Rattle.rss_catalog.specs.Catalogs.{CatalogView}
use Rattle.rss_catalog.specs.Loading.{relation_form, image_form, link_form, page_with}
use Rattle.rss_catalog.proofs.Plain.{images_page_is, links_page_is}
use Rattle.rss_catalog.proofs.Read.{relations_page_is}
use Rattle.rss_catalog.proofs.Stored.{few_part, page_is}
use Rattle.rss_catalog.proofs.catalog.Catalog.page.Goals as goal

pub relations_page-requires-clause-few : goal.relations_page-requires-clause-few
relations_page-requires-clause-few c = few_part c.self.inside.relations.items c.deref-then-number-le-RELATION_PAGES.result.now _ _ c.self.inside.safe c.deref-then-number-le-RELATION_PAGES.ensures.value

pub returns-then-number-le-RELATION_PAGES : goal.returns-then-number-le-RELATION_PAGES
returns-then-number-le-RELATION_PAGES c =
    page_is relation_form c.self.inside.relations.items _ c.args.self.now.listing.relations (c.args.number - 1) c.from-first.result c.from.result _ c.relations_page.ensures c.deref-then-number-le-RELATION_PAGES.ensures.value (ap (λ (v : CatalogView). v.listing.relations) c.self.view_is) (omega arith) c.from.ensures
    ∙ sym (relations_page_is c.args.self.now.listing c.args.number (omega arith) (omega arith))

pub returns-then-number : goal.returns-then-number
returns-then-number c =
    page_is image_form c.self.inside.images.items _ c.args.self.now.listing.images (c.args.number - 1 - 6) c.from-first-then-number.result c.from-then-number.result _ c.images_page.ensures c.deref-then-number.ensures.value (ap (λ (v : CatalogView). v.listing.images) c.self.view_is) (omega arith) c.from-then-number.ensures
    ∙ sym (images_page_is c.args.self.now.listing c.args.number (omega arith) (omega arith))

pub returns : goal.returns
returns c =
    c.links_page.ensures
    ∙ ap (λ (l : List (Option LinkEntry)). page_with link_form l) (c.deref-2.ensures.value ∙ ap (λ (v : CatalogView). v.listing.links) c.self.view_is)
    ∙ sym (links_page_is c.args.self.now.listing c.args.number (omega arith))
