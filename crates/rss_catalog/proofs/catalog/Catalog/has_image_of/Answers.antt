-- An image of the relation is an entry that belongs to it, up to the last image.
use Rattle.std.proofs.Common.{◌≡◌, ℕ, take, ◌∙◌, ap, sym, arith, List, Option}
use Rattle.std.proofs.lemmas.Bool.{eq-eqb, eqb-true}
use Rattle.rss_base.specs.Listings.{numbered}
use Rattle.rss_base.specs.declared.image.ImageEntry.{ImageEntry}
use Rattle.rss_catalog.specs.Catalogs.{CatalogView}
use Rattle.rss_catalog.proofs.Numbered.{numbered_take}
use Rattle.rss_catalog.proofs.catalog.Catalog.has_image_of.Goals as goal

pub returns : goal.returns
returns c =
    let inside = c.self.inside in
    let first = take c.from.result c.deref.result.now in
    let same : (number : ℕ) → numbered first number ≡ numbered c.args.self.now.listing.images number = λ number.
    ap (λ (l : List (Option ImageEntry)). numbered (take c.from.result l) number) c.deref.ensures.value
    ∙ numbered_take inside.images.items c.from.result number (omega (arith, inside.image_places, inside.few_images)) (λ k past. inside.none_behind k (omega (arith, past)))
    ∙ ap (λ (v : CatalogView). numbered v.listing.images number) c.self.view_is in (
      λ yes. let has = c.has_entry_of.ensures.0 yes in record { number = has.place; image = has.entry; at = sym (same has.place) ∙ has.at; of = eqb-true has.entry.relation c.args.relation has.of },
      λ has. c.has_entry_of.ensures.1 (record { place = has.number; entry = has.image; at = same has.number ∙ has.at; of = eq-eqb has.image.relation c.args.relation has.of }),
    )
