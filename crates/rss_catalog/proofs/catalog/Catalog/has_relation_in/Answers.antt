-- A relation of the segment is an entry that belongs to it.
use Rattle.std.proofs.Common.{ℕ, ◌∙◌, ap, sym, subst, List, Option}
use Rattle.std.specs.Prelude.{◌==◌}
use Rattle.std.proofs.lemmas.Bool.{eq-eqb, eqb-true}
use Rattle.rss_base.specs.declared.relation.RelationEntry.{RelationEntry}
use Rattle.rss_catalog.specs.Catalogs.{CatalogView}
use Rattle.rss_catalog.specs.Checking.{HasEntryOf}
use Rattle.rss_catalog.proofs.catalog.Catalog.has_relation_in.Goals as goal

pub returns : goal.returns
returns c =
    let belongs = λ (relation : RelationEntry) (number : ℕ). relation.segment == number in
    let same = c.deref.ensures.value ∙ ap (λ (v : CatalogView). v.listing.relations) c.self.view_is in (
      λ yes. let has = subst (λ (l : List (Option RelationEntry)). HasEntryOf belongs l c.args.segment) same (c.has_entry_of.ensures.0 yes) in record { number = has.place; relation = has.entry; at = has.at; within = eqb-true has.entry.segment c.args.segment has.of },
      λ has. c.has_entry_of.ensures.1 (subst (λ (l : List (Option RelationEntry)). HasEntryOf belongs l c.args.segment) (sym same) (record { place = has.number; entry = has.relation; at = has.at; of = eq-eqb has.relation.segment c.args.segment has.within })),
    )
