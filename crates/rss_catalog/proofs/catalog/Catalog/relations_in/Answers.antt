use Rattle.std.proofs.Common.{◌≡◌, ◌∙◌, Option, None, get_or, ap, sym, List, arith, subst, length, Vec, Global, ◌+◌}
use Rattle.std.proofs.lemmas.List.{get_or_default}
use Rattle.std.proofs.lemmas.Option.{same_Some}
use Rattle.rss_base.specs.declared.relation.RelationEntry.{RelationEntry}
use Rattle.rss_base.specs.declared.name.Name.{Name}
use Rattle.rss_catalog.specs.Catalogs.{CatalogView}
use Rattle.rss_catalog.proofs.NamesIn.{AreNamesBefore, names_none, names_skip, names_put, names_all}
use Rattle.rss_catalog.proofs.catalog.Catalog.relations_in.Goals as goal
use Rattle.rss_catalog.proofs.catalog.Catalog.relations_in.Goals.{in-Some+then-relation-segment+in_ok-push, in_default, in_default-via-in-None-1, in_default-via-in-Some+else-relation-segment}

pub loop-relation-init : goal.loop-relation-init
loop-relation-init c = names_none _ c.args.segment _ c.new-names.ensures.items

pub loop-relation-preserved : goal.loop-relation-preserved
loop-relation-preserved c =
    let items : c.deref-relation-items.result.now ≡ c.args.self.now.listing.relations = c.deref-relation-items.ensures.value ∙ ap (λ (v : CatalogView). v.listing.relations) c.self.view_is in
    let at : get_or c.args.self.now.listing.relations c.loop-relation.relation-index None ≡ c.relation-item.result =
    ap (λ (l : List (Option RelationEntry)). get_or l c.loop-relation.relation-index None) (sym items) ∙ get_or_default c.deref-relation-items.result.now c.loop-relation.relation-index None c.relation-item.result c.loop-relation-test.true ∙ sym c.relation-item.is in
    elim c.match-relation.branch [
      | in-Some+then-relation-segment+in_ok-push w ↦
          subst (AreNamesBefore c.args.self.now.listing.relations c.args.segment (c.loop-relation.relation-index + 1)) (sym w.in_ok-push.ensures.items ∙ ap (λ (v : Vec Name Global). v.items) (sym w.names-is))
          (names_put _ c.args.segment c.loop-relation.relation-index c.loop-relation.names.items w.in-Some.relation (at ∙ w.in-Some.is) w.if-relation-segment.true c.loop-relation.invariant)
      | in_default w ↦
          subst (λ (v : Vec Name Global). AreNamesBefore c.args.self.now.listing.relations c.args.segment (c.loop-relation.relation-index + 1) v.items) (sym w.names-is)
          (names_skip _ c.args.segment c.loop-relation.relation-index c.loop-relation.names.items (λ relation there within. elim w.in_default.branch [
            | in_default-via-in-None-1 w' ↦ cc
            | in_default-via-in-Some+else-relation-segment w' ↦ w'.if-relation-segment.false (ap (λ (r : RelationEntry). r.segment) (same_Some w'.in-Some.relation relation (sym w'.in-Some.is ∙ sym at ∙ there)) ∙ within)
          ]) c.loop-relation.invariant)
    ]

pub returns : goal.returns
returns c =
    names_all c.args.self.now.listing c.args.segment c.loop-relation.relation-index _
    (omega (arith, c.loop-relation-test.false, ap (λ (l : List (Option RelationEntry)). length l) (c.deref-relation-items.ensures.value ∙ ap (λ (v : CatalogView). v.listing.relations) c.self.view_is)))
    c.loop-relation.invariant
