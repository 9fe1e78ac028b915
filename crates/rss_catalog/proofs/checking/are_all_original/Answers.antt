-- A relation with an added field was found at its place, or at none of the places.
use Rattle.std.proofs.Common.{◌≡◌, ◌∙◌, ◌+◌, List, All, sym, subst, refl, arith, false, None}
use Rattle.std.proofs.lemmas.List.{get_or_default}
use Rattle.std.proofs.lemmas.Option.{same_Some}
use Rattle.rss_base.specs.TupleTypes.{is_added}
use Rattle.rss_base.specs.Listings.{added_count}
use Rattle.rss_base.specs.declared.field.FieldDef.{FieldDef}
use Rattle.rss_base.specs.declared.relation.RelationEntry.{RelationEntry}
use Rattle.rss_catalog.proofs.Numbered.{has_number}
use Rattle.rss_catalog.proofs.Counts.{counts_none, none_counted}
use Rattle.rss_catalog.proofs.Tested.{each_more, each_all}
use Rattle.rss_catalog.proofs.checking.are_all_original.Goals.{in_default-via-in-None-1, in_default-via-in-Some+else-not-are_original}
use Rattle.rss_catalog.proofs.checking.are_all_original.Goals as goal

pub returns-in-loop-relation : goal.returns-in-loop-relation
returns-in-loop-relation c = (
  λ it. absurd (cc),
  λ all.
      let none = all (c.loop-relation.relation-index + 1) c.in-Some.relation (has_number c.args.relations.now c.loop-relation.relation-index c.relation-item.result c.in-Some.relation c.loop-relation-test.true (sym c.relation-item.is ∙ c.in-Some.is)) in
      sym c.if-not-are_original.true ∙ c.are_original.ensures.1 (subst (λ (l : List FieldDef). All (λ field. field.added ≡ false) l) (sym c.as_slice.ensures) (none_counted is_added c.in-Some.relation.fields none)),
)

pub loop-relation-preserved : goal.loop-relation-preserved
loop-relation-preserved c =
    each_more (λ (relation : RelationEntry). added_count relation.fields ≡ 0) c.args.relations.now c.loop-relation.relation-index c.relation-item.result
    (c.relation-item.is ∙ get_or_default c.args.relations.now c.loop-relation.relation-index c.relation-item.result None c.loop-relation-test.true)
    (λ relation there. elim c.in_default.branch [
      | in_default-via-in-None-1 w ↦ cc
      | in_default-via-in-Some+else-not-are_original w ↦
          let original = subst (λ (l : List FieldDef). All (λ field. field.added ≡ false) l) w.as_slice.ensures (w.are_original.ensures.0 w.if-not-are_original.false) in
          subst (λ (r : RelationEntry). added_count r.fields ≡ 0) (same_Some w.in-Some.relation relation (sym w.in-Some.is ∙ there)) (counts_none is_added w.in-Some.relation.fields original)
    ])
    c.loop-relation.invariant

pub returns : goal.returns
returns c = (λ it. each_all (λ (relation : RelationEntry). added_count relation.fields ≡ 0) c.args.relations.now c.loop-relation.relation-index (omega arith) c.loop-relation.invariant, λ all. refl)
