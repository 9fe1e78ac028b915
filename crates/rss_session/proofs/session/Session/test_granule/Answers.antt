use Rattle.std.proofs.Common.{◌∙◌, ap}
use Rattle.rss_base.specs.declared.refusal.Kind.TheVariants.{Segment as SegmentKind, Relation as RelationKind}
use Rattle.rss_base.specs.declared.refusal.Refusal.TheVariants.{NoSuch}
use Rattle.rss_model.specs.Refusals.{unless_granule}
use Rattle.rss_stored.proofs.ByNumber.{segment_named, relation_named}
use Rattle.rss_model.proofs.Tests.{passes_unless}
use Rattle.rss_session.proofs.session.Session.test_granule.Goals as goal
use Rattle.rss_session.proofs.session.Session.test_granule.Goals.{in-Segment, in-Relation}

pub returns-in-Some-clause-tests : goal.returns-in-Some-clause-tests
returns-in-Some-clause-tests g c = λ told state shows.
    let spells = shows.store.spells in
    let known = c.in-Some.ensures.some in
    elim c.match-item.branch [
      | in-Segment w ↦ ap (unless_granule state) w.in-Segment.is ∙ passes_unless (NoSuch SegmentKind) (segment_named spells.listed spells.defines w.in-Segment.name c.in-Some.number (rw w.kind-is at known))
      | in-Relation w ↦ ap (unless_granule state) w.in-Relation.is ∙ passes_unless (NoSuch RelationKind) (relation_named spells.listed spells.defines w.in-Relation.name c.in-Some.number (rw w.kind-is at known))
    ]
