use Rattle.std.proofs.Common.{◌≡◌, ◌≤◌, sym, ◌∙◌, ap, subst, arith}
use Rattle.std.specs.Prelude.{All, length}
use Rattle.std.proofs.lemmas.Option.{same_Some}
use Rattle.rss_base.specs.Listings.{IsFieldNumber, field_numbers}
use Rattle.rss_base.specs.TupleTypes.{most_key_width}
use Rattle.rss_base.specs.declared.relation.RelationEntry.{RelationEntry}
use Rattle.rss_model.specs.Meter.{bound_of}
use Rattle.rss_model.specs.Spares.{bound_by}
use Rattle.rss_entries.specs.Rooms.{width_of}
use Rattle.rss_trans.specs.declared.sums.Sums.{Sums}
use Rattle.rss_session.specs.Filling.{pages_for}
use Rattle.rss_session.specs.Parts.{view}
use Rattle.rss_session.specs.Weighing.{saved_most}
use Rattle.rss_session.proofs.FilledRooms.{planned_fits, planned_within, planned_narrow}
use Rattle.rss_session.proofs.session.Session.room_for.Goals as goal

pub image_bound-more-requires-clause-few : goal.image_bound-more-requires-clause-few
image_bound-more-requires-clause-few g c = (planned_fits c.requires.planned.plans).few

pub image_bound-more-requires-clause-within : goal.image_bound-more-requires-clause-within
image_bound-more-requires-clause-within g c =
    let plans = c.requires.planned.plans in
    let same : plans.within ≡ c.relation-relation.result.now = same_Some _ _ (sym plans.at ∙ c.relation-relation.ensures.is) in
    let are = subst (λ (r : RelationEntry). All (IsFieldNumber (length r.fields)) (field_numbers c.args.image.now)) same (planned_within plans) in
    λ k d low. let here = are k d low in (here.low, here.high)

pub image_bound-more-requires-clause-narrow : goal.image_bound-more-requires-clause-narrow
image_bound-more-requires-clause-narrow g c =
    let plans = c.requires.planned.plans in
    let same : plans.within ≡ c.relation-relation.result.now = same_Some _ _ (sym plans.at ∙ c.relation-relation.ensures.is) in
    subst (λ (r : RelationEntry). width_of c.args.image.now r ≤ most_key_width) same (planned_narrow plans)

pub returns : goal.returns
returns g c =
    let now = view g.S.Pages.view c.args.self.now in
    let more : c.image_bound-more.result ≡ pages_for now c.args.image.now =
    c.image_bound-more.ensures.is
    ∙ ap (bound_of (width_of c.args.image.now c.relation-relation.result.now)) c.saved_most.ensures.is
    ∙ ap (bound_by (saved_most now) c.args.image.now) (sym c.relation-relation.ensures.is) in
    omega (arith, more, c.room_of.ensures, c.images_bound.ensures.is, c.from.ensures, c.heap.ensures, ap (λ (s : Sums). s.p) c.sums.ensures)
