-- Each turn adds the bound of the image at its number, or nothing where none has it; behind the last image none has one.
use Rattle.std.proofs.Common.{ℕ, refl, sym, ◌∙◌, ap, arith}
use Rattle.rss_model.specs.Meter.{bound_of}
use Rattle.rss_model.specs.Spares.{bound_by, bound_at}
use Rattle.rss_entries.specs.Rooms.{width_of}
use Rattle.rss_access.proofs.ImageRooms.{image_added, image_passed, sum_whole}
use Rattle.rss_session.specs.Bounding.{most_by}
use Rattle.rss_session.specs.Parts.{view}
use Rattle.rss_session.proofs.session.Session.images_bound.Goals as goal
use Rattle.rss_session.proofs.session.Session.images_bound.Goals.{then-used, else-used}

pub loop-place-preserved : goal.loop-place-preserved
loop-place-preserved g c =
    let now = view g.S.Pages.view c.args.self.now in
    let most : ℕ → ℕ = most_by now c.args.saved c.args.number in
    let bound = bound_at now.store.catalog.listing most in
    elim c.if-used.branch [
      | then-used w ↦ record {
        sum = image_added bound refl now.store.catalog.listing c.loop-place.place c.loop-place.bound c.loop-place.invariant.sum w.image-image.ensures.is
            (w.image_bound-bound.ensures.is ∙ ap (bound_of (width_of w.image-image.result.now w.relation.result.now)) w.most_with-entries.ensures.is ∙ ap (bound_by most w.image-image.result.now) (sym w.relation.ensures.is)) w.bound-is;
        small = omega (arith, w.image_bound-bound.ensures.small, w.most_with-entries.ensures.small, w.bound-is, c.loop-place.invariant.small);
      }
      | else-used w ↦ record {
        sum = image_passed bound refl now.store.catalog.listing c.loop-place.place c.loop-place.bound c.loop-place.invariant.sum (sym c.used.ensures ∙ w.if-used.false) w.bound-is;
        small = omega (arith, w.bound-is, c.loop-place.invariant.small);
      }
    ]

pub returns-clause-is : goal.returns-clause-is
returns-clause-is g c =
    let now = view g.S.Pages.view c.args.self.now in
    c.loop-place.invariant.sum ∙ sum_whole (bound_at now.store.catalog.listing (most_by now c.args.saved c.args.number)) refl now.store.catalog.listing.images c.loop-place.place (λ number behind. c.last_image-place-end.ensures.none number (omega (arith, behind)))
