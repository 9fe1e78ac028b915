-- Each turn adds the bound of the image at its number, or nothing where none has it; behind the last image none has one.
use Rattle.std.proofs.Common.{◌≡◌, ℕ, Some, refl, sym, ◌∙◌, ap, arith}
use Rattle.std.specs.Prelude.{Option, option_map, unwrap_or}
use Rattle.rss_base.specs.Listings.{Listing, relation_at}
use Rattle.rss_base.specs.declared.relation.RelationEntry.{RelationEntry}
use Rattle.rss_model.specs.Meter.{bound_of}
use Rattle.rss_model.specs.Spares.{bound_by, bound_at, live_of}
use Rattle.rss_entries.specs.Rooms.{width_of}
use Rattle.rss_access.proofs.ImageRooms.{image_added, image_passed, sum_whole}
use Rattle.rss_store.proofs.rooms.images_bound.Goals as goal
use Rattle.rss_store.proofs.rooms.images_bound.Goals.{then-used, else-used}

live_is : (listing : Listing) (number : ℕ) (relation : RelationEntry) → relation_at listing number ≡ Some relation → relation.live ≡ live_of listing number
live_is listing number relation at = sym (ap (λ (o : Option RelationEntry). unwrap_or (option_map (λ r. r.live) o) 0) at)

pub loop-place-preserved : goal.loop-place-preserved
loop-place-preserved c =
    let listing : Listing = c.args.catalog.now.listing in
    let bound = bound_at listing (live_of listing) in
    elim c.if-used.branch [
      | then-used w ↦ record {
        sum = image_added bound refl listing c.loop-place.place c.loop-place.bound c.loop-place.invariant.sum w.image-image.ensures.is
            (w.image_bound-bound.ensures.is
            ∙ ap (bound_of (width_of w.image-image.result.now w.relation-relation.result.now)) (w.from.ensures ∙ live_is listing w.image-image.result.now.relation w.relation-relation.result.now w.relation-relation.ensures.is)
            ∙ ap (bound_by (live_of listing) w.image-image.result.now) (sym w.relation-relation.ensures.is)) w.bound-is;
        small = omega (arith, w.image_bound-bound.ensures.small, w.from.ensures, w.bound-is, c.loop-place.invariant.small);
      }
      | else-used w ↦ record {
        sum = image_passed bound refl listing c.loop-place.place c.loop-place.bound c.loop-place.invariant.sum (sym c.used.ensures ∙ w.if-used.false) w.bound-is;
        small = omega (arith, w.bound-is, c.loop-place.invariant.small);
      }
    ]

pub returns-clause-is : goal.returns-clause-is
returns-clause-is c =
    let listing : Listing = c.args.catalog.now.listing in
    c.loop-place.invariant.sum ∙ sum_whole (bound_at listing (live_of listing)) refl listing.images c.loop-place.place (λ number behind. c.last_image-place-end.ensures.none number (omega (arith, behind)))
