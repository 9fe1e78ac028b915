-- Behind a checkpoint no more slots are needed for a change than without one.
use Rattle.std.proofs.Common.{ℕ, zero, suc, ◌+◌, ◌-◌, ◌/◌, ◌≤◌, Bool, true, false, if◌then◌else◌, arith}
use Rattle.std.specs.FinMap as finite
use Rattle.std.proofs.lemmas.List.Sums.{sum_by-le-sum_by}
use Rattle.std.proofs.Math.Nat.{div-mul-le_self, div-zero}
use Rattle.std.proofs.lemmas.Nat.{le-div}
use Rattle.rss_base.specs.Nodes.{node_least}
use Rattle.rss_base.specs.declared.name.Name.{Name}
use Rattle.rss_model.specs.Meter.{Traffic, bound_of, entries_most, image_pages, pages_of_image, counts_for}
use Rattle.rss_model.specs.Rules.{with_change, saved_now}
use Rattle.rss_model.specs.Kept.{SavingNeedsNoMore}

less_of_less : (a b d : ℕ) → a ≤ b → a / d ≤ b / d
less_of_less a b zero le = omega (arith, div-zero a, div-zero b)
less_of_less a b (suc d) le = le-div (a / suc d) b (suc d) (omega arith) (omega (arith, le, div-mul-le_self a (suc d)))

-- where there may be more entries, there may be more pages
pub more_bound : (width few many : ℕ) → few ≤ many → bound_of width few ≤ bound_of width many
more_bound width few many le = let pages = less_of_less few many (node_least width - 1) le in omega (arith, pages)

pub more_pages : (width : ℕ) (few many : Traffic) → entries_most few ≤ entries_most many → image_pages width few ≤ image_pages width many
more_pages width few many le = more_bound width (entries_most few) (entries_most many) le

-- with one change more in both
one_more : (counts : Bool) (few many : Traffic) → entries_most few ≤ entries_most many
    → entries_most (if counts then record { entries = few.entries; surviving = few.surviving; since = few.since + 1 } else few)
    ≤ entries_most (if counts then record { entries = many.entries; surviving = many.surviving; since = many.since + 1 } else many)
one_more true few many le = omega (arith, le)
one_more false few many le = le

pub saves : SavingNeedsNoMore
saves state change metered =
    let images = sum_by-le-sum_by (pages_of_image state.base.definitions (with_change state.base.definitions change (saved_now state)))
    (pages_of_image state.base.definitions (with_change state.base.definitions change state.meter)) (finite.values state.base.definitions.images)
    (λ image. more_pages _ _ _ (one_more (counts_for change.item image.relation) ((saved_now state).traffic image.relation) (state.meter.traffic image.relation) (covers image.relation))) in
    omega (arith, images, metered.heap)
  where
    covers : (relation : Name) → entries_most ((saved_now state).traffic relation) ≤ entries_most (state.meter.traffic relation)
    covers relation = let held = metered.tuples relation in omega (arith, held)
