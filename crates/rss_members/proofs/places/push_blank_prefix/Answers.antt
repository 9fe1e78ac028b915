-- Each turn puts the block of the link at its number behind, or nothing where none has it.
use Rattle.std.proofs.Common.{sym, ◌∙◌, ap, arith, List, ℕ, ◌++◌}
use Rattle.rss_members.specs.Members.{front_most}
use Rattle.rss_members.proofs.Sums.{blank_added, blank_passed, room_more, all_blank}
use Rattle.rss_members.proofs.places.push_blank_prefix.Goals as goal
use Rattle.rss_members.proofs.places.push_blank_prefix.Goals.{then-used, else-used}

pub extend_from_slice-requires : goal.extend_from_slice-requires
extend_from_slice-requires c = (omega arith, room_more c.args.catalog.now.listing c.args.relation c.loop-place.place c.args.front.now c.loop-place.front c.loop-place.invariant front_most c.blank_block.result.now c.link.ensures.is c.blank_block.ensures c.requires)

pub loop-place-preserved : goal.loop-place-preserved
loop-place-preserved c = elim c.if-used.branch [
  | then-used w ↦ blank_added c.args.catalog.now.listing c.args.relation c.loop-place.place c.args.front.now c.loop-place.front c.loop-place.invariant w.blank_block.result.now w.link.ensures.is w.blank_block.ensures (w.front-is ∙ w.extend_from_slice.ensures)
  | else-used w ↦ blank_passed c.args.catalog.now.listing c.args.relation c.loop-place.place c.args.front.now c.loop-place.front c.loop-place.invariant (sym c.used.ensures ∙ w.if-used.false) w.front-is
]

pub returns : goal.returns
returns c = c.loop-place.invariant ∙ ap (λ (l : List ℕ). c.args.front.now ++ l) (all_blank c.args.catalog.now.listing.links c.args.relation c.loop-place.place (λ number behind. c.last_link-place-end.ensures.none number (omega (arith, behind))))
