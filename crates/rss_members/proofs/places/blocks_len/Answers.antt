-- Each turn adds the block of the link at its number, or nothing where none has it.
use Rattle.std.proofs.Common.{sym, ◌∙◌, ap, arith, length}
use Rattle.rss_base.specs.Prefixes.{early_part}
use Rattle.rss_members.proofs.Prefixed.{long_blank_block, size_most}
use Rattle.rss_members.proofs.Sums.{link_added, link_passed}
use Rattle.rss_members.proofs.places.blocks_len.Goals as goal
use Rattle.rss_members.proofs.places.blocks_len.Goals.{then-used, else-used}

pub loop-place-preserved : goal.loop-place-preserved
loop-place-preserved c = elim c.if-used.branch [
  | then-used w ↦
      let long = ap length w.blank_block.ensures ∙ long_blank_block (early_part w.link.result.now c.args.relation) in record {
        sum = link_added c.args.catalog.now.listing c.args.relation c.loop-place.place c.loop-place.bytes c.loop-place.invariant.sum w.link.ensures.is long w.bytes-is;
        small = omega (arith, w.bytes-is, long, size_most (early_part w.link.result.now c.args.relation), c.loop-place.invariant.small);
      }
  | else-used w ↦ record {
    sum = link_passed c.args.catalog.now.listing c.args.relation c.loop-place.place c.loop-place.bytes c.loop-place.invariant.sum (sym c.used.ensures ∙ w.if-used.false) w.bytes-is;
    small = omega (arith, w.bytes-is, c.loop-place.invariant.small);
  }
]
