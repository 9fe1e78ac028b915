use Rattle.std.proofs.Common.{refl, sym, ◌∙◌}
use Rattle.rss_frames.proofs.Moves.{past_same}
use Rattle.rss_frames.proofs.Ring.{none_linked, ring_none}
use Rattle.rss_frames.proofs.recency.Order.new.Goals as goal

pub invariant_of-order : goal.invariant_of-order
invariant_of-order c =
    let n = c.row_of-next.ensures in let p = c.row_of-prev.ensures in (
      rw ring_none (none_linked _ _ _ n.items p.items),
      (n.seated, p.seated, p.at ∙ n.rest.0 ∙ past_same (sym n.at) (sym n.units)),
    )

pub returns-clause-order : goal.returns-clause-order
returns-clause-order c =
    let n = c.row_of-next.ensures in let p = c.row_of-prev.ensures in
    rw (ring_none, n.at, n.units, p.units) refl
