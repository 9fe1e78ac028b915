use Rattle.std.proofs.Common.{sym, ◌∙◌, arith}
use Rattle.rss_lock.proofs.Holding.{all_full}
use Rattle.rss_lock.proofs.places.free_place.Goals as goal
use mathlib.Core.Bool.{true≢false}

pub unreachable-requires : goal.unreachable-requires
unreachable-requires c = true≢false (sym c.requires ∙ all_full c.args.places.now (λ k below. c.loop-place.invariant k (omega arith)))
