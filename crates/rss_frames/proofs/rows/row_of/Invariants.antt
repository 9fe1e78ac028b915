use Rattle.std.proofs.Common.{◌≡◌, replicate}
use Rattle.rss_frames.specs.Seated.{IsSeated}
use Rattle.rss_frames.proofs.rows.row_of.Given as goal

abbrev pub invariant-loop-at : goal.invariant-loop-at
invariant-loop-at g l = (l.row.items ≡ replicate l._at l.value) × IsSeated l.row l.seat
