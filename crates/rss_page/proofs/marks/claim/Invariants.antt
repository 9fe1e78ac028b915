use Rattle.std.proofs.Common.{◌*◌}
use Rattle.rss_page.proofs.Claimed.{IsClaiming}
use Rattle.rss_page.proofs.marks.claim.Given as goal

abbrev pub invariant-loop-word : goal.invariant-loop-word
invariant-loop-word l = IsClaiming l.initial.marks l.place l.end (64 * l.word) l.marks
