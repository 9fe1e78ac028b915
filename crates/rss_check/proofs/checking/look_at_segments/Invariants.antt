use Rattle.rss_check.proofs.Looked.{LookedAt}
use Rattle.rss_check.proofs.checking.look_at_segments.Given as goal

abbrev pub invariant-loop-segment : goal.invariant-loop-segment
invariant-loop-segment g l = LookedAt l.catalog.listing l.segment l.wrong (g.P.Pages.view l.fn.pages) (g.P.Pages.view l.pages)
