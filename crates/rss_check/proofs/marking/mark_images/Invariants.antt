use Rattle.rss_check.proofs.LookedImages.{ImagesLooked}
use Rattle.rss_check.proofs.marking.mark_images.Given as goal

abbrev pub invariant-loop-place : goal.invariant-loop-place
invariant-loop-place g l = ImagesLooked l.catalog l.wrong l.place l.rows.items (g.P.Pages.view l.fn.tuples.pages)
    (g.P.Pages.view l.tuples.pages)
