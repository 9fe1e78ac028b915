use Rattle.rss_check.proofs.LookedLinks.{LinksLooked}
use Rattle.rss_check.proofs.checking.look_at_links.Given as goal

abbrev pub invariant-loop-place : goal.invariant-loop-place
invariant-loop-place g l = LinksLooked l.catalog l.wrong l.place (g.P.Pages.view l.fn.tuples.pages) (g.P.Pages.view l.tuples.pages)
