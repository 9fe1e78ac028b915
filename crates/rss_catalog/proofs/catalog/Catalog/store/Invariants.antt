use Rattle.rss_catalog.proofs.Stored.{StoresBelow}
use Rattle.rss_catalog.proofs.catalog.Catalog.store.Given as goal

abbrev pub invariant-loop-number : goal.invariant-loop-number
invariant-loop-number g l = StoresBelow l.fn.self l.number (g.P.Pages.view l.fn.pages) (g.P.Pages.view l.pages)
