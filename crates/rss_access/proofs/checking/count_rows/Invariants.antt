use Rattle.rss_entries.specs.Keyed.{kinds_of}
use Rattle.rss_access.proofs.Walked.{Looked}
use Rattle.rss_access.proofs.NextTuples.{count_behind}
use Rattle.rss_access.proofs.checking.count_rows.Given as goal

abbrev pub invariant-loop-tid : goal.invariant-loop-tid
invariant-loop-tid g l = Looked l.fn.catalog.listing l.fn.number (kinds_of l.fn.key) l.fn.image (g.P.Pages.view l.fn.tuples.pages) (g.P.Pages.view l.tuples.pages) l.last l.count

abbrev pub decreases-loop-tid : goal.decreases-loop-tid
decreases-loop-tid g l = count_behind l.last
