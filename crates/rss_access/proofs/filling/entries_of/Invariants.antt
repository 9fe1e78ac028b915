use Rattle.std.proofs.Common.{◌≤◌, length}
use Rattle.rss_access.proofs.Gathering.{Gathered}
use Rattle.rss_access.proofs.NextTuples.{count_behind}
use Rattle.rss_access.proofs.filling.entries_of.Given as goal

abbrev pub invariant-loop-entries : goal.invariant-loop-entries
invariant-loop-entries g l = Gathered l.fn.catalog l.fn.number l.relation l.fn.which (g.P.Pages.view l.fn.tuples.pages) (g.P.Pages.view l.tuples.pages) l.last l.entries.items × (length l.entries.items ≤ l.relation.live)

abbrev pub decreases-loop-entries : goal.decreases-loop-entries
decreases-loop-entries g l = count_behind l.last
