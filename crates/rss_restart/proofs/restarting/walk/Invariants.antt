use Rattle.std.proofs.Common.{take, Ok}
use Rattle.std.specs.Prelude.{map}
use Rattle.rss_access.specs.Changes.{both, CanAlter}
use Rattle.rss_restart.specs.Walks.{turn, Leads, Walks, Counted}
use Rattle.rss_restart.proofs.restarting.walk.Given as goal

abbrev pub invariant-loop-position : goal.invariant-loop-position
invariant-loop-position g l = record {
  leads : Leads l.log (map (turn l.way) (take l.position-index l.positions)) (both (g.P.Pages.view l.initial.tuples.pages) l.initial.catalog) (both (g.P.Pages.view l.tuples.pages) l.catalog);
  counted : Counted l.log (map (turn l.way) (take l.position-index l.positions)) l.initial.catalog l.catalog;
  still : CanAlter (both (g.P.Pages.view l.tuples.pages) l.catalog);
  went : Walks {T = Unit {0}} l.log l.position-index (both (g.P.Pages.view l.initial.tuples.pages) l.initial.catalog) (both (g.P.Pages.view l.tuples.pages) l.catalog) (Ok tt);
}
