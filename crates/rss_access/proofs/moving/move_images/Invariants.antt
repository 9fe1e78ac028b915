-- The images up to the last one looked at show the tables after the change, and the identifiers in nodes have stayed below each number of slots.
use Rattle.std.proofs.Common.{◌+◌, ◌*◌}
use Rattle.rss_base.specs.DiskRule.{IsTold}
use Rattle.rss_base.specs.Steps.{PagesStep}
use Rattle.rss_base.specs.Listings.{relation_at}
use Rattle.rss_model.specs.Tables.{Tables}
use Rattle.rss_entries.specs.Images.{TupleMove}
use Rattle.rss_access.specs.Changes.{both, image_pages_of, AllNodesStay, ShowsMove}
use Rattle.rss_access.specs.Edits.{told_by}
use Rattle.rss_access.specs.Moved.{image_cost, KeepsKeys, ShowsMoveBelow, StaysAsItWas}
use Rattle.rss_access.specs.Relisted.{Rerooted}
use Rattle.rss_access.proofs.moving.move_images.Given as goal

abbrev pub invariant-loop-place : goal.invariant-loop-place
invariant-loop-place g l = record {
  rerooted : Rerooted l.fn.catalog l.catalog;
  step : PagesStep (image_pages_of (relation_at l.fn.catalog.listing l.fn.change.number)) (l.place * image_cost) (l.place * image_cost) (g.P.Pages.view l.fn.pages) (g.P.Pages.view l.pages);
  shows : IsTold (g.P.Pages.view l.fn.pages).disk → (move : TupleMove) (tables : Tables) → ShowsMove (both (g.P.Pages.view l.fn.pages) l.fn.catalog) (told_by l.fn.change) move tables
      → ShowsMoveBelow (l.place + 1) (both (g.P.Pages.view l.pages) l.catalog) (told_by l.fn.change) move tables;
  nodes : IsTold (g.P.Pages.view l.fn.pages).disk → AllNodesStay (both (g.P.Pages.view l.fn.pages) l.fn.catalog) (both (g.P.Pages.view l.pages) l.catalog) (told_by l.fn.change);
  stays : KeepsKeys l.fn.catalog.listing (told_by l.fn.change) → StaysAsItWas (both (g.P.Pages.view l.fn.pages) l.fn.catalog) (both (g.P.Pages.view l.pages) l.catalog);
}
