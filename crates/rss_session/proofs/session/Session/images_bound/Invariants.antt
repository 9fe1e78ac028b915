-- The sum so far is that over the images up to the last one looked at.
use Rattle.std.proofs.Common.{◌≡◌, ◌≤◌, ◌*◌, ◌+◌, ◌^◌, take}
use Rattle.std.specs.Prelude.{sum_by}
use Rattle.rss_model.specs.Spares.{bound_at}
use Rattle.rss_session.specs.Bounding.{most_by}
use Rattle.rss_session.specs.Parts.{view}
use Rattle.rss_session.proofs.session.Session.images_bound.Given as goal

abbrev pub invariant-loop-place : goal.invariant-loop-place
invariant-loop-place g l = record {
  sum : l.bound ≡ sum_by (bound_at (view g.S.Pages.view l.self).store.catalog.listing (most_by (view g.S.Pages.view l.self) l.saved l.number)) (take l.place (view g.S.Pages.view l.self).store.catalog.listing.images);
  small : l.bound ≤ l.place * (2 ^ 34 + 2);
}
