-- In none of the links so far the tuple stands in a chain, or has one.
use Rattle.std.proofs.Common.{ℕ, ◌+◌, ◌*◌, ◌<◌}
use Rattle.rss_base.specs.Steps.{PagesStep, no_page}
use Rattle.rss_access.specs.Changes.{both}
use Rattle.rss_draft.specs.Views.{said}
use Rattle.rss_draft.specs.Looks.{SoLookedUp}
use Rattle.rss_draft.specs.FitLooks.{IsLinkedIn}
use Rattle.rss_draft.proofs.linked.is_unlinked_now.Given as goal

abbrev pub invariant-loop-place : goal.invariant-loop-place
invariant-loop-place g l = record {
  step : PagesStep no_page (10 * l.place) (10 * l.place) (g.P.Pages.view l.fn.tuples.pages) (g.P.Pages.view l.tuples.pages);
  none : SoLookedUp (both (g.P.Pages.view l.fn.tuples.pages) l.catalog) (said l.draft) (λ tables. (k : ℕ) → k < l.place + 1 → IsLinkedIn l.catalog.listing tables l.number l.tid k → ⊥);
}
