-- In none of the images so far another tuple has the key.
use Rattle.std.proofs.Common.{ℕ, ◌+◌, ◌<◌}
use Rattle.rss_base.specs.Steps.{PagesStep, no_page}
use Rattle.rss_access.specs.Changes.{both}
use Rattle.rss_draft.specs.Views.{said}
use Rattle.rss_draft.specs.Looks.{SoLookedUp}
use Rattle.rss_draft.specs.FitLooks.{IsTakenIn}
use Rattle.rss_draft.proofs.free.are_free_now.Given as goal

abbrev pub invariant-loop-place : goal.invariant-loop-place
invariant-loop-place g l = record {
  most : ℕ;
  step : PagesStep no_page most most (g.P.Pages.view l.fn.tuples.pages) (g.P.Pages.view l.tuples.pages);
  none : SoLookedUp (both (g.P.Pages.view l.fn.tuples.pages) l.catalog) (said l.draft) (λ tables. (k : ℕ) → k < l.place + 1 → IsTakenIn l.catalog.listing tables l.number l.tid l.values k → ⊥);
}
