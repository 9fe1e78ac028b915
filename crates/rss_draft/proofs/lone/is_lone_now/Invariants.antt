-- None of the relations so far has such a tuple.
use Rattle.std.proofs.Common.{ℕ, ◌+◌, ◌*◌, ◌<◌}
use Rattle.rss_base.specs.Steps.{PagesStep, no_page}
use Rattle.rss_access.specs.Changes.{both}
use Rattle.rss_draft.specs.Views.{said}
use Rattle.rss_draft.specs.Looks.{SoNow}
use Rattle.rss_draft.specs.FitLooks.{IsInOther}
use Rattle.rss_draft.proofs.lone.is_lone_now.Given as goal

abbrev pub invariant-loop-place : goal.invariant-loop-place
invariant-loop-place g l = record {
  step : PagesStep no_page (2 * l.place) (2 * l.place) (g.P.Pages.view l.fn.tuples.pages) (g.P.Pages.view l.tuples.pages);
  none : SoNow (both (g.P.Pages.view l.fn.tuples.pages) l.catalog) (said l.draft) (λ tables. (k : ℕ) → k < l.place + 1 → IsInOther l.catalog.listing tables l.number l.tid k → ⊥);
}
