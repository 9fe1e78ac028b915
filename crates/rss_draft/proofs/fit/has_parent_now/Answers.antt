use Rattle.std.proofs.lemmas.Result.{IfOk-weaker}
use Rattle.rss_access.specs.Changes.{both}
use Rattle.rss_draft.specs.Views.{said}
use Rattle.rss_draft.proofs.PlacesFit.{parent_decides}
use Rattle.rss_draft.proofs.fit.has_parent_now.Goals as goal

pub returns-in-Some-parent-clause-has : goal.returns-in-Some-parent-clause-has
returns-in-Some-parent-clause-has g c = rw c.in-Some-parent.is (IfOk-weaker c.is_there_now.result _ _ (λ found is.
    parent_decides (both (g.P.Pages.view c.args.tuples.now.pages) c.args.catalog.now) (said c.args.draft.now) c.args.link c.link.result.now c.link.ensures.is c.in-Some.above c.in-Some.is
    (rw c.in-Some.is at c.link.ensures.safe.parent).0 c.in-Some-parent.parent found is) c.is_there_now.ensures.is)
