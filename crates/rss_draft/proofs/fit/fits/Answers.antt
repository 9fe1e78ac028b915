use Rattle.std.proofs.Common.{ℕ, false, true, List, subst}
use Rattle.std.proofs.lemmas.Result.{IfOk-weaker}
use Rattle.rss_access.specs.Changes.{both}
use Rattle.rss_draft.specs.Views.{said}
use Rattle.rss_draft.specs.FitLooks.{IsRowFitting}
use Rattle.rss_draft.proofs.FitAfter.{new_after, other_after, gone_after, connect_after, disconnect_after}
use Rattle.rss_draft.proofs.fit.fits.Goals as goal

pub returns-in-Insert-clause-fits : goal.returns-in-Insert-clause-fits
returns-in-Insert-clause-fits g c = rw c.in-Insert.is (IfOk-weaker c.fits_new.result _ _ (λ found so.
    new_after (both (g.P.Pages.view c.args.tuples.now.pages) c.args.catalog.now) (said c.args.draft.now) c.in-Insert.relation c.in-Insert.tid c.in-Insert.values found
    (subst (λ (b : List ℕ). IsRowFitting (both (g.P.Pages.view c.args.tuples.now.pages) c.args.catalog.now) (said c.args.draft.now) c.in-Insert.relation c.in-Insert.tid false b found) c.as_slice.ensures.bytes so)) c.fits_new.ensures.fits)

pub returns-in-Delete-clause-fits : goal.returns-in-Delete-clause-fits
returns-in-Delete-clause-fits g c = rw c.in-Delete.is (IfOk-weaker c.fits_gone.result _ _ (λ found so.
    gone_after (both (g.P.Pages.view c.args.tuples.now.pages) c.args.catalog.now) (said c.args.draft.now) c.in-Delete.relation c.in-Delete.tid c.in-Delete._values found so) c.fits_gone.ensures.fits)

pub returns-in-Update-clause-fits : goal.returns-in-Update-clause-fits
returns-in-Update-clause-fits g c = rw c.in-Update.is (IfOk-weaker c.fits_other.result _ _ (λ found so.
    other_after (both (g.P.Pages.view c.args.tuples.now.pages) c.args.catalog.now) (said c.args.draft.now) c.in-Update.relation c.in-Update.tid c.in-Update._from c.in-Update.to found
    (subst (λ (b : List ℕ). IsRowFitting (both (g.P.Pages.view c.args.tuples.now.pages) c.args.catalog.now) (said c.args.draft.now) c.in-Update.relation c.in-Update.tid true b found) c.as_slice-in-Update.ensures.bytes so)) c.fits_other.ensures.fits)

pub returns-in-Connect-clause-fits : goal.returns-in-Connect-clause-fits
returns-in-Connect-clause-fits g c = rw c.in-Connect.is (IfOk-weaker c.fits_connect.result _ _ (λ found so.
    connect_after (both (g.P.Pages.view c.args.tuples.now.pages) c.args.catalog.now) (said c.args.draft.now) c.in-Connect.link c.in-Connect.parent c.in-Connect.child c.in-Connect._left found so) c.fits_connect.ensures.fits)

pub returns-in-Disconnect-clause-fits : goal.returns-in-Disconnect-clause-fits
returns-in-Disconnect-clause-fits g c = rw c.in-Disconnect.is
    (disconnect_after (both (g.P.Pages.view c.args.tuples.now.pages) c.args.catalog.now) (said c.args.draft.now) c.in-Disconnect.link c.in-Disconnect.parent c.in-Disconnect.child c.in-Disconnect.left)
