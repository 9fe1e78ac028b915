use Rattle.std.proofs.Common.{refl, sym, ◌∙◌}
use Rattle.std.proofs.lemmas.Result.{IfOk-weaker}
use Rattle.rss_base.proofs.Steps.{done, rests}
use Rattle.rss_draft.proofs.FoundAs.{used_relation}
use Rattle.rss_draft.proofs.RowsFit.{gone_fits}
use Rattle.rss_draft.proofs.Searched.{searches_call}
use Rattle.rss_draft.proofs.fit.fits_gone.Goals as goal

pub returns-then-not-used-clause-did : goal.returns-then-not-used-clause-did
returns-then-not-used-clause-did g c = searches_call {most = 0} (done _ (rests _))

pub is_unlinked_now-requires-clause-listed : goal.is_unlinked_now-requires-clause-listed
is_unlinked_now-requires-clause-listed g c = sym (used_relation c.args.catalog.now.listing c.args.number) ∙ sym c.used.ensures ∙ c.if-not-used.false

pub returns-clause-fits : goal.returns-clause-fits
returns-clause-fits g c = IfOk-weaker c.is_unlinked_now.result _ _ (λ found is saved tables over looks fit relation at.
    let so = is saved tables over looks fit relation at in
    ((λ yes. gone_fits over fit c.args.number relation at c.args.tid (so.0 yes)), (λ of. so.1 (of.unlinked refl)))) c.is_unlinked_now.ensures.is
