use Rattle.std.proofs.Common.{refl}
use Rattle.std.proofs.lemmas.Result.{IfOk-weaker}
use Rattle.rss_base.proofs.Steps.{done, rests}
use Rattle.rss_draft.proofs.RowsFit.{other_fits}
use Rattle.rss_draft.proofs.Searched.{searches_call}
use Rattle.rss_draft.proofs.fit.fits_other.Goals as goal

pub returns-then-not-is_row-clause-did : goal.returns-then-not-is_row-clause-did
returns-then-not-is_row-clause-did g c = searches_call {most = 0} (done _ (rests _))

pub returns-clause-fits : goal.returns-clause-fits
returns-clause-fits g c = IfOk-weaker c.are_free_now.result _ _ (λ found are saved tables over looks fit relation at live values spells.
    let so = are saved tables over looks fit relation at values spells in
    ((λ yes. other_fits over fit c.args.number relation at c.args.tid values spells live (so.0 yes)), (λ of. so.1 (of.keys values refl)))) c.are_free_now.ensures.are
