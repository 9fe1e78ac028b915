use Rattle.std.proofs.Common.{ℕ, refl, subst, arith}
use Rattle.std.proofs.lemmas.Result.{IfOk-weaker}
use Rattle.rss_base.proofs.Steps.{done, rests}
use Rattle.rss_model.specs.Fits.{IsIdentifier}
use Rattle.rss_model.proofs.LogLists.{false_true}
use Rattle.rss_draft.proofs.Looping.{over_then, fit_then, alter_then}
use Rattle.rss_draft.proofs.RowsFit.{new_fits, new_few}
use Rattle.rss_draft.proofs.Searched.{searches_call, searches_then}
use Rattle.rss_draft.proofs.fit.fits_new.Goals as goal

pub returns-then-not-is_row-clause-did : goal.returns-then-not-is_row-clause-did
returns-then-not-is_row-clause-did g c = searches_call {most = 0} (done _ (rests _))

pub returns-then-count_now-ge-TUPLES_MOST-clause-fits : goal.returns-then-count_now-ge-TUPLES_MOST-clause-fits
returns-then-count_now-ge-TUPLES_MOST-clause-fits g c = λ saved tables over looks fit relation at absent values spells. (
  (λ yes. absurd (cc (yes))),
  (λ of.
      let few = new_few over fit c.args.number relation at c.args.tid values spells absent of in
      let count = c.count_now.ensures saved tables over.spells.counts looks relation at in
      absurd (omega (arith, few, count, c.if-count_now-ge-TUPLES_MOST.true))),
)

pub returns-then-not-lone-clause-fits : goal.returns-then-not-lone-clause-fits
returns-then-not-lone-clause-fits g c = λ saved tables over looks fit relation at absent values spells. (
  (λ yes. absurd (cc (yes))),
  (λ of. false_true ((c.in_ok-lone.ensures.is saved tables over looks fit relation at).1 (of.lone refl)) c.if-not-lone.true),
)

pub are_free_now-requires-clause-may : goal.are_free_now-requires-clause-may
are_free_now-requires-clause-may g c = alter_then c.in_ok-lone.ensures.did.searches.step c.requires

pub returns-clause-fits : goal.returns-clause-fits
returns-clause-fits g c =
    let step = c.in_ok-lone.ensures.did.searches.step in
    IfOk-weaker c.are_free_now.result _ _ (λ found are saved tables over looks fit relation at absent values spells.
    let so = are saved tables (over_then step over) looks (fit_then step fit) relation at values spells in
    let within = subst (λ (n : ℕ). IsIdentifier n c.args.tid) c.slots.ensures (c.is_identifier.ensures.0 c.if-not-is_identifier.false) in
    let count = c.count_now.ensures saved tables over.spells.counts looks relation at in
    let lone = (c.in_ok-lone.ensures.is saved tables over looks fit relation at).0 c.if-not-lone.false in (
      (λ yes. new_fits over fit c.args.number relation at c.args.tid values spells absent within (omega (arith, count, c.if-count_now-ge-TUPLES_MOST.false)) lone (so.0 yes)),
      (λ of. so.1 (of.keys values refl)),
    )) c.are_free_now.ensures.are

pub returns-clause-did : goal.returns-clause-did
returns-clause-did g c = searches_then c.in_ok-lone.ensures.did.searches.step c.are_free_now.ensures.did
