use Rattle.std.proofs.Common.{ap}
use Rattle.std.specs.Prelude.{is_some}
use Rattle.std.proofs.lemmas.Result.{IfOk-weaker}
use Rattle.rss_base.proofs.Steps.{done, rests}
use Rattle.rss_draft.proofs.ChainsNow.{form_is}
use Rattle.rss_draft.proofs.FoundAs.{holds_misformed, holds_chain}
use Rattle.rss_draft.proofs.finding.finds_place.Goals as goal

pub returns-then-not-has_form-clause-finds : goal.returns-then-not-has_form-clause-finds
returns-then-not-has_form-clause-finds g c = λ saved tables over. holds_misformed c.has_form.result c.has_form.ensures c.if-not-has_form.true

pub returns-then-not-has_form-clause-did : goal.returns-then-not-has_form-clause-did
returns-then-not-has_form-clause-did g c = done _ (rests _)

pub stands_behind_now-requires-clause-listed : goal.stands_behind_now-requires-clause-listed
stands_behind_now-requires-clause-listed g c = ap is_some (c.has_form.ensures.0 c.if-not-has_form.false).at

pub stands_behind_now-requires-clause-form : goal.stands_behind_now-requires-clause-form
stands_behind_now-requires-clause-form g c = form_is (c.has_form.ensures.0 c.if-not-has_form.false)

pub returns-clause-finds : goal.returns-clause-finds
returns-clause-finds g c = IfOk-weaker c.stands_behind_now.result _ _ (λ found so saved tables over.
    holds_chain c.has_form.result c.has_form.ensures c.if-not-has_form.false found (so saved tables over)) c.stands_behind_now.ensures.stands
