use Rattle.std.proofs.Common.{ap}
use Rattle.std.specs.Prelude.{is_some}
use Rattle.std.proofs.lemmas.Result.{IfOk-weaker}
use Rattle.rss_base.proofs.Steps.{done, rests}
use Rattle.rss_draft.proofs.LoneNow.{in_none_other, in_decides}
use Rattle.rss_draft.proofs.lone.is_in_other.Goals as goal

pub returns-then-not-is_other_in-clause-is : goal.returns-then-not-is_other_in-clause-is
returns-then-not-is_other_in-clause-is g c = λ saved tables over. in_none_other c.is_other_in.result c.is_other_in.ensures c.if-not-is_other_in.true

pub returns-then-not-is_other_in-clause-did : goal.returns-then-not-is_other_in-clause-did
returns-then-not-is_other_in-clause-did g c = done _ (rests _)

pub is_there_now-requires-clause-listed : goal.is_there_now-requires-clause-listed
is_there_now-requires-clause-listed g c = ap is_some (c.is_other_in.ensures.0 c.if-not-is_other_in.false).its

pub returns-clause-is : goal.returns-clause-is
returns-clause-is g c = IfOk-weaker c.is_there_now.result _ _ (λ found is saved tables over.
    in_decides c.is_other_in.result c.is_other_in.ensures c.if-not-is_other_in.false found (is saved tables over)) c.is_there_now.ensures.is
