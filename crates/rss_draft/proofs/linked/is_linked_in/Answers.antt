use Rattle.std.proofs.Common.{ap}
use Rattle.std.specs.Prelude.{is_some}
use Rattle.std.proofs.lemmas.Result.{IfOk-weaker}
use Rattle.rss_base.proofs.Steps.{done, rests}
use Rattle.rss_model.proofs.LogLists.{false_true}
use Rattle.rss_draft.proofs.LinkedNow.{parent_form, by_child, by_parent, by_none}
use Rattle.rss_draft.proofs.linked.is_linked_in.Goals as goal

pub stands_now-requires-clause-listed : goal.stands_now-requires-clause-listed
stands_now-requires-clause-listed g c = ap is_some (c.is_child_in.ensures.0 c.if-is_child_in.true).at

pub returns-then-is_child_in-clause-is : goal.returns-then-is_child_in-clause-is
returns-then-is_child_in-clause-is g c = IfOk-weaker c.stands_now.result _ _ (λ found is saved tables over looks.
    by_child over c.args.number c.args.tid c.args.link c.requires.listed (c.is_child_in.ensures.0 c.if-is_child_in.true) found (is saved tables over looks)) c.stands_now.ensures.is

pub has_chain_now-requires-clause-listed : goal.has_chain_now-requires-clause-listed
has_chain_now-requires-clause-listed g c = ap is_some (c.is_parent_in.ensures.0 c.if-is_parent_in.true).at

pub has_chain_now-requires-clause-form : goal.has_chain_now-requires-clause-form
has_chain_now-requires-clause-form g c = parent_form c.args.tid (c.is_parent_in.ensures.0 c.if-is_parent_in.true)

pub returns-then-is_parent_in-clause-is : goal.returns-then-is_parent_in-clause-is
returns-then-is_parent_in-clause-is g c = IfOk-weaker c.has_chain_now.result _ _ (λ found has saved tables over looks.
    by_parent over c.args.number c.args.tid c.args.link c.requires.listed (λ i. false_true (c.is_child_in.ensures.1 i) c.if-is_child_in.false) (c.is_parent_in.ensures.0 c.if-is_parent_in.true) found (has saved tables over)) c.has_chain_now.ensures.has

pub returns-clause-is : goal.returns-clause-is
returns-clause-is g c = λ saved tables over looks.
    by_none over c.args.number c.args.tid c.args.link (λ i. false_true (c.is_child_in.ensures.1 i) c.if-is_child_in.false) (λ i. false_true (c.is_parent_in.ensures.1 i) c.if-is_parent_in.false)

pub returns-clause-did : goal.returns-clause-did
returns-clause-did g c = done _ (rests _)
