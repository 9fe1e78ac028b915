use Rattle.std.proofs.Common.{sym, ◌∙◌}
use Rattle.std.proofs.lemmas.Result.{IfOk-weaker}
use Rattle.rss_base.proofs.Steps.{done, rests}
use Rattle.rss_draft.proofs.FoundAs.{used_relation, holds_unused, holds_misspelled, holds_tuple}
use Rattle.rss_draft.proofs.finding.finds_tuple.Goals as goal

pub returns-then-not-used-clause-finds : goal.returns-then-not-used-clause-finds
returns-then-not-used-clause-finds g c = λ saved tables over. holds_unused (sym (used_relation c.args.catalog.now.listing c.args.number) ∙ sym c.used.ensures ∙ c.if-not-used.true)

pub returns-then-not-used-clause-did : goal.returns-then-not-used-clause-did
returns-then-not-used-clause-did g c = done _ (rests _)

pub relation-requires : goal.relation-requires
relation-requires g c = sym (used_relation c.args.catalog.now.listing c.args.number) ∙ sym c.used.ensures ∙ c.if-not-used.false

pub returns-then-not-are_values-clause-finds : goal.returns-then-not-are_values-clause-finds
returns-then-not-are_values-clause-finds g c = λ saved tables over.
    holds_misspelled c.relation.result.now c.relation.ensures.is c.are_values.result (rw c.as_slice.ensures at c.are_values.ensures) c.if-not-are_values.true

pub returns-then-not-are_values-clause-did : goal.returns-then-not-are_values-clause-did
returns-then-not-are_values-clause-did g c = done _ (rests _)

pub is_tuple_now-requires-clause-listed : goal.is_tuple_now-requires-clause-listed
is_tuple_now-requires-clause-listed g c = sym (used_relation c.args.catalog.now.listing c.args.number) ∙ sym c.used.ensures ∙ c.if-not-used.false

pub is_tuple_now-requires-clause-heaps : goal.is_tuple_now-requires-clause-heaps
is_tuple_now-requires-clause-heaps g c = c.requires.heaps

pub returns-clause-finds : goal.returns-clause-finds
returns-clause-finds g c = IfOk-weaker c.is_tuple_now.result _ _ (λ found is saved tables over.
    holds_tuple c.relation.result.now c.relation.ensures.is c.are_values.result (rw c.as_slice.ensures at c.are_values.ensures) c.if-not-are_values.false found
    (is saved tables over c.relation.result.now c.relation.ensures.is)) c.is_tuple_now.ensures.is
