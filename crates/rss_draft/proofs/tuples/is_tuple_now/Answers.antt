use Rattle.std.proofs.Common.{sym, ◌∙◌, ap, arith}
use Rattle.std.specs.Prelude.{option_map, option_copied}
use Rattle.rss_base.proofs.Steps.{done, fails, rests}
use Rattle.rss_tuple.proofs.Located.{said_of}
use Rattle.rss_access.specs.Changes.{both}
use Rattle.rss_draft.specs.Views.{said}
use Rattle.rss_draft.proofs.TuplesNow.{tuple_said, tuple_absent, tuple_stored, copied_none}
use Rattle.rss_draft.proofs.tuples.is_tuple_now.Goals as goal

pub returns-in-Some-clause-is : goal.returns-in-Some-clause-is
returns-in-Some-clause-is g c =
    tuple_said (both (g.P.Pages.view c.args.tuples.now.pages) c.args.catalog.now) (said c.args.draft.now) c.args.number c.relation-relation.result.now c.relation-relation.ensures.is c.args.tid (option_copied c.args.values) c.are_same.result
    (option_copied c.in-Some.said) (sym c.tuple.ensures ∙ ap (option_map option_copied) c.in-Some.is) c.are_same.ensures

pub returns-in-Some-clause-did : goal.returns-in-Some-clause-did
returns-in-Some-clause-did g c = done _ (rests _)

pub returns-in_err-at-clause-did : goal.returns-in_err-at-clause-did
returns-in_err-at-clause-did g c = fails _ c.from_residual.ensures.1 (λ key none. none) (omega arith) (omega arith) c.in_err-at.ensures.did

pub returns-in_default-2-clause-is : goal.returns-in_default-2-clause-is
returns-in_default-2-clause-is g c =
    tuple_absent (both (g.P.Pages.view c.args.tuples.now.pages) c.args.catalog.now) (said c.args.draft.now) c.args.number c.relation-relation.result.now c.relation-relation.ensures.is c.args.tid (option_copied c.args.values) c.are_same-in_default-2.result
    (sym c.tuple.ensures ∙ ap (option_map option_copied) c.in_default.is) (λ told. (rw c.in_default-2.is at c.in_ok-at.ensures.finds) told) c.are_same-in_default-2.ensures

pub returns-in_default-2-clause-did : goal.returns-in_default-2-clause-did
returns-in_default-2-clause-did g c = done _ c.in_ok-at.ensures.did.step

pub returns-clause-is : goal.returns-clause-is
returns-clause-is g c =
    tuple_stored (both (g.P.Pages.view c.args.tuples.now.pages) c.args.catalog.now) (said c.args.draft.now) c.args.number c.relation-relation.result.now c.relation-relation.ensures.is c.args.tid (option_copied c.args.values) c.are_same-2.result
    (sym c.tuple.ensures ∙ ap (option_map option_copied) c.in_default.is) c.body.result.now
    (λ told. said_of ((rw c.in-Some-2.is at c.in_ok-at.ensures.finds) told) (c.body.ensures.are (c.in_ok-at.ensures.did.step.passes.leaves.told.0 told)))
    (option_copied c.spelled_in-stored.result) (rw c.as_slice-fields.ensures at c.spelled_in-stored.ensures.some)
    (λ none. (rw c.as_slice-fields.ensures at c.spelled_in-stored.ensures.none) (copied_none c.spelled_in-stored.result none)) c.are_same-2.ensures

pub returns-clause-did : goal.returns-clause-did
returns-clause-did g c = done _ c.in_ok-at.ensures.did.step
