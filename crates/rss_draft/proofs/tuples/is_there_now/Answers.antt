use Rattle.std.proofs.Common.{sym, ◌∙◌, ap, subst}
use Rattle.std.specs.Prelude.{option_map, option_copied}
use Rattle.std.proofs.lemmas.Result.{IfOk-weaker}
use Rattle.rss_base.proofs.Steps.{done, rests}
use Rattle.rss_access.specs.Changes.{both}
use Rattle.rss_draft.specs.Views.{said}
use Rattle.rss_draft.specs.Looks.{IsThereNow}
use Rattle.rss_draft.proofs.TuplesNow.{there_said, there_saved, copied_some}
use Rattle.rss_draft.proofs.tuples.is_there_now.Goals as goal

pub returns-in-Some-clause-is : goal.returns-in-Some-clause-is
returns-in-Some-clause-is g c =
    let at = both (g.P.Pages.view c.args.tuples.now.pages) c.args.catalog.now in
    subst (IsThereNow at (said c.args.draft.now) c.args.number c.args.tid) (copied_some c.in-Some.said ∙ sym c.is_some.ensures)
    (there_said at (said c.args.draft.now) c.args.number c.relation.result.now c.relation.ensures.is c.args.tid (option_copied c.in-Some.said) (sym c.tuple.ensures ∙ ap (option_map option_copied) c.in-Some.is))

pub returns-in-Some-clause-did : goal.returns-in-Some-clause-did
returns-in-Some-clause-did g c = done _ (rests _)

pub is_there-requires-clause-heaps : goal.is_there-requires-clause-heaps
is_there-requires-clause-heaps g c = c.requires.may.heaps

pub returns-in-None-clause-is : goal.returns-in-None-clause-is
returns-in-None-clause-is g c =
    let at = both (g.P.Pages.view c.args.tuples.now.pages) c.args.catalog.now in
    IfOk-weaker c.is_there.result _ _ (λ found finds.
    there_saved at (said c.args.draft.now) c.args.number c.relation.result.now c.relation.ensures.is c.args.tid (g.met.P.Pages.few_slots c.args.tuples.now.pages) (sym c.tuple.ensures ∙ ap (option_map option_copied) c.in-None.is) found finds) c.is_there.ensures.finds

pub returns-in-None-clause-did : goal.returns-in-None-clause-did
returns-in-None-clause-did g c = c.is_there.ensures.did.below
