use Rattle.std.proofs.Common.{sym, ◌∙◌, ap, arith, is_some}
use Rattle.std.specs.Prelude.{not}
use Rattle.rss_model.proofs.ChangeKeeping.{in_no_chain}
use Rattle.rss_model.proofs.LogLists.{false_true}
use Rattle.rss_members.specs.Calls.{both}
use Rattle.rss_link.proofs.TupleSteps.{stepped, then, then_call, done, fails, told_then, told_before}
use Rattle.rss_members.proofs.Alone.{no_some, none_with}
use Rattle.rss_members.proofs.Found.{below_of, within_of, not_true}
use Rattle.rss_members.proofs.Later.{relink_then, spells_then, spells_before}
use Rattle.rss_members.proofs.testing.is_free.Goals as goal

pub returns-then-not-branch-clause-is : goal.returns-then-not-branch-clause-is
returns-then-not-branch-clause-is g c = λ told tables link child spells listed.
    let found = c.in_ok-is_there.ensures.finds told tables child spells (within_of c.args.catalog.now.listing c.args.link c.link.result.now link child c.link.ensures.is listed) in
    ((λ yes. absurd (cc (yes))), (λ free. false_true free.there (sym found ∙ c.if-not-branch.true)))

pub stands-requires : goal.stands-requires
stands-requires g c =
    let step = stepped c.in_ok-is_there.ensures.did in
    let may = relink_then step c.args.catalog.now c.requires.may in
    below_of (both (g.T.Tuples.view c.is_there.new.tuples) c.args.catalog.now) c.args.link c.requires.listed may.heaps may.knows c.args.child
    (λ told tables link child spells listed.
    sym (c.in_ok-is_there.ensures.finds (told_before step told) tables child (spells_before step c.args.catalog.now (told_before step told) spells) (within_of c.args.catalog.now.listing c.args.link c.link.result.now link child c.link.ensures.is listed)) ∙ c.if-not-branch.false)

pub returns-in_err-taken-clause-did : goal.returns-in_err-taken-clause-did
returns-in_err-taken-clause-did g c = fails _ c.from_residual-in_err-taken.ensures.1 (λ key none. absurd none) (omega arith) (then_call _ (stepped c.in_ok-is_there.ensures.did) c.in_err-taken.ensures.did)

pub returns-clause-is : goal.returns-clause-is
returns-clause-is g c = λ told tables link child spells listed.
    let step = stepped c.in_ok-is_there.ensures.did in
    let there = sym (c.in_ok-is_there.ensures.finds told tables child spells (within_of c.args.catalog.now.listing c.args.link c.link.result.now link child c.link.ensures.is listed)) ∙ c.if-not-branch.false in
    let stands = c.in_ok-taken.ensures.stands (told_then step told) tables link child (spells_then step c.args.catalog.now told spells) listed there in (
      (λ yes. record { there = there; outside = in_no_chain tables.contents link.name c.args.child (no_some _ (sym stands ∙ not_true _ yes)) }),
      (λ free. ap not (stands ∙ ap is_some (none_with tables.contents link.name c.args.child free.outside))),
    )

pub returns-clause-did : goal.returns-clause-did
returns-clause-did g c = done _ (then (stepped c.in_ok-is_there.ensures.did) (stepped c.in_ok-taken.ensures.did))
