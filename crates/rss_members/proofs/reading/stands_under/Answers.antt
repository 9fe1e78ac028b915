use Rattle.std.proofs.Common.{sym, ◌∙◌, arith}
use Rattle.rss_model.proofs.LogLists.{by_test, false_true}
use Rattle.rss_members.specs.Calls.{both}
use Rattle.rss_link.proofs.TupleSteps.{stepped, then, then_call, done, fails, told_then, told_before}
use Rattle.rss_members.proofs.Defined.{child_listed}
use Rattle.rss_members.proofs.Found.{below_of, there_in, under_is, within_of}
use Rattle.rss_members.proofs.Later.{chain_then, spells_then, spells_before}
use Rattle.rss_members.proofs.reading.stands_under.Goals as goal

pub returns-then-not-branch-clause-stands : goal.returns-then-not-branch-clause-stands
returns-then-not-branch-clause-stands g c = λ told tables link spells at.
    let child = child_listed spells c.args.link link at in
    by_test _
    (λ e. false_true (there_in spells c.args.link link child.0 child.1 c.args.parent c.args.tid e)
    (sym (c.in_ok-is_there.ensures.finds told tables child.0 spells (within_of c.args.catalog.now.listing c.args.link c.link.result.now link child.0 c.link.ensures.is child.1)) ∙ c.if-not-branch.true))
    (λ e. sym e)

pub place_of-requires : goal.place_of-requires
place_of-requires g c =
    let step = stepped c.in_ok-is_there.ensures.did in
    let may = chain_then step c.args.catalog.now c.requires in
    below_of (both (g.T.Tuples.view c.is_there.new.tuples) c.args.catalog.now) c.args.link may.listed may.heaps may.knows c.args.tid
    (λ told tables link child spells listed.
    sym (c.in_ok-is_there.ensures.finds (told_before step told) tables child (spells_before step c.args.catalog.now (told_before step told) spells) (within_of c.args.catalog.now.listing c.args.link c.link.result.now link child c.link.ensures.is listed)) ∙ c.if-not-branch.false)

pub returns-in_err-place-clause-did : goal.returns-in_err-place-clause-did
returns-in_err-place-clause-did g c = fails _ c.from_residual-in_err-place.ensures.1 (λ key none. absurd none) (omega arith) (then_call _ (stepped c.in_ok-is_there.ensures.did) c.in_err-place.ensures.did)

pub returns-clause-stands : goal.returns-clause-stands
returns-clause-stands g c = λ told tables link spells at.
    let step = stepped c.in_ok-is_there.ensures.did in
    let child = child_listed spells c.args.link link at in
    let there = sym (c.in_ok-is_there.ensures.finds told tables child.0 spells (within_of c.args.catalog.now.listing c.args.link c.link.result.now link child.0 c.link.ensures.is child.1)) ∙ c.if-not-branch.false in
    under_is spells c.args.link link child.0 child.1 c.args.tid c.args.parent c.in_ok-place.place c.is_under.result
    (c.in_ok-place.ensures.finds (told_then step told) tables link child.0 (spells_then step c.args.catalog.now told spells) child.1 there) c.is_under.ensures

pub returns-clause-did : goal.returns-clause-did
returns-clause-did g c = done _ (then (stepped c.in_ok-is_there.ensures.did) (stepped c.in_ok-place.ensures.did))
