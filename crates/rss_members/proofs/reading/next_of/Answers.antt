use Rattle.std.proofs.Common.{Some, refl, sym, ◌∙◌, ap, arith}
use Rattle.rss_base.specs.declared.tid.Tid.{Tid}
use Rattle.std.specs.Prelude.{Option}
use Rattle.rss_members.specs.Calls.{both}
use Rattle.rss_link.proofs.TupleSteps.{stepped, then, then_call, done, fails, told_then, told_before}
use Rattle.rss_members.proofs.Defined.{child_listed}
use Rattle.rss_members.proofs.Found.{below_of, there_in, next_found}
use Rattle.rss_members.proofs.Later.{chain_then, spells_then, spells_before}
use Rattle.rss_members.proofs.reading.next_of.Goals as goal

pub returns-then-not-branch-clause-next : goal.returns-then-not-branch-clause-next
returns-then-not-branch-clause-next g c = λ told tables link spells at.
    let off = sym (c.in_ok-stands_under.ensures.stands told tables link spells at) ∙ c.if-not-branch.true in
    rw off refl

pub right_of-requires : goal.right_of-requires
right_of-requires g c =
    let step = stepped c.in_ok-stands_under.ensures.did in
    let may = chain_then step c.args.catalog.now c.requires in
    below_of (both (g.T.Tuples.view c.stands_under.new.tuples) c.args.catalog.now) c.args.link may.listed may.heaps may.knows c.args.tid
    (λ told tables link child spells listed.
    there_in spells c.args.link link child listed c.args.parent c.args.tid
    (sym (c.in_ok-stands_under.ensures.stands (told_before step told) tables link (spells_before step c.args.catalog.now (told_before step told) spells) listed.at) ∙ c.if-not-branch.false))

pub returns-in_err-right-clause-did : goal.returns-in_err-right-clause-did
returns-in_err-right-clause-did g c = fails _ c.from_residual-in_err-right.ensures.1 (λ key none. absurd none) (omega arith) (then_call _ (stepped c.in_ok-stands_under.ensures.did) c.in_err-right.ensures.did)

pub returns-clause-next : goal.returns-clause-next
returns-clause-next g c = λ told tables link spells at.
    let step = stepped c.in_ok-stands_under.ensures.did in
    let child = child_listed spells c.args.link link at in
    let on = sym (c.in_ok-stands_under.ensures.stands told tables link spells at) ∙ c.if-not-branch.false in
    let right = c.in_ok-right.ensures.right (told_then step told) tables link child.0 (spells_then step c.args.catalog.now told spells) child.1 (there_in spells c.args.link link child.0 child.1 c.args.parent c.args.tid on) in
    rw on (ap (λ (o : Option Tid). Some o) (next_found spells c.args.link link child.0 child.1 c.args.tid c.args.parent c.in_ok-right.right on right))

pub returns-clause-did : goal.returns-clause-did
returns-clause-did g c = done _ (then (stepped c.in_ok-stands_under.ensures.did) (stepped c.in_ok-right.ensures.did))
