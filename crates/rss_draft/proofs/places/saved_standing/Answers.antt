use Rattle.std.proofs.Common.{sym, ◌∙◌, arith}
use Rattle.rss_link.proofs.TupleSteps.{stepped, then, then_call, done, fails, told_then, within}
use Rattle.rss_members.proofs.Alone.{no_some}
use Rattle.rss_members.proofs.Defined.{child_listed}
use Rattle.rss_members.proofs.Found.{within_of}
use Rattle.rss_members.proofs.Later.{below_then, spells_then}
use Rattle.rss_draft.proofs.StandingsNow.{may_below, absent_off, standing_in}
use Rattle.rss_draft.proofs.places.saved_standing.Goals as goal

pub returns-in_err-is_there-clause-did : goal.returns-in_err-is_there-clause-did
returns-in_err-is_there-clause-did g c = fails _ c.from_residual.ensures.1 (λ key none. absurd none) (omega arith) c.in_err-is_there.ensures.did

pub returns-then-not-branch-clause-is : goal.returns-then-not-branch-clause-is
returns-then-not-branch-clause-is g c = λ told tables link spells at.
    let child = child_listed spells c.args.link link at in
    absent_off spells c.args.link link child.0 child.1 c.args.child
    (sym (c.in_ok-is_there.ensures.finds told tables child.0 spells (within_of c.args.catalog.now.listing c.args.link c.link.result.now link child.0 c.link.ensures.is child.1)) ∙ c.if-not-branch.true)

pub returns-then-not-branch-clause-did : goal.returns-then-not-branch-clause-did
returns-then-not-branch-clause-did g c = done _ (within (λ key none. absurd none) (λ segment tid none. absurd none) (omega arith) (stepped c.in_ok-is_there.ensures.did))

pub stands-requires : goal.stands-requires
stands-requires g c = may_below (stepped c.in_ok-is_there.ensures.did) c.args.catalog.now c.args.link c.link.result.now c.link.ensures.is c.requires.may c.args.child _ c.in_ok-is_there.ensures.finds c.if-not-branch.false

pub returns-in_err-stands-clause-did : goal.returns-in_err-stands-clause-did
returns-in_err-stands-clause-did g c = fails _ c.from_residual-in_err-stands.ensures.1 (λ key none. absurd none) (omega arith) (then_call _ (stepped c.in_ok-is_there.ensures.did) c.in_err-stands.ensures.did)

pub returns-then-not-branch-2-clause-is : goal.returns-then-not-branch-2-clause-is
returns-then-not-branch-2-clause-is g c = λ told tables link spells at.
    let step = stepped c.in_ok-is_there.ensures.did in
    let child = child_listed spells c.args.link link at in
    let there = sym (c.in_ok-is_there.ensures.finds told tables child.0 spells (within_of c.args.catalog.now.listing c.args.link c.link.result.now link child.0 c.link.ensures.is child.1)) ∙ c.if-not-branch.false in
    no_some _ (sym (c.in_ok-stands.ensures.stands (told_then step told) tables link child.0 (spells_then step c.args.catalog.now told spells) child.1 there) ∙ c.if-not-branch-2.true)

pub returns-then-not-branch-2-clause-did : goal.returns-then-not-branch-2-clause-did
returns-then-not-branch-2-clause-did g c = done _ (within (λ key none. absurd none) (λ segment tid none. absurd none) (omega arith) (then (stepped c.in_ok-is_there.ensures.did) (stepped c.in_ok-stands.ensures.did)))

pub parent_of-requires : goal.parent_of-requires
parent_of-requires g c = below_then (stepped c.in_ok-stands.ensures.did) c.args.catalog.now
    (may_below (stepped c.in_ok-is_there.ensures.did) c.args.catalog.now c.args.link c.link.result.now c.link.ensures.is c.requires.may c.args.child _ c.in_ok-is_there.ensures.finds c.if-not-branch.false)

pub returns-in_err-parent-clause-did : goal.returns-in_err-parent-clause-did
returns-in_err-parent-clause-did g c = fails _ c.from_residual-in_err-parent.ensures.1 (λ key none. absurd none) (omega arith)
    (then_call _ (then (stepped c.in_ok-is_there.ensures.did) (stepped c.in_ok-stands.ensures.did)) c.in_err-parent.ensures.did)

pub returns-clause-is : goal.returns-clause-is
returns-clause-is g c = λ told tables link spells at.
    let step0 = stepped c.in_ok-is_there.ensures.did in
    let step1 = then step0 (stepped c.in_ok-stands.ensures.did) in
    let child = child_listed spells c.args.link link at in
    let there = sym (c.in_ok-is_there.ensures.finds told tables child.0 spells (within_of c.args.catalog.now.listing c.args.link c.link.result.now link child.0 c.link.ensures.is child.1)) ∙ c.if-not-branch.false in
    standing_in tables link c.args.child c.in_ok-parent.parent
    (sym c.if-not-branch-2.false ∙ c.in_ok-stands.ensures.stands (told_then step0 told) tables link child.0 (spells_then step0 c.args.catalog.now told spells) child.1 there)
    (c.in_ok-parent.ensures.parent (told_then step1 told) tables link child.0 (spells_then step1 c.args.catalog.now told spells) child.1 there)

pub returns-clause-did : goal.returns-clause-did
returns-clause-did g c = done _ (then (then (stepped c.in_ok-is_there.ensures.did) (stepped c.in_ok-stands.ensures.did)) (stepped c.in_ok-parent.ensures.did))
