use Rattle.std.proofs.Common.{refl, sym, ◌∙◌, arith}
use Rattle.rss_link.proofs.TupleSteps.{stepped, then, then_call, done, fails, told_then}
use Rattle.rss_members.proofs.Alone.{no_some}
use Rattle.rss_members.proofs.Found.{place_found}
use Rattle.rss_members.proofs.Later.{below_then, spells_then}
use Rattle.rss_members.proofs.reading.place_of.Goals as goal

pub returns-then-not-branch-clause-finds : goal.returns-then-not-branch-clause-finds
returns-then-not-branch-clause-finds g c = λ told tables link child spells listed there.
    no_some _ (sym (c.in_ok-stands.ensures.stands told tables link child spells listed there) ∙ c.if-not-branch.true)

pub parent_of-requires : goal.parent_of-requires
parent_of-requires g c = below_then (stepped c.in_ok-stands.ensures.did) c.args.catalog.now c.requires

pub returns-in_err-parent-clause-did : goal.returns-in_err-parent-clause-did
returns-in_err-parent-clause-did g c = fails _ c.from_residual-in_err-parent.ensures.1 (λ key none. absurd none) (omega arith) (then_call _ (stepped c.in_ok-stands.ensures.did) c.in_err-parent.ensures.did)

pub left_of-requires : goal.left_of-requires
left_of-requires g c = below_then (then (stepped c.in_ok-stands.ensures.did) (stepped c.in_ok-parent.ensures.did)) c.args.catalog.now c.requires

pub returns-in_err-left-clause-did : goal.returns-in_err-left-clause-did
returns-in_err-left-clause-did g c = fails _ c.from_residual-in_err-left.ensures.1 (λ key none. absurd none) (omega arith)
    (then_call _ (then (stepped c.in_ok-stands.ensures.did) (stepped c.in_ok-parent.ensures.did)) c.in_err-left.ensures.did)

pub returns-clause-finds : goal.returns-clause-finds
returns-clause-finds g c = λ told tables link child spells listed there.
    let step0 = stepped c.in_ok-stands.ensures.did in
    let step1 = then step0 (stepped c.in_ok-parent.ensures.did) in (
      refl,
      refl,
      place_found spells c.args.link link child listed c.args.child c.in_ok-parent.parent c.in_ok-left.left
          (sym c.if-not-branch.false ∙ c.in_ok-stands.ensures.stands told tables link child spells listed there)
          (c.in_ok-parent.ensures.parent (told_then step0 told) tables link child (spells_then step0 c.args.catalog.now told spells) listed there)
          (c.in_ok-left.ensures.left (told_then step1 told) tables link child (spells_then step1 c.args.catalog.now told spells) listed there),
    )

pub returns-clause-did : goal.returns-clause-did
returns-clause-did g c = done _ (then (then (stepped c.in_ok-stands.ensures.did) (stepped c.in_ok-parent.ensures.did)) (stepped c.in_ok-left.ensures.did))
