use Rattle.std.proofs.Common.{◌+◌, arith}
use Rattle.rss_link.proofs.TupleSteps.{stepped, then, then_call, within, done, fails, told_then}
use Rattle.rss_members.proofs.Later.{tuple_then, spells_then}
use Rattle.rss_members.proofs.LinkFound.{rests_there, none_first, first_connected}
use Rattle.rss_members.proofs.finding.connected.Goals as goal

pub loop-place-init : goal.loop-place-init
loop-place-init g c = record {
  step = rests_there _ c.requires.heaps;
  few = omega arith;
  first = λ told tables relation spells at there. none_first c.args.catalog.now.listing tables relation.name c.args.tid;
}

pub least_of-requires : goal.least_of-requires
least_of-requires g c = tuple_then c.loop-place.invariant.step c.args.catalog.now c.requires

pub returns-in_err-least-clause-did : goal.returns-in_err-least-clause-did
returns-in_err-least-clause-did g c = fails _ c.from_residual.ensures.1 (λ key none. absurd none) (omega (arith, c.loop-place-test.true, c.last_link-place-end.ensures.few)) (then_call _ c.loop-place.invariant.step c.in_err-least.ensures.did)

pub loop-place-preserved : goal.loop-place-preserved
loop-place-preserved g c =
    let step = c.loop-place.invariant.step in
    record {
      step = within (λ key none. none) (λ segment tid none. none) (omega arith) (then step (stepped c.in_ok-least.ensures.did));
      few = omega (arith, c.loop-place-test.true, c.last_link-place-end.ensures.few);
      first = λ told tables relation spells at there.
          c.in_ok-least.ensures.finds (told_then step told) tables relation (spells_then step c.args.catalog.now told spells) at there (c.loop-place.invariant.first told tables relation spells at there);
    }

pub returns-clause-finds : goal.returns-clause-finds
returns-clause-finds g c = λ told tables relation spells at there.
    first_connected spells relation.name c.args.tid (c.loop-place.place + 1) (λ number high. c.last_link-place-end.ensures.none number (omega (arith, high, c.loop-place-test.false)))
    c.loop-place.least (c.loop-place.invariant.first told tables relation spells at there)

pub returns-clause-did : goal.returns-clause-did
returns-clause-did g c = done _ (within (λ key none. none) (λ segment tid none. none) (omega (arith, c.loop-place.invariant.few)) c.loop-place.invariant.step)
