use Rattle.std.proofs.Common.{◌+◌, ◌∙◌, [], sym, rules, arith}
use Rattle.std.proofs.lemmas.Bool.{true≢false}
use Rattle.rss_base.proofs.Steps.{rests, then, then_call, done, fails}
use Rattle.rss_tuple.proofs.Located.{said_of}
use Rattle.rss_tuple.proofs.Seen.{heaps_after}
use Rattle.rss_access.proofs.NextTuples.{found_next, walked_more, walked_none}
use Rattle.rss_access.proofs.TupleChanges.{own_body, other_body}
use Rattle.rss_access.proofs.tuples.find_next.Goals as goal

pub next_body-requires-clause-heaps : goal.next_body-requires-clause-heaps
next_body-requires-clause-heaps g c = heaps_after c.loop-tid.invariant.step c.requires.heaps

pub returns-in_err-tid-clause-did : goal.returns-in_err-tid-clause-did
returns-in_err-tid-clause-did g c = (c.loop-tid.invariant.most + ((g.P.Pages.view c.loop-tid.tuples.pages).slots + 1), fails _ c.from_residual.ensures.1 (λ key there. there) (omega arith) (omega arith) (then_call c.loop-tid.invariant.step c.in_err-tid.ensures.did))

pub returns-then-is_of-clause-finds : goal.returns-then-is_of-clause-finds
returns-then-is_of-clause-finds g c = λ told.
    let so = c.loop-tid.invariant in
    let now = so.step.passes.leaves.told.0 told in
    let next = (rw c.in-Some.is at c.in_ok-tid.ensures.next) now in
    let lent = c.body.ensures.are (c.in_ok-tid.ensures.did.step.passes.leaves.told.0 now) in
    record {
      bytes = c.body.result.now;
      there = lent;
      so = found_next c.args.segment c.args.number c.args.after _ _ c.loop-tid.last so _ {asks = 0} {outs = 0} (rests _) c.in-Some.tid c.body.result.now told next.least (own_body (said_of next.stands lent) (c.is_of.ensures.0 c.if-is_of.true));
    }

pub returns-then-is_of-clause-heaps : goal.returns-then-is_of-clause-heaps
returns-then-is_of-clause-heaps g c = λ told.
    let step = then c.loop-tid.invariant.step c.in_ok-tid.ensures.did.step in
    heaps_after step c.requires.heaps (step.passes.leaves.told.0 told)

pub returns-then-is_of-clause-did : goal.returns-then-is_of-clause-did
returns-then-is_of-clause-did g c = (_, done _ (then c.loop-tid.invariant.step c.in_ok-tid.ensures.did.step))

pub loop-tid-preserved : goal.loop-tid-preserved
loop-tid-preserved g c =
    let so = c.loop-tid.invariant in
    let on = c.in_ok-tid.ensures.did.step in
    let fits = rw c.in-Some.is at (rw c.in_ok-tid.was at c.next_body.type_inv) in
    walked_more c.args.segment c.args.number c.args.after _ _ c.loop-tid.last so _ {asks = 0} {outs = 0} (rests _) c.in-Some.tid [] _ on (record { page = omega (arith, fits); slot = omega (arith, fits) }) (rw c.in-Some.is at c.in_ok-tid.ensures.behind)
    (λ told. ((rw c.in-Some.is at c.in_ok-tid.ensures.next) (so.step.passes.leaves.told.0 told)).least)
    (λ told.
    let now = so.step.passes.leaves.told.0 told in
    let next = (rw c.in-Some.is at c.in_ok-tid.ensures.next) now in
    let lent = c.body.ensures.are (on.passes.leaves.told.0 now) in
    other_body (said_of next.stands lent) (λ first. true≢false (sym (c.is_of.ensures.1 first) ∙ c.if-is_of.false)))

pub returns-clause-heaps : goal.returns-clause-heaps
returns-clause-heaps g c = λ told.
    let step = then c.loop-tid.invariant.step c.in_ok-tid.ensures.did.step in
    heaps_after step c.requires.heaps (step.passes.leaves.told.0 told)

pub returns-clause-did : goal.returns-clause-did
returns-clause-did g c = (_, done _ (then c.loop-tid.invariant.step c.in_ok-tid.ensures.did.step))

pub loop-tid-init : goal.loop-tid-init
loop-tid-init g c = walked_none c.args.segment c.args.number c.args.after (g.P.Pages.view c.args.tuples.now.pages) (search rules)
