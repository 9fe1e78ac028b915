-- Each tuple of the segment is looked at once.
use Rattle.std.proofs.Common.{◌+◌, arith}
use Rattle.rss_entries.specs.Keyed.{kinds_of}
use Rattle.rss_base.proofs.Steps.{then, then_call, done, fails}
use Rattle.rss_tuple.proofs.Seen.{heaps_after}
use Rattle.std.proofs.Math.Logic.{∥∥₁_map}
use Rattle.rss_access.proofs.Walked.{image_still, lacks_back, looked_all, looked_more, looked_none}
use Rattle.rss_access.proofs.checking.count_rows.Goals as goal

pub next_live-requires-clause-heaps : goal.next_live-requires-clause-heaps
next_live-requires-clause-heaps g c = heaps_after c.loop-tid.invariant.step c.requires.heaps

pub returns-in_err-tid-clause-did : goal.returns-in_err-tid-clause-did
returns-in_err-tid-clause-did g c = (c.loop-tid.invariant.most + (g.P.Pages.view c.loop-tid.tuples.pages).slots, fails _ c.from_residual.ensures.1 (λ key there. there) (omega arith) (omega arith) (then_call c.loop-tid.invariant.step c.in_err-tid.ensures.did.below))

pub returns-in_err-rows-clause-did : goal.returns-in_err-rows-clause-did
returns-in_err-rows-clause-did g c = (c.loop-tid.invariant.most + (g.P.Pages.view c.loop-tid.tuples.pages).slots + c.in_err-rows.ensures.did.0, fails _ c.from_residual-in_err-rows.ensures.1 (λ key there. there) (omega arith) (omega arith) (then_call (then c.loop-tid.invariant.step c.in_ok-tid.ensures.did.below.step) c.in_err-rows.ensures.did.1))

pub returns-in_default-2-clause-none : goal.returns-in_default-2-clause-none
returns-in_default-2-clause-none g c = λ is told.
    let before = then c.loop-tid.invariant.step c.in_ok-tid.ensures.did.below.step in
    lacks_back before told c.args.catalog.now.listing c.args.number (kinds_of c.args.key) c.args.image.now (c.in_ok-rows.ensures.lacks c.in_default-2.is (before.passes.leaves.told.0 told))

pub returns-in_default-2-clause-did : goal.returns-in_default-2-clause-did
returns-in_default-2-clause-did g c = (_, done _ (then (then c.loop-tid.invariant.step c.in_ok-tid.ensures.did.below.step) c.in_ok-rows.ensures.did.1.step))

pub loop-tid-preserved : goal.loop-tid-preserved
loop-tid-preserved g c =
    let so = c.loop-tid.invariant in
    let on = c.in_ok-tid.ensures.did.below.step in
    looked_more so _ _ on (then on c.in_ok-rows.ensures.did.1.step) c.in-Some.tid c.in-Some-2.rows (record { page = omega arith; slot = omega arith })
    (rw c.in-Some.is at c.in_ok-tid.ensures.behind) (rw c.in-Some-2.is at c.in_ok-rows.ensures.few)
    (λ told. (rw c.in-Some.is at c.in_ok-tid.ensures.next) (so.step.passes.leaves.told.0 told))
    (λ told. (rw c.in-Some-2.is at c.in_ok-rows.ensures.counts) ((then so.step on).passes.leaves.told.0 told))

pub returns-clause-did : goal.returns-clause-did
returns-clause-did g c = (_, done _ (then c.loop-tid.invariant.step c.in_ok-tid.ensures.did.below.step))

pub count_row-requires-clause-there : goal.count_row-requires-clause-there
count_row-requires-clause-there g c = λ told_mid.
    let before = then c.loop-tid.invariant.step c.in_ok-tid.ensures.did.below.step in
    let told = before.passes.leaves.told.1 told_mid in
    ∥∥₁_map (c.requires.there told) (image_still before told c.args.image.now)

pub returns-clause-all : goal.returns-clause-all
returns-clause-all g c = λ told. looked_all c.loop-tid.invariant told ((rw c.in_default.is at c.in_ok-tid.ensures.next) (c.loop-tid.invariant.step.passes.leaves.told.0 told))

pub loop-tid-init : goal.loop-tid-init
loop-tid-init g c = looked_none c.args.catalog.now.listing c.args.number (kinds_of c.args.key) c.args.image.now (g.P.Pages.view c.args.tuples.now.pages)

pub overflow_add-count : goal.overflow_add-count
overflow_add-count g c = omega (arith, c.loop-tid.invariant.few, rw c.in-Some-2.is at c.in_ok-rows.ensures.few)
