-- What a check finds of the image is what it has where it has its relation's rows, and the other way round.
use Rattle.std.proofs.Common.{◌+◌, ℕ, take, sym, ◌∙◌, subst, arith}
use Rattle.rss_base.specs.TupleTypes.{kinds, chosen, key_width}
use Rattle.rss_base.proofs.Looking.{passed_on}
use Rattle.rss_base.proofs.Steps.{then, then_call, done, fails}
use Rattle.rss_node.specs.Nodes.{AreNodes}
use Rattle.rss_tuple.proofs.Seen.{heaps_after}
use Rattle.rss_access.specs.Rows.{CountsRows}
use Rattle.rss_access.proofs.ImageKeys.{image_nodes, width_is}
use Rattle.rss_access.specs.Changes.{both}
use Rattle.rss_access.proofs.Walked.{image_still, all_back, lacks_back, looks}
use Rattle.rss_access.proofs.Checked.{rows_here, found_here, reached_here}
use Rattle.rss_access.proofs.checking.check_rows.Goals as goal

pub check_marking-requires : goal.check_marking-requires
check_marking-requires g c = record {
  of = subst (λ (width : ℕ). AreNodes (record { segment = c.relation-relation.result.now.segment; image = c.args.number; width = width })) (sym c.image_width.ensures.is)
      (image_nodes c.relation-relation.ensures.is c.image.ensures.safe c.image_width.ensures.places c.relation-relation.ensures.safe c.args.number);
}

pub count_rows-requires-clause-of : goal.count_rows-requires-clause-of
count_rows-requires-clause-of g c =
    subst (λ (width : ℕ). AreNodes (record { segment = c.relation-relation.result.now.segment; image = c.args.number; width = width })) (sym c.image_width.ensures.is)
    (image_nodes c.relation-relation.ensures.is c.image.ensures.safe c.image_width.ensures.places c.relation-relation.ensures.safe c.args.number)

pub count_rows-requires-clause-width : goal.count_rows-requires-clause-width
count_rows-requires-clause-width g c = c.image_width.ensures.is ∙ sym (width_is c.image.result.now c.relation-relation.result.now)
    ∙ (λ i. key_width (chosen (take (sym c.from.ensures i) c.image.result.now.fields) (kinds (sym c.as_slice.ensures i))))

pub count_rows-requires-clause-heaps : goal.count_rows-requires-clause-heaps
count_rows-requires-clause-heaps g c = heaps_after c.in_ok-census.ensures.did.1.step c.requires.heaps

pub count_rows-requires-clause-there : goal.count_rows-requires-clause-there
count_rows-requires-clause-there g c = λ disk.
    let step = c.in_ok-census.ensures.did.1.step in
    let told = step.passes.leaves.told.1 disk in
    let is = (rw c.in-Some.is at c.in_ok-census.ensures.sound) told in
    ∣ image_still step told _ (record { pairs = is.pairs; tree = is.tree }) ∣₁

pub returns-in_default-clause-none : goal.returns-in_default-clause-none
returns-in_default-clause-none g c = λ place is told image relation nodes listed rows.
    let found = found_here (both (g.P.Pages.view c.args.tuples.now.pages) c.args.catalog.now) (g.met.P.Pages.few_slots c.args.tuples.now.pages) (g.met.P.Pages.holds c.args.tuples.now.pages told) (g.met.P.Pages.allowed c.args.tuples.now.pages)
    c.args.number c.image.result.now c.relation-relation.result.now c.image.ensures.is c.image.ensures.safe c.relation-relation.ensures.is c.relation-relation.ensures.safe c.image_width.ensures.places c.image_width.ensures.is c.as_slice.ensures c.from.ensures image relation nodes listed rows in
    c.in_ok-census.ensures.none c.in_default.is told found.tree

pub returns-then-is_doubled-clause-none : goal.returns-then-is_doubled-clause-none
returns-then-is_doubled-clause-none g c = λ place is told image relation nodes listed rows.
    let found = found_here (both (g.P.Pages.view c.args.tuples.now.pages) c.args.catalog.now) (g.met.P.Pages.few_slots c.args.tuples.now.pages) (g.met.P.Pages.holds c.args.tuples.now.pages told) (g.met.P.Pages.allowed c.args.tuples.now.pages)
    c.args.number c.image.result.now c.relation-relation.result.now c.image.ensures.is c.image.ensures.safe c.relation-relation.ensures.is c.relation-relation.ensures.safe c.image_width.ensures.places c.image_width.ensures.is c.as_slice.ensures c.from.ensures image relation nodes listed rows in
    let twice = c.is_doubled.ensures.yes c.if-is_doubled.true in
    twice.1 (found.once c.in-Some.census ((rw c.in-Some.is at c.in_ok-census.ensures.sound) told) twice.0)

pub returns-in_err-rows-clause-did : goal.returns-in_err-rows-clause-did
returns-in_err-rows-clause-did g c = looks {most = c.in_ok-census.ensures.did.0 + c.in_err-rows.ensures.did.0} (fails _ c.from_residual-in_err-rows.ensures.1 (λ key there. there) (omega arith) (omega arith) (then_call c.in_ok-census.ensures.did.1.step c.in_err-rows.ensures.did.1))

pub returns-in_err-rows-clause-place : goal.returns-in_err-rows-clause-place
returns-in_err-rows-clause-place g c = λ place is told.
    absurd (c.in_err-rows.ensures.did.1.sound place (passed_on _ c.from_residual-in_err-rows.ensures.1 is) (c.in_ok-census.ensures.did.1.step.passes.leaves.told.0 told))

pub returns-in_err-rows-clause-none : goal.returns-in_err-rows-clause-none
returns-in_err-rows-clause-none g c = λ place is told image relation nodes listed rows.
    c.in_err-rows.ensures.did.1.sound place (passed_on _ c.from_residual-in_err-rows.ensures.1 is) (c.in_ok-census.ensures.did.1.step.passes.leaves.told.0 told)

pub returns-in_default-2-clause-none : goal.returns-in_default-2-clause-none
returns-in_default-2-clause-none g c = λ place is told image relation nodes listed rows.
    let found = found_here (both (g.P.Pages.view c.args.tuples.now.pages) c.args.catalog.now) (g.met.P.Pages.few_slots c.args.tuples.now.pages) (g.met.P.Pages.holds c.args.tuples.now.pages told) (g.met.P.Pages.allowed c.args.tuples.now.pages)
    c.args.number c.image.result.now c.relation-relation.result.now c.image.ensures.is c.image.ensures.safe c.relation-relation.ensures.is c.relation-relation.ensures.safe c.image_width.ensures.places c.image_width.ensures.is c.as_slice.ensures c.from.ensures image relation nodes listed rows in
    let step = c.in_ok-census.ensures.did.1.step in
    found.row (lacks_back step told _ _ _ _ (c.in_ok-rows.ensures.none c.in_default-2.is (step.passes.leaves.told.0 told)))

pub returns-in_default-2-clause-did : goal.returns-in_default-2-clause-did
returns-in_default-2-clause-did g c = record {
  most = _;
  step = then c.in_ok-census.ensures.did.1.step c.in_ok-rows.ensures.did.1.step;
  failed = λ is. absurd (cc);
  memory = λ is. absurd (cc);
}

pub returns-then-rows-census-clause-none : goal.returns-then-rows-census-clause-none
returns-then-rows-census-clause-none g c = λ place is told image relation nodes listed rows.
    let found = found_here (both (g.P.Pages.view c.args.tuples.now.pages) c.args.catalog.now) (g.met.P.Pages.few_slots c.args.tuples.now.pages) (g.met.P.Pages.holds c.args.tuples.now.pages told) (g.met.P.Pages.allowed c.args.tuples.now.pages)
    c.args.number c.image.result.now c.relation-relation.result.now c.image.ensures.is c.image.ensures.safe c.relation-relation.ensures.is c.relation-relation.ensures.safe c.image_width.ensures.places c.image_width.ensures.is c.as_slice.ensures c.from.ensures image relation nodes listed rows in
    let step = c.in_ok-census.ensures.did.1.step in
    let counts = all_back step told _ _ _ _ c.in-Some-2.rows ((rw c.in-Some-2.is at c.in_ok-rows.ensures.all) (step.passes.leaves.told.0 told)) in
    c.if-rows-census.true (found.count c.in-Some.census ((rw c.in-Some.is at c.in_ok-census.ensures.sound) told) c.in-Some-2.rows counts)

pub returns-then-rows-census-clause-did : goal.returns-then-rows-census-clause-did
returns-then-rows-census-clause-did g c = record {
  most = _;
  step = then c.in_ok-census.ensures.did.1.step c.in_ok-rows.ensures.did.1.step;
  failed = λ is. absurd (cc);
  memory = λ is. absurd (cc);
}

pub returns-clause-rows : goal.returns-clause-rows
returns-clause-rows g c = λ told.
    let step = c.in_ok-census.ensures.did.1.step in
    let counts = all_back step told _ _ _ _ c.in-Some-2.rows ((rw c.in-Some-2.is at c.in_ok-rows.ensures.all) (step.passes.leaves.told.0 told)) in
    rows_here (both (g.P.Pages.view c.args.tuples.now.pages) c.args.catalog.now) (g.met.P.Pages.few_slots c.args.tuples.now.pages) (g.met.P.Pages.holds c.args.tuples.now.pages told) (g.met.P.Pages.allowed c.args.tuples.now.pages)
    c.args.number c.image.result.now c.relation-relation.result.now c.image.ensures.is c.image.ensures.safe c.relation-relation.ensures.is c.relation-relation.ensures.safe c.image_width.ensures.places c.image_width.ensures.is c.as_slice.ensures c.from.ensures c.in-Some.census
    ((rw c.in-Some.is at c.in_ok-census.ensures.sound) told) c.args.marks.now c.check_marking.new.marks ((rw c.in-Some.is at c.in_ok-census.ensures.marked) told) (c.is_doubled.ensures.no c.if-is_doubled.false)
    (subst (CountsRows _ _ _ _ _) c.if-rows-census.false counts)

pub returns-clause-heaps : goal.returns-clause-heaps
returns-clause-heaps g c = λ told.
    let step = then c.in_ok-census.ensures.did.1.step c.in_ok-rows.ensures.did.1.step in
    heaps_after step c.requires.heaps (step.passes.leaves.told.0 told)

pub returns-clause-did : goal.returns-clause-did
returns-clause-did g c = looks (done _ (then c.in_ok-census.ensures.did.1.step c.in_ok-rows.ensures.did.1.step))

pub returns-in_err-census-clause-reached : goal.returns-in_err-census-clause-reached
returns-in_err-census-clause-reached g c = reached_here (both (g.P.Pages.view c.args.tuples.now.pages) c.args.catalog.now) c.args.number c.image.result.now c.relation-relation.result.now c.image.ensures.is c.relation-relation.ensures.is c.args.marks.now c.check_marking.new.marks c.in_err-census.ensures.reached

pub returns-in_default-clause-reached : goal.returns-in_default-clause-reached
returns-in_default-clause-reached g c = reached_here (both (g.P.Pages.view c.args.tuples.now.pages) c.args.catalog.now) c.args.number c.image.result.now c.relation-relation.result.now c.image.ensures.is c.relation-relation.ensures.is c.args.marks.now c.check_marking.new.marks c.in_ok-census.ensures.reached

pub returns-then-is_doubled-clause-reached : goal.returns-then-is_doubled-clause-reached
returns-then-is_doubled-clause-reached g c = reached_here (both (g.P.Pages.view c.args.tuples.now.pages) c.args.catalog.now) c.args.number c.image.result.now c.relation-relation.result.now c.image.ensures.is c.relation-relation.ensures.is c.args.marks.now c.check_marking.new.marks c.in_ok-census.ensures.reached

pub returns-in_err-rows-clause-reached : goal.returns-in_err-rows-clause-reached
returns-in_err-rows-clause-reached g c = reached_here (both (g.P.Pages.view c.args.tuples.now.pages) c.args.catalog.now) c.args.number c.image.result.now c.relation-relation.result.now c.image.ensures.is c.relation-relation.ensures.is c.args.marks.now c.check_marking.new.marks c.in_ok-census.ensures.reached

pub returns-in_default-2-clause-reached : goal.returns-in_default-2-clause-reached
returns-in_default-2-clause-reached g c = reached_here (both (g.P.Pages.view c.args.tuples.now.pages) c.args.catalog.now) c.args.number c.image.result.now c.relation-relation.result.now c.image.ensures.is c.relation-relation.ensures.is c.args.marks.now c.check_marking.new.marks c.in_ok-census.ensures.reached

pub returns-then-rows-census-clause-reached : goal.returns-then-rows-census-clause-reached
returns-then-rows-census-clause-reached g c = reached_here (both (g.P.Pages.view c.args.tuples.now.pages) c.args.catalog.now) c.args.number c.image.result.now c.relation-relation.result.now c.image.ensures.is c.relation-relation.ensures.is c.args.marks.now c.check_marking.new.marks c.in_ok-census.ensures.reached

pub returns-clause-reached : goal.returns-clause-reached
returns-clause-reached g c = reached_here (both (g.P.Pages.view c.args.tuples.now.pages) c.args.catalog.now) c.args.number c.image.result.now c.relation-relation.result.now c.image.ensures.is c.relation-relation.ensures.is c.args.marks.now c.check_marking.new.marks c.in_ok-census.ensures.reached
