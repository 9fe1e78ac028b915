use Rattle.std.proofs.Common.{◌+◌, ◌-◌, ◌/◌, ◌++◌, ℕ, refl, sym, ap, subst, arith}
use Rattle.rss_base.specs.DiskRule.{IsTold}
use Rattle.rss_base.specs.Paged.{Held}
use Rattle.rss_base.proofs.Steps.{then, then_call, done, fails, all_held, all_mapped}
use Rattle.rss_image.specs.Trees.{HoldsNode}
use Rattle.rss_image.specs.Checking.{SeesUnder, NeverStands}
use Rattle.rss_image.proofs.Fits.{spelled_node}
use Rattle.rss_image.specs.Marks.{IsMappedIn}
use Rattle.rss_image.proofs.Marked.{only_none, begins_marked, more_marked, node_marked, leaf_marked, node_then, one_reached, reached_then}
use Rattle.rss_image.proofs.Results.{on_some}
use Rattle.rss_image.proofs.Walked.{never_more, with_page, page_seen, own_pages, rises_behind, child_now, passed_then, none_walked, more_walked, all_walked, never_held, has_child}
use Rattle.rss_image.proofs.checking.+check_under.Goals as goal

pub returns-then-seen-slots-clause-never : goal.returns-then-seen-slots-clause-never
returns-then-seen-slots-clause-never g t c = λ no told row seen stands room.
    let view = g.P.Pages.view c.args.pages.now in
    absurd (never_more c.args.of view.slots view.held c.args.level c.args.number c.args.low.now c.args.fewest row c.args.seen.now.pages (omega (arith, c.if-seen-slots.true, c.slots.ensures)) stands room)

pub returns-then-not-branch-clause-never : goal.returns-then-not-branch-clause-never
returns-then-not-branch-clause-never g t c =
    let view = g.P.Pages.view c.args.pages.now in
    λ no. subst (λ (l : ℕ). IsTold view.disk → NeverStands c.args.of view l c.args.number c.args.low.now c.args.fewest c.args.seen.now) (sym c.if-level-eq0.true) (c.in_ok-find_leaf.ensures.never c.if-not-branch.true)

pub returns-then-not-branch-clause-did : goal.returns-then-not-branch-clause-did
returns-then-not-branch-clause-did g t c = (1, done _ c.in_ok-find_leaf.ensures.did.step)

pub returns-then-level-eq0-clause-sees : goal.returns-then-level-eq0-clause-sees
returns-then-level-eq0-clause-sees g t c =
    let view = g.P.Pages.view c.args.pages.now in
    λ yes. subst (λ (l : ℕ). IsTold view.disk → SeesUnder c.args.of view l c.args.number c.args.low.now c.args.fewest c.args.seen.now c.find_leaf.new.seen) (sym c.if-level-eq0.true) (c.in_ok-find_leaf.ensures.sees c.if-not-branch.false)

pub returns-then-level-eq0-clause-marked : goal.returns-then-level-eq0-clause-marked
returns-then-level-eq0-clause-marked g t c = λ yes told.
    let view = g.P.Pages.view c.args.pages.now in
    leaf_marked c.args.of view.slots view.held c.args.level c.args.number c.args.marks.now c.mark.new.marks c.if-level-eq0.true c.mark.ensures

pub returns-then-level-eq0-clause-reached : goal.returns-then-level-eq0-clause-reached
returns-then-level-eq0-clause-reached g t c =
    one_reached c.args.of (g.P.Pages.view c.args.pages.now) c.args.number c.args.marks.now c.mark.new.marks (c.in_ok-find_leaf.ensures.mapped c.if-not-branch.false) c.mark.ensures

pub returns-then-level-eq0-clause-did : goal.returns-then-level-eq0-clause-did
returns-then-level-eq0-clause-did g t c = (1, done _ c.in_ok-find_leaf.ensures.did.step)

pub returns-in_default-clause-never : goal.returns-in_default-clause-never
returns-in_default-clause-never g t c = λ no told row seen stands room.
    let view = g.P.Pages.view c.args.pages.now in
    absurd (never_held c.args.of view.slots view.held c.args.level c.args.number c.args.low.now c.args.fewest row (c.in_ok-count.ensures.none c.in_default.is told) stands)

pub loop-at-init : goal.loop-at-init
loop-at-init g t c =
    let view = g.P.Pages.view c.args.pages.now in
    record {
      within = omega arith;
      few = omega (arith, c.requires.few);
      step = (1, c.in_ok-count.ensures.did.step);
      walked = λ told found row seen rises. none_walked c.args.of view.slots view.held (c.args.level - 1) c.args.low.now found.entries c.in-Some.count row (c.args.seen.now.pages + 1) (with_page c.args.seen.now) found.count_is (page_seen c.args.of.width c.args.of.width row c.args.seen.now.pages c.args.seen.now refl seen) rises;
      marked = λ told found. begins_marked c.args.of view.slots view.held (c.args.level - 1) c.args.number c.in-Some.count found.entries c.args.marks.now c.mark-2.new.marks found.count_is c.mark-2.ensures;
      reached = one_reached c.args.of view c.args.number c.args.marks.now c.mark-2.new.marks (on_some _ c.in_ok-count.field-0 c.in-Some.count c.in-Some.is c.in_ok-count.ensures.mapped) c.mark-2.ensures;
    }

pub find_child-requires-clause-there : goal.find_child-requires-clause-there
find_child-requires-clause-there g t c = λ told_now.
    let view = g.P.Pages.view c.args.pages.now in
    let step = c.loop-at.invariant.step.1 in
    let told = step.passes.leaves.told.1 told_now in
    let found = on_some _ c.in_ok-count.field-0 c.in-Some.count c.in-Some.is c.in_ok-count.ensures.some told in
    record {
      next = found.next;
      entries = found.entries;
      holds = subst (λ (h : Held). HoldsNode c.args.of h c.args.level c.args.number found.next found.entries) (sym (all_held step told)) (spelled_node c.args.of view.slots c.args.level c.args.number found.next found.entries view.held found.holds);
      low = omega (arith, c.loop-at-test.true, c.loop-at.invariant.within, found.count_is);
    }

pub returns-in_err-child-clause-did : goal.returns-in_err-child-clause-did
returns-in_err-child-clause-did g t c =
    let before = c.loop-at.invariant.step in
    (before.0 + 1, fails _ c.from_residual-in_err-child.ensures.1 (λ key there. there) (omega arith) (omega arith) (then_call before.1 c.in_err-child.ensures.did))

pub returns-in_err-fits-clause-did : goal.returns-in_err-fits-clause-did
returns-in_err-fits-clause-did g t c =
    let before = c.loop-at.invariant.step in
    let call = c.in_err-fits.ensures.did in
    (before.0 + 1 + call.0, fails _ c.from_residual-in_err-fits.ensures.1 (λ key there. there) (omega arith) (omega arith) (then_call (then before.1 c.in_ok-child.ensures.did.step) call.1))

pub returns-in_err-fits-clause-reached : goal.returns-in_err-fits-clause-reached
returns-in_err-fits-clause-reached g t c =
    let step = then c.loop-at.invariant.step.1 c.in_ok-child.ensures.did.step in
    reached_then c.args.of (g.P.Pages.view c.args.pages.now) (g.P.Pages.view c.find_child.new.pages) c.args.marks.now c.loop-at.marks c.check_under.new.marks (all_mapped step) c.loop-at.invariant.reached c.in_err-fits.ensures.reached

pub returns-then-not-fits-clause-reached : goal.returns-then-not-fits-clause-reached
returns-then-not-fits-clause-reached g t c =
    let step = then c.loop-at.invariant.step.1 c.in_ok-child.ensures.did.step in
    reached_then c.args.of (g.P.Pages.view c.args.pages.now) (g.P.Pages.view c.find_child.new.pages) c.args.marks.now c.loop-at.marks c.check_under.new.marks (all_mapped step) c.loop-at.invariant.reached c.in_ok-fits.ensures.reached

pub returns-then-not-fits-clause-never : goal.returns-then-not-fits-clause-never
returns-then-not-fits-clause-never g t c = λ no told row seen stands room.
    let of = c.args.of in
    let view = g.P.Pages.view c.args.pages.now in
    let mid = g.P.Pages.view c.find_child.new.pages in
    let before = c.loop-at.invariant.step.1 in
    let step = then before c.in_ok-child.ensures.did.step in
    let child = c.in_ok-child.child in
    let found = on_some _ c.in_ok-count.field-0 c.in-Some.count c.in-Some.is c.in_ok-count.ensures.some told in
    let holds = spelled_node of view.slots c.args.level c.args.number found.next found.entries view.held found.holds in
    let is = c.in_ok-child.ensures.child (before.passes.leaves.told.0 told) found.next found.entries (subst (λ (h : Held). HoldsNode of h c.args.level c.args.number found.next found.entries) (sym (all_held before told)) holds) in
    let walked = c.loop-at.invariant.walked told found row seen (rises_behind stands.leaves row stands.rises) in
    let has = has_child of view.slots view.held c.args.level c.args.number c.args.low.now c.args.fewest found.next found.entries c.loop-at.at row c.args.seen.now.pages child.number child.bound c.loop-at.seen
    (omega (arith, c.if-level-eq0.false)) (omega (arith, c.loop-at-test.true)) (omega (arith, c.loop-at.invariant.within, found.count_is)) is.number_is is.bound_is found.holds walked stands room in
    let there = child_now of view.slots mid.slots view.held mid.held (c.args.level - 1) child.number child.bound _ (c.node_most.result / 2) (walked.leaves ++ row) c.loop-at.seen step.passes.slots (all_held step told) (ap (λ (n : ℕ). n / 2) c.node_most.ensures) has in
    c.in_ok-fits.ensures.never c.if-not-fits.true (step.passes.leaves.told.0 told) (walked.leaves ++ row) (own_pages of.width (walked.leaves ++ row) _ c.loop-at.seen walked.seen_is) there.stands there.room

pub returns-then-not-fits-clause-did : goal.returns-then-not-fits-clause-did
returns-then-not-fits-clause-did g t c =
    let before = c.loop-at.invariant.step in
    let call = c.in_ok-fits.ensures.did in
    (before.0 + 1 + call.0, done _ (then (then before.1 c.in_ok-child.ensures.did.step) call.1.step))

pub loop-at-preserved : goal.loop-at-preserved
loop-at-preserved g t c =
    let of = c.args.of in
    let view = g.P.Pages.view c.args.pages.now in
    let mid = g.P.Pages.view c.find_child.new.pages in
    let before = c.loop-at.invariant.step in
    let step = then before.1 c.in_ok-child.ensures.did.step in
    let call = c.in_ok-fits.ensures.did in
    let child = c.in_ok-child.child in
    record {
      within = omega (arith, c.loop-at.invariant.within);
      few = c.in_ok-fits.ensures.few c.if-not-fits.false;
      step = (before.0 + 1 + call.0, then step call.1.step);
      walked = λ told found row seen rises.
          let holds = spelled_node of view.slots c.args.level c.args.number found.next found.entries view.held found.holds in
          let is = c.in_ok-child.ensures.child (before.1.passes.leaves.told.0 told) found.next found.entries (subst (λ (h : Held). HoldsNode of h c.args.level c.args.number found.next found.entries) (sym (all_held before.1 told)) holds) in
          let walked = c.loop-at.invariant.walked told found row seen rises in
          let passed = c.in_ok-fits.ensures.sees c.if-not-fits.false (step.passes.leaves.told.0 told) (walked.leaves ++ row) (own_pages of.width (walked.leaves ++ row) _ c.loop-at.seen walked.seen_is) walked.rises in
          more_walked of view.slots view.held (c.args.level - 1) c.args.low.now found.entries c.loop-at.at row (c.args.seen.now.pages + 1) child.number child.bound c.loop-at.seen c.check_under.new.seen (omega (arith, c.loop-at-test.true)) (omega (arith, c.loop-at.invariant.within, found.count_is)) is.number_is is.bound_is walked
          (passed_then of view.slots mid.slots view.held mid.held (c.args.level - 1) child.number child.bound _ (c.node_most.result / 2) (walked.leaves ++ row) c.loop-at.seen.pages c.check_under.new.seen step.passes.slots (all_held step told) (ap (λ (n : ℕ). n / 2) c.node_most.ensures) passed);
      marked = λ told found.
          let holds = spelled_node of view.slots c.args.level c.args.number found.next found.entries view.held found.holds in
          let is = c.in_ok-child.ensures.child (before.1.passes.leaves.told.0 told) found.next found.entries (subst (λ (h : Held). HoldsNode of h c.args.level c.args.number found.next found.entries) (sym (all_held before.1 told)) holds) in
          let marks = node_then of view.slots mid.slots view.held mid.held (c.args.level - 1) child.number c.loop-at.marks c.check_under.new.marks step.passes.slots (all_held step told) (c.in_ok-fits.ensures.marked c.if-not-fits.false (step.passes.leaves.told.0 told)) in
          more_marked of view.slots view.held (c.args.level - 1) c.args.number child.number c.loop-at.at found.entries c.args.marks.now c.loop-at.marks c.check_under.new.marks (omega (arith, c.loop-at-test.true)) (omega (arith, c.loop-at.invariant.within, found.count_is)) is.number_is (c.loop-at.invariant.marked told found) marks;
      reached = reached_then of view mid c.args.marks.now c.loop-at.marks c.check_under.new.marks (all_mapped step) c.loop-at.invariant.reached c.in_ok-fits.ensures.reached;
    }

pub returns-clause-sees : goal.returns-clause-sees
returns-clause-sees g t c = λ yes told row seen rises.
    let view = g.P.Pages.view c.args.pages.now in
    let found = on_some _ c.in_ok-count.field-0 c.in-Some.count c.in-Some.is c.in_ok-count.ensures.some told in
    all_walked c.args.of view.slots view.held c.args.level c.args.number c.args.low.now c.args.fewest found.next c.loop-at.at found.entries row c.args.seen.now.pages c.loop-at.seen (omega (arith, c.if-level-eq0.false)) (omega (arith, c.loop-at-test.false)) found.holds found.filled (c.loop-at.invariant.walked told found row seen rises)

pub returns-clause-marked : goal.returns-clause-marked
returns-clause-marked g t c = λ yes told.
    let view = g.P.Pages.view c.args.pages.now in
    let found = on_some _ c.in_ok-count.field-0 c.in-Some.count c.in-Some.is c.in_ok-count.ensures.some told in
    node_marked c.args.of view.slots view.held c.args.level c.args.number found.next c.loop-at.at found.entries c.args.marks.now c.loop-at.marks (omega (arith, c.if-level-eq0.false)) (omega (arith, c.loop-at-test.false)) found.holds (c.loop-at.invariant.marked told found)

pub returns-clause-did : goal.returns-clause-did
returns-clause-did g t c = let so = c.loop-at.invariant.step in (so.0, done _ so.1)

pub returns-then-seen-slots-clause-reached : goal.returns-then-seen-slots-clause-reached
returns-then-seen-slots-clause-reached g t c = only_none (IsMappedIn c.args.of (g.P.Pages.view c.args.pages.now)) c.args.marks.now

pub returns-in_err-find_leaf-clause-reached : goal.returns-in_err-find_leaf-clause-reached
returns-in_err-find_leaf-clause-reached g t c = only_none (IsMappedIn c.args.of (g.P.Pages.view c.args.pages.now)) c.args.marks.now

pub returns-then-not-branch-clause-reached : goal.returns-then-not-branch-clause-reached
returns-then-not-branch-clause-reached g t c = only_none (IsMappedIn c.args.of (g.P.Pages.view c.args.pages.now)) c.args.marks.now

pub returns-in_err-count-clause-reached : goal.returns-in_err-count-clause-reached
returns-in_err-count-clause-reached g t c = only_none (IsMappedIn c.args.of (g.P.Pages.view c.args.pages.now)) c.args.marks.now

pub returns-in_default-clause-reached : goal.returns-in_default-clause-reached
returns-in_default-clause-reached g t c = only_none (IsMappedIn c.args.of (g.P.Pages.view c.args.pages.now)) c.args.marks.now
