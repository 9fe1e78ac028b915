use Rattle.std.proofs.Common.{◌≡◌, ◌<◌, ◌≤◌, ◌+◌, ◌-◌, ◌*◌, ◌∙◌, ℕ, length, true, sym, ap, subst, arith}
use Rattle.std.specs.Prelude.{Ok}
use Rattle.std.proofs.Math.Logic.{∥∥₁_elim, ∥∥₁_map}
use mathlib.Core.HLevel.{⊥_prop}
use Rattle.rss_base.specs.Paged.{Held}
use Rattle.rss_base.specs.Steps.{PagesCall, pages_in}
use Rattle.rss_base.specs.declared.key.Space.TheVariants.{Image}
use Rattle.rss_base.proofs.Steps.{then, then_call, done, fails, widens, untouched, all_held}
use Rattle.rss_base.specs.Nodes.{node_least}
use Rattle.rss_levels.specs.Rows.{Cells}
use Rattle.rss_levels.specs.Removes.{Removes}
use Rattle.rss_levels.proofs.Spotted.{at_place}
use Rattle.rss_node.specs.Nodes.{NodeView, IsPassed}
use Rattle.rss_image.specs.Trees.{cells_of, HoldsNode}
use Rattle.rss_image.specs.Removed.{MayRemove}
use Rattle.rss_image.proofs.Calls.{damage, keeps_none}
use Rattle.rss_image.proofs.Halves.{many}
use Rattle.rss_image.proofs.Results.{on_ok}
use Rattle.rss_image.proofs.Insertion.{never_first}
use Rattle.rss_image.proofs.Places.{spot_node}
use Rattle.rss_image.proofs.Removal.{RemovedFrom, may_below, may_mend, removed_full, removed_mended}
use Rattle.rss_image.proofs.removing.+remove_in.Goals.{then-left-node_most+in_ok-mend, else-left-node_most}
use Rattle.rss_node.proofs.Lent.{lent_before, lent_child, lent_count, lent_here, lent_within}
use Rattle.rss_image.proofs.removing.+remove_in.Goals as goal

pub read_node-requires-clause-there : goal.read_node-requires-clause-there
read_node-requires-clause-there g t c = λ told. ∥∥₁_map (c.requires.there told) (λ may. spot_node c.args.of (g.P.Pages.view c.args.pages.now).held c.args.level c.args.number c.args.pair.now (record { pairs = may.pairs; spot = may.spot }))

pub take_out-requires-clause-there : goal.take_out-requires-clause-there
take_out-requires-clause-there g t c = λ told_one.
    let old = g.P.Pages.view c.args.pages.now in
    let step = c.in_ok-read_node.ensures.did.step in
    let told = step.passes.leaves.told.1 told_one in
    ∥∥₁_map (c.requires.there told) (λ given.
    let may = subst (λ (l : ℕ). MayRemove c.args.of old.held l c.args.number c.args.pair.now) c.if-level-eq0.true given in
    subst (λ (h : Held). MayRemove c.args.of h 0 c.args.number c.args.pair.now) (sym (all_held step told)) may)

pub returns-then-level-eq0-clause-removed : goal.returns-then-level-eq0-clause-removed
returns-then-level-eq0-clause-removed g t c = on_ok c.take_out.result (λ count removed told.
    let of = c.args.of in
    let old = g.P.Pages.view c.args.pages.now in
    let new = g.P.Pages.view c.take_out.new.pages in
    let step = c.in_ok-read_node.ensures.did.step in
    let told_one = step.passes.leaves.told.0 told in
    subst (λ (l : ℕ). RemovedFrom of (cells_of of old.held) l c.args.number c.args.pair.now (cells_of of new.held) count) (sym c.if-level-eq0.true)
    (subst (λ (cs : Cells). RemovedFrom of cs 0 c.args.number c.args.pair.now (cells_of of new.held) count) (keeps_none of old (g.P.Pages.view c.read_node.new.pages) step told) (removed told_one))) c.take_out.ensures.removed

pub returns-then-level-eq0-clause-did : goal.returns-then-level-eq0-clause-did
returns-then-level-eq0-clause-did g t c = widens (λ key there. there) (omega arith) (omega arith) (then_call (untouched c.in_ok-read_node.ensures.did.step) c.take_out.ensures.did)

pub returns-then-at-eq0-clause-did : goal.returns-then-at-eq0-clause-did
returns-then-at-eq0-clause-did g t c = widens (λ key there. there) (omega arith) (omega arith) (damage (untouched c.in_ok-read_node.ensures.did.step) c.damaged.ensures (λ told. ∥∥₁_elim (c.requires.there told) ⊥_prop (λ may.
    never_first c.args.of (cells_of c.args.of (g.P.Pages.view c.args.pages.now).held) c.args.level c.args.number c.args.pair.now may.pairs may.spot c.read_node.new.into (c.in_ok-read_node.ensures.holds told) (omega arith) c.requires.long
    (λ some passed. (lent_here c.lent.ensures true c.place-at.result c.args.pair.now c.place-at.ensures.here) (omega arith) (subst (λ (n : ℕ). IsPassed true (at_place c.read_node.new.into.entries n).pair c.args.pair.now) (sym c.if-at-eq0.true) passed)))))

pub remove_in-requires : goal.remove_in-requires
remove_in-requires g t c = λ κs lives. (
  omega (arith, c.decreases),
  (
    lives,
    (
      c.requires.of,
      (
        c.requires.long,
        (λ told_one.
            let of = c.args.of in
            let old = g.P.Pages.view c.args.pages.now in
            let one = g.P.Pages.view c.read_node.new.pages in
            let step = c.in_ok-read_node.ensures.did.step in
            let told = step.passes.leaves.told.1 told_one in
            let wide = many of.width c.requires.of.narrow in
            let full : 2 ≤ node_least of.width = omega (arith, wide) in
            ∥∥₁_map (c.requires.there told) (λ given.
            let may = may_below of old.held c.args.level c.args.number c.args.pair.now given c.read_node.new.into (c.in_ok-read_node.ensures.holds told) c.place-at.result (omega arith) (omega arith) (lent_within c.lent.ensures c.place-at.result c.place-at.ensures.within) ((lent_before c.lent.ensures true c.place-at.result c.args.pair.now c.place-at.ensures.before) (omega arith)) (lent_here c.lent.ensures true c.place-at.result c.args.pair.now c.place-at.ensures.here) full in
            subst (λ (h : Held). MayRemove of h (c.args.level - 1) c.child-child.result c.args.pair.now) (sym (all_held step told))
            (subst (λ (n : ℕ). MayRemove of old.held (c.args.level - 1) n c.args.pair.now) (sym (lent_child c.lent-2.ensures (c.place-at.result - 1) c.child-child.ensures)) may))),
      ),
    ),
  ),
)

pub returns-in_err-left-clause-did : goal.returns-in_err-left-clause-did
returns-in_err-left-clause-did g t c = fails _ c.from_residual-in_err-left.ensures.1 (λ key there. there) (omega arith) (omega arith) (then_call (untouched c.in_ok-read_node.ensures.did.step) c.in_err-left.ensures.did)

pub mend-requires-clause-there : goal.mend-requires-clause-there
mend-requires-clause-there g t c = λ told_two.
    let of = c.args.of in
    let old : Cells = cells_of of (g.P.Pages.view c.args.pages.now).held in
    let one : Cells = cells_of of (g.P.Pages.view c.read_node.new.pages).held in
    let two : Cells = cells_of of (g.P.Pages.view c.remove_in.new.pages).held in
    let step = c.in_ok-read_node.ensures.did.step in
    let told_one = c.in_ok-left.ensures.did.step.passes.leaves.told.1 told_two in
    let told = step.passes.leaves.told.1 told_one in
    let same : one ≡ old = keeps_none of (g.P.Pages.view c.args.pages.now) (g.P.Pages.view c.read_node.new.pages) step told in
    ∥∥₁_map (c.requires.there told) (λ may.
    let wide = many of.width c.requires.of.narrow in
    let full : 2 ≤ node_least of.width = omega (arith, wide) in
    let inner : 0 < c.args.level = omega arith in
    let does = subst (λ (n : ℕ). RemovedFrom of old (c.args.level - 1) n c.args.pair.now two c.in_ok-left.left) (lent_child c.lent-2.ensures (c.place-at.result - 1) c.child-child.ensures) (subst (λ (cs : Cells). RemovedFrom of cs (c.args.level - 1) c.child-child.result c.args.pair.now two c.in_ok-left.left) same (c.in_ok-left.ensures.removed told_one)) in
    may_mend of old c.args.level c.args.number c.args.pair.now may.pairs may.spot c.read_node.new.into (c.in_ok-read_node.ensures.holds told) c.place-at.result inner (omega arith) (lent_within c.lent.ensures c.place-at.result c.place-at.ensures.within) ((lent_before c.lent.ensures true c.place-at.result c.args.pair.now c.place-at.ensures.before) (omega arith)) (lent_here c.lent.ensures true c.place-at.result c.args.pair.now c.place-at.ensures.here) full two c.in_ok-left.left does (may.branches inner))

pub returns-in_err-mend-clause-did : goal.returns-in_err-mend-clause-did
returns-in_err-mend-clause-did g t c = fails _ c.from_residual-in_err-mend.ensures.1 (λ key there. there) (omega arith) (omega arith) (then_call (then (untouched c.in_ok-read_node.ensures.did.step) c.in_ok-left.ensures.did.step) c.in_err-mend.ensures.did)

pub returns-clause-removed : goal.returns-clause-removed
returns-clause-removed g t c = λ told pairs spot.
    let of = c.args.of in
    let old : Cells = cells_of of (g.P.Pages.view c.args.pages.now).held in
    let one : Cells = cells_of of (g.P.Pages.view c.read_node.new.pages).held in
    let two : Cells = cells_of of (g.P.Pages.view c.remove_in.new.pages).held in
    let step = c.in_ok-read_node.ensures.did.step in
    let told_one = step.passes.leaves.told.0 told in
    let told_two = c.in_ok-left.ensures.did.step.passes.leaves.told.0 told_one in
    let same : one ≡ old = keeps_none of (g.P.Pages.view c.args.pages.now) (g.P.Pages.view c.read_node.new.pages) step told in
    let wide = many of.width c.requires.of.narrow in
    let full : 2 ≤ node_least of.width = omega (arith, wide) in
    let inner : 0 < c.args.level = omega arith in
    let some : 0 < c.place-at.result = omega arith in
    let does = subst (λ (n : ℕ). RemovedFrom of old (c.args.level - 1) n c.args.pair.now two c.in_ok-left.left) (lent_child c.lent-2.ensures (c.place-at.result - 1) c.child-child.ensures) (subst (λ (cs : Cells). RemovedFrom of cs (c.args.level - 1) c.child-child.result c.args.pair.now two c.in_ok-left.left) same (c.in_ok-left.ensures.removed told_one)) in
    elim c.if-left-node_most.branch [
      | then-left-node_most+in_ok-mend w ↦
          let new : Cells = cells_of of (g.P.Pages.view w.mend.new.pages).held in
          let made = removed_mended of old c.args.level c.args.number c.args.pair.now pairs spot c.read_node.new.into (c.in_ok-read_node.ensures.holds told) c.place-at.result inner some (lent_within c.lent.ensures c.place-at.result c.place-at.ensures.within) ((lent_before c.lent.ensures true c.place-at.result c.args.pair.now c.place-at.ensures.before) (omega arith)) (lent_here c.lent.ensures true c.place-at.result c.args.pair.now c.place-at.ensures.here) full two new c.in_ok-left.left (length w.mend.new.node.entries) does (w.in_ok-mend.ensures.mended told_two) in
          subst (λ (p : _). Removes spot (cells_of of (g.P.Pages.view p).held) c.count.result) (sym w.pages-is)
          (subst (λ (n : ℕ). Removes spot new n) (ap (λ (n : NodeView). length n.entries) (sym w.node-is) ∙ sym (lent_count c.lent-3.ensures c.count.ensures.count)) made)
      | else-left-node_most w ↦
          let made = removed_full of old c.args.level c.args.number c.args.pair.now pairs spot c.read_node.new.into (c.in_ok-read_node.ensures.holds told) c.place-at.result inner some (lent_within c.lent.ensures c.place-at.result c.place-at.ensures.within) ((lent_before c.lent.ensures true c.place-at.result c.args.pair.now c.place-at.ensures.before) (omega arith)) (lent_here c.lent.ensures true c.place-at.result c.args.pair.now c.place-at.ensures.here) full two c.in_ok-left.left does (omega (arith, w.if-left-node_most.false, c.node_most.ensures)) in
          subst (λ (p : _). Removes spot (cells_of of (g.P.Pages.view p).held) c.count.result) (sym w.pages-is)
          (subst (λ (n : ℕ). Removes spot two n) (ap (λ (n : NodeView). length n.entries) (sym w.node-is) ∙ sym (lent_count c.lent-3.ensures c.count.ensures.count)) made)
    ]

pub returns-clause-did : goal.returns-clause-did
returns-clause-did g t c = elim c.if-left-node_most.branch [
  | then-left-node_most+in_ok-mend w ↦ subst (λ (p : _). PagesCall (pages_in c.args.of.segment Image) (3 * c.args.level + 1) (6 * c.args.level + 2) (g.P.Pages.view c.args.pages.now) (g.P.Pages.view p) (Ok c.count.result)) (sym w.pages-is)
      (widens (λ key there. there) (omega arith) (omega arith) (done _ (then (then (untouched c.in_ok-read_node.ensures.did.step) c.in_ok-left.ensures.did.step) w.in_ok-mend.ensures.did.step)))
  | else-left-node_most w ↦ subst (λ (p : _). PagesCall (pages_in c.args.of.segment Image) (3 * c.args.level + 1) (6 * c.args.level + 2) (g.P.Pages.view c.args.pages.now) (g.P.Pages.view p) (Ok c.count.result)) (sym w.pages-is)
      (widens (λ key there. there) (omega arith) (omega arith) (done _ (then (untouched c.in_ok-read_node.ensures.did.step) c.in_ok-left.ensures.did.step)))
]

pub take_out-requires-clause-node : goal.take_out-requires-clause-node
take_out-requires-clause-node g t c = λ told_one.
    let node = c.read_node.new.into in
    let step = c.in_ok-read_node.ensures.did.step in
    let told = step.passes.leaves.told.1 told_one in
    subst (λ (h : Held). HoldsNode c.args.of h 0 c.args.number node.next node.entries) (sym (all_held step told))
    (subst (λ (l : ℕ). HoldsNode c.args.of (g.P.Pages.view c.args.pages.now).held l c.args.number node.next node.entries) c.if-level-eq0.true (c.in_ok-read_node.ensures.holds told))

pub returns-in_err-read_node-clause-did : goal.returns-in_err-read_node-clause-did
returns-in_err-read_node-clause-did g t c = fails _ c.from_residual.ensures.1 (λ key none. absurd none) (omega arith) (omega arith) c.in_err-read_node.ensures.did
