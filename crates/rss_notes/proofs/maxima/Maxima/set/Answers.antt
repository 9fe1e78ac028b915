use Rattle.std.proofs.Common.{◌≡◌, ◌+◌, ◌-◌, ◌*◌, ◌/◌, ℕ, List, take, drop, ◌∙◌, ap, arith, length-set}
use Rattle.rss_notes.specs.Maxima.{greatest, children}
use Rattle.rss_notes.proofs.Trees.{numbers_long, tree_set, tree_more, numbers_set, numbers_kept}
use Rattle.rss_notes.proofs.maxima.Maxima.set.Goals as goal

pub overflow_add-place : goal.overflow_add-place
overflow_add-place c = omega (arith, c.self.invariant.most, numbers_long _ _ c.self.invariant.least c.self.view_is)

pub index_mut-requires : goal.index_mut-requires
index_mut-requires c = omega (arith, c.self.inside.tree.ok, numbers_long _ _ c.self.invariant.least c.self.view_is)

pub overflow_add-node : goal.overflow_add-node
overflow_add-node c = omega (arith, c.self.invariant.most, numbers_long _ _ c.self.invariant.least c.self.view_is)

pub loop-node-init : goal.loop-node-init
loop-node-init c =
    let long = numbers_long _ _ c.self.invariant.least c.self.view_is in
    record {
      within = omega (arith, length-set c.self.inside.tree.items (4368 + c.args.place) c.args.number);
      tree = tree_set c.self.inside.tree.items (4368 + c.args.place) c.args.number c.self.invariant (omega arith);
      numbers = numbers_set c.self.inside.tree.items c.args.self.now c.args.place c.args.number c.self.view_is;
    }

pub loop-node-preserved : goal.loop-node-preserved
loop-node-preserved c =
    let tree : List ℕ = c.loop-node.self-inside.tree.items in
    let above : ℕ = c.loop-node.node / 16 - 1 in
    let within = c.loop-node.invariant.within in
    let most = c.loop-node.invariant.tree.most in
    let spelled : c.greatest_in.result ≡ greatest (children tree above) = c.greatest_in.ensures ∙ ap (λ (l : List ℕ). greatest (take 16 (drop (16 * (above + 1)) l))) c.deref.ensures.value in
    record {
      within = omega (arith, length-set tree above c.greatest_in.result);
      tree = tree_more tree c.loop-node.node above c.greatest_in.result c.loop-node.invariant.tree (omega arith) (omega arith) spelled;
      numbers = numbers_kept tree _ above c.greatest_in.result (omega arith) c.loop-node.invariant.numbers;
    }
