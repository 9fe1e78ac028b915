use Rattle.std.proofs.Common.{refl, ◌≡◌, ◌∙◌, ℕ, length, true, false, sym, ap, subst, arith}
use Rattle.std.proofs.Math.Logic.{∥∥₁_elim}
use mathlib.Core.HLevel.{⊥_prop}
use Rattle.rss_base.proofs.Steps.{rests, done, fails}
use Rattle.rss_levels.specs.Removes.{Removes}
use Rattle.rss_node.specs.Nodes.{NodeView}
use Rattle.rss_image.specs.Trees.{cells_of, HoldsNode}
use Rattle.rss_image.proofs.Calls.{damage, held_is_mapped}
use Rattle.rss_image.proofs.Passing.{leaf_passed}
use Rattle.rss_image.proofs.Removal.{lacks_pair, leaf_cut}
use Rattle.rss_node.proofs.Lent.{lent_before, lent_count, lent_here, lent_pair, lent_within}
use Rattle.rss_image.proofs.removing.take_out.Goals as goal

pub returns-then-at-count-clause-did : goal.returns-then-at-count-clause-did
returns-then-at-count-clause-did g c = damage (rests _) c.damaged.ensures (λ told. ∥∥₁_elim (c.requires.there told) ⊥_prop (λ may.
    let of = c.args.of in
    let old = g.P.Pages.view c.args.pages.now in
    lacks_pair of (cells_of of old.held) c.args.number c.args.pair.now may.pairs may.spot c.args.node.now (c.requires.node told) c.place-at.result (lent_within c.lent.ensures c.place-at.result c.place-at.ensures.within) (leaf_passed of (cells_of of old.held) 0 c.args.number c.args.pair.now may.pairs may.spot c.args.node.now (c.requires.node told) refl false c.place-at.result (lent_within c.lent.ensures c.place-at.result c.place-at.ensures.within) (lent_before c.lent.ensures false c.place-at.result c.args.pair.now c.place-at.ensures.before)) (lent_here c.lent.ensures false c.place-at.result c.args.pair.now c.place-at.ensures.here)
    (λ some. absurd (omega (arith, some, (lent_count c.lent-2.ensures c.count.ensures.count), c.if-at-count.true))) may.there))

pub returns-then-not-is_same-clause-did : goal.returns-then-not-is_same-clause-did
returns-then-not-is_same-clause-did g c = damage (rests _) c.damaged-then-not-is_same.ensures (λ told. ∥∥₁_elim (c.requires.there told) ⊥_prop (λ may.
    let of = c.args.of in
    let old = g.P.Pages.view c.args.pages.now in
    lacks_pair of (cells_of of old.held) c.args.number c.args.pair.now may.pairs may.spot c.args.node.now (c.requires.node told) c.place-at.result (lent_within c.lent.ensures c.place-at.result c.place-at.ensures.within) (leaf_passed of (cells_of of old.held) 0 c.args.number c.args.pair.now may.pairs may.spot c.args.node.now (c.requires.node told) refl false c.place-at.result (lent_within c.lent.ensures c.place-at.result c.place-at.ensures.within) (lent_before c.lent.ensures false c.place-at.result c.args.pair.now c.place-at.ensures.before)) (lent_here c.lent.ensures false c.place-at.result c.args.pair.now c.place-at.ensures.here)
    (λ some same. let never : false ≡ true = sym c.if-not-is_same.true ∙ c.is_same.ensures.1 (lent_pair c.lent-3.ensures c.place-at.result c.pair.ensures.pair ∙ same ∙ sym c.as_slice.ensures.bytes) in absurd (cc)) may.there))

pub write_node-requires-clause-mapped : goal.write_node-requires-clause-mapped
write_node-requires-clause-mapped g c = λ told. held_is_mapped c.args.of (g.P.Pages.view c.args.pages.now) 0 c.args.number c.args.node.now.next c.args.node.now.entries (g.met.P.Pages.holds c.args.pages.now told) (c.requires.node told)

pub returns-clause-removed : goal.returns-clause-removed
returns-clause-removed g c = λ told pairs spot.
    let of = c.args.of in
    let old = g.P.Pages.view c.args.pages.now in
    let new = g.P.Pages.view c.write_node.new.pages in
    let wrote = c.in_ok-write_node.ensures.writes told in
    let held = subst (λ (n : NodeView). HoldsNode of new.held 0 c.args.number n.next n.entries) c.cut.ensures wrote.holds in
    subst (λ (n : ℕ). Removes spot (cells_of of new.held) n) (sym ((lent_count c.lent-4.ensures c.count-2.ensures.count) ∙ ap (λ (n : NodeView). length n.entries) c.cut.ensures))
    (leaf_cut of (cells_of of old.held) c.args.number c.args.pair.now pairs spot c.args.node.now (c.requires.node told) c.place-at.result (lent_within c.lent.ensures c.place-at.result c.place-at.ensures.within) (leaf_passed of (cells_of of old.held) 0 c.args.number c.args.pair.now pairs spot c.args.node.now (c.requires.node told) refl false c.place-at.result (lent_within c.lent.ensures c.place-at.result c.place-at.ensures.within) (lent_before c.lent.ensures false c.place-at.result c.args.pair.now c.place-at.ensures.before))
    (omega (arith, (lent_count c.lent-2.ensures c.count.ensures.count), c.if-at-count.false)) (sym (lent_pair c.lent-3.ensures c.place-at.result c.pair.ensures.pair) ∙ c.is_same.ensures.0 c.if-not-is_same.false ∙ c.as_slice.ensures.bytes) (cells_of of new.held) held wrote.keeps wrote.loses_none)

pub returns-in_err-write_node-clause-did : goal.returns-in_err-write_node-clause-did
returns-in_err-write_node-clause-did g c = fails _ c.from_residual.ensures.1 (λ key there. there) (omega arith) (omega arith) c.in_err-write_node.ensures.did

pub returns-clause-did : goal.returns-clause-did
returns-clause-did g c = done _ c.in_ok-write_node.ensures.did.step
