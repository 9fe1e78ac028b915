use Rattle.std.proofs.Common.{◌≡◌, ◌⊎◌, inl, inr, ◌<◌, ◌+◌, ◌∙◌, ℕ, suc, List, length, ap, sym, subst, arith, Option}
use Rattle.std.proofs.Math.Logic.{∥∥₁_elim, ∥∥₁_map}
use Rattle.std.proofs.Math.Bool.{Bool-set}
use mathlib.Core.HLevel.{⊥_prop}
use Rattle.rss_base.proofs.Steps.{rests, then_call, fails, widens}
use Rattle.rss_base.specs.Entries.{Entry, no_page}
use Rattle.rss_base.specs.Nodes.{node_least}
use Rattle.rss_levels.specs.Rows.{first}
use Rattle.rss_levels.proofs.Spotted.{stored_long}
use Rattle.rss_base.specs.Paged.{page_key}
use Rattle.rss_base.specs.declared.key.Space.TheVariants.{Image}
use Rattle.rss_node.specs.Nodes.{NodeView, IsNodeOf, with_entries, spliced}
use Rattle.rss_image.specs.Trees.{cells_of, HoldsNode}
use Rattle.rss_image.specs.Removed.{second_names, MendsTo}
use Rattle.rss_image.proofs.Calls.{damage, held_mapped}
use Rattle.rss_image.proofs.Halves.{many}
use Rattle.rss_image.proofs.Mending.{on_done, two, mend_neighbours, mend_still, mended}
use Rattle.rss_image.proofs.removing.mend.Goals.{then-place-count, else-place-count, in-None, in-Some}
use Rattle.rss_node.proofs.Lent.{lent_child, lent_count, lent_pair}
use Rattle.rss_image.proofs.removing.mend.Goals as goal

pub returns-then-count-lt2-clause-did : goal.returns-then-count-lt2-clause-did
returns-then-count-lt2-clause-did g c = damage (rests _) c.damaged.ensures (λ told. ∥∥₁_elim (c.requires.there told) ⊥_prop (λ may. omega (arith, may.several, ap length may.own_is, stored_long c.args.of.width c.args.level may.entries, (lent_count c.lent.ensures c.count-count.ensures.count), c.if-count-lt2.true)))

pub even-requires-clause-there : goal.even-requires-clause-there
even-requires-clause-there g c = λ told.
    let of = c.args.of in
    let old = g.P.Pages.view c.args.pages.now in
    let own : List Entry = c.args.node.now.entries in
    let at : ℕ = c.if-place-count.at in
    ∥∥₁_map (c.requires.there told) (λ may.
    let near : (c.args.place ≡ at) ⊎ (c.args.place ≡ suc at) = elim c.if-place-count.branch [ then-place-count w ↦ inl (omega (arith, w.at-is)) | else-place-count w ↦ inr (omega (arith, w.at-is, w.if-place-count.false, (lent_count c.lent.ensures c.count-count.ensures.count), c.if-count-lt2.false, c.requires.within)) ] in
    let low : suc at < length own = elim c.if-place-count.branch [ then-place-count w ↦ omega (arith, w.at-is, w.if-place-count.true, (lent_count c.lent.ensures c.count-count.ensures.count)) | else-place-count w ↦ omega (arith, w.at-is, (lent_count c.lent.ensures c.count-count.ensures.count), c.if-count-lt2.false) ] in
    let wide = many of.width c.requires.of.narrow in
    let next : at + 1 ≡ suc at = omega arith in
    let some : 0 < node_least of.width = omega (arith, wide) in
    let both = two of (cells_of of old.held) c.args.level c.args.number c.args.place own may.start may.pairs may.front may.back may.lower may.entries may.rows may.height may.own_is at (at + 1) next near low some in
    record {
      left = both.left;
      right = both.right;
      next = first both.after no_page;
      are = mend_neighbours of (cells_of of old.held) c.args.level c.args.number c.args.place own may.start may.pairs may.front may.back may.lower may.entries may.rows may.height may.own_is at (at + 1) next near low some c.child-left.result c.child-right.result c.own_pair-pair.result (lent_child c.lent-2.ensures c.if-place-count.at c.child-left.ensures) (lent_child c.lent-3.ensures (c.if-place-count.at + 1) c.child-right.ensures) (lent_pair c.lent-4.ensures (c.if-place-count.at + 1) c.own_pair-pair.ensures.pair);
    })

pub returns-in_err-even-clause-did : goal.returns-in_err-even-clause-did
returns-in_err-even-clause-did g c = fails _ c.from_residual.ensures.1 (λ key there. there) (omega arith) (omega arith) c.in_err-even.ensures.did

pub write_node-requires-clause-is : goal.write_node-requires-clause-is
write_node-requires-clause-is g c =
    let is = c.requires.is in
    let IsKept : NodeView → Type 0 = IsNodeOf c.args.of c.args.level c.args.number in
    let kept : (es : List Entry) → IsKept (with_entries c.args.node.now es) = λ es. record { width = is.width; segment = is.segment; image = is.image; level_is = is.level_is; number_is = is.number_is } in
    elim c.match-branch-2.branch [
      | in-None w ↦ subst IsKept (sym (w.node-is ∙ w.cut.ensures)) (kept _)
      | in-Some w ↦ subst IsKept (sym (w.node-is ∙ w.put.ensures)) (kept _)
    ]

pub write_node-requires-clause-mapped : goal.write_node-requires-clause-mapped
write_node-requires-clause-mapped g c = λ told_mid.
    let of = c.args.of in
    let old = g.P.Pages.view c.args.pages.now in
    let mid = g.P.Pages.view c.even.new.pages in
    let told = c.in_ok-even.ensures.did.step.passes.leaves.told.1 told_mid in
    let own : List Entry = c.args.node.now.entries in
    let at : ℕ = c.if-place-count.at in
    ∥∥₁_elim (c.requires.there told) (Bool-set _ _) (λ may.
    let near : (c.args.place ≡ at) ⊎ (c.args.place ≡ suc at) = elim c.if-place-count.branch [ then-place-count w ↦ inl (omega (arith, w.at-is)) | else-place-count w ↦ inr (omega (arith, w.at-is, w.if-place-count.false, (lent_count c.lent.ensures c.count-count.ensures.count), c.if-count-lt2.false, c.requires.within)) ] in
    let low : suc at < length own = elim c.if-place-count.branch [ then-place-count w ↦ omega (arith, w.at-is, w.if-place-count.true, (lent_count c.lent.ensures c.count-count.ensures.count)) | else-place-count w ↦ omega (arith, w.at-is, (lent_count c.lent.ensures c.count-count.ensures.count), c.if-count-lt2.false) ] in
    let wide = many of.width c.requires.of.narrow in
    let next : at + 1 ≡ suc at = omega arith in
    let some : 0 < node_least of.width = omega (arith, wide) in
    let both = two of (cells_of of old.held) c.args.level c.args.number c.args.place own may.start may.pairs may.front may.back may.lower may.entries may.rows may.height may.own_is at (at + 1) next near low some in
    let are = mend_neighbours of (cells_of of old.held) c.args.level c.args.number c.args.place own may.start may.pairs may.front may.back may.lower may.entries may.rows may.height may.own_is at (at + 1) next near low some c.child-left.result c.child-right.result c.own_pair-pair.result (lent_child c.lent-2.ensures c.if-place-count.at c.child-left.ensures) (lent_child c.lent-3.ensures (c.if-place-count.at + 1) c.child-right.ensures) (lent_pair c.lent-4.ensures (c.if-place-count.at + 1) c.own_pair-pair.ensures.pair) in
    let ev = c.in_ok-even.ensures.evened told both.left both.right (first both.after no_page) are in
    let still = mend_still of (cells_of of old.held) c.args.level c.args.number c.args.place own may.start may.pairs may.front may.back may.lower may.entries may.rows may.height may.own_is at (at + 1) next near low some (cells_of of mid.held) (second_names c.in_ok-even.field-0 c.child-right.result) ev may.off may.bytes may.held in
    held_mapped mid (g.met.P.Pages.holds c.even.new.pages told_mid) (page_key of.segment Image c.args.number) may.bytes still)

pub returns-clause-mended : goal.returns-clause-mended
returns-clause-mended g c = on_done c.write_node.result (λ writes told start pairs front back lower entries rows height own_is within.
    let of = c.args.of in
    let old = g.P.Pages.view c.args.pages.now in
    let mid = g.P.Pages.view c.even.new.pages in
    let new = g.P.Pages.view c.write_node.new.pages in
    let told_mid = c.in_ok-even.ensures.did.step.passes.leaves.told.0 told in
    let own : List Entry = c.args.node.now.entries in
    let at : ℕ = c.if-place-count.at in
    let near : (c.args.place ≡ at) ⊎ (c.args.place ≡ suc at) = elim c.if-place-count.branch [ then-place-count w ↦ inl (omega (arith, w.at-is)) | else-place-count w ↦ inr (omega (arith, w.at-is, w.if-place-count.false, (lent_count c.lent.ensures c.count-count.ensures.count), c.if-count-lt2.false, c.requires.within)) ] in
    let low : suc at < length own = elim c.if-place-count.branch [ then-place-count w ↦ omega (arith, w.at-is, w.if-place-count.true, (lent_count c.lent.ensures c.count-count.ensures.count)) | else-place-count w ↦ omega (arith, w.at-is, (lent_count c.lent.ensures c.count-count.ensures.count), c.if-count-lt2.false) ] in
    let wide = many of.width c.requires.of.narrow in
    let next : at + 1 ≡ suc at = omega arith in
    let some : 0 < node_least of.width = omega (arith, wide) in
    let both = two of (cells_of of old.held) c.args.level c.args.number c.args.place own start pairs front back lower entries rows height own_is at (at + 1) next near low some in
    let are = mend_neighbours of (cells_of of old.held) c.args.level c.args.number c.args.place own start pairs front back lower entries rows height own_is at (at + 1) next near low some c.child-left.result c.child-right.result c.own_pair-pair.result (lent_child c.lent-2.ensures c.if-place-count.at c.child-left.ensures) (lent_child c.lent-3.ensures (c.if-place-count.at + 1) c.child-right.ensures) (lent_pair c.lent-4.ensures (c.if-place-count.at + 1) c.own_pair-pair.ensures.pair) in
    let ev = c.in_ok-even.ensures.evened told both.left both.right (first both.after no_page) are in
    let more : List Entry = second_names c.in_ok-even.field-0 c.child-right.result in
    let node : c.match-branch-2.node ≡ with_entries c.args.node.now (spliced own (at + 1) 1 more) = elim c.match-branch-2.branch [
      | in-None w ↦ w.node-is ∙ w.cut.ensures ∙ ap (λ (s : Option (List ℕ)). with_entries c.args.node.now (spliced own (at + 1) 1 (second_names s c.child-right.result))) (sym w.in-None.is)
      | in-Some w ↦ w.node-is ∙ w.put.ensures ∙ ap (λ (s : Option (List ℕ)). with_entries c.args.node.now (spliced own (at + 1) 1 (second_names s c.child-right.result))) (sym w.in-Some.is)
    ] in
    let wrote = writes told_mid in
    let held = subst (λ (n : NodeView). HoldsNode of new.held c.args.level c.args.number n.next n.entries) node wrote.holds in
    subst (λ (n : ℕ). MendsTo of c.args.level c.args.number c.args.node.now.next start (cells_of of new.held) pairs front back lower entries n) (sym (ap (λ (n : NodeView). length n.entries) node))
    (mended of (cells_of of old.held) c.args.level c.args.number c.args.place own start pairs front back lower entries rows height own_is at (at + 1) next near low some (cells_of of mid.held) (cells_of of new.held) c.args.node.now.next more ev held wrote.keeps wrote.loses_none)) c.write_node.ensures.writes

pub returns-clause-did : goal.returns-clause-did
returns-clause-did g c = widens (λ key there. there) (omega arith) (omega arith) (then_call c.in_ok-even.ensures.did.step c.write_node.ensures.did)
