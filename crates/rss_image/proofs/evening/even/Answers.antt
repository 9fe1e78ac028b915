use Rattle.std.proofs.Common.{◌≡◌, ◌≤◌, ◌/◌, ◌∙◌, ◌++◌, ℕ, List, length, drop, ap, sym, subst, arith}
use Rattle.std.proofs.lemmas.List.{length-append}
use Rattle.std.proofs.Math.Logic.{∥∥₁_elim, ∥∥₁_map}
use mathlib.Core.HLevel.{⊥_prop, ¬_prop}
use Rattle.rss_base.proofs.Steps.{then, then_call, done, fails, widens, untouched}
use Rattle.rss_base.specs.Entries.{Entry}
use Rattle.rss_base.specs.Nodes.{node_most}
use Rattle.rss_levels.specs.Rows.{Cells}
use Rattle.rss_node.specs.Nodes.{NodeView, entry_at}
use Rattle.rss_image.specs.Trees.{cells_of}
use Rattle.rss_image.specs.Removed.{first_named, Joined, Shared}
use Rattle.rss_image.proofs.Calls.{damage, keeps_none, held_is_mapped}
use Rattle.rss_image.proofs.Evened.{left_node, right_node, two_apart, node_seen, was_holding, still_mapped, left_full, right_full, named_long, joined_evens, shared_evens}
use Rattle.rss_node.proofs.Lent.{lent_count, lent_few}
use Rattle.rss_image.proofs.evening.even.Goals as goal

pub read_node-requires-clause-there : goal.read_node-requires-clause-there
read_node-requires-clause-there g c = λ told. ∥∥₁_map (c.requires.there told) (left_node c.args.of (g.P.Pages.view c.args.pages.now).held c.args.level c.args.number c.args.other c.args.pair.now)

pub read_node-requires-2-clause-there : goal.read_node-requires-2-clause-there
read_node-requires-2-clause-there g c = λ told_one.
    let of = c.args.of in
    let old = g.P.Pages.view c.args.pages.now in
    let one = g.P.Pages.view c.read_node.new.pages in
    let step = c.in_ok-read_node.ensures.did.step in
    let told = step.passes.leaves.told.1 told_one in
    ∥∥₁_map (c.requires.there told) (λ there. node_seen of c.args.level c.args.other old one (keeps_none of old one step told) (right_node of old.held c.args.level c.args.number c.args.other c.args.pair.now there))

pub returns-in_err-read_node-2-clause-did : goal.returns-in_err-read_node-2-clause-did
returns-in_err-read_node-2-clause-did g c = fails _ c.from_residual-in_err-read_node-2.ensures.1 (λ key none. absurd none) (omega arith) (omega arith) (then_call c.in_ok-read_node.ensures.did.step c.in_err-read_node-2.ensures.did)

pub returns-then-count-eq0-clause-did : goal.returns-then-count-eq0-clause-did
returns-then-count-eq0-clause-did g c = widens (λ key none. none) (omega arith) (omega arith) (damage (untouched (then c.in_ok-read_node.ensures.did.step c.in_ok-read_node-2.ensures.did.step)) c.damaged.ensures (λ told.
    let of = c.args.of in
    let old = g.P.Pages.view c.args.pages.now in
    let one = g.P.Pages.view c.read_node.new.pages in
    let step = c.in_ok-read_node.ensures.did.step in
    let told_one = step.passes.leaves.told.0 told in
    ∥∥₁_elim (c.requires.there told) ⊥_prop (λ there.
    let some = left_full of (cells_of of old.held) c.args.level c.args.number c.args.other c.args.pair.now there.left there.right there.next there.are c.read_node.new.into c.read_node-2.new.into (c.in_ok-read_node.ensures.holds told)
    (was_holding of c.args.level c.args.other c.read_node-2.new.into.next c.read_node-2.new.into.entries old one (keeps_none of old one step told) (c.in_ok-read_node-2.ensures.holds told_one)) in
    omega (arith, some, (lent_count c.lent.ensures c.count-count.ensures.count), c.if-count-eq0.true))))

pub returns-then-more-eq0-clause-did : goal.returns-then-more-eq0-clause-did
returns-then-more-eq0-clause-did g c = widens (λ key none. none) (omega arith) (omega arith) (damage (untouched (then c.in_ok-read_node.ensures.did.step c.in_ok-read_node-2.ensures.did.step)) c.damaged-then-more-eq0.ensures (λ told.
    let of = c.args.of in
    let old = g.P.Pages.view c.args.pages.now in
    let one = g.P.Pages.view c.read_node.new.pages in
    let step = c.in_ok-read_node.ensures.did.step in
    let told_one = step.passes.leaves.told.0 told in
    ∥∥₁_elim (c.requires.there told) ⊥_prop (λ there.
    let some = right_full of (cells_of of old.held) c.args.level c.args.number c.args.other c.args.pair.now there.left there.right there.next there.are c.read_node.new.into c.read_node-2.new.into (c.in_ok-read_node.ensures.holds told)
    (was_holding of c.args.level c.args.other c.read_node-2.new.into.next c.read_node-2.new.into.entries old one (keeps_none of old one step told) (c.in_ok-read_node-2.ensures.holds told_one)) in
    omega (arith, some, (lent_count c.lent-2.ensures c.count-more.ensures.count), c.if-more-eq0.true))))

pub join_nodes-requires-clause-room : goal.join_nodes-requires-clause-room
join_nodes-requires-clause-room g c =
    let long : length c.name_first.new.node.entries ≡ length c.read_node-2.new.into.entries = ap (λ (n : NodeView). length n.entries) c.name_first.ensures ∙ named_long c.args.level c.args.pair.now c.read_node-2.new.into.entries in
    omega (arith, long, (lent_count c.lent.ensures c.count-count.ensures.count), (lent_count c.lent-2.ensures c.count-more.ensures.count), c.node_most.ensures, c.if-count-more.true)

pub join_nodes-requires-clause-left_mapped : goal.join_nodes-requires-clause-left_mapped
join_nodes-requires-clause-left_mapped g c = λ told_two.
    let told_one = c.in_ok-read_node-2.ensures.did.step.passes.leaves.told.1 told_two in
    let told = c.in_ok-read_node.ensures.did.step.passes.leaves.told.1 told_one in
    still_mapped c.args.of c.args.level c.args.number c.read_node.new.into c.in_ok-read_node.ensures.did.step c.in_ok-read_node-2.ensures.did.step told (g.met.P.Pages.holds c.read_node-2.new.pages told_two) (c.in_ok-read_node.ensures.holds told)

pub join_nodes-requires-clause-apart : goal.join_nodes-requires-clause-apart
join_nodes-requires-clause-apart g c = λ told_two.
    let told = c.in_ok-read_node.ensures.did.step.passes.leaves.told.1 (c.in_ok-read_node-2.ensures.did.step.passes.leaves.told.1 told_two) in
    ∥∥₁_elim (c.requires.there told) ¬_prop two_apart

pub returns-in_err-join_nodes-clause-did : goal.returns-in_err-join_nodes-clause-did
returns-in_err-join_nodes-clause-did g c = fails _ c.from_residual-in_err-join_nodes.ensures.1 (λ key there. there) (omega arith) (omega arith) (then_call (untouched (then c.in_ok-read_node.ensures.did.step c.in_ok-read_node-2.ensures.did.step)) c.in_err-join_nodes.ensures.did)

pub returns-then-count-more-clause-evened : goal.returns-then-count-more-clause-evened
returns-then-count-more-clause-evened g c = λ told left right next are.
    let of = c.args.of in
    let old = g.P.Pages.view c.args.pages.now in
    let one = g.P.Pages.view c.read_node.new.pages in
    let two = g.P.Pages.view c.read_node-2.new.pages in
    let new = g.P.Pages.view c.join_nodes.new.pages in
    let step = c.in_ok-read_node.ensures.did.step in
    let told_one = step.passes.leaves.told.0 told in
    let told_two = c.in_ok-read_node-2.ensures.did.step.passes.leaves.told.0 told_one in
    let same : cells_of of one.held ≡ cells_of of old.held = keeps_none of old one step told in
    let same_two : cells_of of two.held ≡ cells_of of old.held = keeps_none of one two c.in_ok-read_node-2.ensures.did.step told_one ∙ same in
    let made = subst (λ (n : NodeView). Joined of c.args.level c.args.number c.args.other n.next (c.read_node.new.into.entries ++ n.entries) (cells_of of two.held) (cells_of of new.held)) c.name_first.ensures (c.in_ok-join_nodes.ensures.joined told_two) in
    joined_evens of (cells_of of old.held) c.args.level c.args.number c.args.other c.args.pair.now left right next are c.read_node.new.into c.read_node-2.new.into (c.in_ok-read_node.ensures.holds told)
    (was_holding of c.args.level c.args.other c.read_node-2.new.into.next c.read_node-2.new.into.entries old one same (c.in_ok-read_node-2.ensures.holds told_one)) (cells_of of new.held)
    (omega (arith, (lent_count c.lent.ensures c.count-count.ensures.count), (lent_count c.lent-2.ensures c.count-more.ensures.count), c.node_most.ensures, c.if-count-more.true))
    (subst (λ (cs : Cells). Joined of c.args.level c.args.number c.args.other c.read_node-2.new.into.next (c.read_node.new.into.entries ++ first_named c.args.level c.args.pair.now c.read_node-2.new.into.entries) cs (cells_of of new.held)) same_two made)

pub returns-then-count-more-clause-did : goal.returns-then-count-more-clause-did
returns-then-count-more-clause-did g c = widens (λ key there. there) (omega arith) (omega arith) (done _ (then (untouched (then c.in_ok-read_node.ensures.did.step c.in_ok-read_node-2.ensures.did.step)) c.in_ok-join_nodes.ensures.did.step))

pub share_nodes-requires-clause-many : goal.share_nodes-requires-clause-many
share_nodes-requires-clause-many g c =
    let long : length c.name_first.new.node.entries ≡ length c.read_node-2.new.into.entries = ap (λ (n : NodeView). length n.entries) c.name_first.ensures ∙ named_long c.args.level c.args.pair.now c.read_node-2.new.into.entries in
    omega (arith, length-append c.read_node.new.into.entries c.name_first.new.node.entries, long, (lent_count c.lent.ensures c.count-count.ensures.count), (lent_count c.lent-2.ensures c.count-more.ensures.count), c.if-count-eq0.false, c.if-more-eq0.false)

pub share_nodes-requires-clause-apart : goal.share_nodes-requires-clause-apart
share_nodes-requires-clause-apart g c = λ told_two.
    let told = c.in_ok-read_node.ensures.did.step.passes.leaves.told.1 (c.in_ok-read_node-2.ensures.did.step.passes.leaves.told.1 told_two) in
    ∥∥₁_elim (c.requires.there told) ¬_prop two_apart

pub share_nodes-requires-clause-left_mapped : goal.share_nodes-requires-clause-left_mapped
share_nodes-requires-clause-left_mapped g c = λ told_two.
    let told_one = c.in_ok-read_node-2.ensures.did.step.passes.leaves.told.1 told_two in
    let told = c.in_ok-read_node.ensures.did.step.passes.leaves.told.1 told_one in
    still_mapped c.args.of c.args.level c.args.number c.read_node.new.into c.in_ok-read_node.ensures.did.step c.in_ok-read_node-2.ensures.did.step told (g.met.P.Pages.holds c.read_node-2.new.pages told_two) (c.in_ok-read_node.ensures.holds told)

pub share_nodes-requires-clause-right_mapped : goal.share_nodes-requires-clause-right_mapped
share_nodes-requires-clause-right_mapped g c = λ told_two.
    let of = c.args.of in
    let one = g.P.Pages.view c.read_node.new.pages in
    let two = g.P.Pages.view c.read_node-2.new.pages in
    let told_one = c.in_ok-read_node-2.ensures.did.step.passes.leaves.told.1 told_two in
    held_is_mapped of two c.args.level c.args.other c.read_node-2.new.into.next c.read_node-2.new.into.entries (g.met.P.Pages.holds c.read_node-2.new.pages told_two)
    (was_holding of c.args.level c.args.other c.read_node-2.new.into.next c.read_node-2.new.into.entries two one (sym (keeps_none of one two c.in_ok-read_node-2.ensures.did.step told_one)) (c.in_ok-read_node-2.ensures.holds told_one))

pub returns-in_err-first-clause-did : goal.returns-in_err-first-clause-did
returns-in_err-first-clause-did g c = fails _ c.from_residual-in_err-first.ensures.1 (λ key there. there) (omega arith) (omega arith) (then_call (untouched (then c.in_ok-read_node.ensures.did.step c.in_ok-read_node-2.ensures.did.step)) c.in_err-first.ensures.did)

pub returns-clause-evened : goal.returns-clause-evened
returns-clause-evened g c = λ told left right next are.
    let of = c.args.of in
    let old = g.P.Pages.view c.args.pages.now in
    let one = g.P.Pages.view c.read_node.new.pages in
    let two = g.P.Pages.view c.read_node-2.new.pages in
    let new = g.P.Pages.view c.share_nodes.new.pages in
    let step = c.in_ok-read_node.ensures.did.step in
    let told_one = step.passes.leaves.told.0 told in
    let told_two = c.in_ok-read_node-2.ensures.did.step.passes.leaves.told.0 told_one in
    let same : cells_of of one.held ≡ cells_of of old.held = keeps_none of old one step told in
    let same_two : cells_of of two.held ≡ cells_of of old.held = keeps_none of one two c.in_ok-read_node-2.ensures.did.step told_one ∙ same in
    let own : List Entry = c.read_node.new.into.entries ++ first_named c.args.level c.args.pair.now c.read_node-2.new.into.entries in
    let made = subst (λ (n : NodeView). Shared of c.args.level c.args.number c.args.other c.read_node.new.into.next n.next (c.read_node.new.into.entries ++ n.entries) (cells_of of two.held) (cells_of of new.held)) c.name_first.ensures (c.in_ok-first.ensures.shared told_two) in
    let second = c.in_ok-first.ensures.pair ∙ ap (λ (n : NodeView). (entry_at (drop (length (c.read_node.new.into.entries ++ n.entries) / 2) (c.read_node.new.into.entries ++ n.entries)) 0).pair) c.name_first.ensures in
    shared_evens of (cells_of of old.held) c.args.level c.args.number c.args.other c.args.pair.now left right next are c.read_node.new.into c.read_node-2.new.into (c.in_ok-read_node.ensures.holds told)
    (was_holding of c.args.level c.args.other c.read_node-2.new.into.next c.read_node-2.new.into.entries old one same (c.in_ok-read_node-2.ensures.holds told_one)) (cells_of of new.held) c.in_ok-first.first
    (subst (λ (w : ℕ). length c.read_node.new.into.entries ≤ node_most w) c.in_ok-read_node.ensures.is.width (lent_few c.lent.ensures c.count-count.ensures.few))
    (subst (λ (w : ℕ). length c.read_node-2.new.into.entries ≤ node_most w) c.in_ok-read_node-2.ensures.is.width (lent_few c.lent-2.ensures c.count-more.ensures.few))
    (omega (arith, (lent_count c.lent.ensures c.count-count.ensures.count), (lent_count c.lent-2.ensures c.count-more.ensures.count), c.node_most.ensures, c.if-count-more.false))
    (subst (λ (cs : Cells). Shared of c.args.level c.args.number c.args.other c.read_node.new.into.next c.read_node-2.new.into.next own cs (cells_of of new.held)) same_two made)
    second

pub returns-clause-did : goal.returns-clause-did
returns-clause-did g c = widens (λ key there. there) (omega arith) (omega arith) (done _ (then (untouched (then c.in_ok-read_node.ensures.did.step c.in_ok-read_node-2.ensures.did.step)) c.in_ok-first.ensures.did.step))

pub join_nodes-requires-clause-right_mapped : goal.join_nodes-requires-clause-right_mapped
join_nodes-requires-clause-right_mapped g c = λ told_two.
    let of = c.args.of in
    let one = g.P.Pages.view c.read_node.new.pages in
    let two = g.P.Pages.view c.read_node-2.new.pages in
    let told_one = c.in_ok-read_node-2.ensures.did.step.passes.leaves.told.1 told_two in
    held_is_mapped of two c.args.level c.args.other c.read_node-2.new.into.next c.read_node-2.new.into.entries (g.met.P.Pages.holds c.read_node-2.new.pages told_two)
    (was_holding of c.args.level c.args.other c.read_node-2.new.into.next c.read_node-2.new.into.entries two one (sym (keeps_none of one two c.in_ok-read_node-2.ensures.did.step told_one)) (c.in_ok-read_node-2.ensures.holds told_one))

pub returns-in_err-read_node-clause-did : goal.returns-in_err-read_node-clause-did
returns-in_err-read_node-clause-did g c = fails _ c.from_residual.ensures.1 (λ key none. absurd none) (omega arith) (omega arith) c.in_err-read_node.ensures.did
