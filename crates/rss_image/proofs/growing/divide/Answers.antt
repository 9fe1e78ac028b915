use Rattle.std.proofs.Common.{◌≡◌, ◌+◌, ℕ, suc, List, length, take, drop, true, sym, ap, subst, ◌∙◌, arith, length-take-le, length-drop}
use Rattle.std.proofs.lemmas.List.{take-append-drop}
use Rattle.std.specs.Prelude.{is_some}
use Rattle.rss_base.specs.Paged.{Mapped, page_key}
use Rattle.rss_base.specs.declared.key.Space.TheVariants.{Image}
use Rattle.rss_base.proofs.Steps.{then, then_call, done, fails, widens}
use Rattle.rss_base.specs.Entries.{Entry}
use Rattle.rss_base.specs.Nodes.{node_least, node_most}
use Rattle.rss_levels.specs.Rows.{stored}
use Rattle.rss_node.specs.Nodes.{NodeView, with_entries, with_next, entry_at}
use Rattle.rss_image.specs.Grown.{put_at, left_next, right_next}
use Rattle.rss_image.specs.Trees.{HoldsNode}
use Rattle.rss_image.proofs.Calls.{divides}
use Rattle.rss_image.proofs.Halves.{long_put, begins_entry, many}
use Rattle.rss_node.proofs.Lent.{lent_long, lent_pair}
use Rattle.rss_image.proofs.growing.divide.Goals as goal

pub returns-in_err-write_node-clause-did : goal.returns-in_err-write_node-clause-did
returns-in_err-write_node-clause-did g c = fails _ c.from_residual-in_err-write_node.ensures.1 (λ key there. there) (omega arith) (omega arith) (then_call c.in_ok-other.ensures.did.step c.in_err-write_node.ensures.did)

pub write_node-requires-2-clause-mapped : goal.write_node-requires-2-clause-mapped
write_node-requires-2-clause-mapped g c = λ told.
    let key = page_key c.args.of.segment Image c.args.number in
    let before = c.in_ok-other.ensures.did.step.passes.leaves.told.1 (c.in_ok-write_node.ensures.did.step.passes.leaves.told.1 told) in
    ap (λ (m : Mapped). m key) c.in_ok-write_node.ensures.mapped ∙ c.in_ok-other.ensures.grows key (c.requires.mapped before)

pub returns-in_err-write_node-2-clause-did : goal.returns-in_err-write_node-2-clause-did
returns-in_err-write_node-2-clause-did g c = fails _ c.from_residual-in_err-write_node-2.ensures.1 (λ key there. there) (omega arith) (omega arith) (then_call (then c.in_ok-other.ensures.did.step c.in_ok-write_node.ensures.did.step) c.in_err-write_node-2.ensures.did)

pub returns-clause-halved : goal.returns-clause-halved
returns-clause-halved g c = λ told.
    let of = c.args.of in
    let node = c.args.node.now in
    let e : Entry = record { pair = c.args.pair.now; child = c.args.child } in
    let all : List Entry = put_at node.entries c.args.at e in
    let half : ℕ = node_least node.width + 1 in
    let width : node.width ≡ of.width = c.requires.is.width in
    let same : node_least node.width ≡ node_least of.width = ap node_least width in
    let capacity_is : node_most node.width ≡ node_most of.width = ap node_most width in
    let room = many of.width c.requires.of.narrow in
    let long : length all ≡ suc (node_most of.width) = long_put node.entries c.args.at e c.requires.at ∙ ap (λ (n : ℕ). suc n) c.requires.full in
    let left_long : length (take half all) ≡ half = length-take-le half all (omega (arith, long, same)) in
    let right_long = length-drop half all in
    let left_is = c.settle.ensures.left ∙ ap (λ (n : NodeView). with_next n (left_next c.args.level n.next c.in_ok-other.other)) c.halve.ensures.left in
    let empty : c.halve.new.right ≡ with_entries c.blank-right.result (drop half all) = c.halve.ensures.right in
    let right_entries : c.halve.new.right.entries ≡ drop half all = ap (λ (n : NodeView). n.entries) empty in
    let right_width : c.halve.new.right.width ≡ of.width = ap (λ (n : NodeView). n.width) (empty ∙ ap (λ (n : NodeView). with_entries n (drop half all)) c.blank-right.ensures) in
    let node_next : c.halve.new.node.next ≡ node.next = ap (λ (n : NodeView). n.next) c.halve.ensures.left in
    let one = c.in_ok-other.ensures.did.step.passes.leaves.told.0 told in
    let two = c.in_ok-write_node.ensures.did.step.passes.leaves.told.0 one in
    let there : is_some ((g.P.Pages.view c.args.pages.now).held (page_key of.segment Image c.args.number)) ≡ true = g.met.P.Pages.holds c.args.pages.now told (page_key of.segment Image c.args.number) ∙ c.requires.mapped told in
    let done = divides of c.args.level c.args.number c.in_ok-other.other c.settle.new.node c.settle.new.right (g.P.Pages.view c.args.pages.now) (g.P.Pages.view c.take_page.new.pages) (g.P.Pages.view c.write_node.new.pages) (g.P.Pages.view c.write_node-2.new.pages) there (c.in_ok-other.ensures.fresh told) (c.in_ok-other.ensures.keeps told) (c.in_ok-other.ensures.loses_none told) (c.in_ok-write_node.ensures.writes one) (c.in_ok-write_node-2.ensures.writes two) in
    let held = (g.P.Pages.view c.write_node-2.new.pages).held in
    let right_next_is : c.settle.new.right.next ≡ right_next c.args.level node.next = ap (λ (n : NodeView). n.next) c.settle.ensures.right ∙ ap (right_next c.args.level) node_next in
    let right_is : c.settle.new.right.entries ≡ stored of.width c.args.level (drop half all) = ap (λ (n : NodeView). n.entries) c.settle.ensures.right ∙ (λ i. stored (right_width i) c.args.level (right_entries i)) in
    record {
      left = take half all;
      right = drop half all;
      entries_are = sym (take-append-drop half all);
      many = omega (arith, long);
      begins = begins_entry c.own_pair-middle.result (drop half all) (omega (arith, right_long, long, same)) ((lent_pair c.lent.ensures 0 c.own_pair-middle.ensures.pair) ∙ ap (λ (l : List Entry). (entry_at l 0).pair) right_entries);
      left_full = omega (arith, left_long, same);
      right_full = omega (arith, right_long, long, same);
      left_few = omega (arith, left_long, same);
      right_few = omega (arith, right_long, long, same);
      left_held = subst (λ (n : NodeView). HoldsNode of held c.args.level c.args.number n.next n.entries) left_is done.left_held;
      right_held = subst (λ (n : ℕ). HoldsNode of held c.args.level c.in_ok-other.other n (stored of.width c.args.level (drop half all))) right_next_is (subst (λ (l : List Entry). HoldsNode of held c.args.level c.in_ok-other.other c.settle.new.right.next l) right_is done.right_held);
      fresh = c.in_ok-other.ensures.fresh told;
      keeps = done.keeps;
      loses_none = done.loses_none;
    }

pub returns-clause-spare : goal.returns-clause-spare
returns-clause-spare g c = omega (arith, c.in_ok-other.ensures.spare, c.in_ok-write_node.ensures.spare, c.in_ok-write_node-2.ensures.spare)

pub returns-clause-did : goal.returns-clause-did
returns-clause-did g c = widens (λ key there. there) (omega arith) (omega arith) (done _ (then (then c.in_ok-other.ensures.did.step c.in_ok-write_node.ensures.did.step) c.in_ok-write_node-2.ensures.did.step))

pub returns-clause-long : goal.returns-clause-long
returns-clause-long g c =
    let half : ℕ = node_least c.args.node.now.width + 1 in
    let all : List Entry = put_at c.args.node.now.entries c.args.at (record { pair = c.args.pair.now; child = c.args.child }) in
    let right_width : c.halve.new.right.width ≡ c.args.of.width = ap (λ (n : NodeView). n.width) (c.halve.ensures.right ∙ ap (λ (n : NodeView). with_entries n (drop half all)) c.blank-right.ensures) in
    (lent_long c.lent.ensures c.own_pair-middle.ensures.long) ∙ ap (λ (n : ℕ). n + 6) right_width
