use Rattle.std.proofs.Common.{◌≡◌, ◌<◌, ◌≤◌, ◌+◌, ◌-◌, ℕ, length, drop, arith, sym, ap, ◌∙◌}
use Rattle.std.proofs.lemmas.Bool.{cases_lt}
use Rattle.std.proofs.Common.{⊎_elim}
use Rattle.rss_base.specs.Nodes.{node_most}
use Rattle.rss_node.specs.Nodes.{NodeView, count_of, entries_from, spliced, with_entries}
use Rattle.rss_node.proofs.Codec.{length_entries}
use Rattle.rss_node.proofs.Headers.{few_entries, IsSpliced, spliced_page, moves, grows}
use Rattle.rss_node.proofs.Lent.{lent_count}
use Rattle.rss_node.proofs.node.Node.splice.Goals as goal

pub put_and_move-requires-clause-order : goal.put_and_move-requires-clause-order
put_and_move-requires-clause-order c = omega (arith, grows c.self.inside.width (c.args.at + c.args.removed) c.count-old.result (omega (arith, c.requires.within, (lent_count c.lent.ensures c.count-old.ensures.count))))

-- the entries that are there then have room
room_for : (width removed : ℕ) {long old count : ℕ} → long ≤ node_most width → long ≡ old → (removed < count → long + (count - removed) ≤ node_most width) → old + count ≤ node_most width + removed
room_for width removed {count = count} few same room = ⊎_elim (λ (more : removed < count). omega (arith, same, room more)) (λ (no : count ≤ removed). omega (arith, few, same, no)) (cases_lt removed count)

wide : (view now : NodeView) → view ≡ now → now.width ≡ view.width
wide view now is = sym (ap (λ (n : NodeView). n.width) is)

pub put_and_move-requires-clause-room : goal.put_and_move-requires-clause-room
put_and_move-requires-clause-room c =
    let w = wide _ _ c.self.view_is in
    moves c.self.inside.width c.args.at c.args.removed c.count-old.result c.args.count (length c.args.bytes.now)
    (omega (arith, c.requires.within, (lent_count c.lent.ensures c.count-old.ensures.count)))
    (room_for c.self.inside.width c.args.removed (few_entries c.self.view_is c.self.invariant) (sym (lent_count c.lent.ensures c.count-old.ensures.count)) (rw w at c.requires.room))
    (rw w at c.requires.bytes)

is_spliced : (c : goal.After-put_u16) → IsSpliced c.self.inside.width c.self.inside.page c.put_u16.new.page c.args.at c.args.removed (entries_from c.self.inside.width c.args.count c.args.bytes.now)
is_spliced c =
    let w = wide _ _ c.self.view_is in
    let old = c.count-old.result in
    let now : ℕ = old + c.args.count - c.args.removed in
    let long : old ≡ count_of c.self.inside.page = (lent_count c.lent.ensures c.count-old.ensures.count) ∙ sym (ap (λ (n : NodeView). length n.entries) c.self.view_is) ∙ length_entries c.self.inside.width (count_of c.self.inside.page) (drop 32 c.self.inside.page) in
    let room : old + c.args.count ≤ node_most c.self.inside.width + c.args.removed = room_for c.self.inside.width c.args.removed (few_entries c.self.view_is c.self.invariant) (sym (lent_count c.lent.ensures c.count-old.ensures.count)) (rw w at c.requires.room) in
    spliced_page c.self.inside.width c.args.at c.args.removed c.args.count now old c.self.inside.page c.args.bytes.now c.put_and_move.new.page c.put_u16.new.page c.self.invariant.formed c.self.invariant.bytes long (omega (arith, c.requires.within, (lent_count c.lent.ensures c.count-old.ensures.count))) (λ i. (c.type_inv.bytes i).fits) (rw w at c.requires.bytes) room (omega (arith, c.requires.within, (lent_count c.lent.ensures c.count-old.ensures.count))) c.put_and_move.ensures c.put_u16.ensures

pub invariant_of-self : goal.invariant_of-self
invariant_of-self c = record { formed = (is_spliced c).formed; bytes = (is_spliced c).bytes }

pub returns : goal.returns
returns c =
    let next : NodeView → NodeView = λ n. with_entries n (spliced n.entries c.args.at c.args.removed (entries_from n.width c.args.count c.args.bytes.now)) in
    (is_spliced c).says ∙ ap next c.self.view_is
