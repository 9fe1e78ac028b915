use Rattle.std.proofs.Common.{◌≡◌, ◌*◌, ◌+◌, ℕ, List, length, take, drop, ap, sym, ◌∙◌, arith, length-take-le, length-drop}
use Rattle.rss_base.specs.Entries.{Entry}
use Rattle.rss_node.specs.Nodes.{NodeView, count_of, with_entries, spliced, entries_from}
use Rattle.rss_node.proofs.Codec.{length_entries, entries_part}
use Rattle.rss_node.proofs.Headers.{entries_within, has_room}
use Rattle.rss_node.proofs.node.Node.copy.Goals as goal

pub overflow_mul-first : goal.overflow_mul-first
overflow_mul-first c = omega (arith, entries_within c.args.start c.args.count c.from.view_is c.from.invariant c.requires.there)

pub overflow_add-first : goal.overflow_add-first
overflow_add-first c = omega (arith, entries_within c.args.start c.args.count c.from.view_is c.from.invariant c.requires.there)

pub part_of-bytes-requires : goal.part_of-bytes-requires
part_of-bytes-requires c = entries_within c.args.start c.args.count c.from.view_is c.from.invariant c.requires.there

wide : (view now : NodeView) → view ≡ now → view.width ≡ now.width
wide view now is = ap (λ (n : NodeView). n.width) is

pub splice-requires-clause-bytes : goal.splice-requires-clause-bytes
splice-requires-clause-bytes c =
    let within = entries_within c.args.start c.args.count c.from.view_is c.from.invariant c.requires.there in
    let size : ℕ = c.from.inside.width + 10 in
    ap length c.part_of-bytes.ensures
    ∙ length-take-le (c.args.count * size) (drop (32 + c.args.start * size) c.from.inside.page) (omega (arith, within, length-drop (32 + c.args.start * size) c.from.inside.page, c.from.told))
    ∙ ap (λ (w : ℕ). c.args.count * (w + 10)) (wide _ _ c.from.view_is ∙ c.requires.width)

pub returns : goal.returns
returns c =
    let node = c.args.self.now in
    let from = c.from.inside in
    let own : node.width ≡ from.width = sym c.requires.width ∙ sym (wide _ _ c.from.view_is) in
    let old : ℕ = count_of from.page in
    let long : length c.args.from.now.entries ≡ old = sym (ap (λ (n : NodeView). length n.entries) c.from.view_is) ∙ length_entries from.width old (drop 32 from.page) in
    let fits = has_room from.width old c.from.invariant.formed.few in
    let key : entries_from node.width c.args.count c.part_of-bytes.result.now ≡ take c.args.count (drop c.args.start c.args.from.now.entries) =
    ap (λ (w : ℕ). entries_from w c.args.count c.part_of-bytes.result.now) own
    ∙ ap (λ (l : List ℕ). entries_from from.width c.args.count l) c.part_of-bytes.ensures
    ∙ entries_part from.width old c.args.start c.args.count from.page (omega (arith, long, c.requires.there)) (omega (arith, fits, c.from.told))
    ∙ ap (λ (n : NodeView). take c.args.count (drop c.args.start n.entries)) c.from.view_is in
    c.splice.ensures ∙ ap (λ (l : List Entry). with_entries node (spliced node.entries c.args.at 0 l)) key
