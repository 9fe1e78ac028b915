use Rattle.std.proofs.Common.{◌≡◌, ◌+◌, ◌-◌, ◌*◌, ℕ, length, drop, sym, ap, ◌∙◌, arith, length-take-le, length-drop}
use Rattle.rss_node.specs.Nodes.{NodeView, count_of, entry_at}
use Rattle.rss_node.proofs.Codec.{length_entries, read_pair}
use Rattle.rss_node.proofs.Headers.{entry_within}
use Rattle.rss_node.proofs.node.LentNode.pair.Goals as goal

pub overflow_mul-start : goal.overflow_mul-start
overflow_mul-start c = omega (arith, entry_within c.args.at c.self.view_is c.self.invariant c.requires)

pub overflow_add-start : goal.overflow_add-start
overflow_add-start c = omega (arith, entry_within c.args.at c.self.view_is c.self.invariant c.requires)

pub part_of-requires : goal.part_of-requires
part_of-requires c = omega (arith, entry_within c.args.at c.self.view_is c.self.invariant c.requires)

pub returns-clause-pair : goal.returns-clause-pair
returns-clause-pair c =
    let long : length c.args.self.now.entries ≡ count_of c.self.inside.page.now = sym (ap (λ (n : NodeView). length n.entries) c.self.view_is) ∙ length_entries c.self.inside.width (count_of c.self.inside.page.now) (drop 32 c.self.inside.page.now) in
    let read = read_pair c.self.inside.width (count_of c.self.inside.page.now) c.args.at c.self.inside.page.now (omega (arith, long, c.requires)) ∙ ap (λ (n : NodeView). (entry_at n.entries c.args.at).pair) c.self.view_is in
    c.part_of.ensures ∙ read

is_long : (c : goal.After-part_of) → length c.part_of.result.now ≡ c.self.inside.width + 6
is_long c =
    let width = c.self.inside.width in
    let page = c.self.inside.page.now in
    let start : ℕ = 32 + c.args.at * (width + 10) in
    ap length c.part_of.ensures
    ∙ length-take-le (width + 10 - 4) (drop start page) (omega (arith, entry_within c.args.at c.self.view_is c.self.invariant c.requires, length-drop start page, c.self.invariant.formed.size))
    ∙ (let less : width + 10 - 4 ≡ width + 6 = omega arith in less)

pub returns-clause-long : goal.returns-clause-long
returns-clause-long c = is_long c ∙ ap (λ (n : NodeView). n.width + 6) c.self.view_is

pub returns-clause-short : goal.returns-clause-short
returns-clause-short c = omega (arith, is_long c, c.self.invariant.formed.narrow)
