use Rattle.std.proofs.Common.{◌≡◌, ◌+◌, ◌-◌, ℕ, ◌∙◌, ap, arith, drop, replicate}
use Rattle.std.proofs.lemmas.List.{drop-replicate}
use Rattle.rss_notes.proofs.Trees.{zeros}
use Rattle.rss_notes.proofs.maxima.Maxima.new.Goals as goal

pub invariant_of-result : goal.invariant_of-result
invariant_of-result c =
    let all : c.in_ok-tree.tree.items ≡ replicate (4368 + c.args.len) 0 = c.in_ok-tree.ensures.items_if_clones_equal (λ y same. same) in
    rw all (zeros c.args.len c.requires)

pub returns : goal.returns
returns c =
    let all : c.in_ok-tree.tree.items ≡ replicate (4368 + c.args.len) 0 = c.in_ok-tree.ensures.items_if_clones_equal (λ y same. same) in
    let zero : ℕ = 0 in
    let few : (4368 + c.args.len) - 4368 ≡ c.args.len = omega arith in
    ap (drop 4368) all ∙ drop-replicate 4368 (4368 + c.args.len) zero ∙ ap (λ (n : ℕ). replicate n zero) few
