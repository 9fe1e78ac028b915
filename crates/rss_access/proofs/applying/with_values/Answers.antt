use Rattle.std.proofs.Common.{◌∙◌, ap, List, ℕ, ◌++◌, length, length-append, arith}
use Rattle.rss_access.proofs.applying.with_values.Goals as goal

pub extend_from_slice-requires : goal.extend_from_slice-requires
extend_from_slice-requires c = let empty = ap (λ (b : List ℕ). length b) c.new-body.ensures in omega (arith, c.requires, empty, length-append c.args.front.now c.args.values.now)

pub extend_from_slice-requires-2 : goal.extend_from_slice-requires-2
extend_from_slice-requires-2 c =
    let first = ap (λ (b : List ℕ). length b) (c.extend_from_slice.ensures ∙ ap (λ (b : List ℕ). b ++ c.args.front.now) c.new-body.ensures) in
    omega (arith, c.requires, first, length-append c.args.front.now c.args.values.now)

pub returns : goal.returns
returns c = c.extend_from_slice-2.ensures ∙ ap (λ (b : List ℕ). b ++ c.args.values.now) (c.extend_from_slice.ensures ∙ ap (λ (b : List ℕ). b ++ c.args.front.now) c.new-body.ensures)
