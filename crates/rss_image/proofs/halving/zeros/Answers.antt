use Rattle.std.proofs.Common.{◌≤◌, ◌+◌, ℕ, List, ◌++◌, ap, ◌∙◌, arith}
use Rattle.std.proofs.lemmas.List.{take-replicate}
use Rattle.rss_image.proofs.halving.zeros.Goals as goal

pub returns : goal.returns
returns c =
    let fewer : c.args.width + 6 ≤ 126 = omega arith in
    c.extend_from_slice.ensures ∙ ap (λ (l : List ℕ). l ++ c.front.result.now) c.new-pair.ensures ∙ c.front.ensures ∙ take-replicate (c.args.width + 6) 126 0 fewer
