use Rattle.std.proofs.Common.{◌≡◌, List, ◌++◌, ℕ, length, ap, ◌∙◌}
use Rattle.rss_node.proofs.node.LentNode.own_pair.Goals as goal

spelled : (c : goal.After-extend_from_slice) → c.extend_from_slice.new.self ≡ c.pair.result.now
spelled c = c.extend_from_slice.ensures ∙ ap (λ (l : List ℕ). l ++ c.pair.result.now) c.new-pair.ensures

pub returns-clause-pair : goal.returns-clause-pair
returns-clause-pair c = spelled c ∙ c.pair.ensures.pair

pub returns-clause-long : goal.returns-clause-long
returns-clause-long c = ap length (spelled c) ∙ c.pair.ensures.long
