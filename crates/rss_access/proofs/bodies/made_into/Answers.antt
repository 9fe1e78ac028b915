use Rattle.std.proofs.Common.{sym, ◌∙◌}
use Rattle.std.proofs.lemmas.Bool.{true≢false}
use Rattle.rss_access.proofs.bodies.made_into.Goals as goal

pub unreachable-requires : goal.unreachable-requires
unreachable-requires c = true≢false (sym (c.in_ok-spelled.ensures.exact c.requires.0 c.requires.1).0 ∙ c.if-spelled.false)

pub returns-clause-is : goal.returns-clause-is
returns-clause-is c = c.in_ok-spelled.ensures.some (c.in_ok-spelled.ensures.exact c.requires.0 c.requires.1).0

pub returns-clause-only : goal.returns-clause-only
returns-clause-only c = λ values spells. sym (c.in_ok-spelled.ensures.exact values spells).1
