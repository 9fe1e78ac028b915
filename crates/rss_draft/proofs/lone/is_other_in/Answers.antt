use Rattle.std.proofs.Common.{rules, tests, sym, ◌∙◌, arith}
use Rattle.rss_draft.proofs.FoundAs.{used_relation}
use Rattle.rss_draft.proofs.LoneNow.{other_itself, other_unused, other_decides}
use Rattle.rss_draft.proofs.lone.is_other_in.Goals as goal

pub returns-then-other-number : goal.returns-then-other-number
returns-then-other-number c = other_itself (omega (arith, c.if-other-number.true))

pub returns-then-not-used : goal.returns-then-not-used
returns-then-not-used c = other_unused (sym (used_relation c.args.catalog.now.listing c.args.other) ∙ sym c.used.ensures ∙ c.if-not-used.true)

pub relation-requires : goal.relation-requires
relation-requires c = sym (used_relation c.args.catalog.now.listing c.args.other) ∙ sym c.used.ensures ∙ c.if-not-used.false

pub returns : goal.returns
returns c = other_decides c.relation-2.result.now c.relation.result.now c.relation-2.ensures.is c.relation.ensures.is (λ same. omega (arith, c.if-other-number.false, same)) _ (search (rules, tests))
