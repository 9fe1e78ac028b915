use Rattle.std.proofs.Common.{◌∙◌, ◌+◌, sym, refl, None, arith}
use Rattle.rss_catalog.proofs.Numbered.{has_number}
use Rattle.rss_catalog.proofs.Tested.{names_all}
use Rattle.rss_catalog.proofs.checking.are_names.Goals as goal

pub returns-in-loop-item : goal.returns-in-loop-item
returns-in-loop-item c = (λ it. absurd (cc), λ names. sym c.if-not-is_name.true ∙ c.is_name.ensures.1 (names (c.loop-item.item-index + 1) c.in-Some.name (has_number c.args.items.now c.loop-item.item-index None c.in-Some.name c.loop-item-test.true c.in-Some.is)))

pub returns : goal.returns
returns c = (λ it. names_all c.args.items.now c.loop-item.item-index (omega arith) c.loop-item.invariant, λ names. refl)
