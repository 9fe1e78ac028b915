use Rattle.std.proofs.Common.{sym, ◌∙◌}
use Rattle.rss_link.specs.Blocks.{kept_ends}
use Rattle.rss_members.proofs.Ends.{ends_stay, ends_set}
use Rattle.rss_members.proofs.Found.{places_decide}
use Rattle.rss_members.proofs.changing.set_ends.Goals as goal

pub returns-then-eq-2-clause-sets : goal.returns-then-eq-2-clause-sets
returns-then-eq-2-clause-sets c =
    let first = (places_decide c.ends_of-listed.result.first c.args.ends.first).0 (sym c.eq.ensures ∙ c.if-eq.true) in
    let last = (places_decide c.ends_of-listed.result.last c.args.ends.last).0 (sym c.eq-then-eq.ensures ∙ c.if-eq-2.true) in
    ends_stay c.args.catalog.now c.args.link c.link.result.now c.link.ensures.is (kept_ends c.args.ends) (sym c.ends_of-listed.ensures ∙ (λ i. record { first = first i; last = last i }))

pub returns-clause-sets : goal.returns-clause-sets
returns-clause-sets c = ends_set c.args.catalog.now _ c.args.link (kept_ends c.args.ends) c.set_ends.ensures.lists c.set_ends.ensures.fits
