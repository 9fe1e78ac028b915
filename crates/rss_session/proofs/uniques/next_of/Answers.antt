use Rattle.std.proofs.Common.{◌+◌, arith}
use Rattle.rss_session.proofs.NextUniques.{below_last, least_of, next_unique, none_below}
use Rattle.rss_session.proofs.uniques.next_of.Goals as goal

pub loop-place-init : goal.loop-place-init
loop-place-init c = none_below c.args.catalog.now.listing c.args.relation c.args.after

pub returns-clause-of : goal.returns-clause-of
returns-clause-of c = least_of c.args.catalog.now.listing c.args.relation c.args.after (c.loop-place.place + 1) c.loop-place.least c.loop-place.invariant

pub returns-clause-next : goal.returns-clause-next
returns-clause-next c = next_unique c.loop-place.least (below_last c.args.catalog.now.listing c.args.relation c.args.after c.loop-place.place (λ number past. c.last_image-place-end.ensures.none number (omega (arith, past, c.loop-place-test.false)))) c.loop-place.invariant
