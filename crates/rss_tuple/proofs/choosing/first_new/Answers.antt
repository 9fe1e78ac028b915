use Rattle.rss_tuple.proofs.Chosen.{found_new, more_new, none_new}
use Rattle.rss_tuple.proofs.choosing.first_new.Goals as goal

pub loop-number-preserved : goal.loop-number-preserved
loop-number-preserved g c = more_new _ _ _ c.loop-number.from c.in-Some.number c.blank-page.result c.blank-page.ensures.empty c.in-Some.ensures.some c.loop-number.invariant c.in_default-first_open.ensures

pub returns-in-Some-first_open : goal.returns-in-Some-first_open
returns-in-Some-first_open g c = rw c.from.ensures (found_new _ _ _ c.loop-number.from c.in-Some.number c.blank-page.result c.blank-page.ensures.empty c.in-Some.ensures.some c.loop-number.invariant c.in-Some-first_open.slot c.in-Some-first_open.ensures)

pub returns : goal.returns
returns g c = none_new _ _ _ c.loop-number.from c.in_default.ensures.none c.loop-number.invariant
