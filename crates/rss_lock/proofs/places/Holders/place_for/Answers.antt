use Rattle.std.proofs.Common.{◌+◌, List, subst, sym}
use Rattle.std.specs.Prelude.{Option}
use Rattle.rss_lock.specs.declared.places.Holder.{Holder}
use Rattle.rss_lock.specs.Table.{Places, had, gets}
use Rattle.rss_lock.proofs.places.Holders.place_for.Goals as goal

pub returns-in-Some-clause-place : goal.returns-in-Some-clause-place
returns-in-Some-clause-place c = had c.in-Some.place c.in-Some.ensures.some

pub returns-clause-place : goal.returns-clause-place
returns-clause-place c =
    subst (λ (places : List (Option Holder)). Places c.args.transaction c.args.self.now.places c.args.firsts.now places (c.args.firsts.now + 1) c.free_place-place.result) (sym c.set.ensures)
    (gets c.free_place-place.result c.free_place-place.ensures.free c.in_default.ensures.none)
