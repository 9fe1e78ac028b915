use Rattle.std.proofs.Common.{List, sym, subst}
use Rattle.std.specs.Prelude.{Option}
use Rattle.rss_base.specs.declared.need.Mode.{Mode}
use Rattle.rss_lock.specs.Table.{IsLeastOf, Table, mode_of, Disagrees, DisagreesIn}
use Rattle.rss_lock.proofs.Barring.{least_told}
use Rattle.rss_lock.proofs.locks.Locks.least_barring.Goals as goal

pub returns : goal.returns
returns c =
    let found = subst (λ (modes : List (Option Mode)). IsLeastOf (DisagreesIn c.self.inside.holders.places modes c.args.mode c.args.besides 32) c.least_disagreeing.result) c.current-modes.ensures c.least_disagreeing.ensures in
    subst (λ (t : Table). IsLeastOf (Disagrees (mode_of t) c.args.item.now c.args.mode c.args.besides) c.least_disagreeing.result) c.self.view_is
    (least_told _ c.self.invariant c.args.item.now c.in_ok-grants.grants.now (sym c.in_ok-grants.ensures.value) c.args.mode c.args.besides c.least_disagreeing.result found)
