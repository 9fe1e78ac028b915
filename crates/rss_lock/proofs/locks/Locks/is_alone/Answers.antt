use Rattle.std.proofs.Common.{◌↔◌, subst}
use Rattle.std.specs.Prelude.{IsTrue}
use Rattle.std.specs.HashMap.{spare}
use Rattle.rss_lock.specs.Locks.{HoldsAlone}
use Rattle.rss_lock.specs.Table.{Table, table, locks_of}
use Rattle.rss_lock.proofs.Single.{alone_if, all_if}
use Rattle.rss_lock.proofs.locks.Locks.is_alone.Goals as goal

pub returns : goal.returns
returns c =
    let old : Table = table c.self.inside.holders.places c.self.inside.firsts c.self.inside.items.entries (spare c.self.inside.items) in
    let all = c.are_all_of.ensures in
    subst (λ (t : Table). IsTrue c.are_all_of.result ↔ HoldsAlone (locks_of t) c.args.transaction) c.self.view_is
    (λ yes. alone_if old c.args.transaction (all.0 yes), λ alone. all.1 (all_if old c.args.transaction c.self.invariant alone))
