use Rattle.std.proofs.Common.{List, sym, ◌∙◌, ap, subst}
use Rattle.std.specs.Map.{values_of}
use Rattle.rss_trans.specs.Transactions.{Transaction, any, sums_of}
use Rattle.rss_trans.specs.Tables.{Table, IsTable, shown}
use Rattle.rss_trans.proofs.Mapping.{values_made}
use Rattle.rss_trans.proofs.Stepping.{in_order}
use Rattle.rss_trans.proofs.open.Open.sums.Goals as goal

pub returns : goal.returns
returns c =
    let now : IsTable c.args.self.now = subst IsTable c.self.view_is c.self.invariant in
    let listed : List Transaction = values_of (shown c.args.self.now.keys c.args.self.now.slots) in
    c.sums_of.ensures
    ∙ ap (λ (t : Table). sums_of any t.since listed) c.self.view_is
    ∙ ap (sums_of any c.args.self.now.since) (sym (values_made (shown c.args.self.now.keys c.args.self.now.slots) (in_order c.args.self.now now)))
