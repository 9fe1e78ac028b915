use Rattle.std.proofs.Common.{ℕ, List, sym, ◌∙◌, ap, subst}
use Rattle.std.specs.Prelude.{slice_index}
use Rattle.std.specs.Map.{values_of}
use Rattle.rss_trans.specs.Transactions.{Transaction, of_relation, sums_of}
use Rattle.rss_trans.specs.Tables.{Table, IsTable, shown}
use Rattle.rss_trans.proofs.Mapping.{values_made}
use Rattle.rss_trans.proofs.Stepping.{in_order}
use Rattle.rss_trans.proofs.open.Open.relation_sums.Goals as goal

pub returns : goal.returns
returns c =
    let now : IsTable c.args.self.now = subst IsTable c.self.view_is c.self.invariant in
    let listed : List Transaction = values_of (shown c.args.self.now.keys c.args.self.now.slots) in
    c.sums_of.ensures
    ∙ ap (λ (n : ℕ). sums_of (of_relation c.args.relation) n listed) (ap (slice_index c.self.inside.since_of) c.from.ensures ∙ ap (λ (t : Table). slice_index t.since_of c.args.relation) c.self.view_is)
    ∙ ap (sums_of (of_relation c.args.relation) (slice_index c.args.self.now.since_of c.args.relation)) (sym (values_made (shown c.args.self.now.keys c.args.self.now.slots) (in_order c.args.self.now now)))
