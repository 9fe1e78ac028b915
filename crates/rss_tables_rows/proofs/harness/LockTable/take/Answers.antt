use Rattle.rss_tables_rows.proofs.Below.{granted_below, few_below, same_below}
use Rattle.rss_tables_rows.proofs.harness.LockTable.take.Goals as goal

pub take-requires-clause-few : goal.take-requires-clause-few
take-requires-clause-few c = few_below _ c.args.transaction c.if-transaction-ge-TRANSACTIONS.false (same_below _ _ c.reserve.ensures.same c.args.self.now.few)

pub invariant_of-self-2 : goal.invariant_of-self-2
invariant_of-self-2 c = record {
  few = granted_below _ _ c.args.transaction c.args.needs.items c.if-transaction-ge-TRANSACTIONS.false c.take.ensures.taken (same_below _ _ c.reserve.ensures.same c.args.self.now.few);
}
