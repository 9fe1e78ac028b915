use Rattle.rss_tables_rows.proofs.Below.{released_below}
use Rattle.rss_tables_rows.proofs.harness.LockTable.release_all.Goals as goal

pub invariant_of-self : goal.invariant_of-self
invariant_of-self c = record { few = released_below _ _ c.args.transaction c.release_all.ensures.released c.args.self.now.few }
