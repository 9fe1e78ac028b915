use Rattle.rss_tables_rows.proofs.Below.{none_below}
use Rattle.rss_tables_rows.proofs.harness.LockTable.new.Goals as goal

pub invariant_of-result : goal.invariant_of-result
invariant_of-result c = record { few = none_below _ c.new.ensures }
