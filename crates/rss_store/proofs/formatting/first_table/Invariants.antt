use Rattle.std.proofs.Common.{◌≡◌}
use Rattle.rss_store.specs.Formatted.{system_owners}
use Rattle.rss_store.proofs.formatting.first_table.Given as goal

abbrev pub invariant-loop-number : goal.invariant-loop-number
invariant-loop-number l = l.table ≡ system_owners l.slots l.number
