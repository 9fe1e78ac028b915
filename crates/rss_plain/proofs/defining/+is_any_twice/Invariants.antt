use Rattle.std.proofs.Common.{length}
use Rattle.rss_plain.proofs.defining.+is_any_twice.Given as goal

abbrev pub decreases-is_any_twice : goal.decreases-is_any_twice
decreases-is_any_twice l = length l.fields.now
