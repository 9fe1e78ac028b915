use Rattle.std.proofs.Common.{length}
use Rattle.rss_plain.proofs.images.+is_name_twice.Given as goal

abbrev pub decreases-is_name_twice : goal.decreases-is_name_twice
decreases-is_name_twice l = length l.names.now
