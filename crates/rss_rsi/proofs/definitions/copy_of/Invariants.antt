use Rattle.std.proofs.Common.{◌≡◌, take}
use Rattle.rss_rsi.proofs.definitions.copy_of.Given as goal

abbrev pub invariant-loop-field : goal.invariant-loop-field
invariant-loop-field l = l.copy ≡ take l.field-index l.fields
