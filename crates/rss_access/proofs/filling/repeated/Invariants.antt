use Rattle.std.proofs.Common.{◌≡◌, drop}
use Rattle.std.specs.Prelude.{option_copied}
use Rattle.rss_access.specs.Filling.{repeated_key}
use Rattle.rss_access.proofs.KeyRepeats.{repeated_after}
use Rattle.rss_access.proofs.filling.repeated.Given as goal

abbrev pub invariant-loop-key : goal.invariant-loop-key
invariant-loop-key l = repeated_after (option_copied l.before) (drop l.key-index l.entries) ≡ repeated_key l.entries
