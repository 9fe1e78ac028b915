-- Repeated keys in a list of entries.
use Rattle.std.proofs.Common.{ℕ, List}
use Rattle.std.specs.Prelude.{Option, Some, None}
use Rattle.rss_base.specs.declared.tid.Tid.{Tid}
use Rattle.rss_access.specs.Filling.{repeated_behind, repeated_key}

-- the first repeat in what stands behind an entry with this key, or behind none
abbrev pub repeated_after : Option (List ℕ) → List (List ℕ × Tid) → Option Tid
repeated_after None entries = repeated_key entries
repeated_after (Some key) entries = repeated_behind key entries
