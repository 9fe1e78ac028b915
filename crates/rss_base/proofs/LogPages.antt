-- The pages of the log that a root tells.
use Rattle.std.proofs.Common.{ℕ, ◌-◌, ◌/◌}
use Rattle.rss_base.specs.Sizes.{piece_bytes}
use Rattle.rss_base.specs.Layout.{log_at}
use Rattle.rss_base.specs.LogPages.{IsPiecePage}
use Rattle.rss_base.specs.declared.root.Root.{Root}

-- a page of a piece of the log that a root tells
abbrev pub IsLogPage : Root → ℕ → Type 0
IsLogPage root q = IsPiecePage (log_at root.slots) root.log_pages (root.head / piece_bytes) (root.end / piece_bytes - root.head / piece_bytes) q
