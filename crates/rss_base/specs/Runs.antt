-- Pages that are written together, one behind the other.
use Rattle.std.specs.Prelude.{◌≡◌, ℕ, ◌+◌, ◌<◌, List, length}
use Rattle.rss_base.specs.DiskRule.{Pages, page}

-- how many pages a run has at most
abbrev pub run_pages : ℕ
run_pages = 16

-- the pages from a place on hold these bytes
abbrev pub HoldsRun : ℕ → List (List ℕ) → Pages → Type 0
HoldsRun at run pages = (k : ℕ) → k < length run → page pages (at + k) ≡ page run k
