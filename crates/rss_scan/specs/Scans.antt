-- Open scans by their numbers.
use Rattle.std.specs.Prelude.{◌≡◌, ℕ, ◌+◌, ◌<◌, Bool, false, not, ◌==◌, if◌then◌else◌, List, [], ◌∷◌, Option, Some, None, IsSome, option_map, option_and_then}
use Rattle.std.specs.Ordering.{nat_cmp}
use Rattle.std.specs.FinMap as map
use Rattle.std.specs.FinMap.{FinMap}
use Rattle.rss_base.specs.declared.tid.Tid.{Tid}
use Rattle.rss_model.specs.Scans.{scans_most}
use Rattle.rss_scan.specs.declared.cursor.Path.{Path}
use Rattle.rss_scan.specs.declared.cursor.Cursor.{Cursor}
use Rattle.rss_scan.specs.declared.cursor.Scan.{Scan}

-- the open scans by their numbers
abbrev pub OpenScans : Type 0
OpenScans = FinMap nat_cmp Scan

-- the least number that isn't in use, where fewer are open than may be
pub record IsLeastFree (scans : OpenScans) (number : ℕ) : Type 0 where
  pub room : map.len scans < scans_most
  pub within : number < scans_most
  pub free : map.get scans number ≡ None
  pub least : (k : ℕ) → k < number → IsSome (map.get scans k)

-- a scan that has given nothing
abbrev pub begun : ℕ → Path → Scan
begun t path = record { owner = t; cursor = record { path = path; last = None } }

-- the scan gave this pair last
abbrev pub given : List ℕ → Tid → Scan → Scan
given key tid scan = record scan { cursor = record scan.cursor { last = Some (key, tid) } }

-- the cursor of the scan, where it is the transaction's
abbrev pub if_owner : ℕ → Scan → Option Cursor
if_owner t scan = if scan.owner == t then Some scan.cursor else None

abbrev pub cursor_of : OpenScans → ℕ → ℕ → Option Cursor
cursor_of scans t number = option_and_then (if_owner t) (map.get scans number)

-- whether a scan is open, and this transaction's
abbrev pub is_of : ℕ → Option Scan → Bool
is_of t None = false
is_of t (Some scan) = scan.owner == t

abbrev pub cursor_in : ℕ → Option Scan → Option Cursor
cursor_in t scan = if is_of t scan then option_map (λ scan. scan.cursor) scan else None

-- without the scans of a transaction
abbrev pub closed_for : ℕ → OpenScans → OpenScans
closed_for t scans = map.retain_keys scans (λ number. not (is_of t (map.get scans number)))

-- ---- the table

-- the scans that stand in a list, each under the number of its place
abbrev pub numbered : ℕ → List (Option Scan) → List (ℕ × Scan)
numbered n [] = []
numbered n (None ∷ scans) = numbered (n + 1) scans
numbered n (Some scan ∷ scans) = (n, scan) ∷ numbered (n + 1) scans

unfoldable pub told : List (Option Scan) → OpenScans
told scans = map.from_sorted (numbered 0 scans)
