-- Scans: the tuples along a path, one after another.
use Rattle.std.specs.Prelude.{ℕ, ◌==◌, ◌^◌, if◌then◌else◌, List, [], Option, Some, None, is_none, option_map, option_and_then, unwrap_or, slice_get}
use Rattle.std.specs.Ordering.{nat_cmp}
use Rattle.std.specs.FinMap as map
use Rattle.std.specs.FinMap.{FinMap}
use Rattle.rss_base.specs.declared.name.Name.{Name}
use Rattle.rss_base.specs.declared.tid.Tid.{Tid}
use Rattle.rss_base.specs.declared.value.Value.{Value}
use Rattle.rss_model.specs.Tables.{Tables}
use Rattle.rss_model.specs.Chains.{chain, next_of}
use Rattle.rss_model.specs.Images.{Entry, entry, image_list, relation_list, next_entry}

-- which tuples a scan gives: those of a relation, those of an image from a key on, or those of a chain
pub data Path : Type 0 where
  RelationPath : Name → Path
  ImagePath : Name → Option (List Value) → Path
  LinkPath : Name → Option Tid → Path

-- by: the transaction that opened it.
-- last: what it gave last. Along a relation or a link keys have no values.
pub record Scan : Type 0 where
  pub by : ℕ
  pub path : Path
  pub last : Option Entry

-- the open scans by their numbers
abbrev pub Scans : Type 0
Scans = FinMap nat_cmp Scan

-- at most so many scans are open
abbrev pub scans_most : ℕ
scans_most = 256

-- the number of a scan, or of a save point, lies below this one
abbrev pub number_limit : ℕ
number_limit = 2 ^ 32

-- the scan of this number, where it is the transaction's
abbrev pub if_by : ℕ → Scan → Option Scan
if_by t scan = if scan.by == t then Some scan else None

abbrev pub scan_of : Scans → ℕ → ℕ → Option Scan
scan_of scans t number = option_and_then (if_by t) (map.get scans number)

-- without the scans of a transaction
abbrev pub closed : ℕ → Scans → Scans
closed t scans = map.retain_keys scans (λ number. is_none (scan_of scans t number))

-- a scan that has given nothing
abbrev pub new_scan : ℕ → Path → Scan
new_scan t path = record { by = t; path = path; last = None }

-- ---- the next tuple

-- the image's list, of which there is none where it isn't defined
abbrev pub list_of_image : Tables → Name → List Entry
list_of_image tables name =
    unwrap_or (option_map (image_list tables) (map.get tables.definitions.images name)) []

-- the first tuple of a chain, or the one behind that which was given
abbrev pub next_in_chain : List Tid → Option Entry → Option Tid
next_in_chain tids None = slice_get tids 0
next_in_chain tids (Some given) = next_of given.tid tids

-- what a scan gives next along its path
abbrev pub next_along : Tables → Path → Option Entry → Option Entry
next_along tables (RelationPath relation) last = next_entry None last (relation_list tables relation)
next_along tables (ImagePath image start) last = next_entry start last (list_of_image tables image)
next_along tables (LinkPath link parent) last =
    option_map (entry []) (next_in_chain (chain tables.contents link parent) last)

abbrev pub next_of_scan : Tables → Scan → Option Entry
next_of_scan tables scan = next_along tables scan.path scan.last

-- the relation whose tuples a path gives
abbrev pub path_relation : Tables → Path → Option Name
path_relation tables (RelationPath relation) = Some relation
path_relation tables (ImagePath image start) =
    option_map (λ definition. definition.relation) (map.get tables.definitions.images image)
path_relation tables (LinkPath link parent) =
    option_map (λ definition. definition.child) (map.get tables.definitions.links link)
