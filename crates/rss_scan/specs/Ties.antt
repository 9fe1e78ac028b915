-- The open scans are the relation machine's, with their keys spelled in bytes.
use Rattle.std.specs.Prelude.{◌≡◌, ℕ, List, Option, Some, None, option_map}
use Rattle.std.specs.FinMap as map
use Rattle.rss_base.specs.declared.tid.Tid.{Tid}
use Rattle.rss_model.specs.Images.{Entry}
use Rattle.rss_model.specs.Scans.{Scans, scan_of, closed, new_scan}
use Rattle.rss_model.specs.Scans.{Path as MachinePath, Scan as MachineScan}
use Rattle.rss_model.specs.Steps.{with_given}
use Rattle.rss_scan.specs.declared.cursor.Path.{Path}
use Rattle.rss_scan.specs.declared.cursor.Cursor.{Cursor}
use Rattle.rss_scan.specs.declared.cursor.Scan.{Scan}
use Rattle.rss_scan.specs.Scans.{OpenScans, begun, given, cursor_of, closed_for}

-- how a place of the machine's, which has values, is spelled: along this path, with what was given last
abbrev pub Spelling : Type 0
Spelling = MachinePath → Option Entry → Cursor

abbrev pub spelled : Spelling → MachineScan → Scan
spelled spell scan = record { owner = scan.by; cursor = spell scan.path scan.last }

-- they are the machine's, number by number
abbrev pub AreSpelled : Spelling → Scans → OpenScans → Type 0
AreSpelled spell machine scans =
    (number : ℕ) → map.get scans number ≡ option_map (spelled spell) (map.get machine number)

-- ---- laws

abbrev pub NoneSpelled : Type 0
NoneSpelled = (spell : Spelling) → AreSpelled spell map.empty map.empty

abbrev pub AddedSpelled : Type 0
AddedSpelled = (spell : Spelling) (machine : Scans) (scans : OpenScans) (t number : ℕ) (along : MachinePath) (path : Path)
    → AreSpelled spell machine scans → spell along None ≡ (begun t path).cursor
    → AreSpelled spell (map.insert machine number (new_scan t along)) (map.insert scans number (begun t path))

abbrev pub GivenSpelled : Type 0
GivenSpelled = (spell : Spelling) (machine : Scans) (scans : OpenScans) (number : ℕ) (scan : MachineScan) (next : Entry)
    (key : List ℕ) (tid : Tid)
    → AreSpelled spell machine scans → spell scan.path (Some next) ≡ (given key tid (spelled spell scan)).cursor
    → AreSpelled spell (map.insert machine number (with_given scan next))
    (map.insert scans number (given key tid (spelled spell scan)))

abbrev pub RemovedSpelled : Type 0
RemovedSpelled = (spell : Spelling) (machine : Scans) (scans : OpenScans) (number : ℕ)
    → AreSpelled spell machine scans → AreSpelled spell (map.remove machine number) (map.remove scans number)

abbrev pub ClosedSpelled : Type 0
ClosedSpelled = (spell : Spelling) (machine : Scans) (scans : OpenScans) (t : ℕ)
    → AreSpelled spell machine scans → AreSpelled spell (closed t machine) (closed_for t scans)

abbrev pub FoundSpelled : Type 0
FoundSpelled = (spell : Spelling) (machine : Scans) (scans : OpenScans) (t number : ℕ)
    → AreSpelled spell machine scans
    → cursor_of scans t number ≡ option_map (λ scan. spell scan.path scan.last) (scan_of machine t number)

-- as many are open
abbrev pub CountedSpelled : Type 0
CountedSpelled = (spell : Spelling) (machine : Scans) (scans : OpenScans)
    → AreSpelled spell machine scans → map.len scans ≡ map.len machine
