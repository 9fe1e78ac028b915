-- The way of a restart: one change after another is undone, or done again, as the log tells it.
use Rattle.std.specs.Prelude.{◌≡◌, ℕ, ◌+◌, ◌*◌, ◌≤◌, List, [], ◌∷◌, ◌++◌, map, length, count_by, Result, Err, IsErrOf, OnOk, ⊤}
use Rattle.std.specs.List.{AllByRecursion}
use Rattle.rss_base.specs.DiskRule.{IsTold}
use Rattle.rss_base.specs.Faults.{Rises}
use Rattle.rss_base.specs.Steps.{PagesStep}
use Rattle.rss_base.specs.Listings.{Listing}
use Rattle.rss_base.specs.declared.name.Name.{Name}
use Rattle.rss_base.specs.LogRecords.{BeginsWith}
use Rattle.rss_base.specs.declared.fault.PageFault.{PageFault}
use Rattle.rss_base.specs.declared.fault.PageFault.TheVariants.{Device as DeviceFailed, Damaged, NoMemory}
use Rattle.rss_base.specs.declared.place.Place.{Place}
use Rattle.rss_base.specs.declared.place.Place.TheVariants.{Log as LogPlace}
use Rattle.rss_base.specs.declared.change.Change as told
use Rattle.rss_base.specs.declared.log_record.LogRecord.TheVariants as records
use Rattle.rss_log.specs.Logs.{LogView, bytes_from}
use Rattle.rss_catalog.specs.Catalogs.{CatalogView}
use Rattle.rss_model.specs.Tables.{Tables, content}
use Rattle.rss_model.specs.Changes.{Change}
use Rattle.rss_model.specs.Fits.{Fits}
use Rattle.rss_model.specs.Meter.{counts_for}
use Rattle.rss_model.specs.Spares.{listed_bound}
use Rattle.rss_model.specs.Restart.{losers}
use Rattle.rss_model.specs.Recovers.{lists_at}
use Rattle.rss_model.specs.Meanings.{IsChangeTold, Means, Logged, as_entries}
use Rattle.rss_stored.specs.Store.{SpellsTables}
use Rattle.rss_access.specs.Told.{reversed}
use Rattle.rss_access.specs.Changes.{AccessView, applied, alter_cost, Applies, Takes, HasRoomFor, CanApply}
use Rattle.rss_entries.specs.Rooms.{image_places}
use Rattle.rss_access.specs.Relisted.{Relists}
use Rattle.rss_access.specs.Written.{content_of}
use Rattle.rss_restart.specs.declared.restarting.Way.{Way}
use Rattle.rss_restart.specs.declared.restarting.Way.TheVariants.{Back, Again}
use Rattle.rss_restart.specs.Surveys.{IsLogPlace, redone_at}
use Rattle.rss_restart.specs.Restarting.{KeepsCatalog, entries_with}

-- ---- one change

-- which way a change is made, and the position of its record
pub record Turn : Type 0 where
  pub way : Way
  pub at : ℕ

abbrev pub turn : Way → ℕ → Turn
turn way at = record { way = way; at = at }

-- what is applied: where a change is undone, the change turned round
abbrev pub directed : Way → told.Change → told.Change
directed Back change = reversed change
directed Again change = change

-- a fault of a change, by the position of its record
abbrev pub recorded : ℕ → PageFault → PageFault
recorded at DeviceFailed = DeviceFailed
recorded at (Damaged place) = Damaged (LogPlace at)
recorded at NoMemory = NoMemory

-- the record at a position is that of this change
pub record TellsAt (log : LogView) (at : ℕ) (change : told.Change) : Type 0 where
  pub by : ℕ
  pub rest : List ℕ
  pub begins : BeginsWith (bytes_from log at) (records.Change by change) rest

-- it isn't that of a change
abbrev pub TellsNone : LogView → ℕ → Type 0
TellsNone log at = (change : told.Change) → TellsAt log at change → ⊥

-- The change at this position is made: it is applied as the log tells it, the catalog lists what it leaves, and it takes two home or overflow pages at most.
pub record StepsTo (log : LogView) (next : Turn) (old new : AccessView) : Type 0 where
  pub told_change : told.Change
  pub tells : TellsAt log next.at told_change
  pub applies : Applies (directed next.way told_change) old new
  pub relists : Relists (directed next.way told_change) old.catalog new.catalog
  pub takes : Takes 2 old.pages new.pages

-- there are no tables from which it can be made
abbrev pub NoStep : LogView → Turn → AccessView → Type 0
NoStep log next at =
    (told_change : told.Change) → TellsAt log next.at told_change
    → HasRoomFor at (directed next.way told_change) → (tables : Tables) (change : Change)
    → CanApply at (directed next.way told_change) tables change → ⊥

-- ---- one after another

-- a change that is made: what the log tells of it, and what it means, turned round where it is undone
pub record Move : Type 0 where
  pub next : Turn
  pub told_change : told.Change
  pub change : Change

abbrev pub turns_of : List Move → List Turn
turns_of moves = map (λ m. m.next) moves

-- the log tells it, and it means this by the listing
pub record IsMove (listing : Listing) (log : LogView) (m : Move) : Type 0 where
  pub tells : TellsAt log m.next.at m.told_change
  pub is : IsChangeTold listing m.change.by (directed m.next.way m.told_change) m.change
  pub means : Means listing (directed m.next.way m.told_change) m.change

-- the tables after the changes
abbrev pub moved : Tables → List Move → Tables
moved tables [] = tables
moved tables (m ∷ moves) = moved (applied tables m.change) moves

-- each finds the old content of its item
abbrev pub MovesFind : Tables → List Move → Type 0
MovesFind tables [] = ⊤
MovesFind tables (m ∷ moves) =
    (content tables.contents m.change.item ≡ m.change.old) × MovesFind (applied tables m.change) moves

-- all tables on the way fit
abbrev pub MovesFit : ℕ → Tables → List Move → Type 0
MovesFit slots tables [] = Fits slots tables
MovesFit slots tables (m ∷ moves) = Fits slots tables × MovesFit slots (applied tables m.change) moves

-- how many of them are of a relation's tuples: one of a chain is of none
abbrev pub moves_of : List Move → Name → ℕ
moves_of moves relation = count_by (λ m. counts_for m.change.item relation) moves

-- The pages spell these tables, and from them these changes can be made, one after another: there is room for two pages more at each, beside those that images may come to have.
pub record CanWalk (log : LogView) (at : AccessView) (tables : Tables) (moves : List Move) : Type 0 where
  pub spells : SpellsTables at.pages.held at.catalog.listing tables
  pub are : AllByRecursion (IsMove at.catalog.listing log) moves
  pub find : MovesFind tables moves
  pub fit : MovesFit at.pages.slots tables moves
  pub room : 2 * length moves
      + listed_bound at.catalog.listing (entries_with at.catalog.listing (moves_of moves))
      ≤ image_places at.pages

-- What was made is the front of what can be made: the rest can be made from the tables that are then there.
abbrev pub Leads : LogView → List Turn → AccessView → AccessView → Type 0
Leads log turns old new =
    IsTold old.pages.disk → (tables : Tables) (front rest : List Move) → turns_of front ≡ turns
    → CanWalk log old tables (front ++ rest) → CanWalk log new (moved tables front) rest

-- these can't all be made
abbrev pub NoWalk : LogView → List Turn → AccessView → Type 0
NoWalk log turns at =
    (tables : Tables) (front rest : List Move) → turns_of front ≡ turns
    → CanWalk log at tables (front ++ rest) → ⊥

-- What making so many changes at most passes on: pages of tuples and images alone are touched, and at success two home or overflow pages are taken at most for each change. Each failure of the device has its cause, memory never runs out, and what is damaged is a position of the log.
pub record Walks {T : Type 0} (log : LogView) (most : ℕ) (old new : AccessView)
    (result : Result T PageFault) : Type 0 where
  pub made : ℕ
  pub few : made ≤ most
  pub step : PagesStep (content_of old.catalog.listing) (made * alter_cost old.pages.slots)
      (made * alter_cost old.pages.slots) old.pages new.pages
  pub takes : OnOk result (Takes (2 * made) old.pages new.pages)
  pub keeps : KeepsCatalog old new
  pub failed : IsErrOf result DeviceFailed → Rises old.pages.faults new.pages.faults
  pub memory : IsErrOf result NoMemory → ⊥
  pub place : (place : Place) → result ≡ Err (Damaged place) → IsLogPlace log place

-- ---- the catalog

-- The counts go with these changes, one after another: each is told at its position, and its relation counts it where it is one of a tuple.
pub data Counted (log : LogView) : List Turn → CatalogView → CatalogView → Type 0 where
  counts_none : {catalog : CatalogView} → Counted log [] catalog catalog
  counts_more : {next : Turn} {turns : List Turn} {told_change : told.Change} {old mid new : CatalogView}
      → TellsAt log next.at told_change → Relists (directed next.way told_change) old mid
      → Counted log turns mid new → Counted log (next ∷ turns) old new

-- the changes that are undone, and then those that are done again
abbrev pub turns_in : List Logged → List Logged → List Turn
turns_in older newer =
    map (turn Back) (map (λ l. l.at) (losers (as_entries newer) (lists_at (as_entries older))))
    ++ map (turn Again) (redone_at newer)
