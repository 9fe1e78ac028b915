-- What the calls of a session leave.
use Rattle.std.specs.Prelude.{◌≡◌, ◌↔◌, ◌⊎◌, ℕ, ◌+◌, ◌≤◌, true, List, [], length, take, slice_get, Option, Some, option_map, IfSome, IfNone, Result, IsOk, IsErrOf, ⊤}
use Rattle.std.specs.FinMap as map
use Rattle.rss_base.specs.DiskRule.{IsTold, Passes, Continues}
use Rattle.rss_base.specs.Faults.{Rises}
use Rattle.rss_base.specs.Paged.{mapped_of}
use Rattle.rss_base.specs.Devices.{DrivesOut}
use Rattle.rss_base.specs.Steps.{NoneChanged, driven}
use Rattle.rss_base.specs.Listings.{relation_at}
use Rattle.rss_base.specs.declared.change.Change as told
use Rattle.rss_base.specs.declared.relation.RelationEntry.{RelationEntry}
use Rattle.rss_base.specs.declared.key.Space.TheVariants.{Overflow}
use Rattle.rss_base.specs.declared.fault.PageFault.{PageFault}
use Rattle.rss_base.specs.declared.fault.PageFault.TheVariants.{Device as DeviceFailed, NoMemory}
use Rattle.rss_model.specs.Changes.{Change, own}
use Rattle.rss_model.specs.Tables.{Tables}
use Rattle.rss_model.specs.Fits.{Fits}
use Rattle.rss_model.specs.Machine.{State, now}
use Rattle.rss_model.specs.Meanings.{SameDefinitions}
use Rattle.rss_model.specs.Ruled.{HasBothRooms, ruled}
use Rattle.rss_model.specs.Kept.{Kept, FitMixed, IsMetered}
use Rattle.rss_model.specs.EngineLogs.{EngineLog}
use Rattle.rss_stored.specs.LogLaws.{IsStoredOf}
use Rattle.rss_model.specs.Steps.{IsOver, MayUndo, undone_to, left_at, restored, gone, committing, redefined}
use Rattle.rss_model.specs.Spares.{live_of}
use Rattle.rss_stored.specs.Store.{Stored, SpellsTables}
use Rattle.rss_trans.specs.Transactions.{OpenView, Transaction, is_open, transaction_in, without_newest, count_at, Steps}
use Rattle.rss_store.specs.Changing.{MayMake, IsOwnAt}
use Rattle.rss_store.specs.Stores.{StoreView}
use Rattle.rss_store.specs.Shown.{HoldsLogged, HoldsTables, LeavesStore}
use Rattle.rss_access.specs.Written.{heap_now, AreWritten}
use Rattle.rss_session.specs.Sessions.{SessionView, CountsStill, sums_in}
use Rattle.rss_session.specs.Weighing.{survived_now, saved_head, saved_end}
use Rattle.rss_session.specs.Shown.{Shows, ShowsBack}

-- ---- what each call passes on

-- no transaction has more save points; one that isn't open has none
abbrev pub NoMoreSaves : SessionView → SessionView → Type 0
NoMoreSaves old new =
    (t : ℕ) → length (transaction_in new.opened t).saves ≤ length (transaction_in old.opened t).saves

-- each has one more at most
abbrev pub OneSaveMore : SessionView → SessionView → Type 0
OneSaveMore old new =
    (t : ℕ) → length (transaction_in new.opened t).saves ≤ length (transaction_in old.opened t).saves + 1

-- who was open still is
abbrev pub StayOpen : SessionView → SessionView → Type 0
StayOpen old new = (t : ℕ) → is_open old.opened t ≡ true → is_open new.opened t ≡ true

-- and so is each transaction but this one
abbrev pub OthersStayOpen : ℕ → SessionView → SessionView → Type 0
OthersStayOpen t old new =
    (u : ℕ) → (u ≡ t → ⊥) → is_open old.opened u ≡ true → is_open new.opened u ≡ true

-- the same is defined, under the same numbers
abbrev pub StaysListed : SessionView → SessionView → Type 0
StaysListed old new = SameDefinitions old.store.catalog.listing new.store.catalog.listing

-- No root is selected, and pages are written as others drive them out of memory alone.
pub record SavesNothing (old new : SessionView) : Type 0 where
  pub root : new.store.root ≡ old.store.root
  pub drives : DrivesOut (driven old.store.pages) (driven new.store.pages)

-- By the result: the device tells its contents and its history as before, each failure of it has its cause, and memory never runs out. The store has its size, and no transaction more save points. Where `still` holds nothing is saved.
pub record GoesOnIf {T : Type 0} (still : Type 0) (old new : SessionView) (result : Result T PageFault) : Type 0 where
  pub told : IsTold old.store.pages.disk ↔ IsTold new.store.pages.disk
  pub history : IsTold old.store.pages.disk → Continues old.store.pages.disk new.store.pages.disk
  pub later : old.store.pages.faults ≤ new.store.pages.faults
  pub failed : IsErrOf result DeviceFailed → Rises old.store.pages.faults new.store.pages.faults
  pub memory : IsErrOf result NoMemory → ⊥
  pub slots : new.store.root.slots ≡ old.store.root.slots
  pub log_pages : new.store.root.log_pages ≡ old.store.root.log_pages
  pub frames : new.store.pages.backing.frames ≡ old.store.pages.backing.frames
  pub saves : NoMoreSaves old new
  pub unsaved : still → SavesNothing old new

-- The same of a call that saves nothing.
abbrev pub GoesOn : {T : Type 0} → SessionView → SessionView → Result T PageFault → Type 0
GoesOn old new result = GoesOnIf ⊤ old new result

-- the call came to its end, and the last checkpoint is the one before it
abbrev pub TakesNoCheckpoint : {T : Type 0} → SessionView → SessionView → Result T PageFault → Type 0
TakesNoCheckpoint old new result = IsOk result × (new.store.root.checkpoint ≡ old.store.root.checkpoint)

-- The same of a call that may take a checkpoint: it saves nothing else.
abbrev pub ChecksOn : {T : Type 0} → SessionView → SessionView → Result T PageFault → Type 0
ChecksOn old new result = GoesOnIf (TakesNoCheckpoint old new result) old new result

-- the log has so many bytes more at most
abbrev pub Appends : ℕ → SessionView → SessionView → Type 0
Appends most old new = new.store.log.end ≤ old.store.log.end + most

-- at each moment a stop leaves the committed tables
abbrev pub KeepsTables : SessionView → SessionView → Type 0
KeepsTables old new =
    IsTold old.store.pages.disk → (state : State) → Kept state → Shows old state
    → Passes old.store.pages.disk new.store.pages.disk (HoldsTables state.size state.base)

-- ---- checkpoints

-- What is counted is counted from this checkpoint on. The same transactions are open, with the same changes. Each page is saved, and the selected root names the checkpoint's record, with which the log ends.
pub record CountsAnew (old new : SessionView) : Type 0 where
  pub transactions : new.opened.transactions ≡ old.opened.transactions
  pub places : new.opened.room ≡ old.opened.room
  pub since : new.opened.since ≡ 0
  pub since_of : (number : ℕ) → new.opened.since_of number ≡ 0
  pub heap : new.heap ≡ heap_now old.store.pages
  pub surviving : new.surviving ≡ (sums_in old.opened).p
  pub entries : (number : ℕ) → new.entries number ≡ live_of old.store.catalog.listing number
  pub survived : (number : ℕ) (relation : RelationEntry)
      → relation_at old.store.catalog.listing number ≡ Some relation
      → new.survived number ≡ survived_now old.opened number
  pub pages : new.store.log.pages ≡ old.store.log.pages
  pub head : new.store.log.head ≡ saved_head old
  pub end : new.store.log.end ≡ saved_end old
  pub listing : new.store.catalog.listing ≡ old.store.catalog.listing
  pub checkpoint : new.store.root.checkpoint ≡ old.store.log.end
  pub unchanged : NoneChanged new.store.pages

-- ---- definitions

-- The log and what a stop leaves are those of this state of the machine, and as many overflow pages are mapped as it counts.
pub record StandsBehind (view : StoreView) (state : State) : Type 0 where
  pub log : EngineLog
  pub stored : Stored
  pub disk : LeavesStore view stored
  pub tied : IsStoredOf stored log state
  pub logged : HoldsLogged view log
  pub over_is : state.meter.over ≡ mapped_of view.pages.mapped Overflow view.pages.slots

-- Nothing is open, and the catalog lists other definitions than before. By its listing the pages spell the next committed tables, which fit, once its own pages are written; and there is room.
pub record IsRedefined (view : SessionView) (state : State) (next : Tables) : Type 0 where
  pub behind : StandsBehind view.store state
  pub metered : IsMetered state
  pub none_open : state.marks ≡ map.empty
  pub none_changed : state.changes ≡ []
  pub spells : SpellsTables view.store.pages.held view.store.catalog.listing next
  pub written : AreWritten view.store.pages.held view.store.catalog
  pub fit : Fits view.store.root.slots next
  pub rooms : HasBothRooms (redefined next state)

-- at each moment a stop leaves the committed tables of before, or the next ones
abbrev pub RedefinesTables : SessionView → SessionView → Type 0
RedefinesTables old new =
    IsTold old.store.pages.disk → (state : State) (next : Tables)
    → IsRedefined old state next
    → Passes old.store.pages.disk new.store.pages.disk (λ image.
    HoldsTables state.size state.base image
    ⊎ HoldsTables state.size next image)

-- ---- changes

-- the change is made from this state, behind a checkpoint or as it is, with as many overflow pages as the machine allows
pub record MakesOne (new : SessionView) (state : State) (change : Change) : Type 0 where
  pub over : ℕ
  pub allowed : IsOver state change over
  pub shows : Shows new (ruled change over state)

abbrev pub Makes : SessionView → SessionView → ℕ → told.Change → Type 0
Makes old new t told_change =
    (state : State) (change : Change) → change.by ≡ t → Kept state
    → Shows old state → MayMake old.store state told_change change → MakesOne new state change

-- in no state in which the change may be made is anything found damaged
abbrev pub MayNotMake : SessionView → ℕ → told.Change → Type 0
MayNotMake view t told_change =
    (state : State) (change : Change) → change.by ≡ t → Kept state
    → Shows view state → MayMake view.store state told_change change → ⊥

-- nor in any state at all
abbrev pub ShowsNone : SessionView → Type 0
ShowsNone view = (state : State) → Kept state → Shows view state → ⊥

-- ---- ways back

-- the transaction has these save points
abbrev pub HasMarks : State → ℕ → List ℕ → Type 0
HasMarks state t marks = map.get state.marks t ≡ Some marks

-- of its changes the oldest so many stay
abbrev pub taken_to : ℕ → Transaction → Transaction
taken_to left transaction = record transaction { changes = take left transaction.changes }

-- Its changes since a save point are undone, and this is the position of the oldest of them, where there is one. Nothing is logged.
pub record TakesBack (t save : ℕ) (old new : SessionView) (first : Option ℕ) : Type 0 where
  pub opened : Steps t (taken_to (count_at (transaction_in old.opened t) save)) old.opened new.opened
  pub oldest : first ≡ option_map (λ note. note.position)
      (slice_get (transaction_in old.opened t).changes (count_at (transaction_in old.opened t) save))
  pub still : CountsStill old new
  pub log : new.store.log ≡ old.store.log
  pub root : new.store.root ≡ old.store.root
  pub number : new.store.number ≡ old.store.number
  pub backing : new.store.pages.backing ≡ old.store.pages.backing
  pub listed : StaysListed old new

-- the newest of its changes has this position, and so many older ones
pub record HasNewest (opened : OpenView) (t position : ℕ) : Type 0 where
  pub older : ℕ
  pub count : length (transaction_in opened t).changes ≡ older + 1
  pub place : option_map (λ note. note.position) (slice_get (transaction_in opened t).changes older)
      ≡ Some position

-- it is taken away
pub record TakesNewest (t : ℕ) (old new : SessionView) : Type 0 where
  pub opened : Steps t without_newest old.opened new.opened
  pub still : CountsStill old new

-- and one change less of it is in the tables
abbrev pub TakesBackOne : SessionView → SessionView → ℕ → ℕ → Type 0
TakesBackOne old new t position =
    (state : State) (n : ℕ) → length (transaction_in old.opened t).changes ≡ n + 1
    → IsOwnAt state t n position → ShowsBack old state t (n + 1) → ShowsBack new state t n

-- only so many of its changes are still in the tables, where it had more
pub record GoesBack (new : SessionView) (state : State) (t left : ℕ) (first : Option ℕ) : Type 0 where
  pub shows : ShowsBack new state t left
  pub some : IfSome first (IsOwnAt state t left)
  pub none : IfNone first (length (own t state.changes) ≤ left)

-- it is at a save point, with as many overflow pages as the machine allows
pub record Restores (new : SessionView) (state : State) (t save : ℕ) (marks : List ℕ) : Type 0 where
  pub over : ℕ
  pub way : MayUndo (now state) (undone_to state t (left_at marks save)) state.meter.over over
  pub shows : FitMixed (restored t save marks over state) → Shows new (restored t save marks over state)

-- or gone
pub record Aborts (new : SessionView) (state : State) (t : ℕ) : Type 0 where
  pub over : ℕ
  pub way : MayUndo (now state) (own t state.changes) state.meter.over over
  pub shows : FitMixed (gone t over state) → Shows new (gone t over state)

-- ---- an end

-- at each moment a stop leaves the committed tables of before, or those with the transaction's changes
abbrev pub CommitsTables : SessionView → SessionView → ℕ → Type 0
CommitsTables old new t =
    IsTold old.store.pages.disk → (state : State) → Kept state → FitMixed (committing t state)
    → Shows old state
    → Passes old.store.pages.disk new.store.pages.disk (λ image.
    HoldsTables state.size state.base image ⊎ HoldsTables state.size (committing t state).base image)
