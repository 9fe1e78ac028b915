-- A call on an engine, whichever call it is: what it leaves, by its result.
use Rattle.std.specs.Prelude.{◌≡◌, ◌↔◌, ◌⊎◌, ℕ, ◌+◌, ◌-◌, ◌^◌, ◌≤◌, true, false, List, Contains, Result, Ok, Err, IsErrOf}
use Rattle.std.specs.List.{list_any}
use Rattle.rss_base.specs.DiskRule.{Disk, Pages, IsTold, Leaves, Continues, WritesIn}
use Rattle.rss_base.specs.DiskRule.{Places as DevicePlaces}
use Rattle.rss_base.specs.Devices.{DrivenView, DrivesOut}
use Rattle.rss_base.specs.Faults.{Rises}
use Rattle.rss_base.specs.declared.name.Name.{Name}
use Rattle.rss_base.specs.declared.tid.Tid.{Tid}
use Rattle.rss_base.specs.declared.value.Value.{Value}
use Rattle.rss_base.specs.declared.item.Item.TheVariants.{Tuple}
use Rattle.rss_base.specs.declared.call.Call.{Call}
use Rattle.rss_base.specs.declared.call.Call.TheVariants.{Insert, End}
use Rattle.rss_base.specs.declared.answer.Reply.{Reply}
use Rattle.rss_base.specs.declared.answer.Reply.TheVariants.{Tid as Identifier}
use Rattle.rss_base.specs.declared.answer.CallError.{CallError}
use Rattle.rss_base.specs.declared.answer.CallError.TheVariants.{Refused, Damaged, Device, NoMemory, Down}
use Rattle.rss_model.specs.Machine.{State}
use Rattle.rss_model.specs.Locks.{is_held_by_another}
use Rattle.rss_model.specs.Steps.{Answer, relations_beside}
use Rattle.rss_stored.specs.Store.{HoldsState}
use Rattle.rss_stored.specs.Turns.{IsAnswered, IsStopped, IsUnmade}
use Rattle.rss_model.specs.ReplyText.{IsShort}
use Rattle.rss_model.specs.Costs.{RisesAtMost, most_asks, most_writes, may_save, may_lack_memory}

-- states of the machine
abbrev pub States : Type 1
States = State → Type 0

-- The identifiers that the placing rule allows for a new tuple of a relation with these values, where these others are barred.
abbrev pub Places : Type 1
Places = Name → List Value → List Tid → Tid → Type 0

-- What there is to see of an engine.
--
-- disk: what its device tells.
-- shows: the states of the machine that it may be in, where the device tells its contents.
-- places: which identifiers its pages have for a new tuple.
-- is_up: it answers calls.
-- slots: how many slots its device has for pages.
-- calls: how many calls it was asked for.
-- asks, writes, faults: how many pages were asked for, how many of the device written, and how many faults of it met.
-- outs: how many pages were driven out of memory.
-- free: which pages of its device no stop needs: the slots that no saved page has.
-- saved: where in the log the record of the last checkpoint stands.
-- end_places, end_most: which pages of its device an end may write, and how many.
pub record EngineView : Type 1 where
  pub disk : Disk
  pub shows : States
  pub places : Places
  pub is_up : Type 0
  pub slots : ℕ
  pub calls : ℕ
  pub asks : ℕ
  pub writes : ℕ
  pub faults : ℕ
  pub outs : ℕ
  pub free : DevicePlaces
  pub saved : ℕ
  pub end_places : DevicePlaces
  pub end_most : ℕ

-- its pages as they are driven out of memory
abbrev pub driven_of : EngineView → DrivenView
driven_of view = record { disk = view.disk; free = view.free; writes = view.writes; outs = view.outs }

-- A call takes no checkpoint if it is none that may, or if the engine is up after it and the last checkpoint is the one before it.
abbrev pub TakesNone : EngineView → EngineView → Call → Type 0
TakesNone old new call = (may_save call ≡ false) ⊎ (new.is_up × (new.saved ≡ old.saved))

-- What a call writes that is no end: no more pages than it may. If it takes no checkpoint these are free, and no more than a run for each page that is driven out of memory.
pub record WritesFree (old new : EngineView) (call : Call) : Type 0 where
  pub most : RisesAtMost (most_writes call) old.writes new.writes
  pub drives : TakesNone old new call → DrivesOut (driven_of old) (driven_of new)

-- What a call may write: an end such pages alone, and so many of them; any other call as follows.
abbrev pub MayWrite : EngineView → EngineView → Call → Type 0
MayWrite old new (End t) =
    WritesIn old.end_places old.disk new.disk × (new.writes ≤ old.writes + old.end_most)
MayWrite old new call = WritesFree old new call

-- What each call passes on, whatever it does: it costs no more than it may, an engine that is up counts it, a device tells its contents and its history as before, and no fault is forgotten.
pub record GoesOn (old new : EngineView) (call : Call) : Type 0 where
  pub asks : RisesAtMost (most_asks call) old.asks new.asks
  pub writes : MayWrite old new call
  pub saves : may_save call ≡ false → new.saved ≡ old.saved
  pub calls : new.calls ≤ old.calls + 1
  pub counted : old.is_up → new.calls ≡ old.calls + 1
  pub slots : new.slots ≡ old.slots
  pub told : IsTold old.disk → IsTold new.disk
  pub history : IsTold old.disk → Continues old.disk new.disk
  pub later : old.faults ≤ new.faults

-- A stop leaves the committed tables of each state that is shown; and where no change was made since the last checkpoint, as many overflow pages as that state counts.
abbrev pub OpensShown : EngineView → Type 0
OpensShown view =
    (state : State) → view.shows state → (image : Pages) → Leaves view.disk image → HoldsState image state

-- ---- the ways in which a call ends

-- A call was answered, and led to a state that is shown.
pub record LeadsTo (shown : States) (earlier later : Disk) (old : State) (call : Call) (answer : Answer) : Type 0 where
  pub next : State
  pub shows : shown next
  pub answered : IsAnswered earlier later old call answer next

-- These are the identifiers that others hold locks on in the segment of a relation.
abbrev pub AreBarred : State → ℕ → Name → List Tid → Type 0
AreBarred state t relation barred =
    (tid : Tid) → Contains barred tid
    ↔ (list_any (λ other. is_held_by_another state.locks t (Tuple other tid))
    (relations_beside state relation) ≡ true)

-- A new tuple has an identifier that the placing rule allows, where those are barred that others hold.
abbrev pub GetsPlace : EngineView → State → Call → Answer → Type 0
GetsPlace view state (Insert t relation values) (Ok (Identifier tid)) =
    (barred : List Tid) → AreBarred state t relation barred → view.places relation values barred tid
GetsPlace view state call answer = Unit {0}

-- By a reply or a refusal: it is a step of the machine, its line is short, and a new tuple stands where the pages of before have a place for it.
pub record IsAnswer (old new : EngineView) (call : Call) (answer : Answer) : Type 0 where
  pub answered : IsTold old.disk → (state : State) → old.shows state
      → LeadsTo new.shows old.disk new.disk state call answer
  pub placed : IsTold old.disk → (state : State) → old.shows state → GetsPlace old state call answer
  pub up : new.is_up
  pub short : IsShort answer

-- By a fault of the device, within a step that was on its way.
pub record IsFault (old new : EngineView) (call : Call) : Type 0 where
  pub stopped : IsTold old.disk → (state : State) → old.shows state
      → IsStopped old.disk new.disk state call
  pub down : new.is_up → ⊥
  pub cause : Rises old.faults new.faults

-- By damage, which no device shows that tells its contents, where the engine is in any state.
pub record IsDamaged (old new : EngineView) : Type 0 where
  pub sound : IsTold old.disk → (state : State) → old.shows state → ⊥
  pub down : new.is_up → ⊥

-- By want of memory, which a call finds before it changes anything: the engine is up and in the same states, and no page changed. A stop leaves the committed tables.
pub record IsUnanswered (old new : EngineView) (call : Call) : Type 0 where
  pub may : may_lack_memory call ≡ true
  pub unmade : IsTold old.disk → (state : State) → old.shows state
      → IsUnmade old.disk new.disk state
  pub up : new.is_up
  pub same : IsTold old.disk → (state : State) → old.shows state → new.shows state

-- an engine that is up is never found down
abbrev pub IsOutcome : EngineView → EngineView → Call → Result Reply CallError → Type 0
IsOutcome old new call (Ok reply) = IsAnswer old new call (Ok reply)
IsOutcome old new call (Err (Refused why)) = IsAnswer old new call (Err why)
IsOutcome old new call (Err Device) = IsFault old new call
IsOutcome old new call (Err (Damaged place)) = IsDamaged old new
IsOutcome old new call (Err NoMemory) = IsUnanswered old new call
IsOutcome old new call (Err Down) = ⊥

-- A call, by its result. An engine that is down answers nothing more.
pub record IsCallOf (old new : EngineView) (call : Call) (result : Result Reply CallError) : Type 0 where
  pub goes : GoesOn old new call
  pub outcome : old.is_up → IsOutcome old new call result
  pub down : (old.is_up → ⊥) → IsErrOf result Down

-- so many calls an engine may be asked for: positions of its log, and numbers of its save points, stay numbers
abbrev pub calls_most : ℕ
calls_most = 2 ^ 32 - 2
