-- What the exact rule of room and of the log says of a change, and that there is always room.
use Rattle.std.specs.Prelude.{◌≡◌, ◌↔◌, ℕ, ◌+◌, ◌<◌, ◌≤◌, List, [], ◌∷◌, Some, None}
use Rattle.rss_base.specs.Sizes.{log_pages_least, largest_checkpoint}
use Rattle.rss_base.specs.declared.call.Call.{Call}
use Rattle.rss_model.specs.Tables.{Tables}
use Rattle.rss_model.specs.Changes.{Change, own}
use Rattle.rss_model.specs.Locks.{Locks}
use Rattle.rss_model.specs.Meter.{Meter, change_size, restore_size, end_size, checkpoint_size, changers, log_room, counted}
use Rattle.rss_model.specs.Machine.{State, now}
use Rattle.rss_model.specs.Rules.{Verdict, GoesOn, SavesFirst, NoRoom, NoLogRoom, saved_now, room_with, log_needed, ruling, refusal_by, meter_behind, if_no_log_room}
use Rattle.rss_model.specs.Defining.{defined, DefinesNames}
use Rattle.rss_model.specs.Steps.{Answer, Step, IsOver, MayUndo, undone_to, left_at, size_for, restored, gone, committing, redefined, refusal}
use Rattle.rss_model.specs.Kept.{IsMetered, HasLogRoom, Kept}

-- ---- what the rule says of a change

-- It may be made from this meter: there are as many slots as may be needed, and its record fits with what is owed behind it.
pub record MayBeMade (state : State) (change : Change) (meter : Meter) : Type 0 where
  pub pages : room_with state change meter ≤ state.size.slots
  pub log : log_needed state.base.definitions change meter ≤ log_room state.size.log_pages meter

-- Also behind a checkpoint, more slots may be needed than there are.
pub record IsFull (state : State) (change : Change) (slots needed : ℕ) : Type 0 where
  pub slots_are : slots ≡ state.size.slots
  pub needed_is : needed ≡ room_with state change (saved_now state)
  pub beyond : slots < needed

-- It may not be made as it is; and behind a checkpoint there are slots enough, but its record doesn't fit.
pub record IsLogFull (state : State) (change : Change) (free needed : ℕ) : Type 0 where
  pub off : MayBeMade state change state.meter → ⊥
  pub pages : room_with state change (saved_now state) ≤ state.size.slots
  pub free_is : free ≡ log_room state.size.log_pages (saved_now state)
  pub needed_is : needed ≡ log_needed state.base.definitions change (saved_now state)
  pub beyond : free < needed

-- where each verdict comes
abbrev pub IsRuled : State → Change → Verdict → Type 0
IsRuled state change GoesOn = MayBeMade state change state.meter
IsRuled state change SavesFirst =
    (MayBeMade state change state.meter → ⊥) × MayBeMade state change (saved_now state)
IsRuled state change (NoRoom slots needed) = IsFull state change slots needed
IsRuled state change (NoLogRoom free needed) = IsLogFull state change free needed

-- one change more, from a checkpoint on where the exact rule says so, and so many overflow pages
abbrev pub ruled : Change → ℕ → State → State
ruled change over state = record state {
  changes = change ∷ state.changes;
  meter = counted state.base.definitions change over (meter_behind state change);
}

-- ---- room

-- there is room for all pages, and in the log for what it owes
pub record HasBothRooms (state : State) : Type 0 where
  pub metered : IsMetered state
  pub log : HasLogRoom state

-- the log of this meter has room for a record of this size, and for the largest Checkpoint record behind it
abbrev pub HasRoomForRecord : State → Meter → ℕ → Type 0
HasRoomForRecord state meter size = size + largest_checkpoint ≤ log_room state.size.log_pages meter

-- ---- laws

-- each verdict comes exactly there, with its numbers
abbrev pub RulingIsExact : Type 0
RulingIsExact = (state : State) (change : Change) (verdict : Verdict) → IsMetered state
    → (ruling state change ≡ verdict) ↔ IsRuled state change verdict

-- a change that isn't refused may be made from the meter that the rule says
abbrev pub RulingLetsThrough : Type 0
RulingLetsThrough = (state : State) (change : Change) → refusal_by (ruling state change) ≡ None
    → MayBeMade state change (meter_behind state change)

-- that meter is the present one where the change goes on, and the checkpoint's where one comes first
abbrev pub MeterFollows : Type 0
MeterFollows = (state : State) (change : Change)
    → (ruling state change ≡ GoesOn → meter_behind state change ≡ state.meter)
    × (ruling state change ≡ SavesFirst → meter_behind state change ≡ saved_now state)

-- the checkpoint that comes first isn't refused,
abbrev pub SavingFirstPasses : Type 0
SavingFirstPasses = (state : State) (change : Change) → ruling state change ≡ SavesFirst
    → if_no_log_room state ≡ None

-- and behind it the change goes on
abbrev pub SavedGoesOn : Type 0
SavedGoesOn = (state : State) (change : Change) → ruling state change ≡ SavesFirst
    → ruling (record state { meter = saved_now state }) change ≡ GoesOn

-- it leaves room, under whatever locks
abbrev pub ChangesKeepRooms : Type 0
ChangesKeepRooms = (state : State) (change : Change) (over : ℕ) (locks : Locks) → IsMetered state
    → refusal_by (ruling state change) ≡ None → IsOver state change over
    → HasBothRooms (record (ruled change over state) { locks = locks })

-- a checkpoint that isn't refused leaves room
abbrev pub CheckpointsKeepRooms : Type 0
CheckpointsKeepRooms = (state : State) → IsMetered state → if_no_log_room state ≡ None
    → HasBothRooms (record state { meter = saved_now state })

-- where no transaction has changes it isn't refused
abbrev pub CheckpointsPassAtRest : Type 0
CheckpointsPassAtRest = (state : State) → IsMetered state → state.changes ≡ []
    → log_pages_least ≤ state.size.log_pages → if_no_log_room state ≡ None

-- ways back and ends leave it
abbrev pub RestoresKeepRooms : Type 0
RestoresKeepRooms = (state : State) (t save : ℕ) (marks : List ℕ) (over : ℕ) → Kept state → HasBothRooms state
    → MayUndo (now state) (undone_to state t (left_at marks save)) state.meter.over over
    → HasBothRooms (restored t save marks over state)

abbrev pub AbortsKeepRooms : Type 0
AbortsKeepRooms = (state : State) (t over : ℕ) → Kept state → HasBothRooms state
    → MayUndo (now state) (own t state.changes) state.meter.over over → HasBothRooms (gone t over state)

abbrev pub EndsKeepRooms : Type 0
EndsKeepRooms = (state : State) (t : ℕ) → Kept state → HasBothRooms state → HasBothRooms (committing t state)

-- and so does a definition that isn't refused
abbrev pub DefinitionsKeepRooms : Type 0
DefinitionsKeepRooms = (state : State) (call : Call) (tables : Tables) → Kept state → IsMetered state
    → log_pages_least ≤ state.size.log_pages → refusal state call ≡ None → DefinesNames call
    → defined call state.base ≡ Some tables → HasBothRooms (redefined tables state)

-- and so does each step of each call
abbrev pub StepsKeepRooms : Type 0
StepsKeepRooms = (old new : State) (call : Call) (answer : Answer) → Step old call answer new
    → log_pages_least ≤ old.size.log_pages → Kept old → HasBothRooms old → HasBothRooms new

-- Before each record is appended, the log has room for it: for that of a change from the meter that the rule says,
abbrev pub ChangesFitLog : Type 0
ChangesFitLog = (state : State) (change : Change) → refusal_by (ruling state change) ≡ None
    → HasRoomForRecord state (meter_behind state change) (change_size state.base.definitions change)

-- for that of a way back and of an end, where there is one,
abbrev pub WaysBackFitLog : Type 0
WaysBackFitLog = (state : State) (t left : ℕ) → HasBothRooms state
    → HasRoomForRecord state state.meter (size_for (undone_to state t left) restore_size)

abbrev pub EndsFitLog : Type 0
EndsFitLog = (state : State) (t : ℕ) → HasBothRooms state
    → HasRoomForRecord state state.meter (size_for (own t state.changes) end_size)

-- and for that of a checkpoint, whenever it comes
abbrev pub CheckpointsFitLog : Type 0
CheckpointsFitLog = (state : State) → Kept state → HasBothRooms state
    → checkpoint_size (changers state.meter.stamps) ≤ log_room state.size.log_pages state.meter
