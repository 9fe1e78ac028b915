-- The rules that keep room for all pages and for the log: whether a change goes on, a checkpoint comes before it, or it is refused.
use Rattle.std.specs.Prelude.{ℕ, ◌+◌, ◌&&◌, Bool, nat_le, nat_lt, if◌then◌else◌, Option, Some, None}
use Rattle.rss_base.specs.declared.refusal.Refusal.{Refusal}
use Rattle.rss_base.specs.declared.refusal.Refusal.TheVariants.{Full, LogFull}
use Rattle.rss_model.specs.Tables.{Definitions}
use Rattle.rss_model.specs.Changes.{Change}
use Rattle.rss_model.specs.Meter.{Meter, change_size, owed, log_room, room_number, counted, checkpointed}
use Rattle.rss_model.specs.Machine.{State, now}

-- the meter with a change more; how many overflow pages there are doesn't matter to the rules
abbrev pub with_change : Definitions → Change → Meter → Meter
with_change definitions change meter = counted definitions change meter.over meter

-- the meter as if a checkpoint were taken now
abbrev pub saved_now : State → Meter
saved_now state = checkpointed state.size.slots (now state) state.changes state.meter

-- ---- the room rule

-- how many slots may be needed with a change more, from a checkpoint on
abbrev pub room_with : State → Change → Meter → ℕ
room_with state change meter =
    room_number state.base.definitions (with_change state.base.definitions change meter)

-- ---- the log rule

-- how many bytes of the log a change needs, with what is owed after it
abbrev pub log_needed : Definitions → Change → Meter → ℕ
log_needed definitions change meter =
    change_size definitions change + owed (with_change definitions change meter).stamps

-- its record fits
abbrev pub fits_log : State → Change → Meter → Bool
fits_log state change meter =
    nat_le (log_needed state.base.definitions change meter) (log_room state.size.log_pages meter)

-- ---- what comes of a change

-- It goes on as it is; a checkpoint comes before it; or it is refused, with what is there and what is needed.
pub data Verdict : Type 0 where
  GoesOn : Verdict
  SavesFirst : Verdict
  NoRoom : ℕ → ℕ → Verdict
  NoLogRoom : ℕ → ℕ → Verdict

-- from the last checkpoint on
abbrev pub goes_on : State → Change → Bool
goes_on state change =
    nat_le (room_with state change state.meter) state.size.slots && fits_log state change state.meter

-- where it doesn't go on
abbrev pub after_saving : State → Change → Verdict
after_saving state change =
    if nat_lt state.size.slots (room_with state change (saved_now state))
    then NoRoom state.size.slots (room_with state change (saved_now state))
    else (if fits_log state change (saved_now state) then SavesFirst
    else NoLogRoom (log_room state.size.log_pages (saved_now state))
    (log_needed state.base.definitions change state.meter))

-- A change goes on where it may; else it is asked what a checkpoint would help.
abbrev pub ruling : State → Change → Verdict
ruling state change = if goes_on state change then GoesOn else after_saving state change

abbrev pub verdict : State → Change → Verdict
verdict state change = ruling state change

abbrev pub refusal_by : Verdict → Option Refusal
refusal_by GoesOn = None
refusal_by SavesFirst = None
refusal_by (NoRoom slots needed) = Some (Full slots needed)
refusal_by (NoLogRoom free needed) = Some (LogFull free needed)

abbrev pub if_no_room : State → Change → Option Refusal
if_no_room state change = refusal_by (verdict state change)

-- the meter from which a change is made: as it is where the change goes on, else as a checkpoint leaves it
abbrev pub meter_behind : State → Change → Meter
meter_behind state change = if goes_on state change then state.meter else saved_now state

abbrev pub meter_for : State → Change → Meter
meter_for state change = meter_behind state change

-- ---- other calls

-- a checkpoint is refused where the log has less room after it than is owed
abbrev pub if_no_log_room : State → Option Refusal
if_no_log_room state =
    if nat_lt (log_room state.size.log_pages (saved_now state)) (owed state.meter.stamps)
    then Some (LogFull (log_room state.size.log_pages (saved_now state)) (owed state.meter.stamps)) else None

-- an image is refused where there is no room for it behind a checkpoint
abbrev pub if_no_room_for : State → Definitions → Option Refusal
if_no_room_for state definitions =
    if nat_lt state.size.slots (room_number definitions (saved_now state))
    then Some (Full state.size.slots (room_number definitions (saved_now state))) else None
