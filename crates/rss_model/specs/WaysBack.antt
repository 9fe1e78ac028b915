-- How the calls are answered that take a transaction back or end it, and how a checkpoint is.
use Rattle.std.specs.Prelude.{◌≡◌, ◌≤◌, ◌⊎◌, true, Ok, Err}
use Rattle.rss_base.specs.declared.call.Call.{Call}
use Rattle.rss_base.specs.declared.call.Call.TheVariants.{Restore, End, Abort, Checkpoint}
use Rattle.rss_base.specs.declared.answer.Reply.TheVariants.{Ok as Done}
use Rattle.rss_base.specs.declared.refusal.Refusal.TheVariants.{LogFull}
use Rattle.rss_model.specs.Meter.{owed, log_room}
use Rattle.rss_model.specs.Machine.{State, is_open}
use Rattle.rss_model.specs.Rules.{saved_now}
use Rattle.rss_model.specs.Refusals.{Answer, saves_of}
use Rattle.rss_model.specs.Steps.{Step}

-- an end or an abort of an open transaction, or the way back to a save point that it has, 0 being its begin
abbrev pub IsWayBack : State → Call → Type 0
IsWayBack state (End t) = is_open state t ≡ true
IsWayBack state (Abort t) = is_open state t ≡ true
IsWayBack state (Restore t save) = (is_open state t ≡ true) × (save ≤ saves_of state t)
IsWayBack state call = ⊥

-- refused, since the log has less room behind a checkpoint than is owed
abbrev pub LacksLog : State → Answer → Type 0
LacksLog state answer =
    answer ≡ Err (LogFull (log_room state.size.log_pages (saved_now state)) (owed state.meter.stamps))

-- ---- laws

-- such a call succeeds, and is answered in no other way
abbrev pub WaysBackSucceed : Type 0
WaysBackSucceed = (old new : State) (call : Call) (answer : Answer) → Step old call answer new
    → IsWayBack old call → answer ≡ Ok Done

-- a checkpoint succeeds, or lacks room in the log
abbrev pub CheckpointsSucceed : Type 0
CheckpointsSucceed = (old new : State) (answer : Answer) → Step old Checkpoint answer new
    → (answer ≡ Ok Done) ⊎ LacksLog old answer
