-- What a caller says of its own calls, from what every engine says.
use Rattle.std.specs.Prelude.{Ok}
use Rattle.rss_base.specs.DiskRule.{IsTold}
use Rattle.rss_base.specs.declared.call.Call.{Call}
use Rattle.rss_base.specs.declared.answer.Reply.{Reply}
use Rattle.rss_model.specs.Machine.{State}
use Rattle.rss_stored.specs.Calls.{EngineView, LeadsTo}

-- The call was made, with this reply. Over a device that tells its contents it was a step of the
-- machine, from whatever state the engine showed to one that it shows now; and at each moment of it
-- a stop leaves the committed tables before or after.
abbrev pub Made : EngineView → EngineView → Call → Reply → Type 0
Made old new call reply =
    old.is_up → IsTold old.disk → (state : State) → old.shows state
    → LeadsTo new.shows old.disk new.disk state call (Ok reply)
