-- What a call is refused for, but for the rules on room.
use Rattle.std.specs.Prelude.{Bool, true, false, if◌then◌else◌, Option, Some, None, map}
use Rattle.rss_base.specs.declared.call.Call.{Call}
use Rattle.rss_base.specs.declared.refusal.Refusal.{Refusal}
use Rattle.rss_base.specs.declared.refusal.Refusal.TheVariants.{Full, LogFull}
use Rattle.rss_model.specs.Machine.{State}
use Rattle.rss_model.specs.Refusals.{first_of, tests}

abbrev pub but : (Refusal → Bool) → Option Refusal → Option Refusal
but is_left_out None = None
but is_left_out (Some why) = if is_left_out why then None else Some why

-- the first of the refusals that aren't left out
abbrev pub refusal_but : (Refusal → Bool) → State → Call → Option Refusal
refusal_but is_left_out state call = first_of (map (but is_left_out) (tests state call))

-- no room, or no room in the log
abbrev pub is_of_room : Refusal → Bool
is_of_room (Full slots needed) = true
is_of_room (LogFull free needed) = true
is_of_room why = false

unfoldable pub judged : State → Call → Option Refusal
judged state call = refusal_but is_of_room state call
