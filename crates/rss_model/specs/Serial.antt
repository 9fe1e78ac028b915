-- Serial runs: the transactions that ended, one after another in the order of their ends.
use Rattle.std.specs.Prelude.{◌≡◌, ℕ, ◌==◌, Bool, true, false, if◌then◌else◌, List, [], ◌∷◌, ◌++◌, reverse, map, Option, Some, None, Ok, Err}
use Rattle.rss_base.specs.declared.call.Call.{Call}
use Rattle.rss_base.specs.declared.call.Call.TheVariants.{End, Abort}
use Rattle.rss_base.specs.declared.refusal.Refusal.{Refusal}
use Rattle.rss_base.specs.declared.refusal.Refusal.TheVariants.{TooMany, Limit, Busy, Full, LogFull, NoTransaction}
use Rattle.rss_model.specs.Tables.{Tables}
use Rattle.rss_model.specs.Fits.{Fits}
use Rattle.rss_model.specs.Machine.{StoreSize, State, IsIdle}
use Rattle.rss_model.specs.Callers.{caller, is_definition}
use Rattle.rss_model.specs.Steps.{Answer, StepBy, first_of, tests}
use Rattle.rss_model.specs.Runs.{Turn, Run}

-- ---- a machine without the refusals that hang on others

-- too many transactions, a limit, an item that another holds, no room, or no room in the log
abbrev pub is_of_others : Refusal → Bool
is_of_others TooMany = true
is_of_others (Limit limit) = true
is_of_others (Busy item holder) = true
is_of_others (Full slots needed) = true
is_of_others (LogFull free needed) = true
is_of_others why = false

abbrev pub but_of_others : Option Refusal → Option Refusal
but_of_others None = None
but_of_others (Some why) = if is_of_others why then None else Some why

-- the first of the other refusals that applies
abbrev pub lone_refusal : State → Call → Option Refusal
lone_refusal state call = first_of (map but_of_others (tests state call))

abbrev pub LoneStep : State → Call → Answer → State → Type 0
LoneStep = StepBy lone_refusal

pub data SerialRun (start : State) : List Turn → State → Type 0 where
  stays : SerialRun start [] start
  turns : {made : List Turn} {state : State} {new : State} (turn : Turn) → SerialRun start made state
      → LoneStep state turn.call turn.answer new → SerialRun start (made ++ turn ∷ []) new

-- ---- which turns are kept, and in which order

-- What a turn is: the end of its transaction, one that throws it away, a call of a transaction that is kept if it ends, a definition, or none of these.
pub data Part : Type 0 where
  Ends : Part
  Goes : Part
  Stays : Part
  Defines : Part
  Nothing : Part

abbrev pub part_of_call : Call → Part
part_of_call (End t) = Ends
part_of_call (Abort t) = Goes
part_of_call call = if is_definition call then Defines else Stays

-- a call that was refused changes no transaction's end
abbrev pub part_of_refused : Call → Refusal → Part
part_of_refused call NoTransaction = Nothing
part_of_refused call why = if is_definition call then Nothing else (if is_of_others why then Nothing else Stays)

abbrev pub part_of : Call → Answer → Part
part_of call (Ok reply) = part_of_call call
part_of call (Err why) = part_of_refused call why

abbrev pub is_turn_of : ℕ → Turn → Bool
is_turn_of t turn = is_number (caller turn.call)
  where
    is_number : Option ℕ → Bool
    is_number None = false
    is_number (Some u) = u == t

-- Of turns with the newest first: the calls of a transaction since it began. What follows an end or an abort of its is no longer of that stretch.
abbrev pub stretch_from : Part → Turn → List Turn → List Turn
stretch_from Ends turn older = []
stretch_from Goes turn older = []
stretch_from Stays turn older = turn ∷ older
stretch_from Defines turn older = older
stretch_from Nothing turn older = older

abbrev pub stretch : ℕ → List Turn → List Turn
stretch t [] = []
stretch t (turn ∷ older) =
    if is_turn_of t turn then stretch_from (part_of turn.call turn.answer) turn (stretch t older)
    else stretch t older

abbrev pub stretch_of : Option ℕ → List Turn → List Turn
stretch_of None older = []
stretch_of (Some t) older = stretch t older

-- the turns that are kept, the newest first: where a transaction ends its calls come together, and a definition stands at its place
abbrev pub kept_from : Part → Turn → List Turn → List Turn → List Turn
kept_from Ends turn own kept = turn ∷ (own ++ kept)
kept_from Goes turn own kept = kept
kept_from Stays turn own kept = kept
kept_from Defines turn own kept = turn ∷ kept
kept_from Nothing turn own kept = kept

abbrev pub kept_turns : List Turn → List Turn
kept_turns [] = []
kept_turns (turn ∷ older) =
    kept_from (part_of turn.call turn.answer) turn (stretch_of (caller turn.call) older) (kept_turns older)

-- the turns of a run in the order of the ends, the oldest first
abbrev pub serial : List Turn → List Turn
serial made = reverse (kept_turns (reverse made))

-- ---- the law

-- some run of these turns commits these tables
pub record RunsSerially (start : State) (turns : List Turn) (base : Tables) : Type 0 where
  pub last : State
  pub run : SerialRun start turns last
  pub committed : last.base ≡ base

-- from where nothing is open, a run commits what its transactions commit one after another, with the replies that they got
abbrev pub IsSerial : Type 0
IsSerial = (size : StoreSize) (tables : Tables) (start last : State) (made : List Turn)
    → IsIdle size tables start → Fits size.slots tables → Run start made last
    → RunsSerially start (serial made) last.base
