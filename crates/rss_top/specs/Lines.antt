-- What the functions that run lines say, each of what it runs.
use Rattle.std.specs.Prelude.{◌≡◌, ℕ, ◌+◌, ◌*◌, ◌≤◌, Bool, true, false, List, length, Result, Ok, Err, ⊤}
use Rattle.rss_base.specs.DiskRule.{Disk, IsTold, Passes, Continues}
use Rattle.rss_base.specs.Devices.{DeviceView}
use Rattle.rss_base.specs.Faults.{Rises}
use Rattle.rss_base.specs.Streams.{Stream, Takes, TakesFront, TakesSome}
use Rattle.rss_base.specs.declared.call.Call.{Call}
use Rattle.rss_lines.specs.declared.unread.Unread.{Unread}
use Rattle.rss_lines.specs.declared.unread.Unread.TheVariants.{ReadFault as Fails, NoMemory as Lacks, TooLong as Exceeds}
use Rattle.rss_model.specs.Machine.{State}
use Rattle.rss_model.specs.Steps.{Answer}
use Rattle.rss_model.specs.Variables.{Variable}
use Rattle.rss_model.specs.Script.{line_limit}
use Rattle.rss_model.specs.Plays.{Scene, Made, LineStep}
use Rattle.rss_stored.specs.Calls.{States, EngineView, GoesOn, IsAnswer, IsFault, IsDamaged, IsUnanswered}
use Rattle.rss_top.specs.Heard.{made_of}
use Rattle.rss_top.specs.Manners.{Stand, Manner, Input, Line}
use Rattle.rss_top.specs.Tellings.{Telling, told_by, plainly}
use Rattle.rss_top.specs.Run.{World, Beginning, point_now, OpensAt, HoldsAt, OpensAtEither, ImagesNow, ByStop, IsTaken, Ended}
use Rattle.rss_top.specs.declared.heard.Heard.{Heard}
use Rattle.rss_top.specs.declared.status.Status.{Status}
use Rattle.rss_top.specs.declared.status.Status.TheVariants.{Ok as Done, ReadFault, TooLong, NoMemory}

-- ---- what there is to see

abbrev world_of : Disk → ℕ → ℕ → Stream → World
world_of disk writes faults sink = record { disk = disk; writes = writes; faults = faults; sink = sink }

-- a device and a sink
abbrev pub on : DeviceView → Stream → World
on device sink = world_of device.disk device.writes device.faults sink

-- the device under an engine, and a sink
abbrev pub world : EngineView → Stream → World
world engine sink = world_of engine.disk engine.writes engine.faults sink

-- What there is to see of what runs lines in some manner, and of a sink.
-- shows: the states of the machine that it may be in, where the device tells its contents.
-- memory: what is remembered of the lines. is_settled: no move is left that takes no line.
-- calls: how many calls its engine was asked for. owed: how many it may still be asked for on account
-- of lines that were taken.
pub record View (manner : Manner) : Type 1 where
  pub world : World
  pub shows : States
  pub memory : manner.Memory
  pub is_up : Type 0
  pub is_settled : Type 0
  pub calls : ℕ
  pub owed : ℕ

-- and of it alone
pub record DriverView (manner : Manner) : Type 1 where
  pub disk : Disk
  pub writes : ℕ
  pub faults : ℕ
  pub shows : States
  pub memory : manner.Memory
  pub is_up : Type 0
  pub is_settled : Type 0
  pub calls : ℕ
  pub owed : ℕ

abbrev pub seen : {manner : Manner} → DriverView manner → Stream → View manner
seen driver sink = record {
  world = world_of driver.disk driver.writes driver.faults sink;
  shows = driver.shows;
  memory = driver.memory;
  is_up = driver.is_up;
  is_settled = driver.is_settled;
  calls = driver.calls;
  owed = driver.owed;
}

-- an engine whose lines are told, with what their variables stand for, and what is remembered besides
abbrev pub told_over : (telling : Telling) → List Variable → telling.Memory → EngineView
    → DriverView (told_by telling)
told_over telling names memory engine = record {
  disk = engine.disk;
  writes = engine.writes;
  faults = engine.faults;
  shows = engine.shows;
  memory = record { names = names; memory = memory };
  is_up = engine.is_up;
  is_settled = ⊤;
  calls = engine.calls;
  owed = 0;
}

-- one whose lines get their replies
abbrev pub seen_with : List Variable → EngineView → Stream → View (told_by plainly)
seen_with names engine sink = seen (told_over plainly names tt engine) sink

-- the stand of a state
abbrev pub stand_in : {manner : Manner} → View manner → State → Stand manner.Memory
stand_in view state = record { state = state; memory = view.memory }

-- what is so whatever was run, and however it ended
pub record PassesOn (old new : World) : Type 0 where
  pub told : IsTold old.disk → IsTold new.disk
  pub history : IsTold old.disk → Continues old.disk new.disk
  pub device : old.faults ≤ new.faults
  pub sink : old.sink.faults ≤ new.sink.faults
  pub said : TakesSome old.sink.bytes new.sink.bytes

-- ---- a call

-- A call that an engine was asked for while it was up, by the answer or the status.
abbrev pub IsCallEnd : EngineView → EngineView → Call → Result Answer Status → Type 0
IsCallEnd old new call (Ok answer) = IsAnswer old new call answer
IsCallEnd old new call (Err status) =
    ByStop (IsFault old new call) ⊥ (IsUnanswered old new call) (IsDamaged old new) status

pub record IsAsked (old new : EngineView) (call : Call) (result : Result Answer Status)
    : Type 0 where
  pub goes : GoesOn old new call
  pub outcome : IsCallEnd old new call result

-- The cause of a status with which a line ends the run: it has no other. That damage is found from no
-- state that is shown, is said by how the run has stopped.
abbrev pub IsLineEnd : World → World → Status → Type 0
IsLineEnd old new status =
    ByStop (Rises old.faults new.faults) (Rises old.sink.faults new.sink.faults) ⊤ ⊤ status

-- ---- what a line got

-- From a state, the line is a step of the play that made this, and at each moment of it the pages open
-- to the committed tables before or after.
pub record StepDone (earlier later : Disk) (old : Scene) (line : List ℕ) (said : Made) (new : Scene)
    : Type 0 where
  pub step : LineStep old line said new
  pub moments : Passes earlier later (OpensAtEither old.state new.state)

-- it led to a state that is shown
pub record StepHeard (old new : EngineView) (names after : List Variable) (state : State)
    (line : List ℕ) (said : Made) : Type 0 where
  pub next : State
  pub shows : new.shows next
  pub done : StepDone old.disk new.disk (record { state = state; names = names }) line said
      (record { state = next; names = after })

-- the device failed within it
pub record StepFailed (old new : EngineView) (names : List Variable) (state : State)
    (line : List ℕ) : Type 0 where
  pub said : Made
  pub next : Scene
  pub done : StepDone old.disk new.disk (record { state = state; names = names }) line said next

-- The line got nothing, by the status: memory ran out before it changed a table, or the device failed.
abbrev pub IsUnheard : EngineView → EngineView → List Variable → State → List ℕ → Status → Type 0
IsUnheard old new names state line status =
    ByStop (StepFailed old new names state line) ⊥ (Passes old.disk new.disk (OpensAt state)) ⊥ status

-- by the result
abbrev pub HearsTo : EngineView → EngineView → List Variable → List Variable → List ℕ
    → Result Heard Status → Type 0
HearsTo old new names after line (Ok heard) =
    new.is_up × (length (made_of heard).text ≤ line_limit)
    × (IsTold old.disk → (state : State) → old.shows state
    → StepHeard old new names after state line (made_of heard))
HearsTo old new names after line (Err status) =
    ((sink : Stream) → IsLineEnd (world old sink) (world new sink) status)
    × (IsTold old.disk → (state : State) → old.shows state
    → IsUnheard old new names state line status)

-- A line was read and its call made, if it is one.
pub record Hears (old new : EngineView) (names after : List Variable) (line : List ℕ)
    (result : Result Heard Status) : Type 0 where
  pub told : IsTold old.disk → IsTold new.disk
  pub history : IsTold old.disk → Continues old.disk new.disk
  pub later : old.faults ≤ new.faults
  pub calls : new.calls ≤ old.calls + 1
  pub outcome : HearsTo old new names after line result

-- ---- a move

-- A move was made, and at each moment of it the pages open to the committed tables before or after.
pub record LineDone (manner : Manner) (earlier later : Disk) (old : Stand manner.Memory)
    (input : Input) (made : Made) (new : Stand manner.Memory) : Type 0 where
  pub move : manner.Move old input made new
  pub moments : Passes earlier later (OpensAtEither old.state new.state)

-- From a state, the move was made, and what is told of it was written.
pub record LineRan {manner : Manner} (old new : View manner) (state : State) (input : Input)
    : Type 0 where
  pub made : Made
  pub next : State
  pub shows : new.shows next
  pub done : LineDone manner old.world.disk new.world.disk (stand_in old state) input made
      (stand_in new next)
  pub opens : ImagesNow new.world.disk (HoldsAt next)
  pub takes : Takes old.world.sink.bytes made.text new.world.sink.bytes

-- the device failed within the move
pub record DeviceStopped {manner : Manner} (old new : View manner) (state : State)
    (input : Input) : Type 0 where
  pub made : Made
  pub next : Stand manner.Memory
  pub done : LineDone manner old.world.disk new.world.disk (stand_in old state) input made next
  pub same : new.world.sink.bytes ≡ old.world.sink.bytes

-- the move was made, and the front of what is told of it was written
pub record SinkStopped {manner : Manner} (old new : View manner) (state : State)
    (input : Input) : Type 0 where
  pub made : Made
  pub next : Stand manner.Memory
  pub done : LineDone manner old.world.disk new.world.disk (stand_in old state) input made next
  pub opens : ImagesNow new.world.disk (HoldsAt next.state)
  pub takes : TakesFront old.world.sink.bytes made.text new.world.sink.bytes

-- memory ran out in the move, and no table has changed
pub record MemoryStopped {manner : Manner} (old new : View manner) (state : State)
    : Type 0 where
  pub moments : Passes old.world.disk new.world.disk (OpensAt state)
  pub same : new.world.sink.bytes ≡ old.world.sink.bytes

-- the run ended within the move, by its status
abbrev pub LineStopped : {manner : Manner} → View manner → View manner → State → Input → Status
    → Type 0
LineStopped old new state input status = ByStop (DeviceStopped old new state input)
    (SinkStopped old new state input) (MemoryStopped old new state) ⊥ status

-- ---- how a function that runs lines ends

-- whatever state is shown
abbrev pub FromEach : {manner : Manner} → View manner → (State → Type 0) → Type 0
FromEach view P = (state : State) → view.shows state → P state

-- By its result: the engine is still up, and so it goes on; or the run has stopped with a status.
abbrev pub LineEnds : {manner : Manner} {T : Type 0} → View manner → View manner → Input
    → Result T Status → Type 0
LineEnds old new input (Ok done) =
    new.is_up × (IsTold old.world.disk → FromEach old (λ state. LineRan old new state input))
LineEnds old new input (Err status) =
    IsLineEnd old.world new.world status
    × (IsTold old.world.disk → FromEach old (λ state. LineStopped old new state input status))

-- A move was made. The engine is asked for one call at most.
pub record RunsMove {manner : Manner} {T : Type 0} (old new : View manner) (input : Input)
    (result : Result T Status) : Type 0 where
  pub passes : PassesOn old.world new.world
  pub calls : new.calls ≤ old.calls + 1
  pub outcome : LineEnds old new input result

-- a line was run
abbrev pub RunsLine : {manner : Manner} {T : Type 0} → View manner → View manner → List ℕ
    → Result T Status → Type 0
RunsLine old new line result = RunsMove old new (Line line) result

-- A move that takes this was made, if there was one.
abbrev pub MovesIf : {manner : Manner} → Input → View manner → View manner → Result Bool Status → Type 0
MovesIf input old new (Ok false) = ⊤
MovesIf input old new (Ok true) = RunsMove {T = Bool} old new input (Ok true)
MovesIf {manner = manner} input old new (Err status) =
    manner.Takes input × RunsMove {T = Bool} old new input (Err status)

-- A stop between two moves leaves the committed tables.
abbrev pub OpensBetween : {manner : Manner} → DriverView manner → Type 0
OpensBetween driver =
    driver.is_up → IsTold driver.disk → (state : State) → driver.shows state
    → ImagesNow driver.disk (HoldsAt state)

-- ---- a script

-- with what a run ends whose script is read no further
abbrev pub unread_status : Unread → Status
unread_status Fails = ReadFault
unread_status Lacks = NoMemory
unread_status Exceeds = TooLong

-- the cause of a status with which a script ends
abbrev pub IsScriptEnd : World → World → Stream → Stream → Status → Type 0
IsScriptEnd old new source_old source_new Done = ⊤
IsScriptEnd old new source_old source_new TooLong = ⊤
IsScriptEnd old new source_old source_new ReadFault = Rises source_old.faults source_new.faults
IsScriptEnd old new source_old source_new status = IsLineEnd old new status

-- where a run of an engine begins
abbrev pub beginning : (manner : Manner) → Stand manner.Memory → World → Stream → Beginning manner
beginning manner stand now source = record {
  point = point_now manner stand now.disk;
  left = source.bytes;
  written = now.sink.bytes;
}

-- A script was run over an engine, from whatever state is shown. The engine is up behind one that
-- was run to its end, and is asked for no more than so many calls for each byte.
pub record RunsScript {manner : Manner} (rate : ℕ) (old new : View manner)
    (source_old source_new : Stream) (status : Status) : Type 0 where
  pub passes : PassesOn old.world new.world
  pub cause : IsScriptEnd old.world new.world source_old source_new status
  pub taken : IsTaken status source_old.bytes source_new.bytes
  pub calls : new.calls ≤ old.calls + old.owed + rate * length taken.given
  pub up : status ≡ Done → new.is_up
  pub ended : IsTold old.world.disk → FromEach old (λ state.
      Ended status (beginning manner (stand_in old state) old.world source_old) new.world
      source_new.bytes)
