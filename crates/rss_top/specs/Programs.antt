-- What the program does, by the words of its command line.
use Rattle.std.specs.Prelude.{◌≡◌, ◌⊎◌, ℕ, ◌<◌, List, [], length, Option, Some}
use Rattle.rss_base.specs.DiskRule.{Pages, Told, IsTold, Leaves, Passes}
use Rattle.rss_base.specs.Faults.{Rises}
use Rattle.rss_base.specs.declared.place.Place.{Place}
use Rattle.rss_base.specs.declared.place.Place.TheVariants.{Room, Log as LogPlace}
use Rattle.rss_lines.specs.Lines.{script_limit}
use Rattle.rss_model.specs.Tables.{Tables}
use Rattle.rss_model.specs.Generator.{generated}
use Rattle.rss_model.specs.Machine.{StoreSize, State, IsAtRest}
use Rattle.rss_model.specs.ReplyText.{not_a_store_line, damaged_line}
use Rattle.rss_model.specs.Script.{joined}
use Rattle.rss_stored.specs.Store.{OpensTo, IsOverfull, IsNoStore}
use Rattle.rss_check.specs.Refused.{IsFoundAt, IsEarlyPlace}
use Rattle.rss_store.specs.Formatted.{AreSizes}
use Rattle.rss_store.specs.Opening.{HasTables, IsSpent, HasNamed}
use Rattle.rss_words.specs.Words.{AreOnFile, AreFormat, AreGenerate, AreTrial, IsCommand}
use Rattle.rss_base.specs.Streams.{Stream}
use Rattle.rss_top.specs.Manners.{Manner}
use Rattle.rss_words.specs.declared.task.Task.TheVariants.{Run, Talk}
use Rattle.rss_top.specs.Tellings.{told_by, plainly, talking}
use Rattle.rss_top.specs.Run.{World, IsTaken, IsRun}
use Rattle.rss_top.specs.Lines.{IsScriptEnd}
use Rattle.rss_top.specs.Says.{Says, TellsDamage}
use Rattle.rss_top.specs.Format.{IsFormat}
use Rattle.rss_top.specs.Generated.{IsGenerated}
use Rattle.rss_top.specs.Trial.{TellsTrial}
use Rattle.rss_top.specs.declared.status.Status.{Status}
use Rattle.rss_top.specs.declared.status.Status.TheVariants.{Ok, Words, DeviceFault, NotAStore, Damaged, NoMemory, WrongSize}

-- ---- a device that is refused

-- the script isn't read, nothing is written to the device, and a stop leaves what it could before
pub record IsLeftAlone (old new : World) (source_old source_new : Stream) : Type 0 where
  pub unread : source_new ≡ source_old
  pub writes : new.writes ≡ old.writes
  pub moments : IsTold old.disk → Passes old.disk new.disk (Leaves old.disk)

-- the line that is written with a refusal
abbrev pub refusal_line : Status → List ℕ
refusal_line (NotAStore place) = not_a_store_line place
refusal_line (Damaged place) = damaged_line place
refusal_line status = []

-- The line of a refusal, or its front where the sink failed, and nothing where the device failed or
-- memory ran out.
pub data IsRefusal (refused status : Status) (old new : World) : Type 0 where
  says : Says refused (refusal_line refused) status old.sink new.sink
      → IsRefusal refused status old new
  fails : status ≡ DeviceFault → new.sink.bytes ≡ old.sink.bytes
      → IsRefusal refused status old new

-- the device was refused with this status, or the run failed before it could be
pub record IsRefused (refused status : Status) (old new : World) (source_old source_new : Stream)
    : Type 0 where
  pub alone : IsLeftAlone old new source_old source_new
  pub refusal : IsRefusal refused status old new

-- the device was refused at some place, or the run failed before it could be
pub record IsRefusedSomewhere (status : Status) (old new : World) (source_old source_new : Stream)
    : Type 0 where
  pub place : Place
  pub refused : IsRefused (NotAStore place) status old new source_old source_new
      ⊎ IsRefused (Damaged place) status old new source_old source_new

-- ---- a script, run over a device

-- One run, from a state of the machine that begins so.
pub record IsRunFrom (manner : Manner) (Begins : State → Type 0) (status : Status)
    (old new : World) (left_old left_new : Option (List ℕ)) : Type 0 where
  pub first : State
  pub begins : Begins first
  pub run : IsRun manner status first old new left_old left_new

-- The opening called these pages damaged, at a place of their log or of too many pages: they are no
-- store, and their map leaves no room where that is told. The script isn't read.
-- Of too many pages the device is left alone. At a position of the log each stop leaves all that the
-- selected root names.
pub record IsTurnedAway (place : Place) (pages : Pages) (old new : World)
    (source_old source_new : Stream) : Type 0 where
  pub why : IsNoStore pages
  pub late : IsEarlyPlace place → ⊥
  pub over : place ≡ Room → IsOverfull pages
  pub unread : source_new ≡ source_old
  pub alone : place ≡ Room → IsLeftAlone old new source_old source_new
  pub keeps : (position : ℕ) → place ≡ LogPlace position
      → Passes old.disk new.disk (λ image. Leaves old.disk image ⊎ HasNamed pages image)

-- A line found the damage: the pages are no store, though the opening found them so at no place.
pub record IsFoundDamaged (pages : Pages) : Type 0 where
  pub none : IsNoStore pages
  pub unbroken : (place : Place) → IsFoundAt pages place → ⊥
  pub not_overfull : IsOverfull pages → ⊥

-- The cause of a status. The device is refused by the first place at which it is found to be no store,
-- and only pages that are no store are called damaged.
abbrev pub IsRunEnd : World → World → Stream → Stream → Status → Type 0
IsRunEnd old new source_old source_new (NotAStore place) =
    Told old.disk (λ pages. IsFoundAt pages place)
    × IsRefused (NotAStore place) (NotAStore place) old new source_old source_new
IsRunEnd old new source_old source_new (Damaged place) =
    Told old.disk (λ pages.
    IsTurnedAway place pages old new source_old source_new ⊎ IsFoundDamaged pages)
IsRunEnd old new source_old source_new status =
    IsScriptEnd old new source_old source_new status

-- no count of faults rises
pub record IsFaultless (old new : World) (source_old source_new : Stream) : Type 0 where
  pub source : Rises source_old.faults source_new.faults → ⊥
  pub sink : Rises old.sink.faults new.sink.faults → ⊥
  pub device : Rises old.faults new.faults → ⊥

pub record IsScriptRun (manner : Manner) (status : Status) (old new : World)
    (source_old source_new : Stream) : Type 0 where
  -- Over a store of these tables: a run of the machine from these tables with nothing open.
  pub run : (size : StoreSize) (tables : Tables)
      → Told old.disk (λ pages. OpensTo pages size tables
      → IsRunFrom manner (IsAtRest size tables) status old new source_old.bytes source_new.bytes)
  -- Where nothing fails, the script is run to its end, or memory ran out.
  pub complete : (size : StoreSize) (tables : Tables)
      → Told old.disk (λ pages. OpensTo pages size tables
      → (script : List ℕ) → source_old.bytes ≡ Some script → length script < script_limit
      → IsFaultless old new source_old source_new
      → (status ≡ Ok) ⊎ (status ≡ NoMemory))
  -- Pages that are no store, by the lines of a check up to the links.
  pub broken : (place : Place) → Told old.disk (λ pages. IsFoundAt pages place
      → IsRefused (NotAStore place) status old new source_old source_new ⊎ IsOverfull pages)
  -- A map of more pages than half the slots.
  pub overfull : Told old.disk (λ pages. IsOverfull pages
      → IsRefused (Damaged Room) status old new source_old source_new)
  -- Pages that spell no tables.
  pub no_tables : Told old.disk (λ pages. (HasTables pages → ⊥)
      → IsRefusedSomewhere status old new source_old source_new)
  -- A log whose positions are used up.
  pub spent : Told old.disk (λ pages. IsSpent pages → IsLeftAlone old new source_old source_new)
  pub cause : IsRunEnd old new source_old source_new status
  -- Whatever the device tells.
  pub taken : IsTaken status source_old.bytes source_new.bytes
  pub tells : TellsDamage status old.sink new.sink

-- ---- a trial: a generated script, run and counted

-- the world, with another sink
abbrev pub with_sink : World → Stream → World
with_sink world sink = record world { sink = sink }

-- The script of this number and so many employees was run over the device as any other, from a source
-- that tells it to a sink that tells the replies. In place of the replies their tally was written.
pub record IsTrial (number count : ℕ) (status : Status) (old new : World) : Type 0 where
  pub source_old : Stream
  pub source_new : Stream
  pub sink_old : Stream
  pub sink_new : Stream
  pub script : source_old.bytes ≡ Some (joined (generated number count))
  pub none : sink_old.bytes ≡ Some []
  pub replies : List ℕ
  pub kept : sink_new.bytes ≡ Some replies
  pub ran : Status
  pub runs : IsScriptRun (told_by plainly) ran (with_sink old sink_old) (with_sink new sink_new)
      source_old source_new
  pub tells : TellsTrial ran replies status old.sink new.sink
  -- Over a store where nothing fails, all is run and counted, or memory ran out.
  pub complete : (size : StoreSize) (tables : Tables)
      → Told old.disk (λ pages. OpensTo pages size tables
      → (Rises old.sink.faults new.sink.faults → ⊥) → (Rises old.faults new.faults → ⊥)
      → (status ≡ Ok) ⊎ (status ≡ NoMemory))

-- ---- words that memory ran out for

-- By the status: they ask for no size that a store can't have, or they do.
abbrev pub IsUnread : List (List ℕ) → Status → Type 0
IsUnread words NoMemory =
    (slots log_pages : ℕ) → AreFormat words slots log_pages → AreSizes slots log_pages
IsUnread words WrongSize =
    (slots : ℕ) × (log_pages : ℕ) × AreFormat words slots log_pages
    × (AreSizes slots log_pages → ⊥)
IsUnread words status = ⊥

-- ---- the program

pub data IsProgram (words : List (List ℕ)) (status : Status) (old new : World)
    (source_old source_new : Stream) : Type 0 where
  runs : AreOnFile Run words → IsScriptRun (told_by plainly) status old new source_old source_new
      → IsProgram words status old new source_old source_new
  talks : AreOnFile Talk words → IsScriptRun (told_by talking) status old new source_old source_new
      → IsProgram words status old new source_old source_new
  formats : {slots log_pages : ℕ} → AreFormat words slots log_pages
      → IsFormat slots log_pages status old new
      → IsProgram words status old new source_old source_new
  generates : {number count : ℕ} → AreGenerate words number count
      → IsGenerated number count status old new source_old source_new
      → IsProgram words status old new source_old source_new
  tries : {number count : ℕ} → AreTrial words number count
      → IsTrial number count status old new → source_new ≡ source_old
      → IsProgram words status old new source_old source_new
  refuses : (IsCommand words → ⊥) → status ≡ Words → new.sink ≡ old.sink
      → IsProgram words status old new source_old source_new
