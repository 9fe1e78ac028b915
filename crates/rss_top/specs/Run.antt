-- One run over a script, tied to what a stop at each moment of it leaves.
use Rattle.std.specs.Prelude.{◌≡◌, ◌⊎◌, ℕ, ◌<◌, ◌≤◌, List, [], ◌∷◌, ◌++◌, length, Option, All}
use Rattle.rss_base.specs.DiskRule.{Disk, Pages, Told, Leaves, Passes}
use Rattle.rss_base.specs.Streams.{Stream, Gives, IsAllOf, Takes}
use Rattle.rss_base.specs.declared.place.Place.{Place}
use Rattle.rss_lines.specs.Lines.{line_end, script_limit}
use Rattle.rss_model.specs.Machine.{State}
use Rattle.rss_model.specs.Runs.{Run}
use Rattle.rss_model.specs.Serial.{serial, RunsSerially}
use Rattle.rss_model.specs.Script.{joined, IsUnbroken, Splits, AreLines}
use Rattle.rss_model.specs.Plays.{Made, nothing, both_made}
use Rattle.rss_stored.specs.LogLaws.{IsRested}
use Rattle.rss_stored.specs.Store.{Stored, IsStore, OpensTo, OpensIn, OpensToEither, HoldsState}
use Rattle.rss_store.specs.Opening.{IsSpent}
use Rattle.rss_top.specs.Manners.{Stand, Manner, Input, Line, Again, Over, lines_in, first_stand}
use Rattle.rss_top.specs.declared.status.Status.{Status}
use Rattle.rss_top.specs.declared.status.Status.TheVariants.{Ok, ReadFault, TooLong, WriteFault, DeviceFault, Damaged, NoMemory}

-- ---- what a run sees

-- What a run writes to: the device, how many of its pages were written and how often it failed, and
-- the sink.
pub record World : Type 1 where
  pub disk : Disk
  pub writes : ℕ
  pub faults : ℕ
  pub sink : Stream

-- where a run stands, and the moment of the device
pub record Point (manner : Manner) : Type 0 where
  pub stand : Stand manner.Memory
  pub moment : ℕ

abbrev pub point_now : (manner : Manner) → Stand manner.Memory → Disk → Point manner
point_now manner stand disk = record { stand = stand; moment = disk.moment }

-- where a run begins, with what the source and the sink then tell
pub record Beginning (manner : Manner) : Type 0 where
  pub point : Point manner
  pub left : Option (List ℕ)
  pub written : Option (List ℕ)

-- ---- the moves of a run

-- the pages open to a state's committed tables
abbrev pub OpensAt : State → Pages → Type 0
OpensAt state pages = OpensTo pages state.size state.base

-- and have the overflow pages that it counts, where it is as the last checkpoint left it
abbrev pub HoldsAt : State → Pages → Type 0
HoldsAt state pages = HoldsState pages state

-- They open to a state's committed tables, and it is that in which they are opened: at rest, with
-- their overflow pages, and with the positions of their log.
pub record BeginsAt (state : State) (pages : Pages) : Type 0 where
  pub opens : OpensAt state pages
  pub begins : OpensIn pages state.size state.base state

-- they open to the committed tables of one of two states
abbrev pub OpensAtEither : State → State → Pages → Type 0
OpensAtEither old new = OpensToEither old.size old.base new.base

-- each stop at a moment leaves pages that have P
abbrev pub ImagesAt : ℕ → Disk → (Pages → Type 0) → Type 0
ImagesAt moment disk P = (image : Pages) → disk.images moment image → P image

abbrev pub ImagesNow : Disk → (Pages → Type 0) → Type 0
ImagesNow disk = ImagesAt disk.moment disk

-- each stop after a moment and up to another leaves pages that have P
pub record Window (disk : Disk) (from until : ℕ) (P : Pages → Type 0) : Type 0 where
  pub later : from ≤ until
  pub each : (t : ℕ) (image : Pages) → from < t → t ≤ until → disk.images t image → P image

-- One move of a run. At its moments the pages open to the committed tables before or after it. At its
-- end they open to those after it alone; and where no change was made since the last checkpoint, and
-- none undone, the state counts their overflow pages.
pub record LineTurn {manner : Manner} (disk : Disk) (from : Point manner) (input : Input)
    (made : Made) (until : Point manner) : Type 0 where
  pub move : manner.Move from.stand input made until.stand
  pub moments : Window disk from.moment until.moment
      (OpensAtEither from.stand.state until.stand.state)
  pub after : ImagesAt until.moment disk (HoldsAt until.stand.state)

-- a run over moves
pub data Played {manner : Manner} (disk : Disk) (first : Point manner)
    : List Input → Made → Point manner → Type 0 where
  none : Played disk first [] nothing first
  more : {inputs : List Input} {made : Made} {from : Point manner}
      {input : Input} {said : Made} {until : Point manner}
      → Played disk first inputs made from → LineTurn disk from input said until
      → Played disk first (inputs ++ input ∷ []) (both_made made said) until

-- The run so far: the bytes given are the lines that were run, and then what is left of the next.
pub record Story {manner : Manner} (begin : Beginning manner) (now : World)
    (stand : Stand manner.Memory) (given left : List ℕ) : Type 0 where
  pub inputs : List Input
  pub made : Made
  pub played : Played now.disk begin.point inputs made (point_now manner stand now.disk)
  pub begun : begin.point.moment ≤ now.disk.moment
  pub splits : Splits given (lines_in inputs) left
  pub takes : Takes begin.written made.text now.sink.bytes
  pub opens : ImagesNow now.disk (HoldsAt stand.state)

-- ---- how a run ends

-- over all the lines of a script, as a run of the machine and the play of the moves
pub record Whole {manner : Manner} (begin : Beginning manner) (now : World) (given : List ℕ)
    : Type 0 where
  pub inputs : List Input
  pub made : Made
  pub last : Stand manner.Memory
  pub run : Run begin.point.stand.state made.turns last.state
  pub play : manner.Plays begin.point.stand inputs made last
  pub played : Played now.disk begin.point inputs made (point_now manner last now.disk)
  pub are_lines : AreLines given (lines_in inputs)
  pub takes : Takes begin.written made.text now.sink.bytes
  pub opens : ImagesNow now.disk (HoldsAt last.state)

-- between two lines
pub record Halted {manner : Manner} (begin : Beginning manner) (now : World) (given : List ℕ)
    : Type 0 where
  pub stand : Stand manner.Memory
  pub left : List ℕ
  pub story : Story begin now stand given left

-- By the status with which a move ends a run: what is so if the device failed, if the sink failed, if
-- memory ran out, and if damage was found. No move ends a run with another status.
abbrev pub ByStop : Type 0 → Type 0 → Type 0 → Type 0 → Status → Type 0
ByStop device sink memory damage DeviceFault = device
ByStop device sink memory damage WriteFault = sink
ByStop device sink memory damage NoMemory = memory
ByStop device sink memory damage (Damaged place) = damage
ByStop device sink memory damage status = ⊥

-- The device failed within the move. Nothing is written of it, and a stop leaves the committed tables
-- before or after the move, at each of its moments and at the end.
pub record FailedInLine {manner : Manner} (disk : Disk) (from : Point manner)
    (input : Input) (said : List ℕ) : Type 0 where
  pub made : Made
  pub next : Stand manner.Memory
  pub move : manner.Move from.stand input made next
  pub moments : Window disk from.moment disk.moment (OpensAtEither from.stand.state next.state)
  pub opens : ImagesNow disk (OpensAtEither from.stand.state next.state)
  pub silent : said ≡ []

-- The sink failed after the move was made, and has the front of what is written of it.
pub record FailedInReply {manner : Manner} (disk : Disk) (from : Point manner)
    (input : Input) (said : List ℕ) : Type 0 where
  pub made : Made
  pub next : Stand manner.Memory
  pub turn : LineTurn disk from input made (point_now manner next disk)
  pub unsaid : List ℕ
  pub reply : made.text ≡ said ++ unsaid

-- Memory ran out in the move, which has changed no table. Nothing is written of it.
pub record LackedMemory {manner : Manner} (disk : Disk) (from : Point manner) (said : List ℕ)
    : Type 0 where
  pub moments : Window disk from.moment disk.moment (OpensAt from.stand.state)
  pub opens : ImagesNow disk (OpensAt from.stand.state)
  pub silent : said ≡ []

-- within a move, by the status
abbrev pub IsStoppedBy : {manner : Manner} → Status → Disk → Point manner → Input → List ℕ
    → Type 0
IsStoppedBy status disk from input said = ByStop (FailedInLine disk from input said)
    (FailedInReply disk from input said) (LackedMemory disk from said) ⊥ status

-- the device or the sink failed
abbrev pub IsLineFault : Status → Type 0
IsLineFault status = (status ≡ DeviceFault) ⊎ (status ≡ WriteFault)

-- What comes behind a line: its end, or, where the script is over, nothing.
abbrev pub EndsLine : Type 0 → List ℕ → Type 0
EndsLine over [] = over
EndsLine over (b ∷ rest) = b ≡ line_end

-- The bytes given are the lines before, then this line or its front, and then the rest. over: all of
-- the script was given.
pub record IsInLine (status : Status) (given : List ℕ) (over : Type 0) (lines : List (List ℕ))
    (line : List ℕ) : Type 0 where
  pub rest : List ℕ
  pub parts : given ≡ joined lines ++ (line ++ rest)
  pub whole : All IsUnbroken lines
  pub front : IsUnbroken line
  pub ends : IsLineFault status → EndsLine over rest

-- The bytes given are lines, and then the rest; or they are all the lines of the script.
pub data IsBetween (given : List ℕ) (over : Type 0) (lines : List (List ℕ)) : Type 0 where
  some_taken : (rest : List ℕ) → given ≡ joined lines ++ rest → All IsUnbroken lines
      → IsBetween given over lines
  all_taken : AreLines given lines → over → IsBetween given over lines

-- where in a script a run ended, by the move within which it did
abbrev pub IsCutAt : Status → List ℕ → Type 0 → List (List ℕ) → Input → Type 0
IsCutAt status given over lines (Line line) = IsInLine status given over lines line
IsCutAt status given over lines Again = IsBetween given over lines
IsCutAt status given over lines Over = AreLines given lines × over

-- A run up to the move within which it ended, with what was written of it.
pub record Stopped {manner : Manner} (status : Status) (begin : Beginning manner) (now : World)
    (given : List ℕ) (over : Type 0) : Type 0 where
  pub inputs : List Input
  pub made : Made
  pub from : Point manner
  pub input : Input
  pub said : List ℕ
  pub may : manner.Takes input
  pub played : Played now.disk begin.point inputs made from
  pub cut : IsCutAt status given over (lines_in inputs) input
  pub takes : Takes begin.written (made.text ++ said) now.sink.bytes
  pub stopped : IsStoppedBy status now.disk from input said

-- the run ended between two lines, though the script did not
abbrev pub IsHalt : Status → Type 0
IsHalt status = (status ≡ ReadFault) ⊎ (status ≡ TooLong)

-- the run ended within a move
abbrev pub IsStop : Status → Type 0
IsStop status = (status ≡ WriteFault) ⊎ (status ≡ DeviceFault) ⊎ (status ≡ NoMemory)

-- the run read up to the script's end, or up to a fault of the source
abbrev pub IsReadThrough : Status → Type 0
IsReadThrough status = (status ≡ Ok) ⊎ (status ≡ ReadFault)

-- The bytes that a source gave to a run, by how the run ended.
pub record IsTaken (status : Status) (left_old left_new : Option (List ℕ)) : Type 0 where
  pub given : List ℕ
  pub gives : Gives left_old given left_new
  pub most : length given ≤ script_limit
  pub short : IsReadThrough status → length given < script_limit
  pub too_long : status ≡ TooLong → length given ≡ script_limit
  pub all : status ≡ Ok → IsAllOf left_old given

-- How a run ended: the bytes given, and what was run and written. None ends by damage.
pub record Ended {manner : Manner} (status : Status) (begin : Beginning manner) (now : World)
    (left : Option (List ℕ)) : Type 0 where
  pub taken : IsTaken status begin.left left
  pub whole : status ≡ Ok → Whole begin now taken.given
  pub halted : IsHalt status → Halted begin now taken.given
  pub stopped : IsStop status
      → Stopped status begin now taken.given (IsAllOf begin.left taken.given)
  pub undamaged : (place : Place) → status ≡ Damaged place → ⊥

-- What was run commits what its transactions commit one after another, in the order of their ends,
-- with the replies that they got.
abbrev pub CommitsSerially : {manner : Manner} → Beginning manner → Made → State → Type 0
CommitsSerially begin made last =
    RunsSerially begin.point.stand.state (serial made.turns) last.base

-- how a run ended, and that it was serial up to there
pub record EndedSerially {manner : Manner} (status : Status) (begin : Beginning manner)
    (now : World) (left : Option (List ℕ)) : Type 0 where
  pub ended : Ended status begin now left
  pub whole : (is : status ≡ Ok)
      → CommitsSerially begin (ended.whole is).made (ended.whole is).last.state
  pub halted : (is : IsHalt status)
      → CommitsSerially begin (ended.halted is).story.made (ended.halted is).stand.state
  pub stopped : (is : IsStop status)
      → CommitsSerially begin (ended.stopped is).made (ended.stopped is).from.stand.state

-- the opening ended the run
abbrev pub IsFailedOpening : Status → Type 0
IsFailedOpening status = (status ≡ DeviceFault) ⊎ (status ≡ NoMemory)

-- What a stop within the opening of a run may leave: what it could leave before, or pages that open to
-- the tables of the first state.
abbrev pub MayLeave : Disk → State → Pages → Type 0
MayLeave before first image = Leaves before image ⊎ OpensAt first image

-- One run over a store, from its first state.
pub data IsRun (manner : Manner) (status : Status) (first : State) (old new : World)
    (left_old left_new : Option (List ℕ)) : Type 0 where
  -- the opening failed: nothing of the script was read, and no reply was written
  unopened : IsFailedOpening status → Passes old.disk new.disk (MayLeave old.disk first)
      → left_new ≡ left_old → new.sink.bytes ≡ old.sink.bytes
      → IsRun manner status first old new left_old left_new
  -- The store was open from this moment on, in the first state, and the script was run. The positions
  -- of its log are not used up. One that was at rest was only read by then.
  opened : (at : ℕ) → Told old.disk (λ pages. IsSpent pages → ⊥)
      → Window new.disk old.disk.moment at (MayLeave old.disk first)
      → Told old.disk (λ pages. (stored : Stored) → IsStore pages stored → IsRested stored
      → Window new.disk old.disk.moment at (Leaves old.disk))
      → ImagesAt at new.disk (BeginsAt first)
      → EndedSerially {manner = manner} status
      (record {
        point = record { stand = first_stand manner first; moment = at };
        left = left_old;
        written = old.sink.bytes;
      })
      new left_new
      → IsRun manner status first old new left_old left_new
