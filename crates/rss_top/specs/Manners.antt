-- The manner in which a script is run: what its lines may do, in which order, and what is written of them.
use Rattle.std.specs.Prelude.{ℕ, ◌*◌, ◌≤◌, List, [], ◌∷◌, ◌++◌, length, take, max}
use Rattle.rss_lines.specs.Lines.{script_limit}
use Rattle.rss_model.specs.Machine.{State}
use Rattle.rss_model.specs.Runs.{Run}
use Rattle.rss_model.specs.Plays.{Made, nothing, both_made}

-- What a move of a run takes: the next line of the script; none, and the run goes on with lines that it
-- took before; or the script's end.
pub data Input : Type 0 where
  Line : List ℕ → Input
  Again : Input
  Over : Input

-- the lines among them
abbrev pub lines_in : List Input → List (List ℕ)
lines_in [] = []
lines_in (Line line ∷ inputs) = line ∷ lines_in inputs
lines_in (Again ∷ inputs) = lines_in inputs
lines_in (Over ∷ inputs) = lines_in inputs

-- Where a script stands: the machine's state, and what is remembered of its lines.
pub record Stand (Memory : Type 0) : Type 0 where
  pub state : State
  pub memory : Memory

-- Memory: what is remembered of lines. start: that of none.
-- Takes: there may be moves that take this.
-- Move: from a stand a move that takes this may make that, and lead to another stand.
-- Plays: moves that take these, one after another, may make that.
pub record Manner : Type 1 where
  pub Memory : Type 0
  pub start : Memory
  pub Takes : Input → Type 0
  pub Move : Stand Memory → Input → Made → Stand Memory → Type 0
  pub Plays : Stand Memory → List Input → Made → Stand Memory → Type 0

-- the stand of a state before any line
abbrev pub first_stand : (manner : Manner) → State → Stand manner.Memory
first_stand manner state = record { state = state; memory = manner.start }

-- Each line may be taken. Moves do what each of them does, and that is a run of the machine.
pub record IsSound (manner : Manner) : Type 0 where
  pub lines : (line : List ℕ) → manner.Takes (Line line)
  pub none : (first : Stand manner.Memory) → manner.Plays first [] nothing first
  pub more : (first from next : Stand manner.Memory) (inputs : List Input) (input : Input)
      (made said : Made)
      → manner.Plays first inputs made from → manner.Move from input said next
      → manner.Plays first (inputs ++ input ∷ []) (both_made made said) next
  pub run : (first last : Stand manner.Memory) (inputs : List Input) (made : Made)
      → manner.Plays first inputs made last → Run first.state made.turns last.state

-- What the first n bytes of a line of a script may do, the line may do.
pub record IsEnough (manner : Manner) (n : ℕ) : Type 0 where
  pub does : (from next : Stand manner.Memory) (line : List ℕ) (made : Made)
      → length line ≤ script_limit
      → manner.Move from (Line (take n line)) made next → manner.Move from (Line line) made next

-- the calls that a line of so many bytes may bring, by those for each byte
abbrev pub brought : ℕ → ℕ → ℕ
brought rate n = rate * max 1 n
