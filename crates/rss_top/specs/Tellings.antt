-- How what the lines of a script get is told: what is written of each.
use Rattle.std.specs.Prelude.{◌≡◌, ℕ, List, [], ◌∷◌, ◌++◌, ⊤}
use Rattle.rss_lines.specs.Lines.{line_end}
use Rattle.rss_model.specs.Variables.{Variable}
use Rattle.rss_model.specs.Plays.{Scene, Made, LineStep, Play}
use Rattle.rss_top.specs.Manners.{Stand, Manner, Input, Line, lines_in}

-- Memory: what is remembered of lines. start: that of none. after: that behind one more.
-- told: what is written of a line, which makes a turn and gets a reply.
-- Tells: what is written of lines with these replies.
pub record Telling : Type 1 where
  pub Memory : Type 0
  pub start : Memory
  pub after : Memory → Made → Memory
  pub told : Memory → List ℕ → Made → List ℕ
  pub Tells : List (List ℕ) → List ℕ → List ℕ → Type 0

-- What is written of lines is what is written of each, one after another.
pub record IsTelling (telling : Telling) : Type 0 where
  pub none : telling.Tells [] [] []
  pub more : (lines : List (List ℕ)) (replies text : List ℕ) (memory : telling.Memory)
      (line : List ℕ) (said : Made)
      → telling.Tells lines replies text
      → telling.Tells (lines ++ line ∷ []) (replies ++ said.text) (text ++ telling.told memory line said)

-- ---- the manner of a telling

-- what the variables stand for, and what is remembered besides
pub record Kept (Memory : Type 0) : Type 0 where
  pub names : List Variable
  pub memory : Memory

abbrev pub scene_of : {Memory : Type 0} → Stand (Kept Memory) → Scene
scene_of stand = record { state = stand.state; names = stand.memory.names }

-- A line is a step of the play, and this is written of it.
pub record ToldMove (telling : Telling) (old : Stand (Kept telling.Memory)) (line : List ℕ)
    (made : Made) (new : Stand (Kept telling.Memory)) : Type 0 where
  pub said : Made
  pub step : LineStep (scene_of old) line said (scene_of new)
  pub turns : made.turns ≡ said.turns
  pub text : made.text ≡ telling.told old.memory.memory line said
  pub memory : new.memory.memory ≡ telling.after old.memory.memory said

-- a move takes a line
abbrev pub IsLine : Input → Type 0
IsLine (Line line) = ⊤
IsLine input = ⊥

abbrev pub ToldInput : (telling : Telling) → Stand (Kept telling.Memory) → Input → Made
    → Stand (Kept telling.Memory) → Type 0
ToldInput telling old (Line line) made new = ToldMove telling old line made new
ToldInput telling old input made new = ⊥

-- Lines have a play, and this is written of it.
pub record ToldPlays (telling : Telling) (first : Stand (Kept telling.Memory))
    (lines : List (List ℕ)) (made : Made) (last : Stand (Kept telling.Memory)) : Type 0 where
  pub said : Made
  pub play : Play (scene_of first) lines said (scene_of last)
  pub turns : made.turns ≡ said.turns
  pub text : telling.Tells lines said.text made.text

abbrev pub told_by : Telling → Manner
told_by telling = record {
  Memory = Kept telling.Memory;
  start = record { names = []; memory = telling.start };
  Takes = IsLine;
  Move = ToldInput telling;
  Plays = λ first inputs made last. ToldPlays telling first (lines_in inputs) made last;
}

-- ---- as `run` tells: the replies

abbrev pub plainly : Telling
plainly = record {
  Memory = ⊤;
  start = tt;
  after = λ memory said. tt;
  told = λ memory line said. said.text;
  Tells = λ lines replies text. text ≡ replies;
}

-- ---- as `talk` tells: each line that isn't blank with its end, and then its reply

-- a line that is blank has no reply
abbrev pub echoed : List ℕ → List ℕ → List ℕ
echoed line [] = []
echoed line (b ∷ reply) = line ++ line_end ∷ b ∷ reply

-- these lines with their replies are told so
pub data Echoes : List (List ℕ) → List ℕ → List ℕ → Type 0 where
  none : Echoes [] [] []
  more : {lines : List (List ℕ)} {replies text : List ℕ} (line reply : List ℕ)
      → Echoes lines replies text
      → Echoes (lines ++ line ∷ []) (replies ++ reply) (text ++ echoed line reply)

abbrev pub talking : Telling
talking = record {
  Memory = ⊤;
  start = tt;
  after = λ memory said. tt;
  told = λ memory line said. echoed line said.text;
  Tells = Echoes;
}
