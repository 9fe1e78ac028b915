-- The words of the command line. The first is the program's own name.
use Rattle.std.specs.Prelude.{◌≡◌, ◌≢◌, ℕ, ◌^◌, ◌<◌, ◌≤◌, List, [], ◌∷◌, Option, Some, None, codes, decimal, ⊤}
use Rattle.rss_model.specs.Generator.{most_employees}
use Rattle.rss_words.specs.declared.command.Command.{Command}
use Rattle.rss_words.specs.declared.command.Command.TheVariants.{OnFile, Format, Generate, Trial}
use Rattle.rss_words.specs.declared.task.Task.{Task}
use Rattle.rss_words.specs.declared.task.Task.TheVariants.{Run, Talk}

abbrev pub hyphen : ℕ
hyphen = 45

-- A word that doesn't begin with a hyphen, as none may behind the first. Names of commands and
-- numbers never do.
abbrev pub IsPlain : List ℕ → Type 0
IsPlain [] = ⊤
IsPlain (b ∷ bytes) = b ≢ hyphen

abbrev pub task_name : Task → List ℕ
task_name Run = codes "run"
task_name Talk = codes "talk"

-- a task, by its name
pub record IsTask (word : List ℕ) : Type 0 where
  pub task : Task
  pub spelled : word ≡ task_name task

-- a task and a file
pub record AreOnFile (task : Task) (words : List (List ℕ)) : Type 0 where
  pub program : List ℕ
  pub file : List ℕ
  pub spelled : words ≡ program ∷ task_name task ∷ file ∷ []
  pub plain : IsPlain file

-- `format`, a file, and how many slots and how many log pages, in decimals without leading zeros
pub record AreFormat (words : List (List ℕ)) (slots log_pages : ℕ) : Type 0 where
  pub program : List ℕ
  pub file : List ℕ
  pub spelled : words
      ≡ program ∷ codes "format" ∷ file ∷ decimal slots ∷ decimal log_pages ∷ []
  pub plain : IsPlain file
  pub slots_fit : slots < 2 ^ 64
  pub log_pages_fit : log_pages < 2 ^ 64

-- `gen`, a number, and how many employees, in such decimals too
pub record AreGenerate (words : List (List ℕ)) (number count : ℕ) : Type 0 where
  pub program : List ℕ
  pub spelled : words ≡ program ∷ codes "gen" ∷ decimal number ∷ decimal count ∷ []
  pub number_fits : number < 2 ^ 64
  pub some : 1 ≤ count
  pub few : count ≤ most_employees

-- `trial`, a file, and the number and the count of a `gen`
pub record AreTrial (words : List (List ℕ)) (number count : ℕ) : Type 0 where
  pub program : List ℕ
  pub file : List ℕ
  pub spelled : words
      ≡ program ∷ codes "trial" ∷ file ∷ decimal number ∷ decimal count ∷ []
  pub plain : IsPlain file
  pub number_fits : number < 2 ^ 64
  pub some : 1 ≤ count
  pub few : count ≤ most_employees

-- a number
pub record IsNumber (word : List ℕ) : Type 0 where
  pub n : ℕ
  pub spelled : word ≡ decimal n
  pub fits : n < 2 ^ 64

-- how many employees
pub record IsCount (word : List ℕ) : Type 0 where
  pub n : ℕ
  pub spelled : word ≡ decimal n
  pub some : 1 ≤ n
  pub few : n ≤ most_employees

-- the words ask for this
abbrev pub AskFor : List (List ℕ) → Command → Type 0
AskFor words (OnFile task) = AreOnFile task words
AskFor words (Format slots log_pages) = AreFormat words slots log_pages
AskFor words (Generate number count) = AreGenerate words number count
AskFor words (Trial number count) = AreTrial words number count

-- they ask for something
pub record IsCommand (words : List (List ℕ)) : Type 0 where
  pub command : Command
  pub asked : AskFor words command

-- what they ask for, and nothing where they ask for nothing
abbrev pub Reads : List (List ℕ) → Option Command → Type 0
Reads words (Some command) = AskFor words command
Reads words None = IsCommand words → ⊥

-- ---- the file of a command

-- the file that they name
pub data IsFileOf (words : List (List ℕ)) (file : List ℕ) : Type 0 where
  on_file : {task : Task} → (are : AreOnFile task words) → file ≡ are.file → IsFileOf words file
  format : {slots log_pages : ℕ} → (are : AreFormat words slots log_pages) → file ≡ are.file
      → IsFileOf words file
  trial : {number count : ℕ} → (are : AreTrial words number count) → file ≡ are.file
      → IsFileOf words file
