-- Reading a script: its lines, their words, and what a word stands for.
use Rattle.std.specs.Prelude.{◌≡◌, ◌≢◌, ◌⊎◌, ℕ, ◌^◌, ◌<◌, ◌≤◌, Bool, true, false, List, [], ◌∷◌, ◌++◌, length, All, Some, codes, decimal, FitsSigned, ⊤}
use Rattle.std.specs.Int.{w64}
use Rattle.rss_base.specs.Sizes.{page_entries, slots_most}
use Rattle.rss_base.specs.TupleTypes.{most_fields, is_kind}
use Rattle.rss_base.specs.declared.name.Name.{Name}
use Rattle.rss_base.specs.declared.tid.Tid.{Tid}
use Rattle.rss_base.specs.declared.value.Value.{Value}
use Rattle.rss_base.specs.declared.value.Value.TheVariants.{Int, Text, Undefined}
use Rattle.rss_base.specs.declared.field.FieldDef.{FieldDef}
use Rattle.rss_base.specs.Names.{IsName}
use Rattle.rss_model.specs.Spellings.{space, name_text, tid_text, value_text, field_text}
use Rattle.rss_model.specs.Variables.{Meaning, Identifier, Number, Variable, meaning_of}

-- ---- lines

-- the lines, each with its end
abbrev pub joined : List (List ℕ) → List ℕ
joined [] = []
joined (line ∷ lines) = line ++ 10 ∷ joined lines

-- no end of a line
abbrev pub IsUnbroken : List ℕ → Type 0
IsUnbroken bytes = All (λ b. b ≢ 10) bytes

-- the bytes are these lines, and then the front of a line
pub record Splits (bytes : List ℕ) (lines : List (List ℕ)) (left : List ℕ) : Type 0 where
  pub parts : bytes ≡ joined lines ++ left
  pub whole : All IsUnbroken lines
  pub front : IsUnbroken left

-- what stands behind the last end of a line is a line where it is not empty
abbrev pub last_line : List ℕ → List (List ℕ)
last_line [] = []
last_line (b ∷ bytes) = (b ∷ bytes) ∷ []

-- the lines of a script
pub record AreLines (bytes : List ℕ) (lines : List (List ℕ)) : Type 0 where
  pub ended : List (List ℕ)
  pub left : List ℕ
  pub splits : Splits bytes ended left
  pub all : lines ≡ ended ++ last_line left

-- at most so many bytes of a line
abbrev pub line_limit : ℕ
line_limit = 8192

-- ---- words

abbrev pub AreSpaces : List ℕ → Type 0
AreSpaces bytes = All (λ b. b ≡ space) bytes

-- what stands behind a word: a space, or nothing
abbrev pub IsApart : List ℕ → Type 0
IsApart [] = ⊤
IsApart (b ∷ bytes) = b ≡ space

-- The bytes begin with this word, and the rest stands behind it. Spaces may stand before it.
pub record Begins (bytes word rest : List ℕ) : Type 0 where
  pub spaces : List ℕ
  pub before : AreSpaces spaces
  pub parts : bytes ≡ spaces ++ (word ++ rest)
  pub apart : IsApart rest

-- The bytes are these words, with one or more spaces between two. Spaces may stand behind the last.
abbrev pub HasWords : List ℕ → List (List ℕ) → Type 0
HasWords bytes [] = AreSpaces bytes
HasWords bytes (word ∷ words) = (rest : List ℕ) × Begins bytes word rest × HasWords rest words

-- ---- what a word stands for

-- numbers of transactions, scans and save points lie below this one
abbrev pub number_limit : ℕ
number_limit = 2 ^ 32

-- the number of a transaction, without leading zeros
pub record IsTransaction (word : List ℕ) (t : ℕ) : Type 0 where
  pub spelled : word ≡ decimal t
  pub some : 1 ≤ t
  pub below : t < number_limit

-- the name of what is defined
pub record IsNameWord (word : List ℕ) (name : Name) : Type 0 where
  pub spelled : word ≡ name_text name
  pub is_name : IsName name

-- a number from 0 on, without leading zeros
pub record IsNumber (word : List ℕ) (n : ℕ) : Type 0 where
  pub spelled : word ≡ decimal n
  pub below : n < number_limit

-- an identifier: two numbers without leading zeros
pub record IsTid (word : List ℕ) (tid : Tid) : Type 0 where
  pub spelled : word ≡ tid_text tid
  pub page : tid.page < slots_most
  pub slot : tid.slot < page_entries

-- a variable: `$` and its name
pub record IsVariable (word : List ℕ) (name : Name) : Type 0 where
  pub spelled : word ≡ codes "$" ++ name_text name
  pub is_name : IsName name

-- a variable that stands for this
pub record IsSet (names : List Variable) (word : List ℕ) (meaning : Meaning) : Type 0 where
  pub name : Name
  pub is_variable : IsVariable word name
  pub means : meaning_of names name ≡ Some meaning

-- an identifier, or a variable that stands for one
abbrev pub IsTidIn : List Variable → List ℕ → Tid → Type 0
IsTidIn names word tid = IsTid word tid ⊎ IsSet names word (Identifier tid)

-- a number, or a variable that stands for one
abbrev pub IsNumberIn : List Variable → List ℕ → ℕ → Type 0
IsNumberIn names word n = IsNumber word n ⊎ IsSet names word (Number n)

-- how an item is locked: exclusively, or shared
abbrev pub mode_text : Bool → List ℕ
mode_text true = codes "exclusive"
mode_text false = codes "shared"

abbrev pub IsMode : List ℕ → Bool → Type 0
IsMode word exclusive = word ≡ mode_text exclusive

-- An INT has 64 signed bits. A TEXT may have any bytes: whether they are a text that fits its field
-- says the call.
abbrev pub IsProper : Value → Type 0
IsProper (Int z) = FitsSigned w64 z
IsProper (Text bytes) = ⊤
IsProper Undefined = ⊤

pub record IsValue (word : List ℕ) (value : Value) : Type 0 where
  pub spelled : word ≡ value_text value
  pub proper : IsProper value

-- an original field of a relation: its name and its kind
pub record IsField (word : List ℕ) (field : FieldDef) : Type 0 where
  pub spelled : word ≡ field_text field
  pub is_name : IsName field.name
  pub kind : is_kind field.kind ≡ true
  pub original : field.added ≡ false

-- each word stands for the item at its place
abbrev pub StandFor : {A : Type 0} → (List ℕ → A → Type 0) → List (List ℕ) → List A → Type 0
StandFor Is [] [] = ⊤
StandFor Is [] (item ∷ items) = ⊥
StandFor Is (word ∷ words) [] = ⊥
StandFor Is (word ∷ words) (item ∷ items) = Is word item × StandFor Is words items

abbrev pub AreValues : List (List ℕ) → List Value → Type 0
AreValues words values = StandFor IsValue words values

-- one name or more
pub record AreNames (words : List (List ℕ)) (names : List Name) : Type 0 where
  pub each : StandFor IsNameWord words names
  pub some : 1 ≤ length names

-- the fields of a relation, of which there is one, and no more than a relation may have
pub record AreFieldWords (words : List (List ℕ)) (fields : List FieldDef) : Type 0 where
  pub each : StandFor IsField words fields
  pub some : 1 ≤ length fields
  pub few : length fields ≤ most_fields
