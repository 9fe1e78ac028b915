-- What the methods of the reader do. They see it as the bytes that are left.
use Rattle.std.specs.Prelude.{◌≡◌, ◌≢◌, ℕ, ℤ, Bool, true, false, not, ◌==◌, List, [], ◌∷◌, ◌++◌, All, Option, Some, None, IfSome, Result, Ok, Err, IfOk, IsErrOf, ⊤, ◌<◌, length, get_or, pos, decimal}
use Rattle.std.specs.Result.{MatchResult}
use Rattle.std.specs.Str.{IsAscii}
use Rattle.rss_base.specs.declared.value.Value.{Value}
use Rattle.rss_base.specs.declared.value.Value.TheVariants.{Int, Text, Undefined}
use Rattle.std.specs.Borrow.{Bor}
use Rattle.rss_base.specs.TupleTypes.{is_kind}
use Rattle.rss_base.specs.declared.value.FieldKind.{FieldKind}
use Rattle.rss_model.specs.Spellings.{space, quote, doubled, field_kind_text}
use Rattle.rss_model.specs.Script.{AreSpaces, IsApart, Begins, HasWords, IsTransaction, IsNameWord, IsValue}
use Rattle.rss_model.specs.Forms.{Row, OneOf, comment_mark}
use Rattle.rss_line.specs.declared.items.Target.{Target}
use Rattle.rss_line.specs.declared.fault.LineFault.{LineFault}
use Rattle.rss_line.specs.declared.fault.LineFault.TheVariants.{Words, NoMemory}

abbrev pub is_space : ℕ → Bool
is_space b = b == space

-- memory doesn't run out
abbrev pub NeedsNoMemory : {T : Type 0} → Result T LineFault → Type 0
NeedsNoMemory result = IsErrOf result NoMemory → ⊥

-- ---- the front of a line

-- nothing, or what begins with another byte than this one
abbrev pub IsOff : ℕ → List ℕ → Type 0
IsOff byte [] = ⊤
IsOff byte (b ∷ bytes) = b ≢ byte

-- the end of a line, or the front of a comment
abbrev pub IsOver : List ℕ → Type 0
IsOver [] = ⊤
IsOver (b ∷ bytes) = b ≡ comment_mark

-- spaces are skipped, up to what is no space
pub record Skips (old new : List ℕ) : Type 0 where
  pub spaces : List ℕ
  pub before : AreSpaces spaces
  pub parts : old ≡ spaces ++ new
  pub off : IsOff space new

-- no spaces
abbrev pub IsBare : List ℕ → Type 0
IsBare bytes = All (λ b. b ≢ space) bytes

-- the bytes up to a space are read
pub record ReadsFront (old word new : List ℕ) : Type 0 where
  pub parts : old ≡ word ++ new
  pub bare : IsBare word
  pub apart : IsApart new

-- ---- a word

-- a word that needs no quotes
pub record IsPlain (word : List ℕ) : Type 0 where
  pub some : word ≢ []
  pub bare : IsBare word
  pub ascii : IsAscii word

-- the next word is read, where it is such a word
pub record ReadsPlain (old new : List ℕ) (result : Result (Bor (List ℕ)) LineFault) : Type 0 where
  pub ok : IfOk result (λ x. Begins old x.now new)
  pub all : (word rest : List ℕ) → Begins old word rest → IsPlain word
      → MatchResult result (λ x. (x.now ≡ word) × (new ≡ rest)) (λ e. ⊥)

-- what it stands for is answered, and nothing else
pub record ReadsAs {T : Type 0} (Is : T → Type 0) (result : Option T) : Type 0 where
  pub some : IfSome result Is
  pub all : (x : T) → Is x → result ≡ Some x

-- this word, and no other
abbrev pub IsThe : List ℕ → List ℕ → Unit {0} → Type 0
IsThe expected word done = word ≡ expected

abbrev pub IsInt : List ℕ → ℤ → Type 0
IsInt word z = IsValue word (Int z)

-- a value without quotes
abbrev pub IsPlainValue : List ℕ → Value → Type 0
IsPlainValue word (Int z) = IsInt word z
IsPlainValue word (Text bytes) = ⊥
IsPlainValue word Undefined = IsValue word Undefined

-- the sign of a number below zero
abbrev pub minus : ℕ
minus = 45

-- what stands behind that sign, if it is there
abbrev pub IsBehindMinus : List ℕ → Option (Bor (List ℕ)) → Type 0
IsBehindMinus word (Some digits) = word ≡ minus ∷ digits.now
IsBehindMinus word None = IsOff minus word

-- a number from zero on
abbrev pub IsFromZero : List ℕ → ℤ → Type 0
IsFromZero word z = (n : ℕ) × (z ≡ pos n) × IsInt word z

-- some digits, with no zero before others
abbrev pub HasOneSpelling : List ℕ → Type 0
HasOneSpelling digits = (0 < length digits) × (get_or digits 0 0 ≡ 48 → length digits ≡ 1)

-- a number without leading zeros, below a limit
abbrev pub IsBelow : ℕ → List ℕ → ℕ → Type 0
IsBelow limit word n = (word ≡ decimal n) × (n < limit)

-- the kind of a field
pub record IsKind (word : List ℕ) (kind : FieldKind) : Type 0 where
  pub spelled : word ≡ field_kind_text kind
  pub allowed : is_kind kind ≡ true

-- What is read is x, and P holds; or memory ran out.
abbrev pub Gives : {T : Type 0} → T → Type 0 → Result T LineFault → Type 0
Gives x P (Ok y) = (y ≡ x) × P
Gives x P (Err fault) = fault ≡ NoMemory

-- the next word is read as what it stands for
pub record ReadsWord {T : Type 0} (Is : List ℕ → T → Type 0) (old new : List ℕ)
    (result : Result T LineFault) : Type 0 where
  pub ok : IfOk result (λ x. (word : List ℕ) × Begins old word new × Is word x)
  pub all : (word rest : List ℕ) (x : T) → Begins old word rest → Is word x
      → Gives x (new ≡ rest) result

-- the bytes begin with two words, which are a transaction and a name
pub record BeginsTarget (bytes : List ℕ) (target : Target) (rest : List ℕ) : Type 0 where
  pub first : List ℕ
  pub behind : List ℕ
  pub second : List ℕ
  pub begins : Begins bytes first behind
  pub transaction : IsTransaction first target.transaction
  pub then : Begins behind second rest
  pub name : IsNameWord second target.name

-- the next two words are read, where they are such words
pub record ReadsTarget (old new : List ℕ) (result : Result Target LineFault) : Type 0 where
  pub ok : IfOk result (λ target. BeginsTarget old target new)
  pub all : (target : Target) (rest : List ℕ) → BeginsTarget old target rest
      → Gives target (new ≡ rest) result

-- all words are read, where they are such words
pub record ReadsWords {T : Type 0} (Are : List (List ℕ) → T → Type 0) (old : List ℕ)
    (result : Result T LineFault) : Type 0 where
  pub ok : IfOk result (λ x. (words : List (List ℕ)) × HasWords old words × Are words x)
  pub all : (words : List (List ℕ)) (x : T) → HasWords old words → Are words x
      → Gives x ⊤ result

-- ---- a text

-- the quote before a text
abbrev pub ReadsQuote : List ℕ → List ℕ → Bool → Type 0
ReadsQuote old new true = old ≡ quote ∷ new
ReadsQuote old new false = (new ≡ old) × IsOff quote old

-- a byte of a text, or its closing quote; there are none where the line is over
abbrev pub ReadsByte : List ℕ → List ℕ → Result (Option ℕ) LineFault → Type 0
ReadsByte old new (Ok (Some b)) = old ≡ doubled (b ∷ []) ++ new
ReadsByte old new (Ok None) = (old ≡ quote ∷ new) × IsOff quote new
ReadsByte old new (Err Words) = old ≡ []
ReadsByte old new (Err NoMemory) = ⊥

-- no quote
abbrev pub is_unquoted : ℕ → Bool
is_unquoted b = not (b == quote)

-- a text that has no quote, and its closing quote; else nothing
abbrev pub ReadsUnquoted : List ℕ → List ℕ → Option (Bor (List ℕ)) → Type 0
ReadsUnquoted old new (Some text) = (old ≡ text.now ++ quote ∷ new) × IsOff quote new × (doubled text.now ≡ text.now)
ReadsUnquoted old new None = new ≡ old

-- a text and its closing quote; there is none where the line is over before
abbrev pub ReadsText : List ℕ → List ℕ → Result (List ℕ) LineFault → Type 0
ReadsText old new (Ok text) = (old ≡ doubled text ++ quote ∷ new) × IsOff quote new
ReadsText old new (Err Words) = (text : List ℕ) × (old ≡ doubled text)
ReadsText old new (Err NoMemory) = ⊤

-- how many bytes a text has before its closing quote; there is none where the line is over before
abbrev pub HasLength : List ℕ → Result ℕ LineFault → Type 0
HasLength bytes (Ok n) = (text : List ℕ) × (rest : List ℕ) × ReadsText bytes rest (Ok text) × (n ≡ length text)
HasLength bytes (Err fault) = ReadsText bytes [] (Err fault)

-- a text is skipped, and its closing quote
abbrev pub SkipsText : List ℕ → List ℕ → Result (Unit {0}) LineFault → Type 0
SkipsText old new (Ok done) = (text : List ℕ) × ReadsText old new (Ok text)
SkipsText old new (Err fault) = ReadsText old new (Err fault)

-- ---- a choice

-- behind this word, these words are one of the rows
abbrev pub Behind : {T : Type 0} → List (Row T) → List ℕ → List (List ℕ) → T → Type 0
Behind rows word words x = OneOf rows (word ∷ words) x
