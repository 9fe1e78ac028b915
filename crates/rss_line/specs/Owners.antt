-- Whose call a line is, whatever its variables stand for.
use Rattle.std.specs.Prelude.{◌≡◌, ◌⊎◌, ℕ, List, [], ◌∷◌, Option, Some, codes}
use Rattle.rss_base.specs.declared.name.Name.{Name}
use Rattle.rss_base.specs.declared.tid.Tid.{Tid}
use Rattle.rss_base.specs.declared.value.Value.{Value}
use Rattle.rss_base.specs.declared.call.Call.{Call}
use Rattle.rss_model.specs.Callers.{caller}
use Rattle.rss_model.specs.Variables.{Variable}
use Rattle.rss_model.specs.Script.{IsTransaction, IsNameWord, IsNumber, IsTid, IsVariable, IsMode, IsValue, StandFor}
use Rattle.rss_model.specs.Forms.{Last, Word, Fixed, Rest, Either, Row, behind, OneOf, Spells}

-- under some variables the line is a call of this transaction
abbrev pub IsOwnedBy : ℕ → List ℕ → Type 0
IsOwnedBy t line =
    (names : List Variable) × (variable : Option Name) × (call : Call)
    × Spells names line variable call × (caller call ≡ Some t)

-- ---- words, whatever they stand for

-- an identifier, or any variable
abbrev pub IsAnyTid : List ℕ → Unit {0} → Type 0
IsAnyTid word done = ((tid : Tid) × IsTid word tid) ⊎ ((name : Name) × IsVariable word name)

-- a number, or any variable
abbrev pub IsAnyNumber : List ℕ → Unit {0} → Type 0
IsAnyNumber word done = ((n : ℕ) × IsNumber word n) ⊎ ((name : Name) × IsVariable word name)

abbrev pub IsAnyValue : List ℕ → Unit {0} → Type 0
IsAnyValue word done = (value : Value) × IsValue word value

abbrev pub AreAnyValues : List (List ℕ) → Unit {0} → Type 0
AreAnyValues words done = (values : List (Unit {0})) × StandFor IsAnyValue words values

-- ---- what stands behind a transaction

abbrev pub AnyNumbered : List (List ℕ) → Unit {0} → Type 0
AnyNumbered = Word IsAnyNumber (λ n. Last tt)

abbrev pub AnyNamed : List (List ℕ) → Unit {0} → Type 0
AnyNamed = Word IsNameWord (λ name. Last tt)

abbrev pub OnAnyTuple : List (List ℕ) → Unit {0} → Type 0
OnAnyTuple = Word IsNameWord (λ name. Word IsAnyTid (λ tid. Last tt))

abbrev pub AnyInsert : List (List ℕ) → Unit {0} → Type 0
AnyInsert = Word IsNameWord (λ name. AreAnyValues)

abbrev pub AnyUpdate : List (List ℕ) → Unit {0} → Type 0
AnyUpdate = Word IsNameWord (λ name. Word IsAnyTid (λ tid. AreAnyValues))

abbrev pub AnyAfter : List (List ℕ) → Unit {0} → Type 0
AnyAfter = Word IsAnyTid (λ tid. Last tt)

abbrev pub any_spots : List (Row (Unit {0}))
any_spots =
    behind (codes "first") (Last tt)
    ∷ behind (codes "last") (Last tt)
    ∷ behind (codes "after") AnyAfter
    ∷ []

abbrev pub AnyPlace : List (List ℕ) → Unit {0} → Type 0
AnyPlace = Either (OneOf any_spots) (Word IsAnyTid (λ parent. OneOf any_spots))

abbrev pub AnyConnect : List (List ℕ) → Unit {0} → Type 0
AnyConnect = Word IsNameWord (λ name. Word IsAnyTid (λ child. AnyPlace))

abbrev pub AnyImageScan : List (List ℕ) → Unit {0} → Type 0
AnyImageScan = Word IsNameWord (λ image. Either (Last tt) (Fixed (codes "from") AreAnyValues))

abbrev pub AnyLinkScan : List (List ℕ) → Unit {0} → Type 0
AnyLinkScan = Word IsNameWord (λ link. Either (Last tt) (Word IsAnyTid (λ parent. Last tt)))

abbrev pub any_scans : List (Row (Unit {0}))
any_scans =
    behind (codes "relation") AnyNamed
    ∷ behind (codes "image") AnyImageScan
    ∷ behind (codes "link") AnyLinkScan
    ∷ []

abbrev pub AnyLock : List (List ℕ) → Unit {0} → Type 0
AnyLock = Word IsNameWord (λ name. Word IsMode (λ exclusive. Last tt))

abbrev pub any_locks : List (Row (Unit {0}))
any_locks = behind (codes "segment") AnyLock ∷ behind (codes "relation") AnyLock ∷ []

-- by the first word of a call
unfoldable pub arguments : List (Row (Unit {0}))
arguments =
    behind (codes "begin") (Last tt)
    ∷ behind (codes "save") (Last tt)
    ∷ behind (codes "restore") AnyNumbered
    ∷ behind (codes "end") (Last tt)
    ∷ behind (codes "abort") (Last tt)
    ∷ behind (codes "insert") AnyInsert
    ∷ behind (codes "fetch") OnAnyTuple
    ∷ behind (codes "update") AnyUpdate
    ∷ behind (codes "delete") OnAnyTuple
    ∷ behind (codes "connect") AnyConnect
    ∷ behind (codes "disconnect") OnAnyTuple
    ∷ behind (codes "parent") OnAnyTuple
    ∷ behind (codes "open") (OneOf any_scans)
    ∷ behind (codes "next") AnyNumbered
    ∷ behind (codes "close") AnyNumbered
    ∷ behind (codes "lock") (OneOf any_locks)
    ∷ []

-- ---- lines

-- a transaction, and what may stand behind it
abbrev pub Owned : (List (List ℕ) → Unit {0} → Type 0) → List (List ℕ) → ℕ → Type 0
Owned Arguments = Word IsTransaction (λ t. Rest Arguments (λ done. t))

abbrev pub owned : List (Row (Unit {0})) → List (Row ℕ)
owned [] = []
owned (row ∷ rows) = behind row.word (Owned row.form) ∷ owned rows

-- the words are a call of this transaction
abbrev pub HasOwner : List (List ℕ) → ℕ → Type 0
HasOwner =
    Either (OneOf (owned arguments)) (Word IsVariable (λ name. Fixed (codes "=") (OneOf (owned arguments))))
