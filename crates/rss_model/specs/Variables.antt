-- Variables of a script, and what they stand for.
use Rattle.std.specs.Prelude.{ℕ, nat_eq, Bool, if◌then◌else◌, List, [], ◌∷◌, Option, Some, None}
use Rattle.std.specs.Cmp.Lexicographic.{pointwise}
use Rattle.rss_base.specs.declared.name.Name.{Name}
use Rattle.rss_base.specs.declared.tid.Tid.{Tid}

-- what a variable stands for: a tuple's identifier, or the number of a scan or of a save point
pub data Meaning : Type 0 where
  Identifier : Tid → Meaning
  Number : ℕ → Meaning

pub record Variable : Type 0 where
  pub name : Name
  pub meaning : Meaning

abbrev pub is_named : Name → Variable → Bool
is_named name variable = pointwise nat_eq name.bytes variable.name.bytes

-- what the variable of this name stands for, if it was set
abbrev pub meaning_of : List Variable → Name → Option Meaning
meaning_of [] name = None
meaning_of (variable ∷ variables) name =
    if is_named name variable then Some variable.meaning else meaning_of variables name

-- The variable of this name stands for that from now on. Each variable is in the list once.
abbrev pub with_meaning : List Variable → Name → Meaning → List Variable
with_meaning [] name meaning = record { name = name; meaning = meaning } ∷ []
with_meaning (variable ∷ variables) name meaning =
    if is_named name variable then record variable { meaning = meaning } ∷ variables
    else variable ∷ with_meaning variables name meaning
