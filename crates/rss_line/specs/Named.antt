-- The variables of a script, as contracts see them.
use Rattle.std.specs.Prelude.{ℕ, List, map}
use Rattle.rss_base.specs.declared.name.Name.{Name}
use Rattle.rss_model.specs.Variables.{Variable, Meaning, Identifier, Number}
use Rattle.rss_line.specs.declared.names.Meaning.{Meaning as Kept}
use Rattle.rss_line.specs.declared.names.Meaning.TheVariants.{Identifier as KeptIdentifier, Number as KeptNumber}

-- the variables, and for how many more there is room
pub record Named : Type 0 where
  pub variables : List Variable
  pub room : ℕ

abbrev pub meant : Kept → Meaning
meant (KeptIdentifier tid) = Identifier tid
meant (KeptNumber n) = Number n

abbrev pub variables : List (Name × Kept) → List Variable
variables entries = map (λ entry. record { name = entry.0; meaning = meant entry.1 }) entries
