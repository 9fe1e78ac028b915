-- Numbers of fields.
use Rattle.std.specs.Prelude.{ℕ, ◌≤◌, List, length}
use Rattle.rss_base.specs.declared.field.FieldDef.{FieldDef}

-- the number of one of these fields, counted from 1
abbrev pub IsNumberOf : List FieldDef → ℕ → Type 0
IsNumberOf fields number = (1 ≤ number) × (number ≤ length fields)
