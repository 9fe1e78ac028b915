-- A line is at most one call.
use Rattle.std.specs.Prelude.{◌≡◌, ℕ, List, Option}
use Rattle.rss_base.specs.declared.name.Name.{Name}
use Rattle.rss_base.specs.declared.call.Call.{Call}
use Rattle.rss_model.specs.Variables.{Variable}
use Rattle.rss_model.specs.Forms.{Spells}

-- under given variables a line spells one call at most, for one variable or for none
abbrev pub LinesSpellOnce : Type 0
LinesSpellOnce =
    (names : List Variable) (line : List ℕ) (one other : Option Name) (call same : Call)
    → Spells names line one call → Spells names line other same
    → (one ≡ other) × (call ≡ same)
