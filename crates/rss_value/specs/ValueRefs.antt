-- What a borrowed value is.
use Rattle.std.specs.Prelude.{ℕ, Bool, true, false, List, [], ◌∷◌}
use Rattle.rss_base.specs.declared.value.Value.{Value}
use Rattle.rss_base.specs.declared.value.Value.TheVariants.{Int, Text, Undefined}
use Rattle.rss_value.specs.declared.value_ref.ValueRef.{ValueRef}
use Rattle.rss_value.specs.declared.value_ref.ValueRef.TheVariants.{Int as IntRef, Text as TextRef, Undefined as UndefinedRef}

-- the value that is borrowed
abbrev pub value_of : ValueRef → Value
value_of (IntRef z) = Int z
value_of (TextRef bytes) = Text bytes.now
value_of UndefinedRef = Undefined

-- the byte that stands before the value of an added field
abbrev pub mark_of : Value → ℕ
mark_of (Int z) = 1
mark_of (Text bytes) = 1
mark_of Undefined = 0

-- what stands before a value: this byte, where the field was added
abbrev pub mark_bytes : Bool → Value → List ℕ
mark_bytes false value = []
mark_bytes true value = mark_of value ∷ []
