-- One value read from the front of bytes.
use Rattle.std.specs.Prelude.{ℕ, ◌≡◌, ◌≢◌, ◌⊎◌, Bool, true, false, ℤ, FitsSigned, List, [], ◌∷◌, ◌++◌, Option, Some, IfSome}
use Rattle.std.specs.Option.{option_map}
use Rattle.std.specs.Int.{w64}
use Rattle.rss_base.specs.TupleTypes.{fits, IsStorable, int_bytes, value_bytes}
use Rattle.rss_base.specs.declared.value.Value.{Value}
use Rattle.rss_base.specs.declared.value.Value.TheVariants.{Int, Text, Undefined}
use Rattle.rss_base.specs.declared.value.FieldKind.{FieldKind}
use Rattle.rss_base.specs.declared.value.FieldForm.{FieldForm}
use Rattle.rss_value.specs.ValueRefs.{value_of}
use Rattle.rss_value.specs.declared.value_ref.ValueRef.{ValueRef}

-- the bytes are those of this number
pub record IsInt (bytes : List ℕ) (z : ℤ) : Type 0 where
  pub fit : FitsSigned w64 z
  pub same : bytes ≡ int_bytes z

-- what an original field of this kind asks of its values
abbrev pub original : FieldKind → FieldForm
original kind = record { kind = kind; added = false }

-- what an added one asks
abbrev pub added : FieldKind → FieldForm
added kind = record { kind = kind; added = true }

-- The bytes begin with this value of a field, and go on with the rest. Those of an added field that are missing at the end are undefined, and a 0 that is the last byte is no value.
abbrev pub IsAtFront : Bool → List ℕ → Value → List ℕ → Type 0
IsAtFront false bytes value rest = bytes ≡ value_bytes value ++ rest
IsAtFront true bytes (Int z) rest = bytes ≡ 1 ∷ (value_bytes (Int z) ++ rest)
IsAtFront true bytes (Text text) rest = bytes ≡ 1 ∷ (value_bytes (Text text) ++ rest)
IsAtFront true bytes Undefined rest = ((bytes ≡ []) × (rest ≡ [])) ⊎ ((bytes ≡ 0 ∷ rest) × (rest ≢ []))

-- the bytes begin with this value of a field of this form, and go on with the rest
pub record IsFront (form : FieldForm) (bytes : List ℕ) (value : Value) (rest : List ℕ) : Type 0 where
  pub fit : fits form value ≡ true
  pub storable : IsStorable value
  pub same : IsAtFront form.added bytes value rest

-- what a read gives: the value that the bytes begin with, where they begin with one
pub record Reads (form : FieldForm) (before : List ℕ) (result : Option ValueRef) (after : List ℕ) : Type 0 where
  pub some : IfSome result (λ value. IsFront form before (value_of value) after)
  pub exact : (value : Value) (rest : List ℕ) → IsFront form before value rest → (option_map value_of result ≡ Some value) × (after ≡ rest)
