-- Whether bytes spell a tuple, read value by value.
use Rattle.std.specs.Prelude.{ℕ, zero, suc, Bool, true, false, ◌&&◌, if◌then◌else◌, nat_lt, nat_le, List, [], ◌∷◌, length, take, drop, Option, Some, None}
use Rattle.std.specs.List.{list_all}
use Rattle.rss_base.specs.TupleTypes.{is_allowed_text}
use Rattle.rss_base.specs.declared.value.FieldKind.{FieldKind}
use Rattle.rss_base.specs.declared.value.FieldKind.TheVariants.{Int as IntField, Text as TextField}
use Rattle.rss_base.specs.declared.value.FieldForm.{FieldForm}

abbrev pub is_byte : ℕ → Bool
is_byte byte = nat_lt byte 256

-- what stands behind a value of this kind, where the bytes begin with one
abbrev pub behind : FieldKind → List ℕ → Option (List ℕ)
behind IntField bytes =
    if nat_le 8 (length bytes) && list_all is_byte (take 8 bytes) then Some (drop 8 bytes) else None
behind (TextField n) [] = None
behind (TextField n) (count ∷ bytes) =
    if nat_le count n && nat_le count (length bytes) && is_allowed_text (take count bytes) then Some (drop count bytes) else None

-- the same of the value of an added field: behind the last byte all are undefined, and a 0 stands before others
abbrev pub behind_marked : FieldKind → List ℕ → Option (List ℕ)
behind_marked kind [] = Some []
behind_marked kind (zero ∷ []) = None
behind_marked kind (zero ∷ byte ∷ bytes) = Some (byte ∷ bytes)
behind_marked kind (suc zero ∷ bytes) = behind kind bytes
behind_marked kind (suc (suc mark) ∷ bytes) = None

-- the same of a field
abbrev pub behind_field : Bool → FieldKind → List ℕ → Option (List ℕ)
behind_field false kind bytes = behind kind bytes
behind_field true kind bytes = behind_marked kind bytes

-- whether the test holds of what stands behind, if something does
abbrev pub holds_behind : (List ℕ → Bool) → Option (List ℕ) → Bool
holds_behind test None = false
holds_behind test (Some rest) = test rest

abbrev pub is_spelled : List FieldForm → List ℕ → Bool
is_spelled [] [] = true
is_spelled [] (byte ∷ bytes) = false
is_spelled (form ∷ forms) bytes = holds_behind (is_spelled forms) (behind_field form.added form.kind bytes)
