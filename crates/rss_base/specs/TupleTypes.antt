-- Tuple types: which tuples fit a relation's fields, how values are ordered, and the bytes that tuples and keys are spelled by.
use Rattle.std.specs.Prelude.{ℕ, ◌+◌, ◌-◌, ◌≤◌, ◌≡◌, ℤ, Bool, true, false, not, ◌&&◌, ◌==◌, nat_le, if◌then◌else◌, List, [], ◌∷◌, ◌++◌, length, replicate, Option, Some, None, All, map, filter_map, sum_by, slice_get, bit_xor, FitsSigned}
use Rattle.std.specs.List.{list_all}
use Rattle.std.specs.Int.{w64, to_be_bytes, cast_unsigned}
use Rattle.std.specs.Ordering.{nat_cmp, int_cmp}
use Rattle.std.specs.declared.cmp.Ordering.{Ordering}
use Rattle.std.specs.declared.cmp.Ordering.TheVariants.{Less, Equal, Greater}
use Rattle.std.specs.Cmp.Lexicographic.{slice_cmp}
use Rattle.std.specs.Str.Lossy.{utf8_valid_len}
use Rattle.rss_base.specs.declared.value.Value.{Value}
use Rattle.rss_base.specs.declared.value.Value.TheVariants.{Int, Text, Undefined}
use Rattle.rss_base.specs.declared.value.FieldKind.{FieldKind}
use Rattle.rss_base.specs.declared.value.FieldKind.TheVariants.{Int as IntField, Text as TextField}
use Rattle.rss_base.specs.declared.value.FieldForm.{FieldForm}
use Rattle.rss_base.specs.declared.field.FieldDef.{FieldDef}
use Rattle.rss_base.specs.declared.name.Name.{Name}
use Rattle.rss_base.specs.Names.{IsName, AreApart}

-- what a field asks of its values
abbrev pub form_of : FieldDef → FieldForm
form_of field = record { kind = field.kind; added = field.added }

-- what these fields do: the kind of each, and whether it was added
abbrev pub kinds : List FieldDef → List FieldForm
kinds fields = map form_of fields

abbrev pub is_added : FieldDef → Bool
is_added field = field.added

-- the field as one that was not added
abbrev pub as_original : FieldDef → FieldDef
as_original field = record field { added = false }

-- ---- which tuples fit

-- a byte of characters from U+0020 on, without U+007F
abbrev pub is_allowed_byte : ℕ → Bool
is_allowed_byte byte = nat_le 32 byte && not (byte == 127)

-- UTF-8 text of such characters
abbrev pub is_allowed_text : List ℕ → Bool
is_allowed_text bytes = (utf8_valid_len bytes == length bytes) && list_all is_allowed_byte bytes

abbrev pub is_undefined : Value → Bool
is_undefined (Int z) = false
is_undefined (Text bytes) = false
is_undefined Undefined = true

-- the value is of this kind
abbrev pub fits_kind : FieldKind → Value → Bool
fits_kind IntField (Int z) = true
fits_kind IntField (Text bytes) = false
fits_kind IntField Undefined = false
fits_kind (TextField n) (Int z) = false
fits_kind (TextField n) (Text bytes) = nat_le (length bytes) n && is_allowed_text bytes
fits_kind (TextField n) Undefined = false

-- the value is of the field's kind; that of an added field may be undefined
abbrev pub fits : FieldForm → Value → Bool
fits form (Int z) = fits_kind form.kind (Int z)
fits form (Text bytes) = fits_kind form.kind (Text bytes)
fits form Undefined = form.added

-- The first field whose value doesn't fit, is missing or is one too many, where fields are counted from this number.
abbrev pub misfit_from : ℕ → List FieldForm → List Value → Option ℕ
misfit_from k [] [] = None
misfit_from k [] (value ∷ values) = Some k
misfit_from k (field ∷ fields) [] = Some k
misfit_from k (field ∷ fields) (value ∷ values) = if fits field value then misfit_from (k + 1) fields values else Some k

-- the first misfit, counted from 1: none where the tuple fits the fields
abbrev pub misfit : List FieldForm → List Value → Option ℕ
misfit fields values = misfit_from 1 fields values

-- ---- the order of values

-- what is undefined before all else, numbers as numbers, texts by their bytes, and a number before a text
abbrev pub value_cmp : Value → Value → Ordering
value_cmp Undefined Undefined = Equal
value_cmp Undefined (Int b) = Less
value_cmp Undefined (Text b) = Less
value_cmp (Int a) Undefined = Greater
value_cmp (Text a) Undefined = Greater
value_cmp (Int a) (Int b) = int_cmp a b
value_cmp (Int a) (Text b) = Less
value_cmp (Text a) (Int b) = Greater
value_cmp (Text a) (Text b) = slice_cmp nat_cmp a b

-- lists of values, by the first two that differ
abbrev pub values_cmp : List Value → List Value → Ordering
values_cmp a b = slice_cmp value_cmp a b

-- ---- limits

-- a relation has at most so many fields
abbrev pub most_fields : ℕ
most_fields = 16

-- the values of a tuple have at most so many bytes
abbrev pub most_width : ℕ
most_width = 2048

-- a key has at most so many bytes
abbrev pub most_key_width : ℕ
most_key_width = 120

-- an added field has a byte more, which says whether it has a value
abbrev pub mark_width : Bool → ℕ
mark_width false = 0
mark_width true = 1

-- how many bytes a value of a kind has at most
abbrev pub kind_width : FieldKind → ℕ
kind_width IntField = 8
kind_width (TextField n) = n + 1

-- how many bytes the value of a field has at most
abbrev pub field_width : FieldForm → ℕ
field_width form = mark_width form.added + kind_width form.kind

-- how many bytes the values of these fields have at most
abbrev pub width : List FieldForm → ℕ
width fields = sum_by field_width fields

-- how many bytes of a key a value of a kind has
abbrev pub key_kind_width : FieldKind → ℕ
key_kind_width IntField = 8
key_kind_width (TextField n) = n

-- how many bytes of a key a field has
abbrev pub key_part_width : FieldForm → ℕ
key_part_width form = mark_width form.added + key_kind_width form.kind

-- how many bytes a key of these fields has
abbrev pub key_width : List FieldForm → ℕ
key_width fields = sum_by key_part_width fields

-- an INT, or a TEXT of 1 to 255 bytes
abbrev pub is_kind : FieldKind → Bool
is_kind IntField = true
is_kind (TextField n) = nat_le 1 n && nat_le n 255

-- a relation may have fields of these kinds
abbrev pub are_kinds : List FieldForm → Bool
are_kinds fields =
    nat_le 1 (length fields) && nat_le (length fields) most_fields
    && list_all (λ form. is_kind form.kind) fields

-- the names of these fields
abbrev pub field_names : List FieldDef → List Name
field_names fields = map (λ field. field.name) fields

-- A relation may have these fields: they are of such kinds, their values are no wider than they may be, and no name stands twice. As yet no call adds a field.
pub record AreFields (fields : List FieldDef) : Type 0 where
  pub formed : are_kinds (kinds fields) ≡ true
  pub narrow : width (kinds fields) ≤ most_width
  pub names : All IsName (field_names fields)
  pub apart : AreApart (field_names fields)
  pub original : All (λ field. field.added ≡ false) fields

-- ---- the bytes of a tuple

-- a number in two's complement, its highest byte first
abbrev pub int_bytes : ℤ → List ℕ
int_bytes z = to_be_bytes w64 (cast_unsigned w64 z)

-- a number's bytes; a text's length and its bytes
abbrev pub value_bytes : Value → List ℕ
value_bytes (Int z) = int_bytes z
value_bytes (Text bytes) = length bytes ∷ bytes
value_bytes Undefined = []

-- the value of an added field has a byte before it: 0 if it is undefined, else 1
abbrev pub marked_bytes : Bool → Value → List ℕ
marked_bytes false value = value_bytes value
marked_bytes true (Int z) = 1 ∷ value_bytes (Int z)
marked_bytes true (Text bytes) = 1 ∷ value_bytes (Text bytes)
marked_bytes true Undefined = 0 ∷ []

-- The bytes of a tuple's values, in the order of the fields. If all that are left are undefined, nothing stands for them.
abbrev pub tuple_bytes : List FieldForm → List Value → List ℕ
tuple_bytes [] values = []
tuple_bytes (form ∷ forms) [] = []
tuple_bytes (form ∷ forms) (value ∷ values) =
    if list_all is_undefined (value ∷ values) then []
    else marked_bytes form.added value ++ tuple_bytes forms values

-- a number of 64 signed bits, a text, or nothing
abbrev pub IsStorable : Value → Type 0
IsStorable (Int z) = FitsSigned w64 z
IsStorable (Text bytes) = Unit {0}
IsStorable Undefined = Unit {0}

-- the bytes are those of this tuple, which fits the fields
pub record Spells (fields : List FieldForm) (bytes : List ℕ) (values : List Value) : Type 0 where
  pub fit : misfit fields values ≡ None
  pub storable : All IsStorable values
  pub same : bytes ≡ tuple_bytes fields values

-- the bytes are those of a tuple that fits the fields
abbrev pub SpellsSome : List FieldForm → List ℕ → Type 0
SpellsSome fields bytes = (values : List Value) × Spells fields bytes values

-- ---- keys

-- the highest bit of the first byte inverted
abbrev pub with_sign_inverted : List ℕ → List ℕ
with_sign_inverted [] = []
with_sign_inverted (byte ∷ bytes) = bit_xor byte 128 ∷ bytes

-- A number's bytes with the sign bit inverted, or a text's with zeros behind them up to the greatest length. A value of another kind has no part.
abbrev pub key_part : FieldKind → Value → List ℕ
key_part IntField (Int z) = with_sign_inverted (int_bytes z)
key_part IntField (Text bytes) = []
key_part IntField Undefined = []
key_part (TextField n) (Int z) = []
key_part (TextField n) (Text bytes) = bytes ++ replicate (n - length bytes) 0
key_part (TextField n) Undefined = []

-- of an added field a byte 1 and this part, or zeros throughout for what is undefined
abbrev pub marked_part : Bool → FieldKind → Value → List ℕ
marked_part false kind value = key_part kind value
marked_part true kind (Int z) = 1 ∷ key_part kind (Int z)
marked_part true kind (Text bytes) = 1 ∷ key_part kind (Text bytes)
marked_part true kind Undefined = 0 ∷ replicate (key_kind_width kind) 0

-- the key of a list of values, one for each field
abbrev pub key_bytes : List FieldForm → List Value → List ℕ
key_bytes [] values = []
key_bytes (form ∷ forms) [] = []
key_bytes (form ∷ forms) (value ∷ values) =
    marked_part form.added form.kind value ++ key_bytes forms values

-- the items at these places, counted from 1, in the order of the places
abbrev pub chosen : {A : Type 0} → List ℕ → List A → List A
chosen places items = filter_map (λ place. slice_get items (place - 1)) places

-- the key of this tuple of these fields, whose numbers have 64 bits
pub record IsKeyOf (fields : List FieldForm) (values : List Value) (key : List ℕ) : Type 0 where
  pub fit : misfit fields values ≡ None
  pub storable : All IsStorable values
  pub same : key ≡ key_bytes fields values
