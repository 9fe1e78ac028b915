-- How names, identifiers and values are spelled, in a script and in a reply.
use Rattle.std.specs.Prelude.{ℕ, not, ◌==◌, if◌then◌else◌, List, [], ◌∷◌, ◌++◌, codes, take_while, decimal}
use Rattle.std.specs.Fmt.{signed_decimal}
use Rattle.rss_base.specs.declared.name.Name.{Name}
use Rattle.rss_base.specs.declared.tid.Tid.{Tid}
use Rattle.rss_base.specs.declared.value.Value.{Value}
use Rattle.rss_base.specs.declared.value.Value.TheVariants.{Int, Text, Undefined}
use Rattle.rss_base.specs.declared.value.FieldKind.{FieldKind}
use Rattle.rss_base.specs.declared.value.FieldKind.TheVariants.{Int as IntField, Text as TextField}
use Rattle.rss_base.specs.declared.field.FieldDef.{FieldDef}

abbrev pub space : ℕ
space = 32

abbrev pub quote : ℕ
quote = 34

-- the bytes before a name's zeros
abbrev pub name_text : Name → List ℕ
name_text name = take_while (λ b. not (b == 0)) name.bytes

abbrev pub tid_text : Tid → List ℕ
tid_text tid = decimal tid.page ++ codes "." ++ decimal tid.slot

-- the bytes of a text, where a quote stands twice
abbrev pub doubled : List ℕ → List ℕ
doubled [] = []
doubled (b ∷ bytes) = if b == quote then quote ∷ quote ∷ doubled bytes else b ∷ doubled bytes

-- a number without leading zeros, a text between quotes, or the word for what is undefined
abbrev pub value_text : Value → List ℕ
value_text (Int z) = signed_decimal z
value_text (Text bytes) = quote ∷ (doubled bytes ++ quote ∷ [])
value_text Undefined = codes "undefined"

-- the kind of a field: a number, or a text of at most so many bytes
abbrev pub field_kind_text : FieldKind → List ℕ
field_kind_text IntField = codes "int"
field_kind_text (TextField n) = codes "text" ++ decimal n

abbrev pub field_text : FieldDef → List ℕ
field_text field = name_text field.name ++ codes ":" ++ field_kind_text field.kind
