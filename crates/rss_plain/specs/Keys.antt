-- What keys are made of, name by name.
use Rattle.std.specs.Prelude.{◌-◌, List, Option, option_and_then, slice_get}
use Rattle.rss_base.specs.declared.field.FieldDef.{FieldDef}
use Rattle.rss_base.specs.declared.name.Name.{Name}
use Rattle.rss_model.specs.Images.{field_number}

-- the item in the place of the field with a name
abbrev pub named_item : {A : Type 0} → List FieldDef → List A → Name → Option A
named_item fields items name =
    option_and_then (λ place. slice_get items (place - 1)) (field_number fields name)
