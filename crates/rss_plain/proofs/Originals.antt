-- The kinds of fields as a relation is made with them.
use Rattle.std.proofs.Common.{◌≡◌, ◌≤◌, Bool, List, [], ◌∷◌, length, refl, sym, ◌∙◌, ap, arith}
use Rattle.std.specs.Prelude.{◌&&◌}
use Rattle.std.specs.List.{list_all}
use Rattle.std.proofs.lemmas.Bool.{le-leb}
use Rattle.rss_base.specs.TupleTypes.{kinds, most_fields, are_kinds, is_kind}
use Rattle.rss_base.specs.declared.field.FieldDef.{FieldDef}
use Rattle.rss_base.specs.declared.value.FieldForm.{FieldForm}
use Rattle.rss_model.specs.Defining.{originals}

all_kinds : (fields : List FieldDef) → list_all (λ (form : FieldForm). is_kind form.kind) (kinds (originals fields))
    ≡ list_all (λ (field : FieldDef). is_kind field.kind) fields
all_kinds [] = refl
all_kinds (field ∷ fields) = ap (λ (b : Bool). is_kind field.kind && b) (all_kinds fields)

all_counted : (fields : List FieldDef) → length (kinds (originals fields)) ≡ length fields
all_counted [] = refl
all_counted (field ∷ fields) = let rest = all_counted fields in omega arith

-- so many fields, of such kinds
pub kinds_formed : (fields : List FieldDef) (each : Bool) → 1 ≤ length fields → length fields ≤ most_fields
    → each ≡ list_all (λ (field : FieldDef). is_kind field.kind) fields → each ≡ are_kinds (kinds (originals fields))
kinds_formed fields each some few is =
    let places : length (kinds (originals fields)) ≡ length fields = all_counted fields in
    is ∙ sym (all_kinds fields)
    ∙ (λ i. sym (le-leb 1 (length (kinds (originals fields))) (omega (arith, places, some))) i && sym
    (le-leb (length (kinds (originals fields))) most_fields (omega (arith, places, few))) i && list_all
    (λ (form : FieldForm). is_kind form.kind) (kinds (originals fields)))
