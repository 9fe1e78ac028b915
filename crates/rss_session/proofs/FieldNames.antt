-- The names and the kinds of a relation's fields, as the loops over them find them.
use Rattle.std.proofs.Common.{◌≡◌, ◌≢◌, ℕ, ◌+◌, ◌-◌, ◌<◌, ◌≤◌, zero, suc, Bool, true, false, List, [], ◌∷◌, length, get_or, take, drop, MatchBool, length-drop, sym, ◌∙◌, ap, refl, arith}
use Rattle.std.specs.Prelude.{◌||◌, ◌&&◌}
use Rattle.std.proofs.lemmas.Bool.{le-leb}
use Rattle.std.specs.List.{list_any, list_all, HoldsAt, AllWithin}
use Rattle.std.specs.Ordering.{eq_by_cmp}
use Rattle.std.proofs.lemmas.List.{length-map, take_all}
use Rattle.std.proofs.lemmas.List.Folds.{list_all-map, list_any_at, list_any_none}
use Rattle.rss_base.specs.TupleTypes.{form_of, kinds, most_fields, are_kinds, is_kind, field_names}
use Rattle.rss_base.specs.declared.name.Name.{Name}
use Rattle.rss_base.specs.declared.value.FieldForm.{FieldForm}
use Rattle.rss_base.specs.declared.value.FieldKind.TheVariants.{Int}
use Rattle.rss_base.specs.declared.field.FieldDef.{FieldDef}
use Rattle.rss_model.specs.Items.{name_cmp}
use Rattle.rss_model.specs.Defining.{has_twice}
use Rattle.rss_model.proofs.Codes.{name_total, name_apart}
use Rattle.rss_model.proofs.Contents.{tied, not_tied}

-- one of the fields has this name
pub any_named : (test : Name → Bool) (fields : List FieldDef) → list_any (λ (field : FieldDef). test field.name) fields ≡ list_any test (field_names fields)
any_named test [] = refl
any_named test (field ∷ fields) = ap (λ (b : Bool). test field.name || b) (any_named test fields)

-- from a place on: its name stands again, or some behind it do
pub twice_at : (fields : List FieldDef) (k : ℕ) (d : FieldDef) → k < length fields → has_twice (drop k (field_names fields)) ≡ (list_any (eq_by_cmp name_cmp (get_or fields k d).name) (field_names (drop (suc k) fields)) || has_twice (drop (suc k) (field_names fields)))
twice_at [] k d low = absurd (omega (arith, low))
twice_at (field ∷ fields) zero d low = refl
twice_at (field ∷ fields) (suc k) d low = twice_at fields k d (omega (arith, low))

next : (k : ℕ) → k + 1 ≡ suc k
next k = omega arith

behind : (fields : List FieldDef) (k : ℕ) → take (length fields - (k + 1)) (drop (k + 1) fields) ≡ drop (suc k) fields
behind fields k = ap (λ (n : ℕ). take (length fields - n) (drop n fields)) (next k) ∙ take_all (length fields - suc k) (drop (suc k) fields) (omega (arith, length-drop (suc k) fields))

-- where it was tested whether it stands again
pub twice_step : (fields : List FieldDef) (k : ℕ) (d : FieldDef) (again : Bool) → k < length fields → again ≡ list_any (eq_by_cmp name_cmp (get_or fields k d).name) (field_names (take (length fields - (k + 1)) (drop (k + 1) fields)))
    → has_twice (drop k (field_names fields)) ≡ (again || has_twice (drop (k + 1) (field_names fields)))
twice_step fields k d again low is =
    let named : again ≡ list_any (eq_by_cmp name_cmp (get_or fields k d).name) (field_names (drop (suc k) fields)) = is ∙ ap (λ (f : List FieldDef). list_any (eq_by_cmp name_cmp (get_or fields k d).name) (field_names f)) (behind fields k) in
    twice_at fields k d low ∙ (λ i. sym named i || has_twice (drop (sym (next k) i) (field_names fields)))

-- whether one of the fields has this name
pub named_of_cases : (name : Name) (fields : List FieldDef) (r : Bool) → MatchBool r ((k : ℕ) × (k < length fields) × HoldsAt (λ (field : FieldDef). field.name ≡ name) fields k) (AllWithin (λ (field : FieldDef). field.name ≢ name) fields 0 (length fields)) → r ≡ list_any (eq_by_cmp name_cmp name) (field_names fields)
named_of_cases name fields true has = sym (sym (any_named (eq_by_cmp name_cmp name) fields)
    ∙ list_any_at (λ (field : FieldDef). eq_by_cmp name_cmp name field.name) fields has.0 no_field has.1 (ap (eq_by_cmp name_cmp name) (has.2 no_field) ∙ tied name_total name_apart name))
  where
    no_field : FieldDef
    no_field = record { name = name; kind = Int; added = false }
named_of_cases name fields false none = sym (sym (any_named (eq_by_cmp name_cmp name) fields)
    ∙ list_any_none (λ (field : FieldDef). eq_by_cmp name_cmp name field.name) fields (λ k d low. not_tied name_total name_apart name (get_or fields k d).name (λ same. none k d (omega arith) low (sym same))))

-- so many fields, of such kinds
pub kinds_formed : (fields : List FieldDef) (each : Bool) → 1 ≤ length fields → length fields ≤ most_fields → each ≡ list_all (λ (field : FieldDef). is_kind field.kind) fields → each ≡ are_kinds (kinds fields)
kinds_formed fields each some few is =
    let places : length (kinds fields) ≡ length fields = length-map fields form_of in
    is ∙ sym (list_all-map (λ (form : FieldForm). is_kind form.kind) form_of fields)
    ∙ (λ i. sym (le-leb 1 (length (kinds fields)) (omega (arith, places, some))) i && sym (le-leb (length (kinds fields)) most_fields (omega (arith, places, few))) i && list_all (λ (form : FieldForm). is_kind form.kind) (kinds fields))
