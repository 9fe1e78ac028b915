-- Keys that are given by their values, one for each of the fields that are chosen.
use Rattle.std.proofs.Common.{◌≡◌, ℕ, zero, suc, min, ◌+◌, ◌-◌, ◌<◌, ◌≤◌, List, [], ◌∷◌, ◌++◌, length, take, drop, get_or, Option, Some, None, All, refl, sym, ap, subst, ◌∙◌, arith, length-append}
use Rattle.std.specs.List.{slice_get, cons_option}
use Rattle.std.proofs.lemmas.List.{append_assoc, append-nil, get_or-map, length-map, take_all, drop_all}
use Rattle.std.proofs.lemmas.List.Elements.{All-head, All-tail}
use Rattle.std.proofs.lemmas.List.Sums.{sum_by-cons}
use Rattle.rss_base.specs.declared.field.FieldDef.{FieldDef}
use Rattle.rss_base.specs.declared.value.FieldForm.{FieldForm}
use Rattle.rss_base.specs.declared.value.Value.{Value}
use Rattle.rss_base.specs.TupleTypes.{form_of, kinds, misfit, misfit_from, IsStorable, key_part_width, key_width, key_bytes, chosen, IsKeyOf}
use Rattle.rss_value.specs.Numbers.{IsNumberOf}
use Rattle.rss_value.proofs.Fitting.{AllFit, fitting, length-fitting}
use Rattle.rss_value.proofs.KeyOrders.{form_part, length-key_part}

-- ---- the fields that are chosen

got : (fields : List FieldDef) (j : ℕ) (d : FieldDef) → j < length fields → slice_get fields j ≡ Some (get_or fields j d)
got [] j d low = absurd (omega (arith, low))
got (f ∷ fields) zero d low = refl
got (f ∷ fields) (suc j) d low = got fields j d (omega (arith, low))

-- the field of each number
field_at : (fields : List FieldDef) (which : List ℕ) (i : ℕ) (d e : FieldDef) → All (IsNumberOf fields) which → i < length which → get_or fields (get_or which i 0 - 1) d ≡ get_or (chosen which fields) i e
field_at fields [] i d e numbers within = absurd (omega (arith, within))
field_at fields (n ∷ which) zero d e numbers within =
    let here = All-head (IsNumberOf fields) n which numbers in
    ap (λ (o : Option FieldDef). get_or (cons_option o (chosen which fields)) 0 e) (sym (got fields (n - 1) d (omega (arith, here.0, here.1))))
field_at fields (n ∷ which) (suc i) d e numbers within =
    let here = All-head (IsNumberOf fields) n which numbers in
    field_at fields which i d e (All-tail (IsNumberOf fields) n which numbers) (omega (arith, within))
    ∙ ap (λ (o : Option FieldDef). get_or (cons_option o (chosen which fields)) (suc i) e) (sym (got fields (n - 1) d (omega (arith, here.0, here.1))))

-- there are as many as numbers
pub length-chosen : (fields : List FieldDef) (which : List ℕ) → All (IsNumberOf fields) which → length (chosen which fields) ≡ length which
length-chosen fields [] numbers = refl
length-chosen fields (n ∷ which) numbers =
    let here = All-head (IsNumberOf fields) n which numbers in
    let rest = length-chosen fields which (All-tail (IsNumberOf fields) n which numbers) in
    by (slice_get fields (n - 1)) (some n here) rest
  where
    some : (n : ℕ) → IsNumberOf fields n → (f : FieldDef) × (slice_get fields (n - 1) ≡ Some f)
    some n here = at fields (n - 1) (omega (arith, here.0, here.1))
      where
        at : (fields : List FieldDef) (j : ℕ) → j < length fields → (f : FieldDef) × (slice_get fields j ≡ Some f)
        at [] j low = absurd (omega (arith, low))
        at (f ∷ fields) zero low = (f, refl)
        at (f ∷ fields) (suc j) low = at fields j (omega (arith, low))

    by : (o : Option FieldDef) → (f : FieldDef) × (o ≡ Some f) → length (chosen which fields) ≡ length which → length (cons_option o (chosen which fields)) ≡ suc (length which)
    by o (f, is) rest = ap (λ (p : Option FieldDef). length (cons_option p (chosen which fields))) is ∙ ap suc rest

-- the field that was read for a number
pub field_read : (fields : List FieldDef) (which : List ℕ) (i place from : ℕ) (d e : FieldDef) → All (IsNumberOf fields) which → i < length which → place ≡ get_or which i 0 → from ≡ place → get_or fields (from - 1) d ≡ get_or (chosen which fields) i e
field_read fields which i place from d e numbers within here is = ap (λ (n : ℕ). get_or fields (n - 1) d) (is ∙ here) ∙ field_at fields which i d e numbers within

-- no value is missing, and none is one too many
pub none_left : (k : ℕ) (fields : List FieldDef) (values : List Value) (i : ℕ) → i ≡ min (length fields) (length values) → length fields ≡ length values → misfit_from k (drop i (kinds fields)) (drop i values) ≡ None
none_left k fields values i end same =
    (λ j. misfit_from k (drop_all i (kinds fields) (omega (arith, end, same, length-map fields form_of)) j) (drop_all i values (omega (arith, end, same)) j))

-- ---- a key, value by value

-- one part more
part_more : (fields : List FieldForm) (values : List Value) (i : ℕ) (d : FieldForm) (e : Value) → AllFit fields values → i < length fields → key_bytes (take i fields) (take i values) ++ form_part (get_or fields i d) (get_or values i e) ≡ key_bytes (take (suc i) fields) (take (suc i) values)
part_more [] values i d e all within = absurd (omega (arith, within))
part_more (f ∷ fields) [] i d e all within = absurd all
part_more (f ∷ fields) (v ∷ values) zero d e all within = sym (append-nil (form_part f v))
part_more (f ∷ fields) (v ∷ values) (suc i) d e all within =
    append_assoc (form_part f v) (key_bytes (take i fields) (take i values)) (form_part (get_or fields i d) (get_or values i e))
    ∙ ap (λ (s : List ℕ). form_part f v ++ s) (part_more fields values i d e all.1 (omega (arith, within)))

-- there is room for it
part_room : (fields : List FieldForm) (values : List Value) (i : ℕ) (d : FieldForm) → AllFit fields values → i < length fields → length (key_bytes (take i fields) (take i values)) + key_part_width (get_or fields i d) ≤ key_width fields
part_room [] values i d all within = absurd (omega (arith, within))
part_room (f ∷ fields) [] i d all within = absurd all
part_room (f ∷ fields) (v ∷ values) zero d all within = omega (arith, sum_by-cons key_part_width f fields)
part_room (f ∷ fields) (v ∷ values) (suc i) d all within =
    let rest = part_room fields values i d all.1 (omega (arith, within)) in
    omega (arith, sum_by-cons key_part_width f fields, length-append (form_part f v) (key_bytes (take i fields) (take i values)), length-key_part f v all.0, rest)

module _ (fields : List FieldDef) (values : List Value) (i : ℕ) (field : FieldDef) (into : List ℕ) (fit : misfit (kinds fields) values ≡ None) (within : i < length fields) (here : (e : FieldDef) → field ≡ get_or fields i e) (before : into ≡ key_bytes (take i (kinds fields)) (take i values)) where
  kind_here : form_of field ≡ get_or (kinds fields) i (form_of field)
  kind_here = ap form_of (here field) ∙ sym (get_or-map form_of fields i field (form_of field) within)

  kinds_within : i < length (kinds fields)
  kinds_within = omega (arith, within, length-map fields form_of)

  pub room_given : length into + key_part_width (form_of field) ≤ key_width (kinds fields)
  room_given = omega (arith, ap length before, ap key_part_width kind_here, part_room (kinds fields) values i (form_of field) (fitting 1 (kinds fields) values fit) kinds_within)

  pub part_given : (value read : Value) (new : List ℕ) → value ≡ get_or values i value → read ≡ value → new ≡ into ++ form_part (form_of field) read → new ≡ key_bytes (take (i + 1) (kinds fields)) (take (i + 1) values)
  part_given value read new there is put =
      let one : suc i ≡ i + 1 = omega arith in
      put ∙ (λ j. before j ++ form_part (kind_here j) ((is ∙ there) j))
      ∙ part_more (kinds fields) values i (form_of field) value (fitting 1 (kinds fields) values fit) kinds_within
      ∙ ap (λ (n : ℕ). key_bytes (take n (kinds fields)) (take n values)) one

-- the whole key, where as many parts are there as both lists have
pub key_given : (fields : List FieldDef) (values : List Value) (i : ℕ) (into : List ℕ) → misfit (kinds fields) values ≡ None → i ≡ min (length fields) (length values) → into ≡ key_bytes (take i (kinds fields)) (take i values) → All IsStorable (take i values) → IsKeyOf (kinds fields) values into
key_given fields values i into fit end made ranges =
    let long = length-fitting fields values fit in
    let all_values : take i values ≡ values = take_all i values (omega (arith, long, end)) in
    let all_fields : take i (kinds fields) ≡ kinds fields = take_all i (kinds fields) (omega (arith, long, end, length-map fields form_of)) in record {
      fit = fit;
      storable = subst (All IsStorable) all_values ranges;
      same = made ∙ (λ j. key_bytes (all_fields j) (all_values j));
    }
