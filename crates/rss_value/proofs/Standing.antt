-- What stands of a tuple's values: those up to the last one that is defined.
use Rattle.std.proofs.Common.{◌≡◌, ◌≢◌, ℕ, ◌+◌, ◌-◌, ◌<◌, ◌≤◌, Bool, true, false, cond, List, [], ◌∷◌, ◌++◌, length, drop, get_or, nat_le, leb-true, length-append, length-drop, All, refl, sym, ap, ◌∙◌, arith}
use Rattle.std.proofs.lemmas.List.{get_or-drop}
use Rattle.std.proofs.lemmas.List.Folds.{list_all_at}
use Rattle.std.proofs.lemmas.List.Elements.{All-nil, All-cons}
use Rattle.std.proofs.lemmas.List.Sums.{sum_by-cons}
use Rattle.std.specs.List.{list_all}
use Rattle.rss_base.specs.declared.value.Value.{Value}
use Rattle.rss_base.specs.declared.value.Value.TheVariants.{Int, Text, Undefined}
use Rattle.rss_base.specs.declared.value.FieldKind.{FieldKind}
use Rattle.rss_base.specs.declared.value.FieldKind.TheVariants.{Int as IntField, Text as TextField}
use Rattle.rss_base.specs.declared.value.FieldForm.{FieldForm}
use Rattle.rss_base.specs.TupleTypes.{is_undefined, fits_kind, fits, mark_width, kind_width, field_width, width, value_bytes, marked_bytes, tuple_bytes, is_allowed_text, IsStorable}
use Rattle.rss_value.specs.ValueRefs.{mark_bytes}
use Rattle.rss_value.proofs.Fitting.{and_true, AllFit}
use Rattle.rss_value.proofs.Numbers.{length-int_bytes}

-- ---- the bytes of one value

-- what stands before a value, and its own bytes
pub marked_split : (added : Bool) (value : Value) → marked_bytes added value ≡ mark_bytes added value ++ value_bytes value
marked_split false value = refl
marked_split true (Int z) = refl
marked_split true (Text bytes) = refl
marked_split true Undefined = refl

pub length-mark_bytes : (added : Bool) (value : Value) → length (mark_bytes added value) ≡ mark_width added
length-mark_bytes false value = refl
length-mark_bytes true value = refl

kind_short : (kind : FieldKind) (value : Value) → fits_kind kind value ≡ true → length (value_bytes value) ≤ kind_width kind
kind_short IntField (Int z) fit = omega (arith, length-int_bytes z)
kind_short IntField (Text bytes) fit = cc
kind_short (TextField n) (Int z) fit = cc
kind_short (TextField n) (Text bytes) fit = omega (arith, leb-true (length bytes) n (and_true (nat_le (length bytes) n) (is_allowed_text bytes) fit).0)
kind_short kind Undefined fit = omega arith

fitting_short : (form : FieldForm) (value : Value) → fits form value ≡ true → length (value_bytes value) ≤ kind_width form.kind
fitting_short form (Int z) fit = kind_short form.kind (Int z) fit
fitting_short form (Text bytes) fit = kind_short form.kind (Text bytes) fit
fitting_short form Undefined fit = omega arith

-- a value has no more bytes than its field is wide
pub value_short : (form : FieldForm) (value : Value) → fits form value ≡ true → length (marked_bytes form.added value) ≤ field_width form
value_short form value fit =
    omega (arith, ap length (marked_split form.added value), length-append (mark_bytes form.added value) (value_bytes value), length-mark_bytes form.added value, fitting_short form value fit)

-- a value that fits its field has a byte
some_bytes : (kind : FieldKind) (added : Bool) (value : Value) (rest : List ℕ) → fits (record { kind = kind; added = added }) value ≡ true → marked_bytes added value ++ rest ≢ []
some_bytes kind false (Int z) rest fit none = omega (arith, ap length none, length-append (value_bytes (Int z)) rest, length-int_bytes z)
some_bytes kind false (Text bytes) rest fit none = cc
some_bytes kind false Undefined rest fit none = cc
some_bytes kind true (Int z) rest fit none = cc
some_bytes kind true (Text bytes) rest fit none = cc
some_bytes kind true Undefined rest fit none = cc

-- ---- where nothing stands

-- nothing stands for values that are all undefined
pub nothing_stands : (forms : List FieldForm) (values : List Value) → list_all is_undefined values ≡ true → tuple_bytes forms values ≡ []
nothing_stands [] values none = refl
nothing_stands (form ∷ forms) [] none = refl
nothing_stands (form ∷ forms) (value ∷ values) none = ap (λ (b : Bool). cond b [] (marked_bytes form.added value ++ tuple_bytes forms values)) none

cut_nothing : (cut : Bool) (bytes : List ℕ) → bytes ≢ [] → cond cut [] bytes ≡ [] → cut ≡ true
cut_nothing true bytes some none = refl
cut_nothing false bytes some none = absurd (some none)

-- values for which nothing stands are all undefined
pub nothing_spelled : (forms : List FieldForm) (values : List Value) → AllFit forms values → tuple_bytes forms values ≡ [] → list_all is_undefined values ≡ true
nothing_spelled [] [] all none = refl
nothing_spelled [] (value ∷ values) all none = absurd all
nothing_spelled (form ∷ forms) [] all none = absurd all
nothing_spelled (form ∷ forms) (value ∷ values) all none =
    cut_nothing (list_all is_undefined (value ∷ values)) (marked_bytes form.added value ++ tuple_bytes forms values) (some_bytes form.kind form.added value (tuple_bytes forms values) all.0) none

-- not all are undefined from here on, where one behind is defined
pub some_behind : (values : List Value) (k at : ℕ) (value : Value) → k ≤ at → at < length values → value ≡ get_or values at value → is_undefined value ≡ false → list_all is_undefined (drop k values) ≡ false
some_behind values k at value before within here defined =
    let place : k + (at - k) ≡ at = omega arith in
    list_all_at is_undefined (drop k values) (at - k) value (omega (arith, length-drop k values))
    (ap is_undefined (get_or-drop k values (at - k) value ∙ ap (λ (n : ℕ). get_or values n value) place ∙ sym here) ∙ defined)

-- what is undefined needs no range
pub undefined_storable : (values : List Value) → list_all is_undefined values ≡ true → All IsStorable values
undefined_storable [] none = All-nil IsStorable
undefined_storable (Int z ∷ values) none = cc
undefined_storable (Text bytes ∷ values) none = cc
undefined_storable (Undefined ∷ values) none = All-cons IsStorable Undefined values tt (undefined_storable values none)

-- ---- how many bytes there are

cut_short : (cut : Bool) (bytes : List ℕ) → length (cond cut [] bytes) ≤ length bytes
cut_short true bytes = omega arith
cut_short false bytes = omega arith

pub tuple_short : (forms : List FieldForm) (values : List Value) → AllFit forms values → length (tuple_bytes forms values) ≤ width forms
tuple_short [] [] all = omega arith
tuple_short [] (value ∷ values) all = absurd all
tuple_short (form ∷ forms) [] all = absurd all
tuple_short (form ∷ forms) (value ∷ values) all =
    omega (
      arith,
      sum_by-cons field_width form forms,
      cut_short (list_all is_undefined (value ∷ values)) (marked_bytes form.added value ++ tuple_bytes forms values),
      length-append (marked_bytes form.added value) (tuple_bytes forms values),
      value_short form value all.0,
      tuple_short forms values all.1,
    )
