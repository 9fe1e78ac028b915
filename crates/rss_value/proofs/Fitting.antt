-- Which tuples fit, field by field.
use Rattle.std.proofs.Common.{◌≡◌, ◌≢◌, ℕ, zero, suc, min, ◌+◌, ◌-◌, ◌<◌, Bool, true, false, ◌&&◌, cond, List, [], ◌∷◌, length, take, drop, get_or, length-drop, Option, Some, None, All, refl, sym, ap, subst, ◌∙◌, arith}
use Rattle.std.proofs.lemmas.List.{length-map, drop_more, get_or-map}
use Rattle.std.proofs.lemmas.List.Elements.{All-more}
use Rattle.std.proofs.lemmas.Slice.Zip.{AllZip-long}
use Rattle.std.specs.List.{AllZip}
use Rattle.rss_base.specs.declared.value.Value.{Value}
use Rattle.rss_base.specs.declared.value.FieldForm.{FieldForm}
use Rattle.rss_base.specs.declared.field.FieldDef.{FieldDef}
use Rattle.rss_base.specs.TupleTypes.{form_of, kinds, fits, misfit_from, misfit, IsStorable}

-- two tests that both hold
pub and_true : (a b : Bool) → (a && b) ≡ true → (a ≡ true) × (b ≡ true)
and_true true b both = (refl, both)
and_true false b both = cc

-- each value fits its field
abbrev pub FitsAt : FieldForm → Value → Type 0
FitsAt field value = fits field value ≡ true

abbrev pub AllFit : List FieldForm → List Value → Type 0
AllFit fields values = AllZip FitsAt fields values

-- no misfit at the first, and none behind it
first_fits : (fit : Bool) (k : ℕ) (rest : Option ℕ) → cond fit rest (Some k) ≡ None → (fit ≡ true) × (rest ≡ None)
first_fits true k rest none = (refl, none)
first_fits false k rest none = cc

-- a tuple without misfit fits field by field
pub fitting : (k : ℕ) (fields : List FieldForm) (values : List Value) → misfit_from k fields values ≡ None → AllFit fields values
fitting k [] [] none = tt
fitting k [] (value ∷ values) none = cc
fitting k (field ∷ fields) [] none = cc
fitting k (field ∷ fields) (value ∷ values) none =
    let one = first_fits (fits field value) k (misfit_from (k + 1) fields values) none in
    (one.0, fitting (k + 1) fields values one.1)

-- a tuple that fits field by field has no misfit
pub no_misfit : (k : ℕ) (fields : List FieldForm) (values : List Value) → AllFit fields values → misfit_from k fields values ≡ None
no_misfit k [] [] all = refl
no_misfit k [] (value ∷ values) all = absurd all
no_misfit k (field ∷ fields) [] all = absurd all
no_misfit k (field ∷ fields) (value ∷ values) all = ap (λ (b : Bool). cond b (misfit_from (k + 1) fields values) (Some k)) all.0 ∙ no_misfit (k + 1) fields values all.1

-- ---- one field at a time

-- the fields from this one on
pub next_kind : (fields : List FieldDef) (i : ℕ) (d : FieldDef) → i < length fields → drop i (kinds fields) ≡ form_of (get_or fields i d) ∷ drop (i + 1) (kinds fields)
next_kind fields i d within =
    drop_more (kinds fields) i (form_of d) (omega (arith, length-map fields form_of)) ∙ ap (λ (k : FieldForm). k ∷ drop (i + 1) (kinds fields)) (get_or-map form_of fields i d (form_of d) within)

-- the misfit from this field on, by whether its value fits
misfit_at : (k : ℕ) (fields : List FieldDef) (values : List Value) (i : ℕ) (d : FieldDef) (e : Value) (fit : Bool) → i < length fields → i < length values → fits (form_of (get_or fields i d)) (get_or values i e) ≡ fit
    → misfit_from k (drop i (kinds fields)) (drop i values) ≡ cond fit (misfit_from (k + 1) (drop (i + 1) (kinds fields)) (drop (i + 1) values)) (Some k)
misfit_at k fields values i d e fit within inside is =
    ap (λ (l : List FieldForm). misfit_from k l (drop i values)) (next_kind fields i d within)
    ∙ ap (λ (l : List Value). misfit_from k (form_of (get_or fields i d) ∷ drop (i + 1) (kinds fields)) l) (drop_more values i e inside)
    ∙ ap (λ (b : Bool). cond b (misfit_from (k + 1) (drop (i + 1) (kinds fields)) (drop (i + 1) values)) (Some k)) is

pub misfit_behind : (k : ℕ) (fields : List FieldDef) (values : List Value) (i : ℕ) (d : FieldDef) (e : Value) → i < length fields → i < length values → fits (form_of (get_or fields i d)) (get_or values i e) ≡ true
    → misfit_from k (drop i (kinds fields)) (drop i values) ≡ misfit_from (k + 1) (drop (i + 1) (kinds fields)) (drop (i + 1) values)
misfit_behind k fields values i d e within inside is = misfit_at k fields values i d e true within inside is

pub misfit_here : (k : ℕ) (fields : List FieldDef) (values : List Value) (i : ℕ) (d : FieldDef) (e : Value) → i < length fields → i < length values → fits (form_of (get_or fields i d)) (get_or values i e) ≡ false
    → misfit_from k (drop i (kinds fields)) (drop i values) ≡ Some k
misfit_here k fields values i d e within inside is = misfit_at k fields values i d e false within inside is

-- a value that is missing or one too many
odd_one : (k : ℕ) (fields : List FieldForm) (values : List Value) → min (length fields) (length values) ≡ 0 → length fields ≢ length values → misfit_from k fields values ≡ Some k
odd_one k [] [] none apart = absurd (apart refl)
odd_one k [] (value ∷ values) none apart = refl
odd_one k (field ∷ fields) [] none apart = refl
odd_one k (field ∷ fields) (value ∷ values) none apart = absurd (omega arith)

pub misfit_end : (k : ℕ) (fields : List FieldDef) (values : List Value) (i : ℕ) → i ≡ min (length fields) (length values) → length fields ≢ length values → misfit_from k (drop i (kinds fields)) (drop i values) ≡ Some k
misfit_end k fields values i end apart =
    let left : length (drop i (kinds fields)) ≡ length fields - i = length-drop i (kinds fields) ∙ ap (λ (n : ℕ). n - i) (length-map fields form_of) in
    odd_one k (drop i (kinds fields)) (drop i values) (omega (arith, left, length-drop i values)) (λ same. apart (omega (arith, left, length-drop i values, same)))

-- each value of a tuple that fits, fits its field
fit_at : (fields : List FieldDef) (values : List Value) (i : ℕ) (d : FieldDef) (e : Value) → AllFit (kinds fields) values → i < length fields → fits (form_of (get_or fields i d)) (get_or values i e) ≡ true
fit_at [] values i d e all within = absurd (omega arith)
fit_at (field ∷ fields) [] i d e all within = absurd all
fit_at (field ∷ fields) (value ∷ values) zero d e all within = all.0
fit_at (field ∷ fields) (value ∷ values) (suc i) d e all within = fit_at fields values i d e all.1 (omega arith)

pub fits_at : (fields : List FieldDef) (values : List Value) (i : ℕ) (d : FieldDef) (e : Value) → misfit (kinds fields) values ≡ None → i < length fields → fits (form_of (get_or fields i d)) (get_or values i e) ≡ true
fits_at fields values i d e none within = fit_at fields values i d e (fitting 1 (kinds fields) values none) within

pub length-fitting : (fields : List FieldDef) (values : List Value) → misfit (kinds fields) values ≡ None → length values ≡ length fields
length-fitting fields values none = AllZip-long FitsAt (kinds fields) values (fitting 1 (kinds fields) values none) ∙ length-map fields form_of

-- ---- values that are read

-- what a borrowed value says of the value at its place
pub at_place : (fields : List FieldDef) (values : List Value) (i : ℕ) (d : FieldDef) (form : FieldForm) (value read : Value) (fit : Bool) → form ≡ form_of (get_or fields i d) → value ≡ get_or values i value → read ≡ value → fits form read ≡ fit
    → fits (form_of (get_or fields i d)) (get_or values i value) ≡ fit
at_place fields values i d form value read fit here there is says =
    ap (λ (f : FieldForm). fits f (get_or values i value)) (sym here) ∙ ap (λ (v : Value). fits form v) (sym there ∙ sym is) ∙ says

-- the value read for a field fits it
pub fits_read : (fields : List FieldDef) (values : List Value) (i : ℕ) (d : FieldDef) (form : FieldForm) (value read : Value) → misfit (kinds fields) values ≡ None → i < length fields → form ≡ form_of (get_or fields i d) → value ≡ get_or values i value → read ≡ value
    → fits form read ≡ true
fits_read fields values i d form value read none within here there is =
    ap (λ (v : Value). fits form v) (is ∙ there) ∙ ap (λ (f : FieldForm). fits f (get_or values i value)) here ∙ fits_at fields values i d value none within

pub ranges_read : (values : List Value) (i : ℕ) (value read : Value) → i < length values → value ≡ get_or values i value → read ≡ value → IsStorable read → All IsStorable (take i values) → All IsStorable (take (i + 1) values)
ranges_read values i value read within there is range before = All-more IsStorable values i value within before (subst IsStorable (is ∙ there) range)
