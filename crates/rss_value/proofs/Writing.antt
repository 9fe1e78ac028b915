-- The bytes of a tuple, written value by value.
use Rattle.std.proofs.Common.{◌≡◌, ℕ, ◌+◌, ◌<◌, ◌≤◌, min, Bool, true, false, cond, List, [], ◌∷◌, ◌++◌, length, take, drop, get_or, length-append, None, All, refl, sym, ap, subst, ◌∙◌, arith}
use Rattle.std.proofs.lemmas.List.{append_assoc, append-nil, drop_more, length-take, get_or-take, take-append-drop}
use Rattle.std.proofs.lemmas.List.Elements.{All-append}
use Rattle.std.specs.List.{list_all}
use Rattle.rss_base.specs.declared.value.Value.{Value}
use Rattle.rss_base.specs.declared.value.FieldForm.{FieldForm}
use Rattle.rss_base.specs.declared.field.FieldDef.{FieldDef}
use Rattle.rss_base.specs.TupleTypes.{form_of, kinds, is_undefined, fits, misfit, width, marked_bytes, tuple_bytes, IsStorable, Spells}
use Rattle.rss_value.proofs.Fitting.{fitting, next_kind, length-fitting, fits_read, ranges_read}
use Rattle.rss_value.proofs.Standing.{nothing_stands, undefined_storable, tuple_short}

-- the bytes from one value on
abbrev pub bytes_from : List FieldForm → List Value → ℕ → List ℕ
bytes_from forms values i = tuple_bytes (drop i forms) (drop i values)

-- its own and those behind it, where it or one behind it is defined
bytes_next : (fields : List FieldDef) (values : List Value) (i : ℕ) (d : FieldDef) (e : Value) → i < length fields → i < length values → list_all is_undefined (drop i values) ≡ false
    → bytes_from (kinds fields) values i ≡ marked_bytes (get_or fields i d).added (get_or values i e) ++ bytes_from (kinds fields) values (i + 1)
bytes_next fields values i d e within inside some =
    let here : drop i values ≡ get_or values i e ∷ drop (i + 1) values = drop_more values i e inside in
    ap (λ (l : List FieldForm). tuple_bytes l (drop i values)) (next_kind fields i d within)
    ∙ ap (λ (l : List Value). tuple_bytes (form_of (get_or fields i d) ∷ drop (i + 1) (kinds fields)) l) here
    ∙ ap (λ (b : Bool). cond b [] (marked_bytes (get_or fields i d).added (get_or values i e) ++ bytes_from (kinds fields) values (i + 1))) (ap (list_all is_undefined) (sym here) ∙ some)

module _ (fields : List FieldDef) (values : List Value) (count i : ℕ) (d : FieldDef) (form : FieldForm) (value read : Value) (front into : List ℕ) (fit : misfit (kinds fields) values ≡ None) (within : i < length fields) (inside : i < length (take count values))
    (some : (k : ℕ) → k < count → list_all is_undefined (drop k values) ≡ false) (here : form ≡ form_of (get_or fields i d)) (there : value ≡ get_or (take count values) i value) (is : read ≡ value)
    (before : into ++ bytes_from (kinds fields) values i ≡ front ++ tuple_bytes (kinds fields) values) where
  counted : (i < count) × (i < length values)
  counted = (omega (arith, inside, length-take count values), omega (arith, inside, length-take count values))

  value_there : value ≡ get_or values i value
  value_there = there ∙ get_or-take count values i value counted.0

  from_here : bytes_from (kinds fields) values i ≡ marked_bytes form.added read ++ bytes_from (kinds fields) values (i + 1)
  from_here =
      bytes_next fields values i d value within counted.1 (some i counted.0)
      ∙ ap (λ (f : FieldForm). marked_bytes f.added (get_or values i value) ++ bytes_from (kinds fields) values (i + 1)) (sym here)
      ∙ ap (λ (v : Value). marked_bytes form.added v ++ bytes_from (kinds fields) values (i + 1)) (sym value_there ∙ sym is)

  pub value_fits : fits form read ≡ true
  value_fits = fits_read fields values i d form value read fit within here value_there is

  -- there is room for the value
  pub value_room : length into + length (marked_bytes form.added read) ≤ length front + width (kinds fields)
  value_room =
      omega (
        arith,
        ap length before,
        length-append into (bytes_from (kinds fields) values i),
        length-append front (tuple_bytes (kinds fields) values),
        ap length from_here,
        length-append (marked_bytes form.added read) (bytes_from (kinds fields) values (i + 1)),
        tuple_short (kinds fields) values (fitting 1 (kinds fields) values fit),
      )

  -- the value is written
  pub value_written : (new : List ℕ) → new ≡ into ++ marked_bytes form.added read → new ++ bytes_from (kinds fields) values (i + 1) ≡ front ++ tuple_bytes (kinds fields) values
  value_written new put =
      ap (λ (s : List ℕ). s ++ bytes_from (kinds fields) values (i + 1)) put
      ∙ append_assoc into (marked_bytes form.added read) (bytes_from (kinds fields) values (i + 1))
      ∙ ap (λ (s : List ℕ). into ++ s) (sym from_here)
      ∙ before

  pub value_storable : IsStorable read → All IsStorable (take i values) → All IsStorable (take (i + 1) values)
  value_storable range ranges = ranges_read values i value read counted.1 value_there is range ranges

module _ (fields : List FieldDef) (values : List Value) (count i : ℕ) (fit : misfit (kinds fields) values ≡ None) (within : count ≤ length values) (rest : list_all is_undefined (drop count values) ≡ true) (end : i ≡ min (length fields) (length (take count values))) where
  at_end : i ≡ count
  at_end = omega (arith, end, within, length-take count values, length-fitting fields values fit)

  rest_undefined : list_all is_undefined (drop i values) ≡ true
  rest_undefined = ap (λ (n : ℕ). list_all is_undefined (drop n values)) at_end ∙ rest

  -- all that stands is written
  pub all_written : (front into : List ℕ) → into ++ bytes_from (kinds fields) values i ≡ front ++ tuple_bytes (kinds fields) values → into ≡ front ++ tuple_bytes (kinds fields) values
  all_written front into before = sym (append-nil into) ∙ ap (λ (s : List ℕ). into ++ s) (sym (nothing_stands (drop i (kinds fields)) (drop i values) rest_undefined)) ∙ before

  pub all_spelled : All IsStorable (take i values) → Spells (kinds fields) (tuple_bytes (kinds fields) values) values
  all_spelled ranges = record {
    fit = fit;
    storable = subst (All IsStorable) (take-append-drop i values) (All-append IsStorable (take i values) (drop i values) ranges (undefined_storable (drop i values) rest_undefined));
    same = refl;
  }
