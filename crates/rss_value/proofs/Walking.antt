-- Values read one after another.
use Rattle.std.proofs.Common.{◌≡◌, ◌≢◌, ℕ, ◌+◌, ◌<◌, ◌≤◌, Bool, true, false, cond, List, [], ◌∷◌, ◌++◌, length, drop, get_or, Some, None, All, refl, sym, ap, ◌∙◌, subst, inl, inr, arith}
use Rattle.std.proofs.lemmas.Bool.{false≢true}
use Rattle.std.proofs.lemmas.List.{append_assoc, append-nil, drop_all, length-map}
use Rattle.std.proofs.lemmas.List.Elements.{All-nil, All-cons, All-head, All-tail}
use Rattle.std.specs.Cmp.Derive.{both_true}
use Rattle.std.specs.List.{list_all}
use Rattle.std.specs.Option.{option_map}
use Rattle.rss_base.specs.declared.value.Value.{Value}
use Rattle.rss_base.specs.declared.value.Value.TheVariants.{Int, Text, Undefined}
use Rattle.rss_base.specs.declared.value.FieldKind.{FieldKind}
use Rattle.rss_base.specs.declared.value.FieldForm.{FieldForm}
use Rattle.rss_base.specs.declared.field.FieldDef.{FieldDef}
use Rattle.rss_base.specs.TupleTypes.{form_of, kinds, is_undefined, fits, IsStorable, marked_bytes, tuple_bytes, Spells}
use Rattle.rss_value.specs.ValueRefs.{value_of}
use Rattle.rss_value.specs.Reads.{IsAtFront, IsFront, Reads}
use Rattle.rss_value.proofs.Fitting.{and_true, AllFit, fitting, no_misfit, next_kind}
use Rattle.rss_value.proofs.Standing.{nothing_stands, nothing_spelled}
use Rattle.rss_value.proofs.Reading.{front_one}

-- the bytes are those of these values, read one after another to the end
abbrev pub Walk : List FieldForm → List ℕ → List Value → Type 0
Walk [] bytes [] = bytes ≡ []
Walk [] bytes (value ∷ values) = ⊥
Walk (field ∷ fields) bytes [] = ⊥
Walk (field ∷ fields) bytes (value ∷ values) = (rest : List ℕ) × (IsFront field bytes value rest × Walk fields rest values)

-- ---- a walk is what bytes of a tuple are

-- a value is read where its bytes stand before others: before some, if it is undefined
front_of : (added : Bool) (value : Value) (rest : List ℕ) → (is_undefined value ≡ true → rest ≢ []) → IsAtFront added (marked_bytes added value ++ rest) value rest
front_of false value rest some = refl
front_of true (Int z) rest some = refl
front_of true (Text bytes) rest some = refl
front_of true Undefined rest some = inr (refl, some refl)

-- a value and its rest are read from one list of bytes
front_same : (added : Bool) (value : Value) (rest bytes others : List ℕ) → IsAtFront added bytes value rest → IsAtFront added others value rest → bytes ≡ others
front_same false value rest bytes others one other = one ∙ sym other
front_same true (Int z) rest bytes others one other = one ∙ sym other
front_same true (Text text) rest bytes others one other = one ∙ sym other
front_same true Undefined rest bytes others (inl one) (inl other) = one.0 ∙ sym other.0
front_same true Undefined rest bytes others (inl one) (inr other) = absurd (other.1 one.1)
front_same true Undefined rest bytes others (inr one) (inl other) = absurd (one.1 other.1)
front_same true Undefined rest bytes others (inr one) (inr other) = one.0 ∙ sym other.0

-- where all values are undefined, the first is read from no bytes
front_of_none : (kind : FieldKind) (added : Bool) (value : Value) (rest : List ℕ) → fits (record { kind = kind; added = added }) value ≡ true → is_undefined value ≡ true → rest ≡ [] → IsAtFront added [] value rest
front_of_none kind added (Int z) rest fit none end = cc
front_of_none kind added (Text bytes) rest fit none end = cc
front_of_none kind false Undefined rest fit none end = cc
front_of_none kind true Undefined rest fit none end = inl (refl, end)

-- the first value is read from the bytes of a tuple, whose other values' bytes are the rest
front_along : (field : FieldForm) (fields : List FieldForm) (value : Value) (values : List Value) → AllFit (field ∷ fields) (value ∷ values) → IsAtFront field.added (tuple_bytes (field ∷ fields) (value ∷ values)) value (tuple_bytes fields values)
front_along field fields value values all = by (list_all is_undefined (value ∷ values)) refl
  where
    rest : List ℕ
    rest = tuple_bytes fields values

    by : (cut : Bool) → list_all is_undefined (value ∷ values) ≡ cut → IsAtFront field.added (cond cut [] (marked_bytes field.added value ++ rest)) value rest
    by true none =
        let each = and_true (is_undefined value) (list_all is_undefined values) none in
        front_of_none field.kind field.added value rest all.0 each.0 (nothing_stands fields values each.1)
    by false some =
        front_of field.added value rest (λ undefined end. absurd (false≢true (sym some ∙ both_true undefined (nothing_spelled fields values all.1 end))))

walk_along : (fields : List FieldForm) (bytes : List ℕ) (values : List Value) → AllFit fields values → All IsStorable values → bytes ≡ tuple_bytes fields values → Walk fields bytes values
walk_along [] bytes [] fit range same = same
walk_along [] bytes (value ∷ values) fit range same = absurd fit
walk_along (field ∷ fields) bytes [] fit range same = absurd fit
walk_along (field ∷ fields) bytes (value ∷ values) fit range same = (
  tuple_bytes fields values,
  (
    record { fit = fit.0; storable = All-head IsStorable value values range; same = subst (λ (s : List ℕ). IsAtFront field.added s value (tuple_bytes fields values)) (sym same) (front_along field fields value values fit) },
    walk_along fields (tuple_bytes fields values) values fit.1 (All-tail IsStorable value values range) refl,
  ),
)

pub walk_of : (fields : List FieldForm) (bytes : List ℕ) (values : List Value) → Spells fields bytes values → Walk fields bytes values
walk_of fields bytes values spelled = walk_along fields bytes values (fitting 1 fields values spelled.fit) spelled.storable spelled.same

walk_fits : (fields : List FieldForm) (bytes : List ℕ) (values : List Value) → Walk fields bytes values → AllFit fields values
walk_fits [] bytes [] walk = tt
walk_fits [] bytes (value ∷ values) walk = absurd walk
walk_fits (field ∷ fields) bytes [] walk = absurd walk
walk_fits (field ∷ fields) bytes (value ∷ values) (rest, (front, walk)) = (front.fit, walk_fits fields rest values walk)

walk_ranges : (fields : List FieldForm) (bytes : List ℕ) (values : List Value) → Walk fields bytes values → All IsStorable values
walk_ranges [] bytes [] walk = All-nil IsStorable
walk_ranges [] bytes (value ∷ values) walk = absurd walk
walk_ranges (field ∷ fields) bytes [] walk = absurd walk
walk_ranges (field ∷ fields) bytes (value ∷ values) (rest, (front, walk)) = All-cons IsStorable value values front.storable (walk_ranges fields rest values walk)

walk_bytes : (fields : List FieldForm) (bytes : List ℕ) (values : List Value) → Walk fields bytes values → bytes ≡ tuple_bytes fields values
walk_bytes [] bytes [] walk = walk
walk_bytes [] bytes (value ∷ values) walk = absurd walk
walk_bytes (field ∷ fields) bytes [] walk = absurd walk
walk_bytes (field ∷ fields) bytes (value ∷ values) (rest, (front, walk)) =
    front_same field.added value (tuple_bytes fields values) bytes (tuple_bytes (field ∷ fields) (value ∷ values)) (subst (IsAtFront field.added bytes value) (walk_bytes fields rest values walk) front.same)
    (front_along field fields value values (front.fit, walk_fits fields rest values walk))

pub spelled_by : (fields : List FieldForm) (bytes : List ℕ) (values : List Value) → Walk fields bytes values → Spells fields bytes values
spelled_by fields bytes values walk = record {
  fit = no_misfit 1 fields values (walk_fits fields bytes values walk);
  storable = walk_ranges fields bytes values walk;
  same = walk_bytes fields bytes values walk;
}

-- ---- the values so far

-- These values are read, and the rest is to be read with the fields that are left.
pub record Decoding (fields : List FieldForm) (bytes : List ℕ) (left : List FieldForm) (rest : List ℕ) (done : List Value) : Type 0 where
  pub forth : (more : List Value) → Walk left rest more → Walk fields bytes (done ++ more)
  pub back : (values : List Value) → Walk fields bytes values → (more : List Value) × (values ≡ done ++ more) × Walk left rest more

-- the walk behind a value that was read
walk_behind : (field : FieldForm) (left : List FieldForm) (rest after : List ℕ) (value : Value) (more : List Value) → IsFront field rest value after → Walk (field ∷ left) rest more
    → (others : List Value) × (more ≡ value ∷ others) × Walk left after others
walk_behind field left rest after value [] front walk = absurd walk
walk_behind field left rest after value (u ∷ more) front (behind, (read, walk)) =
    let one = front_one field rest u value behind after read front in
    (more, ap (λ (v : Value). v ∷ more) one.0, subst (λ (s : List ℕ). Walk left s more) one.1 walk)

decoding_on : (fields : List FieldForm) (bytes : List ℕ) (field : FieldForm) (left : List FieldForm) (rest after : List ℕ) (done : List Value) (value : Value) → Decoding fields bytes (field ∷ left) rest done → IsFront field rest value after
    → Decoding fields bytes left after (done ++ value ∷ [])
decoding_on fields bytes field left rest after done value decoding front = record {
  forth = λ more walk. subst (Walk fields bytes) (sym (append_assoc done (value ∷ []) more)) (decoding.forth (value ∷ more) (after, (front, walk)));
  back = λ values walk.
      let known = decoding.back values walk in
      let behind = walk_behind field left rest after value known.0 front known.2 in
      (behind.0, known.1 ∙ ap (λ (l : List Value). done ++ l) behind.1 ∙ sym (append_assoc done (value ∷ []) behind.0), behind.2);
}

pub decoding_more : (fields : List FieldDef) (bytes : List ℕ) (i : ℕ) (d : FieldDef) (rest after : List ℕ) (done : List Value) (value : Value) → i < length fields
    → Decoding (kinds fields) bytes (drop i (kinds fields)) rest done → IsFront (form_of (get_or fields i d)) rest value after → Decoding (kinds fields) bytes (drop (i + 1) (kinds fields)) after (done ++ value ∷ [])
decoding_more fields bytes i d rest after done value within decoding front =
    decoding_on (kinds fields) bytes (form_of (get_or fields i d)) (drop (i + 1) (kinds fields)) rest after done value
    (subst (λ (l : List FieldForm). Decoding (kinds fields) bytes l rest done) (next_kind fields i d within) decoding) front

-- ---- the end

walked : (fields : List FieldForm) (bytes rest : List ℕ) (done : List Value) → Decoding fields bytes [] rest done → rest ≡ [] → Spells fields bytes done
walked fields bytes rest done decoding end = spelled_by fields bytes done (subst (Walk fields bytes) (append-nil done) (decoding.forth [] end))

-- nothing is left where no fields are left
nothing_left : (rest : List ℕ) (done more values : List Value) → values ≡ done ++ more → Walk [] rest more → (values ≡ done) × (rest ≡ [])
nothing_left rest done [] values is walk = (is ∙ append-nil done, walk)
nothing_left rest done (v ∷ more) values is walk = absurd walk

walked_only : (fields : List FieldForm) (bytes rest : List ℕ) (done values : List Value) → Decoding fields bytes [] rest done → Spells fields bytes values → (values ≡ done) × (rest ≡ [])
walked_only fields bytes rest done values decoding spelled =
    let known = decoding.back values (walk_of fields bytes values spelled) in
    nothing_left rest done known.0 values known.1 known.2

-- no value where none was read
no_value : (field : FieldForm) (left : List FieldForm) (rest after : List ℕ) (more : List Value) → Reads field rest None after → Walk (field ∷ left) rest more → ⊥
no_value field left rest after [] reads walk = walk
no_value field left rest after (v ∷ more) reads (behind, (front, walk)) =
    let none : option_map value_of None ≡ Some v = (reads.exact v behind front).0 in
    cc

pub decoding_none : (fields : List FieldDef) (bytes : List ℕ) (i : ℕ) (d : FieldDef) (rest after : List ℕ) (done values : List Value) → i < length fields
    → Decoding (kinds fields) bytes (drop i (kinds fields)) rest done → Reads (form_of (get_or fields i d)) rest None after → Spells (kinds fields) bytes values → ⊥
decoding_none fields bytes i d rest after done values within decoding reads spelled =
    let known = decoding.back values (walk_of (kinds fields) bytes values spelled) in
    no_value (form_of (get_or fields i d)) (drop (i + 1) (kinds fields)) rest after known.0 reads (subst (λ (l : List FieldForm). Walk l rest known.0) (next_kind fields i d within) known.2)

-- no fields are left behind the last
none_left : (fields : List FieldDef) (i : ℕ) → length fields ≤ i → drop i (kinds fields) ≡ []
none_left fields i past = drop_all i (kinds fields) (omega (arith, length-map fields form_of))

pub decoded : (fields : List FieldDef) (bytes : List ℕ) (i : ℕ) (rest : List ℕ) (done : List Value) → length fields ≤ i → Decoding (kinds fields) bytes (drop i (kinds fields)) rest done → rest ≡ [] → Spells (kinds fields) bytes done
decoded fields bytes i rest done past decoding end =
    walked (kinds fields) bytes rest done (subst (λ (l : List FieldForm). Decoding (kinds fields) bytes l rest done) (none_left fields i past) decoding) end

pub decoded_only : (fields : List FieldDef) (bytes : List ℕ) (i : ℕ) (rest : List ℕ) (done values : List Value) → length fields ≤ i → Decoding (kinds fields) bytes (drop i (kinds fields)) rest done → Spells (kinds fields) bytes values
    → (values ≡ done) × (rest ≡ [])
decoded_only fields bytes i rest done values past decoding spelled =
    walked_only (kinds fields) bytes rest done values (subst (λ (l : List FieldForm). Decoding (kinds fields) bytes l rest done) (none_left fields i past) decoding) spelled
