-- Fields that are chosen by their numbers, and the parts of keys.
use Rattle.std.proofs.Common.{◌≡◌, ℕ, zero, suc, min, ◌+◌, ◌-◌, ◌<◌, ◌≤◌, ◌⊎◌, List, [], ◌∷◌, ◌++◌, length, take, drop, get_or, Option, Some, None, IsSome, All, refl, sym, ap, subst, ◌∙◌, inl, inr, arith, length-append}
use Rattle.std.proofs.lemmas.List.{append_assoc, append-nil, take_more, take_all, take-append-drop, length-take, get_or-take, drop-drop}
use Rattle.std.proofs.lemmas.List.Elements.{All-nil, All-cons, All-head, All-tail, filter_map-append}
use Rattle.std.proofs.lemmas.List.Sums.{sum_by-cons, sum_by-append}
use Rattle.std.specs.Option.{option_map}
use Rattle.std.specs.List.{slice_get, cons_option}
use Rattle.rss_base.specs.declared.value.Value.{Value}
use Rattle.rss_base.specs.declared.value.FieldForm.{FieldForm}
use Rattle.rss_base.specs.declared.field.FieldDef.{FieldDef}
use Rattle.rss_base.specs.TupleTypes.{form_of, kinds, IsStorable, key_part_width, key_width, key_bytes, chosen, Spells, IsKeyOf}
use Rattle.rss_value.specs.ValueRefs.{value_of}
use Rattle.rss_value.specs.declared.value_ref.ValueRef.{ValueRef}
use Rattle.rss_value.specs.Reads.{Reads}
use Rattle.rss_value.proofs.Fitting.{AllFit, FitsAt, fitting, no_misfit, next_kind}
use Rattle.rss_value.proofs.KeyOrders.{form_part, length-key_part}
use Rattle.rss_value.proofs.Walking.{Walk}

-- ---- the value of one field

-- what a read gives where values follow
pub record OneRead (field : FieldForm) (left : List FieldForm) (result : Option ValueRef) (after : List ℕ) (values : List Value) : Type 0 where
  pub value : Value
  pub others : List Value
  pub parted : values ≡ value ∷ others
  pub read : option_map value_of result ≡ Some value
  pub fit : FitsAt field value
  pub walk : Walk left after others

one_read : (field : FieldForm) (left : List FieldForm) (rest : List ℕ) (result : Option ValueRef) (after : List ℕ) (values : List Value) → Walk (field ∷ left) rest values → Reads field rest result after → OneRead field left result after values
one_read field left rest result after [] walk reads = absurd walk
one_read field left rest result after (v ∷ values) (behind, (front, walk)) reads =
    let known = reads.exact v behind front in
    record { value = v; others = values; parted = refl; read = known.0; fit = front.fit; walk = subst (λ (s : List ℕ). Walk left s values) (sym known.1) walk }

pub read_at : (fields : List FieldDef) (i : ℕ) (d : FieldDef) (rest : List ℕ) (result : Option ValueRef) (after : List ℕ) (tuple : List Value) → i < length fields → Walk (drop i (kinds fields)) rest (drop i tuple) → Reads (form_of (get_or fields i d)) rest result after
    → OneRead (form_of (get_or fields i d)) (drop (i + 1) (kinds fields)) result after (drop i tuple)
read_at fields i d rest result after tuple within walk reads =
    one_read (form_of (get_or fields i d)) (drop (i + 1) (kinds fields)) rest result after (drop i tuple) (subst (λ (l : List FieldForm). Walk l rest (drop i tuple)) (next_kind fields i d within) walk) reads

pub walk_past : (fields : List FieldDef) (i : ℕ) (d : FieldDef) (rest : List ℕ) (result : Option ValueRef) (after : List ℕ) (tuple : List Value) → i < length fields → Walk (drop i (kinds fields)) rest (drop i tuple) → Reads (form_of (get_or fields i d)) rest result after
    → Walk (drop (i + 1) (kinds fields)) after (drop (i + 1) tuple)
walk_past fields i d rest result after tuple within walk reads =
    let one = read_at fields i d rest result after tuple within walk reads in
    subst (λ (l : List Value). Walk (drop (i + 1) (kinds fields)) after l) (sym (ap (drop 1) one.parted) ∙ drop-drop 1 i tuple) one.walk

-- a value that was read is there
pub is_read : (result : Option ValueRef) (v : Value) → option_map value_of result ≡ Some v → IsSome result
is_read None v read = cc
is_read (Some x) v read = refl

pub same_read : (result : ValueRef) (v : Value) → option_map value_of (Some result) ≡ Some v → value_of result ≡ v
same_read result v read = cc

-- ---- what is chosen

first_left : {A : Type 0} (xs : List A) (i : ℕ) (x : A) (rest : List A) → drop i xs ≡ x ∷ rest → slice_get xs i ≡ Some x
first_left [] zero x rest is = cc
first_left [] (suc i) x rest is = cc
first_left (y ∷ xs) zero x rest is = cc
first_left (y ∷ xs) (suc i) x rest is = first_left xs i x rest is

one_chosen : {A : Type 0} (xs : List A) (number : ℕ) (x : A) (rest : List A) → drop (number - 1) xs ≡ x ∷ rest → chosen (number ∷ []) xs ≡ x ∷ []
one_chosen {A} xs number x rest is = ap (λ (o : Option A). cons_option o []) (first_left xs (number - 1) x rest is)

pub kind_chosen : (fields : List FieldDef) (number : ℕ) (d : FieldDef) → number - 1 < length fields → chosen (number ∷ []) (kinds fields) ≡ form_of (get_or fields (number - 1) d) ∷ []
kind_chosen fields number d within = one_chosen (kinds fields) number (form_of (get_or fields (number - 1) d)) (drop (number - 1 + 1) (kinds fields)) (next_kind fields (number - 1) d within)

-- the part of one field
pub part_of_one : (fields : List FieldDef) (number : ℕ) (d : FieldDef) (tuple : List Value) (v : Value) (rest : List Value) → number - 1 < length fields → drop (number - 1) tuple ≡ v ∷ rest
    → key_bytes (chosen (number ∷ []) (kinds fields)) (chosen (number ∷ []) tuple) ≡ form_part (form_of (get_or fields (number - 1) d)) v
part_of_one fields number d tuple v rest within is =
    ap (λ (l : List FieldForm). key_bytes l (chosen (number ∷ []) tuple)) (kind_chosen fields number d within)
    ∙ ap (λ (l : List Value). key_bytes (form_of (get_or fields (number - 1) d) ∷ []) l) (one_chosen tuple number v rest is)
    ∙ append-nil (form_part (form_of (get_or fields (number - 1) d)) v)

pub width_of_one : (fields : List FieldDef) (number : ℕ) (d : FieldDef) → number - 1 < length fields → key_width (chosen (number ∷ []) (kinds fields)) ≡ key_part_width (form_of (get_or fields (number - 1) d))
width_of_one fields number d within = ap key_width (kind_chosen fields number d within) ∙ omega arith

-- ---- the field of a number

-- one field is passed
pub walk_taken : (fields : List FieldDef) (m i : ℕ) (d : FieldDef) (rest : List ℕ) (result : Option ValueRef) (after : List ℕ) (tuple : List Value) → i < length (take m fields) → Walk (drop i (kinds fields)) rest (drop i tuple) → Reads (form_of (get_or (take m fields) i d)) rest result after
    → Walk (drop (i + 1) (kinds fields)) after (drop (i + 1) tuple)
walk_taken fields m i d rest result after tuple within walk reads =
    let short : length (take m fields) ≡ min m (length fields) = length-take m fields in
    walk_past fields i d rest result after tuple (omega arith) walk (subst (λ (f : FieldDef). Reads (form_of f) rest result after) (get_or-take m fields i d (omega arith)) reads)

-- the field itself is read
pub read_number : (fields : List FieldDef) (from number i : ℕ) (d : FieldDef) (rest : List ℕ) (result : Option ValueRef) (after : List ℕ) (tuple : List Value) → from ≡ number → (1 ≤ number) × (number ≤ length fields) → length (take (from - 1) fields) ≤ i → i ≤ length (take (from - 1) fields)
    → Walk (drop i (kinds fields)) rest (drop i tuple) → Reads (form_of (get_or fields (from - 1) d)) rest result after → OneRead (form_of (get_or fields (from - 1) d)) (drop (from - 1 + 1) (kinds fields)) result after (drop (from - 1) tuple)
read_number fields from number i d rest result after tuple is bounds past within walk reads =
    let short : length (take (from - 1) fields) ≡ min (from - 1) (length fields) = length-take (from - 1) fields in
    let here : i ≡ from - 1 = omega arith in
    read_at fields (from - 1) d rest result after tuple (omega arith) (subst (λ (n : ℕ). Walk (drop n (kinds fields)) rest (drop n tuple)) here walk) reads

-- its part is put behind what is there
pub part_put : (fields : List FieldDef) (from number : ℕ) (d : FieldDef) (after : List ℕ) (tuple : List Value) (read : ValueRef) (result : Option ValueRef) (into new : List ℕ) → from ≡ number → (1 ≤ number) × (number ≤ length fields)
    → OneRead (form_of (get_or fields (from - 1) d)) (drop (from - 1 + 1) (kinds fields)) result after (drop (from - 1) tuple) → result ≡ Some read → new ≡ into ++ form_part (form_of (get_or fields (from - 1) d)) (value_of read)
    → new ≡ into ++ key_bytes (chosen (number ∷ []) (kinds fields)) (chosen (number ∷ []) tuple)
part_put fields from number d after tuple read result into new is bounds one there put =
    let value : value_of read ≡ one.value = same_read read one.value (ap (option_map value_of) (sym there) ∙ one.read) in
    let parted : drop (number - 1) tuple ≡ one.value ∷ one.others = ap (λ (m : ℕ). drop (m - 1) tuple) (sym is) ∙ one.parted in
    put ∙ ap (λ (v : Value). into ++ form_part (form_of (get_or fields (from - 1) d)) v) value
    ∙ ap (λ (m : ℕ). into ++ form_part (form_of (get_or fields (m - 1) d)) one.value) is
    ∙ ap (λ (s : List ℕ). into ++ s) (sym (part_of_one fields number d tuple one.value one.others (omega arith) parted))

pub room_of_number : (fields : List FieldDef) (from number : ℕ) (d : FieldDef) (n : ℕ) → from ≡ number → (1 ≤ number) × (number ≤ length fields) → n + key_width (chosen (number ∷ []) (kinds fields)) ≤ 120 → n + key_part_width (form_of (get_or fields (from - 1) d)) ≤ 120
room_of_number fields from number d n is bounds room =
    omega (arith, width_of_one fields number d (omega arith), ap (λ (m : ℕ). key_part_width (form_of (get_or fields (m - 1) d))) is)

-- ---- keys part by part

pub chosen-append : {A : Type 0} (a b : List ℕ) (xs : List A) → chosen (a ++ b) xs ≡ chosen a xs ++ chosen b xs
chosen-append a b xs = filter_map-append (λ (place : ℕ). slice_get xs (place - 1)) a b

pub chosen_more : {A : Type 0} (which : List ℕ) (i : ℕ) (xs : List A) → i < length which → chosen (take (i + 1) which) xs ≡ chosen (take i which) xs ++ chosen (get_or which i 0 ∷ []) xs
chosen_more which i xs within = ap (λ (l : List ℕ). chosen l xs) (take_more which i 0 within) ∙ chosen-append (take i which) (get_or which i 0 ∷ []) xs

-- the field and the value at one place
both_at : (fields : List FieldForm) (values : List Value) (i : ℕ) → AllFit fields values
    → ((slice_get fields i ≡ None) × (slice_get values i ≡ None)) ⊎ ((field : FieldForm) × ((value : Value) × ((slice_get fields i ≡ Some field) × (slice_get values i ≡ Some value) × FitsAt field value)))
both_at [] [] i all = inl (refl, refl)
both_at [] (v ∷ values) i all = absurd all
both_at (f ∷ fields) [] i all = absurd all
both_at (f ∷ fields) (v ∷ values) zero all = inr (f, (v, (refl, refl, all.0)))
both_at (f ∷ fields) (v ∷ values) (suc i) all = both_at fields values i all.1

-- the field and the value at one place, before those that are chosen behind it
fit_more : (o : Option FieldForm) (p : Option Value) (fields : List FieldForm) (values : List Value) → AllFit fields values
    → ((o ≡ None) × (p ≡ None)) ⊎ ((field : FieldForm) × ((value : Value) × ((o ≡ Some field) × (p ≡ Some value) × FitsAt field value))) → AllFit (cons_option o fields) (cons_option p values)
fit_more o p fields values all (inl none) = subst (λ (q : Option FieldForm). AllFit (cons_option q fields) (cons_option p values)) (sym none.0) (subst (λ (q : Option Value). AllFit fields (cons_option q values)) (sym none.1) all)
fit_more o p fields values all (inr (field, (value, both))) =
    subst (λ (q : Option FieldForm). AllFit (cons_option q fields) (cons_option p values)) (sym both.0) (subst (λ (q : Option Value). AllFit (field ∷ fields) (cons_option q values)) (sym both.1) (both.2, all))

pub chosen_fit : (which : List ℕ) (fields : List FieldForm) (values : List Value) → AllFit fields values → AllFit (chosen which fields) (chosen which values)
chosen_fit [] fields values all = tt
chosen_fit (place ∷ which) fields values all =
    fit_more (slice_get fields (place - 1)) (slice_get values (place - 1)) (chosen which fields) (chosen which values) (chosen_fit which fields values all) (both_at fields values (place - 1) all)

range_more : (values : List Value) (i : ℕ) (others : List Value) → All IsStorable values → All IsStorable others → All IsStorable (cons_option (slice_get values i) others)
range_more [] i others ranges all = all
range_more (v ∷ values) zero others ranges all = All-cons IsStorable v others (All-head IsStorable v values ranges) all
range_more (v ∷ values) (suc i) others ranges all = range_more values i others (All-tail IsStorable v values ranges) all

chosen_ranges : (which : List ℕ) (values : List Value) → All IsStorable values → All IsStorable (chosen which values)
chosen_ranges [] values ranges = All-nil IsStorable
chosen_ranges (place ∷ which) values ranges = range_more values (place - 1) (chosen which values) ranges (chosen_ranges which values ranges)

key_bytes-append : (fs gs : List FieldForm) (vs ws : List Value) → AllFit fs vs → key_bytes (fs ++ gs) (vs ++ ws) ≡ key_bytes fs vs ++ key_bytes gs ws
key_bytes-append [] gs [] ws all = refl
key_bytes-append [] gs (v ∷ vs) ws all = absurd all
key_bytes-append (f ∷ fs) gs [] ws all = absurd all
key_bytes-append (f ∷ fs) gs (v ∷ vs) ws all = ap (λ (s : List ℕ). form_part f v ++ s) (key_bytes-append fs gs vs ws all.1) ∙ sym (append_assoc (form_part f v) (key_bytes fs vs) (key_bytes gs ws))

length-key_bytes : (fs : List FieldForm) (vs : List Value) → AllFit fs vs → length (key_bytes fs vs) ≡ key_width fs
length-key_bytes [] [] all = refl
length-key_bytes [] (v ∷ vs) all = absurd all
length-key_bytes (f ∷ fs) [] all = absurd all
length-key_bytes (f ∷ fs) (v ∷ vs) all =
    length-append (form_part f v) (key_bytes fs vs) ∙ ap (λ (n : ℕ). n + length (key_bytes fs vs)) (length-key_part f v all.0) ∙ ap (λ (n : ℕ). key_part_width f + n) (length-key_bytes fs vs all.1) ∙ sym (sum_by-cons key_part_width f fs)

-- the key so far, and the part that comes next
pub key_more : (fields : List FieldForm) (bytes : List ℕ) (which : List ℕ) (i : ℕ) (into new : List ℕ) (tuple : List Value) → i < length which → Spells fields bytes tuple → into ≡ key_bytes (chosen (take i which) fields) (chosen (take i which) tuple)
    → new ≡ into ++ key_bytes (chosen (get_or which i 0 ∷ []) fields) (chosen (get_or which i 0 ∷ []) tuple) → new ≡ key_bytes (chosen (take (i + 1) which) fields) (chosen (take (i + 1) which) tuple)
key_more fields bytes which i into new tuple within spelled before after =
    let n : ℕ = get_or which i 0 in
    after ∙ ap (λ (s : List ℕ). s ++ key_bytes (chosen (n ∷ []) fields) (chosen (n ∷ []) tuple)) before
    ∙ sym (key_bytes-append (chosen (take i which) fields) (chosen (n ∷ []) fields) (chosen (take i which) tuple) (chosen (n ∷ []) tuple) (chosen_fit (take i which) fields tuple (fitting 1 fields tuple spelled.fit)))
    ∙ ap (λ (l : List FieldForm). key_bytes l (chosen (take i which) tuple ++ chosen (n ∷ []) tuple)) (sym (chosen_more which i fields within))
    ∙ ap (λ (l : List Value). key_bytes (chosen (take (i + 1) which) fields) l) (sym (chosen_more which i tuple within))

-- there is room for the part that comes next
pub key_room : (fields : List FieldForm) (bytes : List ℕ) (which : List ℕ) (i : ℕ) (into : List ℕ) (tuple : List Value) → i < length which → Spells fields bytes tuple → into ≡ key_bytes (chosen (take i which) fields) (chosen (take i which) tuple)
    → length into + key_width (chosen (get_or which i 0 ∷ []) fields) ≤ key_width (chosen which fields)
key_room fields bytes which i into tuple within spelled before =
    let n : ℕ = get_or which i 0 in
    let long : length into ≡ key_width (chosen (take i which) fields) =
    ap length before ∙ length-key_bytes (chosen (take i which) fields) (chosen (take i which) tuple) (chosen_fit (take i which) fields tuple (fitting 1 fields tuple spelled.fit)) in
    let front : key_width (chosen (take (i + 1) which) fields) ≡ key_width (chosen (take i which) fields) + key_width (chosen (n ∷ []) fields) =
    ap key_width (chosen_more which i fields within) ∙ sum_by-append key_part_width (chosen (take i which) fields) (chosen (n ∷ []) fields) in
    let whole : key_width (chosen which fields) ≡ key_width (chosen (take (i + 1) which) fields) + key_width (chosen (drop (i + 1) which) fields) =
    ap (λ (l : List ℕ). key_width (chosen l fields)) (sym (take-append-drop (i + 1) which)) ∙ ap key_width (chosen-append (take (i + 1) which) (drop (i + 1) which) fields)
    ∙ sum_by-append key_part_width (chosen (take (i + 1) which) fields) (chosen (drop (i + 1) which) fields) in
    omega (arith, long, front, whole)

-- the whole key
pub key_made : (fields : List FieldForm) (bytes : List ℕ) (which : List ℕ) (i : ℕ) (into : List ℕ) (tuple : List Value) → length which ≤ i → Spells fields bytes tuple → into ≡ key_bytes (chosen (take i which) fields) (chosen (take i which) tuple)
    → IsKeyOf (chosen which fields) (chosen which tuple) into
key_made fields bytes which i into tuple past spelled made = record {
  fit = no_misfit 1 (chosen which fields) (chosen which tuple) (chosen_fit which fields tuple (fitting 1 fields tuple spelled.fit));
  storable = chosen_ranges which tuple spelled.storable;
  same = made ∙ ap (λ (l : List ℕ). key_bytes (chosen l fields) (chosen l tuple)) (take_all i which past);
}
