-- Fields that are given by their names, as the key of an image that is to be made: their numbers, and that none stands twice.
use Rattle.std.proofs.Common.{◌≡◌, ◌≢◌, ℕ, ◌+◌, ◌-◌, ◌<◌, ◌≤◌, zero, suc, Bool, true, false, List, [], ◌∷◌, ◌++◌, length, get_or, take, drop, replicate, MatchBool, length-append, length-drop, append_assoc, refl, sym, ◌∙◌, ap, subst, arith}
use Rattle.std.specs.Prelude.{Option, Some, None, All, MatchOption, option_map, slice_set, ◌||◌, ◌==◌}
use Rattle.std.specs.Cmp.{Equal-is}
use Rattle.std.specs.List.{list_any, AllPairs, HoldsAt, AllWithin, cons_option}
use Rattle.std.specs.Ordering.{eq_by_cmp}
use Rattle.std.proofs.Math.Seq.{take-add, take-append_seam, drop-cons}
use Rattle.std.proofs.lemmas.List.{length-take-le, take_all, set-append_right, get_or_default}
use Rattle.std.proofs.lemmas.List.Elements.{All-head, All-tail, All-take, filter_map-append}
use Rattle.std.proofs.lemmas.List.Folds.{Any-from_list_any, list_any_at, list_any_none}
use Rattle.std.proofs.lemmas.Bool.{eqb-true}
use Rattle.std.proofs.lemmas.Bool.Decides.{Decides-eqb}
use Rattle.std.proofs.lemmas.Map.Made.{IsDistinct-from_AllPairs}
use Rattle.std.proofs.lemmas.Map.Steps.{length-le_from_distinct_below}
use Rattle.std.proofs.lemmas.Option.{same_Some}
use Rattle.rss_base.specs.Listings.{IsFieldNumber, AreDifferent, padded}
use Rattle.rss_base.specs.TupleTypes.{kinds, chosen, key_width, most_fields}
use Rattle.rss_base.specs.declared.field.FieldDef.{FieldDef}
use Rattle.rss_base.specs.declared.name.Name.{Name}
use Rattle.rss_base.specs.declared.value.FieldKind.TheVariants.{Int}
use Rattle.rss_model.specs.Defining.{has_twice}
use Rattle.rss_model.specs.Fits.{is_field_of}
use Rattle.rss_model.specs.Images.{number_from, field_number, numbers_of, key_kinds}
use Rattle.rss_model.specs.Items.{is_name, name_cmp}
use Rattle.rss_model.proofs.Codes.{name_total, name_apart}
use Rattle.rss_model.proofs.Contents.{tied, not_tied}
use Rattle.rss_stored.proofs.ImageFields.{chosen_kinds}
use Rattle.rss_model.proofs.LogLists.{by_test, none_some, some_of}
use Rattle.rss_model.proofs.Named.{apart_once}
use Rattle.rss_value.specs.Numbers.{IsNumberOf}

-- ---- the number of a field

-- the first field with a name has the number of its place
number_found : (fields : List FieldDef) (name : Name) (k place : ℕ) → place < length fields → HoldsAt (λ (field : FieldDef). field.name ≡ name) fields place → AllWithin (λ (field : FieldDef). field.name ≢ name) fields 0 place → number_from k fields name ≡ Some (k + place)
number_found [] name k place low here before = absurd (omega (arith, low))
number_found (first ∷ fields) name k zero low here before =
    let same : is_name name first.name ≡ true = ap (is_name name) (here first) ∙ tied name_total name_apart name in
    rw same (ap (λ (n : ℕ). Some n) (omega arith))
number_found (first ∷ fields) name k (suc place) low here before =
    let other : is_name name first.name ≡ false = not_tied name_total name_apart name first.name (λ same. before zero first (omega arith) (omega arith) (sym same)) in
    rw other (number_found fields name (k + 1) place (omega (arith, low)) (λ d. here d) (λ j d low high. before (suc j) d (omega arith) (omega (arith, high)))
    ∙ ap (λ (n : ℕ). Some n) (omega arith))

number_absent : (fields : List FieldDef) (name : Name) (k : ℕ) → AllWithin (λ (field : FieldDef). field.name ≢ name) fields 0 (length fields) → number_from k fields name ≡ None
number_absent [] name k none = refl
number_absent (first ∷ fields) name k none =
    let other : is_name name first.name ≡ false = not_tied name_total name_apart name first.name (λ same. none zero first (omega arith) (omega arith) (sym same)) in
    rw other (number_absent fields name (k + 1) (λ j d low high. none (suc j) d (omega arith) (omega (arith, high))))

pub number_of_cases : (fields : List FieldDef) (name : Name) (place : Option ℕ)
    → MatchOption place (AllWithin (λ (field : FieldDef). field.name ≢ name) fields 0 (length fields)) (λ k. (k < length fields) × HoldsAt (λ (field : FieldDef). field.name ≡ name) fields k × AllWithin (λ (field : FieldDef). field.name ≢ name) fields 0 k)
    → option_map (λ k. k + 1) place ≡ field_number fields name
number_of_cases fields name None none = sym (number_absent fields name 1 none)
number_of_cases fields name (Some k) is = ap (λ (n : ℕ). Some n) (omega arith) ∙ sym (number_found fields name 1 k is.0 is.1 is.2)

-- a number that was found is that of a field with the name
field_at : (k : ℕ) (fields : List FieldDef) (name : Name) (number : ℕ) → number_from k fields name ≡ Some number → (k ≤ number) × (number < k + length fields) × ((d : FieldDef) → (get_or fields (number - k) d).name ≡ name)
field_at k [] name number is = none_some is
field_at k (first ∷ fields) name number is = by_test (is_name name first.name)
    (λ here.
    let same : k ≡ number = same_Some _ _ (sym (rw here refl) ∙ is) in
    (omega (arith, same), omega (arith, same), λ d. ap (λ (j : ℕ). (get_or (first ∷ fields) j d).name) (at_once same) ∙ sym (name_apart name first.name ((Equal-is (name_cmp name first.name)).0 here))))
    (λ other.
    let rest = field_at (k + 1) fields name number (sym (rw other refl) ∙ is) in
    (omega (arith, rest.0), omega (arith, rest.1), λ d. ap (λ (j : ℕ). (get_or (first ∷ fields) j d).name) (behind rest.0) ∙ rest.2 d))
  where
    at_once : k ≡ number → number - k ≡ zero
    at_once same = omega (arith, same)

    behind : k + 1 ≤ number → number - k ≡ suc (number - (k + 1))
    behind low = omega (arith, low)

-- ---- the numbers of fields, each of which is there

abbrev pub AreKnown : List FieldDef → List Name → Type 0
AreKnown fields names = All (λ name. is_field_of fields name ≡ true) names

pub numbers_long : (fields : List FieldDef) (names : List Name) → AreKnown fields names → length (numbers_of fields names) ≡ length names
numbers_long fields [] known = refl
numbers_long fields (name ∷ names) known =
    let some = some_of (field_number fields name) (All-head (λ n. is_field_of fields n ≡ true) name names known) in
    ap (λ (o : Option ℕ). length (cons_option o (numbers_of fields names))) some.1
    ∙ ap suc (numbers_long fields names (All-tail (λ n. is_field_of fields n ≡ true) name names known))

numbers_at : (fields : List FieldDef) (names : List Name) → AreKnown fields names → (k : ℕ) (d : Name) (e : ℕ) → k < length names → field_number fields (get_or names k d) ≡ Some (get_or (numbers_of fields names) k e)
numbers_at fields [] known k d e low = absurd (omega (arith, low))
numbers_at fields (name ∷ names) known zero d e low =
    let some = some_of (field_number fields name) (All-head (λ n. is_field_of fields n ≡ true) name names known) in
    some.1 ∙ ap (λ (o : Option ℕ). Some (get_or (cons_option o (numbers_of fields names)) zero e)) (sym some.1)
numbers_at fields (name ∷ names) known (suc k) d e low =
    let some = some_of (field_number fields name) (All-head (λ n. is_field_of fields n ≡ true) name names known) in
    numbers_at fields names (All-tail (λ n. is_field_of fields n ≡ true) name names known) k d e (omega (arith, low))
    ∙ ap (λ (o : Option ℕ). Some (get_or (cons_option o (numbers_of fields names)) (suc k) e)) (sym some.1)

pub numbers_within : (fields : List FieldDef) (names : List Name) → AreKnown fields names → All (IsFieldNumber (length fields)) (numbers_of fields names)
numbers_within fields names known k d low =
    let at = numbers_at fields names known k no_name d (omega (arith, low, numbers_long fields names known)) in
    let is = field_at 1 fields (get_or names k no_name) (get_or (numbers_of fields names) k d) at in
    record { low = is.0; high = omega (arith, is.1) }
  where
    no_name : Name
    no_name = record { bytes = [] }

-- fields with other names have other numbers
pub numbers_different : (fields : List FieldDef) (names : List Name) → AreKnown fields names → has_twice names ≡ false → AreDifferent (numbers_of fields names)
numbers_different fields names known once j k low high same =
    let low_name : j < length names = omega (arith, low, numbers_long fields names known) in
    let high_name : k < length names = omega (arith, high, numbers_long fields names known) in
    let one = field_at 1 fields (get_or names j no_name) (get_or (numbers_of fields names) j 0) (numbers_at fields names known j no_name 0 low_name) in
    let other = field_at 1 fields (get_or names k no_name) (get_or (numbers_of fields names) k 0) (numbers_at fields names known k no_name 0 high_name) in
    apart_once names once j k no_name low_name high_name
    (sym (one.2 no_field) ∙ ap (λ (n : ℕ). (get_or fields (n - 1) no_field).name) same ∙ other.2 no_field)
  where
    no_name : Name
    no_name = record { bytes = [] }

    no_field : FieldDef
    no_field = record { name = no_name; kind = Int; added = false }

-- ---- no more of them than the relation has

-- numbers above 0 that differ are no more than the greatest of them
few_numbers : (numbers : List ℕ) (most : ℕ) → All (IsFieldNumber most) numbers → AreDifferent numbers → length numbers ≤ most
few_numbers numbers most within different =
    omega (arith, length-le_from_distinct_below (0 ∷ numbers) (most + 1) (IsDistinct-from_AllPairs Decides-eqb (0 ∷ numbers) apart) below)
  where
    low_at : (k d : ℕ) → k < length numbers → 1 ≤ get_or numbers k d
    low_at k d low = (within k d low).low

    apart : AllPairs (λ x y. x ≢ y) (0 ∷ numbers)
    apart zero zero d less low same = omega (arith, less)
    apart zero (suc k) d less low same = omega (arith, same, low_at k d (omega (arith, low)))
    apart (suc j) zero d less low same = omega (arith, less)
    apart (suc j) (suc k) d less low same =
        let low_j : j < length numbers = omega (arith, less, low) in
        let low_k : k < length numbers = omega (arith, low) in
        let one : j ≡ k = different j k low_j low_k (get_or_default numbers j 0 d low_j ∙ same ∙ get_or_default numbers k d 0 low_k) in
        omega (arith, one, less)

    among : (k q : ℕ) → k < length (0 ∷ numbers) → get_or (0 ∷ numbers) k q ≡ q → q < most + 1
    among zero q low is = omega (arith, is)
    among (suc k) q low is = omega (arith, is, (within k q (omega (arith, low))).high)

    below : (q : ℕ) → list_any (λ n. q == n) (0 ∷ numbers) ≡ true → q < most + 1
    below q has =
        let some = Any-from_list_any (λ (n : ℕ). q == n) (0 ∷ numbers) has in
        let same : q ≡ some.1 = eqb-true q some.1 some.4 in
        omega (arith, same, among some.0 some.1 some.2 some.3)

pub few_known : (fields : List FieldDef) (names : List Name) → AreKnown fields names → has_twice names ≡ false → length names ≤ length fields
few_known fields names known once =
    omega (arith, numbers_long fields names known, few_numbers (numbers_of fields names) (length fields) (numbers_within fields names known) (numbers_different fields names known once))

-- ---- the numbers as they are put down

taken_more : (names : List Name) (k : ℕ) (d : Name) → k < length names → take (k + 1) names ≡ take k names ++ get_or names k d ∷ []
taken_more names k d low = take-add k 1 names ∙ ap (λ (rest : List Name). take k names ++ take 1 rest) (drop-cons names k d low)

put_next : (numbers : List ℕ) (number : ℕ) → length numbers < most_fields → slice_set (padded most_fields numbers) (length numbers) number ≡ padded most_fields (numbers ++ number ∷ [])
put_next numbers number few =
    set-append_right numbers (replicate (16 - length numbers) 0) (length numbers) (length numbers) number refl (omega arith)
    ∙ (λ i. numbers ++ slice_set (replicate (left i) 0) (nothing i) number)
    ∙ sym (append_assoc numbers (number ∷ []) (replicate (15 - length numbers) 0))
    ∙ ap (λ (n : ℕ). (numbers ++ number ∷ []) ++ replicate n 0) less
  where
    left : 16 - length numbers ≡ suc (15 - length numbers)
    left = omega (arith, few)

    nothing : length numbers - length numbers ≡ zero
    nothing = omega arith

    less : 15 - length numbers ≡ 16 - length (numbers ++ number ∷ [])
    less = omega (arith, few, length-append numbers (number ∷ []))

-- so far the numbers are those of the first names
pub numbers_step : (fields : List FieldDef) (names : List Name) (k : ℕ) (d : Name) (number : ℕ) (numbers : List ℕ) → AreKnown fields names → k < length names → length names ≤ most_fields → numbers ≡ padded most_fields (numbers_of fields (take k names)) → field_number fields (get_or names k d) ≡ Some number
    → slice_set numbers k number ≡ padded most_fields (numbers_of fields (take (k + 1) names))
numbers_step fields names k d number numbers known low few so_far is =
    let long : length (numbers_of fields (take k names)) ≡ k = numbers_long fields (take k names) (All-take (λ n. is_field_of fields n ≡ true) k names known) ∙ length-take-le k names (omega (arith, low)) in
    (λ i. slice_set (so_far i) (sym long i) number)
    ∙ put_next (numbers_of fields (take k names)) number (omega (arith, long, low, few))
    ∙ ap (padded most_fields) (sym more)
  where
    more : numbers_of fields (take (k + 1) names) ≡ numbers_of fields (take k names) ++ number ∷ []
    more =
        ap (numbers_of fields) (taken_more names k d low)
        ∙ filter_map-append (field_number fields) (take k names) (get_or names k d ∷ [])
        ∙ ap (λ (o : Option ℕ). numbers_of fields (take k names) ++ cons_option o []) is

module _ (fields : List FieldDef) (names : List Name) (known : AreKnown fields names) (numbers : List ℕ) (are : numbers ≡ padded most_fields (numbers_of fields names)) where
  pub numbers_taken : take (length names) numbers ≡ numbers_of fields names
  numbers_taken = (λ i. take (sym (numbers_long fields names known) i) (are i)) ∙ take-append_seam (numbers_of fields names) (replicate (16 - length (numbers_of fields names)) 0)

  pub all_numbers : All (IsNumberOf fields) (take (length names) numbers)
  all_numbers = subst (All (IsNumberOf fields)) (sym numbers_taken) (λ k d low. let here = numbers_within fields names known k d low in (here.low, here.high))

  -- a key by the numbers is as wide as by the names
  pub width_taken : key_width (chosen (take (length names) numbers) (kinds fields)) ≡ key_width (key_kinds fields names)
  width_taken = ap (λ (ns : List ℕ). key_width (chosen ns (kinds fields))) numbers_taken ∙ ap key_width (chosen_kinds (numbers_of fields names) fields)

-- ---- names that stand twice

pub name_of_cases : (name : Name) (names : List Name) (r : Bool) → MatchBool r ((k : ℕ) × (k < length names) × HoldsAt (λ (other : Name). other ≡ name) names k) (AllWithin (λ (other : Name). other ≢ name) names 0 (length names)) → r ≡ list_any (eq_by_cmp name_cmp name) names
name_of_cases name names true has = sym (list_any_at (eq_by_cmp name_cmp name) names has.0 name has.1 (ap (eq_by_cmp name_cmp name) (has.2 name) ∙ tied name_total name_apart name))
name_of_cases name names false none = sym (list_any_none (eq_by_cmp name_cmp name) names (λ k d low. not_tied name_total name_apart name (get_or names k d) (λ same. none k d (omega arith) low (sym same))))

-- from a place on: its name stands again, or some behind it do
pub name_twice_step : (names : List Name) (k : ℕ) (d : Name) (again : Bool) → k < length names → again ≡ list_any (eq_by_cmp name_cmp (get_or names k d)) (take (length names - (k + 1)) (drop (k + 1) names))
    → has_twice (drop k names) ≡ (again || has_twice (drop (k + 1) names))
name_twice_step names k d again low is =
    ap has_twice (drop-cons names k d low)
    ∙ (λ i. sym here i || has_twice (drop (sym next i) names))
  where
    next : k + 1 ≡ suc k
    next = omega arith

    here : again ≡ list_any (eq_by_cmp name_cmp (get_or names k d)) (drop (suc k) names)
    here =
        is ∙ ap (λ (n : ℕ). list_any (eq_by_cmp name_cmp (get_or names k d)) (take (length names - n) (drop n names))) next
        ∙ ap (list_any (eq_by_cmp name_cmp (get_or names k d))) (take_all (length names - suc k) (drop (suc k) names) (omega (arith, length-drop (suc k) names)))
