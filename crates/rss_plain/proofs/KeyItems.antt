-- The fields and the values of keys, name by name.
use Rattle.std.proofs.Common.{◌≡◌, ◌+◌, ◌-◌, ◌<◌, ◌≤◌, ℕ, true, false, List, [], ◌∷◌, ◌++◌, drop, get_or, length, refl, sym, ◌∙◌, ap, append_assoc, append-nil, arith}
use Rattle.std.specs.Prelude.{Option, Some, None, option_and_then, option_to_list, slice_get}
use Rattle.std.specs.List.{cons_option}
use Rattle.std.proofs.lemmas.List.{at_drop_more, at_drop_all}
use Rattle.rss_base.specs.TupleTypes.{chosen}
use Rattle.rss_base.specs.declared.field.FieldDef.{FieldDef}
use Rattle.rss_base.specs.declared.name.Name.{Name}
use Rattle.rss_model.specs.Images.{number_from, field_number, numbers_of}
use Rattle.rss_model.specs.Items.{is_name}
use Rattle.rss_plain.specs.Keys.{named_item}

-- ---- the number of a field

module _ (fields : List FieldDef) (name : Name) (i : ℕ) (d : FieldDef) (low : i < length fields) where
  pub number_here : is_name name (get_or fields i d).name ≡ true
      → number_from (i + 1) (drop i fields) name ≡ Some (i + 1)
  number_here same = at_drop_more (λ fs. number_from (i + 1) fs name) fields i d low ∙ (rw same refl)

  pub number_past : is_name name (get_or fields i d).name ≡ false
      → number_from (i + 1) (drop i fields) name ≡ number_from (i + 1 + 1) (drop (i + 1) fields) name
  number_past other = at_drop_more (λ fs. number_from (i + 1) fs name) fields i d low ∙ (rw other refl)

pub number_end : (fields : List FieldDef) (name : Name) (i : ℕ) → length fields ≤ i
    → number_from (i + 1) (drop i fields) name ≡ None
number_end fields name i past = at_drop_all (λ fs. number_from (i + 1) fs name) fields i past

-- ---- items by names

added : {A : Type 0} (key rest : List A) (o : Option A) → (key ++ option_to_list o) ++ rest ≡ key ++ cons_option o rest
added {A} key rest None = ap (λ (l : List A). l ++ rest) (append-nil key)
added key rest (Some a) = append_assoc key (a ∷ []) rest

module _ {A : Type 0} (fields : List FieldDef) (items : List A) where
  pub chosen_step : (name : Name) (names : List Name)
      → chosen (numbers_of fields (name ∷ names)) items
      ≡ cons_option (named_item fields items name) (chosen (numbers_of fields names) items)
  chosen_step name names = by (field_number fields name)
    where
      by : (o : Option ℕ) → chosen (cons_option o (numbers_of fields names)) items
          ≡ cons_option (option_and_then (λ place. slice_get items (place - 1)) o)
          (chosen (numbers_of fields names) items)
      by None = refl
      by (Some n) = refl

  pub chosen_more : (key : List A) (names : List Name) (i : ℕ) (d : Name) → i < length names
      → (key ++ option_to_list (named_item fields items (get_or names i d))) ++ chosen
      (numbers_of fields (drop (i + 1) names)) items ≡ key ++ chosen (numbers_of fields (drop i names)) items
  chosen_more key names i d low =
      added key (chosen (numbers_of fields (drop (i + 1) names)) items) (named_item fields items (get_or names i d))
      ∙ ap (λ (l : List A). key ++ l)
      (sym (chosen_step (get_or names i d) (drop (i + 1) names))
      ∙ sym (at_drop_more (λ ns. chosen (numbers_of fields ns) items) names i d low))

  pub chosen_end : (key : List A) (names : List Name) (i : ℕ) → length names ≤ i
      → key ++ chosen (numbers_of fields (drop i names)) items ≡ key
  chosen_end key names i past = ap (λ (l : List A). key ++ l)
      (at_drop_all (λ ns. chosen (numbers_of fields ns) items) names i past) ∙ append-nil key

  few_step : (o : Option A) (l : List A) (n : ℕ) → length l ≤ n → length (cons_option o l) ≤ n + 1
  few_step None l n few = omega (arith, few)
  few_step (Some a) l n few = omega (arith, few)

  -- there are no more than names
  pub chosen_few : (names : List Name) → length (chosen (numbers_of fields names) items) ≤ length names
  chosen_few [] = omega arith
  chosen_few (name ∷ names) =
      let rest = few_step (named_item fields items name) (chosen (numbers_of fields names) items) (length names)
      (chosen_few names) in
      rw (chosen_step name names) (omega (arith, rest))
