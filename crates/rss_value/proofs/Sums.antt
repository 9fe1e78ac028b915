-- Widths, summed up field by field.
use Rattle.std.proofs.Common.{◌≡◌, ℕ, ◌+◌, ◌-◌, ◌<◌, ◌≤◌, List, [], ◌∷◌, length, take, get_or, All, ap, ◌∙◌, arith}
use Rattle.std.proofs.lemmas.List.{take_all, get_or-map, length-map}
use Rattle.std.proofs.lemmas.List.Elements.{All-get_or}
use Rattle.std.proofs.lemmas.List.Sums.{sum_by-append, sum_by_more}
use Rattle.rss_base.specs.declared.field.FieldDef.{FieldDef}
use Rattle.rss_base.specs.TupleTypes.{form_of, kinds, field_width, width, key_part_width, key_width, chosen}
use Rattle.rss_value.specs.Numbers.{IsNumberOf}
use Rattle.rss_value.proofs.Choosing.{chosen_more, width_of_one}

pub width_more : (fields : List FieldDef) (i : ℕ) (d : FieldDef) (total part : ℕ) → i < length fields → total ≡ width (take i (kinds fields)) → part ≡ field_width (form_of (get_or fields i d)) → total + part ≡ width (take (i + 1) (kinds fields))
width_more fields i d total part within before is =
    let long : length (kinds fields) ≡ length fields = length-map fields form_of in
    let more = sum_by_more field_width (kinds fields) i (form_of d) (omega (arith, long)) in
    let one = ap field_width (get_or-map form_of fields i d (form_of d) within) in
    omega (arith, more, one)

pub width_whole : (fields : List FieldDef) (i : ℕ) → length fields ≤ i → width (take i (kinds fields)) ≡ width (kinds fields)
width_whole fields i past = ap width (take_all i (kinds fields) (omega (arith, length-map fields form_of)))

pub key_width_more : (fields : List FieldDef) (which : List ℕ) (i from : ℕ) (d : FieldDef) (total part : ℕ) → All (IsNumberOf fields) which → i < length which → from ≡ get_or which i 0 → total ≡ key_width (chosen (take i which) (kinds fields))
    → part ≡ key_part_width (form_of (get_or fields (from - 1) d)) → total + part ≡ key_width (chosen (take (i + 1) which) (kinds fields))
key_width_more fields which i from d total part numbers within number before is =
    let bounds = All-get_or (IsNumberOf fields) which i 0 within numbers in
    let more = ap key_width (chosen_more which i (kinds fields) within) ∙ sum_by-append key_part_width (chosen (take i which) (kinds fields)) (chosen (get_or which i 0 ∷ []) (kinds fields)) in
    let one = width_of_one fields (get_or which i 0) d (omega (arith, bounds)) in
    let same = is ∙ ap (λ (m : ℕ). key_part_width (form_of (get_or fields (m - 1) d))) number in
    omega (arith, more, one, same)

pub key_width_whole : (fields : List FieldDef) (which : List ℕ) (i : ℕ) → length which ≤ i → key_width (chosen (take i which) (kinds fields)) ≡ key_width (chosen which (kinds fields))
key_width_whole fields which i past = ap (λ (l : List ℕ). key_width (chosen l (kinds fields))) (take_all i which past)
