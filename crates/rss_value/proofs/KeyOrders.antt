-- The order of keys is that of the values that they are made from.
use Rattle.std.proofs.Common.{◌≡◌, ◌↔◌, ℕ, zero, suc, ◌+◌, ◌-◌, ◌<◌, ◌≤◌, Bool, true, false, not, ◌==◌, nat_le, List, [], ◌∷◌, ◌++◌, length, replicate, All, ℤ, refl, sym, ap, subst, ◌∙◌, arith, leb-true, length-append}
use Rattle.std.proofs.lemmas.List.{append_assoc, length-replicate}
use Rattle.std.proofs.lemmas.List.Elements.{All-head, All-tail}
use Rattle.std.proofs.lemmas.Cmp.{nat_list_cmp_total, tied_itself}
use Rattle.std.specs.List.{list_all}
use Rattle.std.specs.Cmp.{nat_cmp_is}
use Rattle.std.specs.Cmp.Lexicographic.{slice_cmp}
use Rattle.std.specs.FinMap.{IsAntisymmetric, nat_cmp-IsAntisymmetric, int_cmp-IsAntisymmetric, slice_cmp-IsAntisymmetric}
use Rattle.std.specs.Ordering.{nat_cmp, ordering_then}
use Rattle.std.specs.declared.cmp.Ordering.{Ordering}
use Rattle.std.specs.declared.cmp.Ordering.TheVariants.{Less, Greater}
use Rattle.rss_base.specs.declared.value.Value.{Value}
use Rattle.rss_base.specs.declared.value.Value.TheVariants.{Int, Text, Undefined}
use Rattle.rss_base.specs.declared.value.FieldKind.{FieldKind}
use Rattle.rss_base.specs.declared.value.FieldKind.TheVariants.{Int as IntField, Text as TextField}
use Rattle.rss_base.specs.declared.value.FieldForm.{FieldForm}
use Rattle.rss_base.specs.TupleTypes.{is_allowed_byte, is_allowed_text, fits_kind, fits, IsStorable, value_cmp, values_cmp, mark_width, int_bytes, with_sign_inverted, key_kind_width, key_part, marked_part, key_part_width, key_bytes, IsKeyOf}
use Rattle.rss_value.specs.ValueRefs.{mark_bytes}
use Rattle.rss_value.proofs.Orders.{slice_cmp-append}
use Rattle.rss_value.proofs.Numbers.{int_key_cmp, length-int_key}
use Rattle.rss_value.proofs.Fitting.{and_true, fitting, AllFit}

-- ---- texts

-- a text with zeros behind it
padded : ℕ → List ℕ → List ℕ
padded n xs = xs ++ replicate (n - length xs) 0

padded_nil : (n : ℕ) → padded n [] ≡ replicate n 0
unfolding padded
padded_nil n = ap (λ (m : ℕ). replicate m 0) (omega arith)

padded_cons : (n x : ℕ) (xs : List ℕ) → padded (suc n) (x ∷ xs) ≡ x ∷ padded n xs
unfolding padded
padded_cons n x xs = ap (λ (m : ℕ). x ∷ (xs ++ replicate m 0)) (omega arith)

above_zero : (x : ℕ) (xs : List ℕ) → list_all is_allowed_byte (x ∷ xs) ≡ true → 0 < x
above_zero x xs plain =
    let first = and_true (is_allowed_byte x) (list_all is_allowed_byte xs) plain in
    let least : 32 ≤ x = leb-true 32 x (and_true (nat_le 32 x) (not (x == 127)) first.0).0 in
    omega arith

-- zeros don't change the order of texts that have none
padded_cmp : (n : ℕ) (a b : List ℕ) → length a ≤ n → length b ≤ n → list_all is_allowed_byte a ≡ true → list_all is_allowed_byte b ≡ true
    → slice_cmp nat_cmp (padded n a) (padded n b) ≡ slice_cmp nat_cmp a b
padded_cmp n [] [] x y p q = tied_itself nat_list_cmp_total (padded n [])
padded_cmp zero [] (y ∷ b) l k p q = absurd (omega arith)
padded_cmp zero (x ∷ a) b l k p q = absurd (omega arith)
padded_cmp (suc n) [] (y ∷ b) l k p q =
    ap (λ (s : List ℕ). slice_cmp nat_cmp s (padded (suc n) (y ∷ b))) (padded_nil (suc n)) ∙ ap (λ (s : List ℕ). slice_cmp nat_cmp (0 ∷ replicate n 0) s) (padded_cons n y b)
    ∙ ap (λ (o : Ordering). ordering_then o (slice_cmp nat_cmp (replicate n 0) (padded n b))) (sym (nat_cmp_is 0 y Less (above_zero y b q)))
padded_cmp (suc n) (x ∷ a) [] l k p q =
    ap (λ (s : List ℕ). slice_cmp nat_cmp (padded (suc n) (x ∷ a)) s) (padded_nil (suc n)) ∙ ap (λ (s : List ℕ). slice_cmp nat_cmp s (0 ∷ replicate n 0)) (padded_cons n x a)
    ∙ ap (λ (o : Ordering). ordering_then o (slice_cmp nat_cmp (padded n a) (replicate n 0))) (sym (nat_cmp_is x 0 Greater (above_zero x a p)))
padded_cmp (suc n) (x ∷ a) (y ∷ b) l k p q =
    ap (λ (s : List ℕ). slice_cmp nat_cmp s (padded (suc n) (y ∷ b))) (padded_cons n x a) ∙ ap (λ (s : List ℕ). slice_cmp nat_cmp (x ∷ padded n a) s) (padded_cons n y b)
    ∙ ap (λ (o : Ordering). ordering_then (nat_cmp x y) o) (padded_cmp n a b (omega arith) (omega arith) (and_true (is_allowed_byte x) (list_all is_allowed_byte a) p).1 (and_true (is_allowed_byte y) (list_all is_allowed_byte b) q).1)

-- ---- the part of a field

-- what a TEXT field holds
text_fits : (n : ℕ) (bytes : List ℕ) → fits_kind (TextField n) (Text bytes) ≡ true → (length bytes ≤ n) × (list_all is_allowed_byte bytes ≡ true)
text_fits n bytes fit =
    let parts = and_true (nat_le (length bytes) n) (is_allowed_text bytes) fit in
    (leb-true (length bytes) n parts.0, (and_true _ (list_all is_allowed_byte bytes) parts.1).1)

kind_part_long : (kind : FieldKind) (value : Value) → fits_kind kind value ≡ true → length (key_part kind value) ≡ key_kind_width kind
kind_part_long IntField (Int z) fit = length-int_key z
kind_part_long IntField (Text bytes) fit = cc
kind_part_long (TextField n) (Int z) fit = cc
kind_part_long (TextField n) (Text bytes) fit =
    let short : length bytes ≤ n = (text_fits n bytes fit).0 in
    length-append bytes (replicate (n - length bytes) 0) ∙ ap (λ (m : ℕ). length bytes + m) (length-replicate (n - length bytes) 0) ∙ omega arith
kind_part_long IntField Undefined fit = cc
kind_part_long (TextField n) Undefined fit = cc

part_long : (kind : FieldKind) (added : Bool) (value : Value) → fits (record { kind = kind; added = added }) value ≡ true → length (marked_part added kind value) ≡ mark_width added + key_kind_width kind
part_long kind false (Int z) fit = omega (arith, kind_part_long kind (Int z) fit)
part_long kind false (Text bytes) fit = omega (arith, kind_part_long kind (Text bytes) fit)
part_long kind false Undefined fit = cc
part_long kind true (Int z) fit = omega (arith, kind_part_long kind (Int z) fit)
part_long kind true (Text bytes) fit = omega (arith, kind_part_long kind (Text bytes) fit)
part_long kind true Undefined fit = omega (arith, length-replicate {A = ℕ} (key_kind_width kind) 0)

-- the part of a field of this form
abbrev pub form_part : FieldForm → Value → List ℕ
form_part form value = marked_part form.added form.kind value

-- the width of a part
pub length-key_part : (form : FieldForm) (value : Value) → fits form value ≡ true → length (form_part form value) ≡ key_part_width form
length-key_part form value fit = part_long form.kind form.added value fit

-- the part of a number, behind its mark
number_part : (kind : FieldKind) (added : Bool) (z : ℤ) → fits_kind kind (Int z) ≡ true → marked_part added kind (Int z) ≡ mark_bytes added (Int z) ++ with_sign_inverted (int_bytes z)
number_part IntField false z fit = refl
number_part IntField true z fit = refl
number_part (TextField n) added z fit = cc

pub number_put : (form : FieldForm) (z : ℤ) (value : Value) (into marked inverted new : List ℕ) → value ≡ Int z → fits form value ≡ true → marked ≡ into ++ mark_bytes form.added value → inverted ≡ with_sign_inverted (int_bytes z) → new ≡ marked ++ inverted
    → new ≡ into ++ form_part form value
number_put form z value into marked inverted new is fit mark number put =
    let part = number_part form.kind form.added z (subst (λ (v : Value). fits form v ≡ true) is fit) in
    put ∙ (λ j. mark j ++ number j) ∙ append_assoc into (mark_bytes form.added value) (with_sign_inverted (int_bytes z))
    ∙ ap (λ (v : Value). into ++ (mark_bytes form.added v ++ with_sign_inverted (int_bytes z))) is
    ∙ ap (λ (s : List ℕ). into ++ s) (sym part)
    ∙ ap (λ (v : Value). into ++ form_part form v) (sym is)

-- parts of a kind are ordered as the values
kind_part_cmp : (kind : FieldKind) (v w : Value) → fits_kind kind v ≡ true → fits_kind kind w ≡ true → IsStorable v → IsStorable w → slice_cmp nat_cmp (key_part kind v) (key_part kind w) ≡ value_cmp v w
kind_part_cmp IntField (Int z) (Int y) p q x u = int_key_cmp z y x u
kind_part_cmp IntField (Int z) (Text b) p q x u = cc
kind_part_cmp IntField (Int z) Undefined p q x u = cc
kind_part_cmp IntField (Text a) w p q x u = cc
kind_part_cmp IntField Undefined w p q x u = cc
kind_part_cmp (TextField n) (Int z) w p q x u = cc
kind_part_cmp (TextField n) Undefined w p q x u = cc
kind_part_cmp (TextField n) (Text a) (Int z) p q x u = cc
kind_part_cmp (TextField n) (Text a) Undefined p q x u = cc
kind_part_cmp (TextField n) (Text a) (Text b) p q x u =
    let one = text_fits n a p in
    let other = text_fits n b q in
    unfold padded in padded_cmp n a b one.0 other.0 one.1 other.1

-- parts are ordered as the values: an undefined one begins with 0, and every other one of the field with 1
part_cmp : (kind : FieldKind) (added : Bool) (v w : Value) → fits (record { kind = kind; added = added }) v ≡ true → fits (record { kind = kind; added = added }) w ≡ true → IsStorable v → IsStorable w
    → slice_cmp nat_cmp (marked_part added kind v) (marked_part added kind w) ≡ value_cmp v w
part_cmp kind false Undefined w p q x u = cc
part_cmp kind false (Int z) Undefined p q x u = cc
part_cmp kind false (Text a) Undefined p q x u = cc
part_cmp kind false (Int z) (Int y) p q x u = kind_part_cmp kind (Int z) (Int y) p q x u
part_cmp kind false (Int z) (Text b) p q x u = kind_part_cmp kind (Int z) (Text b) p q x u
part_cmp kind false (Text a) (Int y) p q x u = kind_part_cmp kind (Text a) (Int y) p q x u
part_cmp kind false (Text a) (Text b) p q x u = kind_part_cmp kind (Text a) (Text b) p q x u
part_cmp kind true Undefined Undefined p q x u = tied_itself nat_list_cmp_total (0 ∷ replicate (key_kind_width kind) 0)
part_cmp kind true Undefined (Int y) p q x u = refl
part_cmp kind true Undefined (Text b) p q x u = refl
part_cmp kind true (Int z) Undefined p q x u = refl
part_cmp kind true (Text a) Undefined p q x u = refl
part_cmp kind true (Int z) (Int y) p q x u = kind_part_cmp kind (Int z) (Int y) p q x u
part_cmp kind true (Int z) (Text b) p q x u = kind_part_cmp kind (Int z) (Text b) p q x u
part_cmp kind true (Text a) (Int y) p q x u = kind_part_cmp kind (Text a) (Int y) p q x u
part_cmp kind true (Text a) (Text b) p q x u = kind_part_cmp kind (Text a) (Text b) p q x u

-- ---- keys

-- keys are ordered as the lists of values
pub keys_cmp : (fields : List FieldForm) (vs ws : List Value) → AllFit fields vs → AllFit fields ws → All IsStorable vs → All IsStorable ws
    → slice_cmp nat_cmp (key_bytes fields vs) (key_bytes fields ws) ≡ values_cmp vs ws
keys_cmp [] [] [] p q x y = refl
keys_cmp [] [] (w ∷ ws) p q x y = absurd q
keys_cmp [] (v ∷ vs) ws p q x y = absurd p
keys_cmp (field ∷ fields) [] ws p q x y = absurd p
keys_cmp (field ∷ fields) (v ∷ vs) [] p q x y = absurd q
keys_cmp (field ∷ fields) (v ∷ vs) (w ∷ ws) p q x y =
    slice_cmp-append nat_cmp (form_part field v) (form_part field w) (key_bytes fields vs) (key_bytes fields ws) (length-key_part field v p.0 ∙ sym (length-key_part field w q.0))
    ∙ ap (λ (o : Ordering). ordering_then o (slice_cmp nat_cmp (key_bytes fields vs) (key_bytes fields ws))) (part_cmp field.kind field.added v w p.0 q.0 (All-head IsStorable v vs x) (All-head IsStorable w ws y))
    ∙ ap (λ (o : Ordering). ordering_then (value_cmp v w) o) (keys_cmp fields vs ws p.1 q.1 (All-tail IsStorable v vs x) (All-tail IsStorable w ws y))

value_cmp-IsAntisymmetric : IsAntisymmetric value_cmp
value_cmp-IsAntisymmetric (Int a) (Int b) e = ap Int (int_cmp-IsAntisymmetric a b e)
value_cmp-IsAntisymmetric (Int a) (Text b) e = cc
value_cmp-IsAntisymmetric (Int a) Undefined e = cc
value_cmp-IsAntisymmetric (Text a) (Int b) e = cc
value_cmp-IsAntisymmetric (Text a) Undefined e = cc
value_cmp-IsAntisymmetric Undefined (Int b) e = cc
value_cmp-IsAntisymmetric Undefined (Text b) e = cc
value_cmp-IsAntisymmetric Undefined Undefined e = refl
value_cmp-IsAntisymmetric (Text a) (Text b) e = ap Text (slice_cmp-IsAntisymmetric nat_cmp-IsAntisymmetric a b e)

-- what two keys of the same fields say of their values
pub keys_order : (fields : List FieldForm) (vs ws : List Value) (a b : List ℕ) → IsKeyOf fields vs a → IsKeyOf fields ws b → slice_cmp nat_cmp a b ≡ values_cmp vs ws
keys_order fields vs ws a b one other =
    ap (λ (s : List ℕ). slice_cmp nat_cmp s b) one.same ∙ ap (λ (s : List ℕ). slice_cmp nat_cmp (key_bytes fields vs) s) other.same
    ∙ keys_cmp fields vs ws (fitting 1 fields vs one.fit) (fitting 1 fields ws other.fit) one.storable other.storable

pub keys_same : (fields : List FieldForm) (vs ws : List Value) (a b : List ℕ) → IsKeyOf fields vs a → IsKeyOf fields ws b → (a ≡ b) ↔ (vs ≡ ws)
keys_same fields vs ws a b one other = (
  λ same. slice_cmp-IsAntisymmetric value_cmp-IsAntisymmetric vs ws (sym (keys_order fields vs ws a b one other) ∙ ap (λ (s : List ℕ). slice_cmp nat_cmp s b) same ∙ tied_itself nat_list_cmp_total b),
  λ same. one.same ∙ ap (key_bytes fields) same ∙ sym other.same,
)
