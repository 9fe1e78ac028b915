-- The lines of answers are short.
use Rattle.std.proofs.Common.{false, Bool, ◌≡◌, inl, inr, ℕ, suc, ◌+◌, ◌*◌, ◌-◌, ◌^◌, ◌<◌, ◌≤◌, List, [], ◌∷◌, ◌++◌, length, true, sym, ◌∙◌, ap, arith, length-append}
use Rattle.std.specs.Prelude.{Some, None, nat_le, All, Ok, Err, codes, decimal, replicate, not, ◌==◌}
use Rattle.std.specs.List.{prefix_len}
use Rattle.std.proofs.lemmas.List.{length-take, length-replicate}
use Rattle.std.proofs.lemmas.Fmt.{length-decimal-le, length_signed_le}
use Rattle.rss_base.specs.declared.name.Name.{Name}
use Rattle.rss_base.specs.declared.tid.Tid.{Tid}
use Rattle.rss_base.specs.declared.value.Value.{Value}
use Rattle.rss_base.specs.declared.value.Value.TheVariants.{Int, Text, Undefined}
use Rattle.rss_base.specs.declared.value.FieldKind.{FieldKind}
use Rattle.rss_base.specs.declared.value.FieldForm.{FieldForm}
use Rattle.rss_base.specs.declared.value.FieldKind.TheVariants.{Int as IntField, Text as TextField}
use Rattle.rss_base.specs.TupleTypes.{fits, misfit, misfit_from, most_fields, width, most_width, mark_width, kind_width, field_width, is_allowed_text, IsStorable}
use Rattle.std.proofs.lemmas.Bool.{cases_Bool, cond-true, cond-false, leb-true, and_parts}
use Rattle.std.proofs.lemmas.List.Sums.{sum_by-cons}
use Rattle.rss_base.specs.declared.answer.Reply.TheVariants.{Tid as Identifier, Tuple as TupleReply, Row}
use Rattle.rss_base.specs.declared.refusal.Refusal.TheVariants.{BadTuple, Full}
use Rattle.rss_base.specs.Names.{IsName}
use Rattle.rss_model.specs.Spellings.{quote, doubled, value_text, name_text, tid_text}
use Rattle.rss_model.specs.ReplyText.{values_text, answer_line}

-- a text of this length, and then the end of its line
ended : (front text : List ℕ) (n : ℕ) → length text ≤ n → length ((front ++ text) ++ codes "\n") ≤ length front + n + 1
ended front text n short = omega (arith, length-append (front ++ text) (codes "\n"), length-append front text)

tid_short : (tid : Tid) → tid.page < 2 ^ 32 → tid.slot < 2 ^ 32 → length (tid_text tid) ≤ 21
tid_short tid page slot =
    let first = length-decimal-le 10 tid.page (omega arith) (omega (arith, page)) (omega (arith, page)) in
    let second = length-decimal-le 10 tid.slot (omega arith) (omega (arith, slot)) (omega (arith, slot)) in
    omega (arith, first, second, length-append (decimal tid.page ++ codes ".") (decimal tid.slot), length-append (decimal tid.page) (codes "."))

pub identifier_line : (tid : Tid) → tid.page < 2 ^ 32 → tid.slot < 2 ^ 32 → length (answer_line (Ok (Identifier tid))) ≤ 8192
identifier_line tid page slot = omega (arith, ended (codes "ok ") (tid_text tid) 21 (tid_short tid page slot))

pub bad_tuple_line : (field : ℕ) → field < 2 ^ 32 → length (answer_line (Err (BadTuple field))) ≤ 8192
bad_tuple_line field small =
    let short = length-decimal-le 10 field (omega arith) (omega (arith, small)) (omega (arith, small)) in
    omega (arith, ended (codes "refused 8 bad tuple ") (decimal field) 10 short)

pub full_line : (slots needed : ℕ) → slots < 2 ^ 32 → needed < 2 ^ 64 → length (answer_line (Err (Full slots needed))) ≤ 8192
full_line slots needed few small =
    let first = length-decimal-le 10 slots (omega arith) (omega (arith, few)) (omega (arith, few)) in
    let second = length-decimal-le 20 needed (omega arith) (omega (arith, small)) (omega (arith, small)) in
    omega (arith, first, second, length-append (decimal slots ++ codes " " ++ decimal needed) (codes "\n"), length-append (decimal slots ++ codes " ") (decimal needed), length-append (decimal slots) (codes " "))

name_short : (name : Name) → IsName name → length (name_text name) ≤ 16
name_short name is =
    let bytes : length name.bytes ≤ 16 = omega (arith, ap length is.bytes, is.few, length-append is.rest (replicate (15 - length is.rest) 0), length-replicate {A = ℕ} (15 - length is.rest) 0) in
    omega (arith, bytes, length-take (prefix_len (λ (b : ℕ). not (b == 0)) name.bytes) name.bytes)

-- ---- the line of a tuple

doubled_short : (bytes : List ℕ) → length (doubled bytes) ≤ 2 * length bytes
doubled_short [] = omega arith
doubled_short (b ∷ bytes) = elim (cases_Bool (b == quote)) [
  | inl is ↦ omega (arith, doubled_short bytes, ap length (cond-true (b == quote) (quote ∷ quote ∷ doubled bytes) (b ∷ doubled bytes) is))
  | inr off ↦ omega (arith, doubled_short bytes, ap length (cond-false (b == quote) (quote ∷ quote ∷ doubled bytes) (b ∷ doubled bytes) off))
]

-- a value has at most thrice as many bytes as its field's width and four more, with the space before it
value_short : (field : FieldForm) (value : Value) → fits field value ≡ true → IsStorable value → 1 + length (value_text value) ≤ 3 * field_width field + 4
value_short field value is stored = by field.kind field.added value is stored
  where
    by : (kind : FieldKind) (added : Bool) (value : Value) → fits (record { kind = kind; added = added }) value ≡ true → IsStorable value
        → 1 + length (value_text value) ≤ 3 * (mark_width added + kind_width kind) + 4
    by IntField added (Int z) is stored = omega (arith, length_signed_le 19 z (omega (arith, stored.sfits)) stored.sfits)
    by IntField added (Text bytes) is stored = absurd (cc)
    by IntField added Undefined is stored = omega arith
    by (TextField n) added (Int z) is stored = absurd (cc)
    by (TextField n) added (Text bytes) is stored =
        let few = leb-true (length bytes) n (and_parts (nat_le (length bytes) n) (is_allowed_text bytes) is).0 in
        omega (arith, few, doubled_short bytes, length-append (doubled bytes) (quote ∷ []))
    by (TextField n) true Undefined is stored = omega arith
    by (TextField n) false Undefined is stored = absurd (cc)

-- the first value fits, and so do the others
pub first_fits : (k : ℕ) (field : FieldForm) (fields : List FieldForm) (value : Value) (values : List Value) → misfit_from k (field ∷ fields) (value ∷ values) ≡ None → (fits field value ≡ true) × (misfit_from (k + 1) fields values ≡ None)
first_fits k field fields value values is = elim (cases_Bool (fits field value)) [
  | inl on ↦ (on, sym (cond-true (fits field value) (misfit_from (k + 1) fields values) (Some k) on) ∙ is)
  | inr off ↦ absurd (some-none (sym (cond-false (fits field value) (misfit_from (k + 1) fields values) (Some k) off) ∙ is))
]
  where
    some-none : Some k ≡ None → ⊥
    some-none e = cc

pub values_short : (k : ℕ) (fields : List FieldForm) (values : List Value) → misfit_from k fields values ≡ None → All IsStorable values → length (values_text values) ≤ 3 * width fields + 4 * length fields
values_short k [] [] fit stored = omega arith
values_short k [] (value ∷ values) fit stored = absurd (cc)
values_short k (field ∷ fields) [] fit stored = absurd (cc)
values_short k (field ∷ fields) (value ∷ values) fit stored =
    let parts = first_fits k field fields value values fit in
    let first = value_short field value parts.0 (stored 0 value (omega arith)) in
    let rest = values_short (k + 1) fields values parts.1 (λ j d lt. stored (suc j) d (omega (arith, lt))) in
    omega (arith, first, rest, length-append (value_text value) (values_text values), sum_by-cons field_width field fields)

pub tuple_line : (fields : List FieldForm) (values : List Value) → misfit fields values ≡ None → width fields ≤ most_width → length fields ≤ most_fields → All IsStorable values → length (answer_line (Ok (TupleReply values))) ≤ 8192
tuple_line fields values fit narrow few stored = omega (arith, narrow, few, values_short 1 fields values fit stored, length-append (values_text values) (codes "\n"))

-- with its identifier before it
pub row_line : (tid : Tid) (fields : List FieldForm) (values : List Value) → tid.page < 2 ^ 32 → tid.slot < 2 ^ 32 → misfit fields values ≡ None → width fields ≤ most_width → length fields ≤ most_fields → All IsStorable values → length (answer_line (Ok (Row tid values))) ≤ 8192
row_line tid fields values page slot fit narrow few stored =
    omega (arith, narrow, few, values_short 1 fields values fit stored, tid_short tid page slot, length-append (tid_text tid ++ values_text values) (codes "\n"), length-append (tid_text tid) (values_text values))
