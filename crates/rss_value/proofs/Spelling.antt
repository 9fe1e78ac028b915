-- Which bytes spell a tuple, and that they spell one alone.
use Rattle.std.proofs.Common.{◌≡◌, ◌↔◌, ℕ, zero, suc, ◌+◌, ◌<◌, ◌≤◌, ◌^◌, ◌/◌, lit<, Option, Some, Fits, Bool, cond, true, false, ◌&&◌, List, [], ◌∷◌, ◌++◌, length, take, drop, get_or, nat_le, None, refl, sym, ap, ◌∙◌, subst, inl, inr, arith, ℤ, w64, to_z, of_z, leb-true, length-append}
use Rattle.std.proofs.Math.Facts.{sfits_to_z}
use Rattle.std.proofs.Math.Nat.{mod-lt}
use Rattle.std.proofs.lemmas.Bool.{lt-ltb, ltb-true, le-leb}
use Rattle.std.proofs.lemmas.List.{take_at, drop_at, take-append-drop, length-take}
use Rattle.std.proofs.lemmas.Option.{cond_some}
use Rattle.std.specs.Int.{from_be_bytes, bytes_high_first, byte_at, cast_unsigned}
use Rattle.std.specs.Cmp.Derive.{both_true}
use Rattle.std.specs.List.{list_all}
use Rattle.std.specs.Option.{is_some}
use Rattle.rss_base.specs.declared.value.Value.{Value}
use Rattle.rss_base.specs.declared.value.Value.TheVariants.{Int, Text, Undefined}
use Rattle.rss_base.specs.declared.value.FieldKind.{FieldKind}
use Rattle.rss_base.specs.declared.value.FieldKind.TheVariants.{Int as IntField, Text as TextField}
use Rattle.rss_base.specs.declared.value.FieldForm.{FieldForm}
use Rattle.rss_base.specs.declared.field.FieldDef.{FieldDef}
use Rattle.rss_base.specs.TupleTypes.{misfit, form_of, kinds, width, int_bytes, tuple_bytes, is_allowed_text, Spells, SpellsSome}
use Rattle.rss_value.specs.Reads.{IsInt, original, IsFront, Reads}
use Rattle.rss_value.specs.ValueRefs.{value_of}
use Rattle.rss_value.specs.declared.value_ref.ValueRef.{ValueRef}
use Rattle.rss_value.specs.Spelled.{is_byte, behind, behind_marked, behind_field, holds_behind, is_spelled}
use Rattle.rss_value.proofs.Bytes.{number_of, below}
use Rattle.rss_value.proofs.Fitting.{and_true, fitting}
use Rattle.rss_value.proofs.Standing.{tuple_short}
use Rattle.rss_value.proofs.Numbers.{length-int_bytes, byte_at_is}
use Rattle.rss_value.proofs.Reading.{front_one, int_front, Marked, ended, passed, given, marked, front_marked}
use Rattle.rss_value.proofs.Walking.{Walk, walk_of, spelled_by, Decoding, decoding_more, decoding_none, decoded, decoded_only}

-- ---- one list of values

walk_one : (fields : List FieldForm) (bytes : List ℕ) (a b : List Value) → Walk fields bytes a → Walk fields bytes b → a ≡ b
walk_one [] bytes [] [] one other = refl
walk_one [] bytes [] (w ∷ b) one other = absurd other
walk_one [] bytes (v ∷ a) b one other = absurd one
walk_one (field ∷ fields) bytes [] b one other = absurd one
walk_one (field ∷ fields) bytes (v ∷ a) [] one other = absurd other
walk_one (field ∷ fields) bytes (v ∷ a) (w ∷ b) (rest, (front, walk)) (left, (read, way)) =
    let same = front_one field bytes v w rest left front read in
    ap (λ (x : Value). x ∷ a) same.0 ∙ ap (λ (l : List Value). w ∷ l) (walk_one fields left a b (subst (λ (s : List ℕ). Walk fields s a) same.1 walk) way)

-- bytes spell one tuple at most
pub spells_once : (fields : List FieldForm) (bytes : List ℕ) (a b : List Value) → Spells fields bytes a → Spells fields bytes b → a ≡ b
spells_once fields bytes a b one other = walk_one fields bytes a b (walk_of fields bytes a one) (walk_of fields bytes b other)

-- ---- how many bytes a tuple has

-- a tuple has at most as many bytes as its fields are wide
pub length-tuple_bytes : (fields : List FieldForm) (values : List Value) → misfit fields values ≡ None → length (tuple_bytes fields values) ≤ width fields
length-tuple_bytes fields values none = tuple_short fields values (fitting 1 fields values none)

-- ---- tests that hold together

and_three : (a b c : Bool) → (a && b && c) ≡ true → (a ≡ true) × (b ≡ true) × (c ≡ true)
and_three true true c all = (refl, refl, all)
and_three true false c all = cc
and_three false b c all = cc

three_true : (a b c : Bool) → a ≡ true → b ≡ true → c ≡ true → (a && b && c) ≡ true
three_true true true c x y z = z
three_true true false c x y z = cc
three_true false b c x y z = cc

-- two tests of which one holds where the other does
pub same_test : (a b : Bool) → (a ≡ true → b ≡ true) → (b ≡ true → a ≡ true) → a ≡ b
same_test true b there back = sym (there refl)
same_test false true there back = back refl
same_test false false there back = refl

-- ---- bytes of numbers

byte_low : (k n : ℕ) → byte_at k n < 256
byte_low k n = omega (arith, byte_at_is k n, mod-lt (n / 256 ^ k) (lit< {m = 0} {n = 256} tt))

high_first_bytes : (k n : ℕ) → list_all is_byte (bytes_high_first k n) ≡ true
high_first_bytes zero n = refl
high_first_bytes (suc k) n = ap (λ (b : Bool). b && list_all is_byte (bytes_high_first k n)) (lt-ltb (byte_at k n) 256 (byte_low k n)) ∙ high_first_bytes k n

byte_each : (bytes : List ℕ) (i : ℕ) → list_all is_byte bytes ≡ true → get_or bytes i 0 < 256
byte_each [] i all = omega arith
byte_each (b ∷ bytes) zero all = ltb-true b 256 (and_true (is_byte b) (list_all is_byte bytes) all).0
byte_each (b ∷ bytes) (suc i) all = byte_each bytes i (and_true (is_byte b) (list_all is_byte bytes) all).1

-- eight bytes are those of a number
is_number : (bytes : List ℕ) → length bytes ≡ 8 → list_all is_byte bytes ≡ true → (z : ℤ) × IsInt bytes z
is_number bytes long all =
    let fits = λ (i : ℕ). byte_each bytes i all in
    let n : ℕ = from_be_bytes w64 bytes in
    let low : Fits w64 n = omega (arith, below bytes fits) in
    (to_z w64 (of_z w64 (to_z w64 n)), number_of bytes (to_z w64 n) long fits (sfits_to_z low) refl)

-- ---- what stands behind a value

-- where something stands behind a value of a kind, the bytes begin with one
kind_front : (kind : FieldKind) (bytes rest : List ℕ) → behind kind bytes ≡ Some rest → (value : Value) × IsFront (original kind) bytes value rest
kind_front IntField bytes rest is =
    let holds = cond_some (nat_le 8 (length bytes) && list_all is_byte (take 8 bytes)) (drop 8 bytes) rest is in
    let each = and_true (nat_le 8 (length bytes)) (list_all is_byte (take 8 bytes)) holds.0 in
    let number = is_number (take 8 bytes) (omega (arith, length-take 8 bytes, leb-true 8 (length bytes) each.0)) each.1 in
    (Int number.0, int_front bytes (take 8 bytes) rest number.0 refl (sym holds.1) number.1)
kind_front (TextField n) [] rest is = cc
kind_front (TextField n) (count ∷ bytes) rest is =
    let holds = cond_some (nat_le count n && nat_le count (length bytes) && is_allowed_text (take count bytes)) (drop count bytes) rest is in
    let each = and_three (nat_le count n) (nat_le count (length bytes)) (is_allowed_text (take count bytes)) holds.0 in
    let long : length (take count bytes) ≡ count = omega (arith, length-take count bytes, leb-true count (length bytes) each.1) in (
      Text (take count bytes),
      record {
        fit = ap (λ (m : ℕ). nat_le m n && is_allowed_text (take count bytes)) long ∙ both_true each.0 each.2;
        storable = tt;
        same = ap (λ (m : ℕ). m ∷ bytes) (sym long) ∙ ap (λ (s : List ℕ). length (take count bytes) ∷ s) (sym (take-append-drop count bytes) ∙ ap (λ (s : List ℕ). take count bytes ++ s) holds.1);
      },
    )

-- where the bytes begin with a value of a kind, its rest stands behind it
kind_rest : (kind : FieldKind) (bytes : List ℕ) (value : Value) (rest : List ℕ) → IsFront (original kind) bytes value rest → behind kind bytes ≡ Some rest
kind_rest kind bytes Undefined rest front = let wrong = front.fit in cc
kind_rest IntField bytes (Int z) rest front =
    let test : (nat_le 8 (length (int_bytes z ++ rest)) && list_all is_byte (take 8 (int_bytes z ++ rest))) ≡ true =
    both_true (le-leb 8 (length (int_bytes z ++ rest)) (omega (arith, length-append (int_bytes z) rest, length-int_bytes z)))
    (ap (list_all is_byte) (take_at (int_bytes z) rest 8 (length-int_bytes z)) ∙ high_first_bytes 8 (cast_unsigned w64 z)) in
    ap (behind IntField) front.same ∙ ap (λ (b : Bool). cond b (Some (drop 8 (int_bytes z ++ rest))) None) test ∙ ap Some (drop_at (int_bytes z) rest 8 (length-int_bytes z))
kind_rest IntField bytes (Text text) rest front = let wrong = front.fit in cc
kind_rest (TextField n) bytes (Int z) rest front = let wrong = front.fit in cc
kind_rest (TextField n) bytes (Text text) rest front =
    let both = and_true (nat_le (length text) n) (is_allowed_text text) front.fit in
    let test : (nat_le (length text) n && nat_le (length text) (length (text ++ rest)) && is_allowed_text (take (length text) (text ++ rest))) ≡ true =
    three_true _ _ _ both.0 (le-leb (length text) (length (text ++ rest)) (omega (arith, length-append text rest))) (ap is_allowed_text (take_at text rest (length text) refl) ∙ both.1) in
    ap (behind (TextField n)) front.same ∙ ap (λ (b : Bool). cond b (Some (drop (length text) (text ++ rest))) None) test ∙ ap Some (drop_at text rest (length text) refl)

-- the same of a field
field_front : (kind : FieldKind) (mark : Bool) (bytes rest : List ℕ) → behind_field mark kind bytes ≡ Some rest → (value : Value) × IsFront (record { kind = kind; added = mark }) bytes value rest
field_front kind false bytes rest is = kind_front kind bytes rest is
field_front kind true [] rest is = let end : rest ≡ [] = cc in (Undefined, record { fit = refl; storable = tt; same = inl (refl, end) })
field_front kind true (zero ∷ []) rest is = cc
field_front kind true (zero ∷ byte ∷ bytes) rest is =
    let same : byte ∷ bytes ≡ rest = cc in
    (Undefined, record { fit = refl; storable = tt; same = inr (ap (λ (s : List ℕ). 0 ∷ s) same, λ none. cc) })
field_front kind true (suc zero ∷ bytes) rest is =
    let one = kind_front kind bytes rest is in
    (one.0, front_marked kind (1 ∷ bytes) bytes one.0 rest refl one.1)
field_front kind true (suc (suc mark) ∷ bytes) rest is = cc

marked_rest : (kind : FieldKind) (bytes : List ℕ) (value : Value) (rest : List ℕ) → Marked kind bytes value rest → behind_marked kind bytes ≡ Some rest
marked_rest kind bytes value rest (ended e x u) = ap (behind_marked kind) e ∙ ap Some (sym x)
marked_rest kind bytes value [] (passed e x u) = absurd (x refl)
marked_rest kind bytes value (byte ∷ rest) (passed e x u) = ap (behind_marked kind) e
marked_rest kind bytes value rest (given others e front) = ap (behind_marked kind) e ∙ kind_rest kind others value rest front

field_rest : (kind : FieldKind) (mark : Bool) (bytes : List ℕ) (value : Value) (rest : List ℕ) → IsFront (record { kind = kind; added = mark }) bytes value rest → behind_field mark kind bytes ≡ Some rest
field_rest kind false bytes value rest front = kind_rest kind bytes value rest front
field_rest kind true bytes value rest front = marked_rest kind bytes value rest (marked kind bytes value rest front)

-- ---- the test and a walk

-- a test that holds behind a value
held_behind : (test : List ℕ → Bool) (found : Option (List ℕ)) → holds_behind test found ≡ true → (rest : List ℕ) × (found ≡ Some rest) × (test rest ≡ true)
held_behind test None holds = cc
held_behind test (Some rest) holds = (rest, refl, holds)

walked_by : (fields : List FieldForm) (bytes : List ℕ) → is_spelled fields bytes ≡ true → (values : List Value) × Walk fields bytes values
walked_by [] [] holds = ([], refl)
walked_by [] (b ∷ bytes) holds = cc
walked_by (field ∷ fields) bytes holds =
    let found = held_behind (is_spelled fields) (behind_field field.added field.kind bytes) holds in
    let one = field_front field.kind field.added bytes found.0 found.1 in
    let others = walked_by fields found.0 found.2 in
    (one.0 ∷ others.0, (found.0, (one.1, others.1)))

walk_spelled : (fields : List FieldForm) (bytes : List ℕ) (values : List Value) → Walk fields bytes values → is_spelled fields bytes ≡ true
walk_spelled [] bytes [] walk = ap (is_spelled []) walk
walk_spelled [] bytes (value ∷ values) walk = absurd walk
walk_spelled (field ∷ fields) bytes [] walk = absurd walk
walk_spelled (field ∷ fields) bytes (value ∷ values) (rest, (front, walk)) =
    ap (holds_behind (is_spelled fields)) (field_rest field.kind field.added bytes value rest front) ∙ walk_spelled fields rest values walk

-- the test holds exactly for the bytes that spell a tuple
pub is_spelled_exactly : (fields : List FieldForm) (bytes : List ℕ) → (is_spelled fields bytes ≡ true) ↔ SpellsSome fields bytes
is_spelled_exactly fields bytes = (
  λ holds. let walked = walked_by fields bytes holds in (walked.0, spelled_by fields bytes walked.0 walked.1),
  λ some. walk_spelled fields bytes some.0 (walk_of fields bytes some.0 some.1),
)

-- so a test that holds exactly for them is that one
pub is_that_test : (fields : List FieldForm) (bytes : List ℕ) (test : Bool) → (test ≡ true) ↔ SpellsSome fields bytes → test ≡ is_spelled fields bytes
is_that_test fields bytes test exact =
    let spelled = is_spelled_exactly fields bytes in
    same_test test (is_spelled fields bytes) (λ holds. spelled.1 (exact.0 holds)) (λ holds. exact.1 (spelled.0 holds))

-- ---- fields read one after another

-- some values are read, and the rest is to be read with the fields that are left
abbrev pub HasRead : List FieldForm → List ℕ → List FieldForm → List ℕ → Type 0
HasRead fields bytes left rest = (done : List Value) × Decoding fields bytes left rest done

pub read_more : (fields : List FieldDef) (bytes : List ℕ) (i : ℕ) (d : FieldDef) (rest after : List ℕ) (result : Option ValueRef) → i < length fields → HasRead (kinds fields) bytes (drop i (kinds fields)) rest → Reads (form_of (get_or fields i d)) rest result after → is_some result ≡ true
    → HasRead (kinds fields) bytes (drop (i + 1) (kinds fields)) after
read_more fields bytes i d rest after None within sofar reads some = cc
read_more fields bytes i d rest after (Some value) within (done, decoding) reads some = (done ++ value_of value ∷ [], decoding_more fields bytes i d rest after done (value_of value) within decoding reads.some)

pub none_read : (fields : List FieldDef) (bytes : List ℕ) (i : ℕ) (d : FieldDef) (rest after : List ℕ) (result : Option ValueRef) → i < length fields → HasRead (kinds fields) bytes (drop i (kinds fields)) rest → Reads (form_of (get_or fields i d)) rest result after → is_some result ≡ false
    → SpellsSome (kinds fields) bytes → ⊥
none_read fields bytes i d rest after None within (done, decoding) reads none (values, spelled) = decoding_none fields bytes i d rest after done values within decoding reads spelled
none_read fields bytes i d rest after (Some value) within sofar reads none some = cc

pub all_fields_read : (fields : List FieldDef) (bytes : List ℕ) (i : ℕ) (rest : List ℕ) → length fields ≤ i → HasRead (kinds fields) bytes (drop i (kinds fields)) rest → (rest ≡ []) ↔ SpellsSome (kinds fields) bytes
all_fields_read fields bytes i rest past (done, decoding) = (
  λ end. (done, decoded fields bytes i rest done past decoding end),
  λ some. (decoded_only fields bytes i rest done some.0 past decoding some.1).1,
)
