-- Values read from the front of bytes.
use Rattle.std.proofs.Common.{◌≡◌, ◌≢◌, ℕ, Bool, true, false, ℤ, List, [], ◌∷◌, ◌++◌, length, take, drop, Option, Some, None, IfSome, w64, to_z, of_z, refl, sym, ap, ◌∙◌, subst, inl, inr}
use Rattle.std.proofs.lemmas.List.{take_at, drop_at, take-append-drop}
use Rattle.std.proofs.lemmas.Int.{to_z-of_z}
use Rattle.rss_base.specs.declared.value.Value.{Value}
use Rattle.rss_base.specs.declared.value.Value.TheVariants.{Int, Text, Undefined}
use Rattle.rss_base.specs.declared.value.FieldKind.{FieldKind}
use Rattle.rss_base.specs.declared.value.FieldKind.TheVariants.{Int as IntField, Text as TextField}
use Rattle.rss_base.specs.declared.value.FieldForm.{FieldForm}
use Rattle.rss_base.specs.TupleTypes.{int_bytes, value_bytes}
use Rattle.rss_value.specs.ValueRefs.{value_of}
use Rattle.rss_value.specs.declared.value_ref.ValueRef.{ValueRef}
use Rattle.rss_value.specs.declared.value_ref.ValueRef.TheVariants.{Int as IntRef}
use Rattle.rss_value.specs.Reads.{IsInt, original, added, IsFront, Reads}
use Rattle.rss_base.proofs.Numbers.{int_bytes_same}
use Rattle.rss_value.proofs.Numbers.{length-int_bytes}

-- fronts of one length, and what stands behind them
append_same : {A : Type 0} (p q r s : List A) → length p ≡ length q → p ++ r ≡ q ++ s → (p ≡ q) × (r ≡ s)
append_same p q r s long same = (
  sym (take_at p r (length p) refl) ∙ ap (take (length p)) same ∙ take_at q s (length p) (sym long),
  sym (drop_at p r (length p) refl) ∙ ap (drop (length p)) same ∙ drop_at q s (length p) (sym long),
)

-- bytes begin with one value of a kind
original_one : (kind : FieldKind) (bytes : List ℕ) (v w : Value) (r s : List ℕ) → IsFront (original kind) bytes v r → IsFront (original kind) bytes w s → (v ≡ w) × (r ≡ s)
original_one kind bytes Undefined w r s one other = let wrong = one.fit in cc
original_one kind bytes (Int z) Undefined r s one other = let wrong = other.fit in cc
original_one kind bytes (Text a) Undefined r s one other = let wrong = other.fit in cc
original_one IntField bytes (Int z) (Int y) r s one other =
    let parts = append_same (int_bytes z) (int_bytes y) r s (length-int_bytes z ∙ sym (length-int_bytes y)) (sym one.same ∙ other.same) in
    (ap Int (int_bytes_same z y one.storable other.storable parts.0), parts.1)
original_one IntField bytes (Int z) (Text b) r s one other = let wrong = other.fit in cc
original_one IntField bytes (Text a) (Int y) r s one other = let wrong = one.fit in cc
original_one IntField bytes (Text a) (Text b) r s one other = let wrong = one.fit in cc
original_one (TextField n) bytes (Int z) (Int y) r s one other = let wrong = one.fit in cc
original_one (TextField n) bytes (Int z) (Text b) r s one other = let wrong = one.fit in cc
original_one (TextField n) bytes (Text a) (Int y) r s one other = let wrong = other.fit in cc
original_one (TextField n) bytes (Text a) (Text b) r s one other =
    let all : length a ∷ (a ++ r) ≡ length b ∷ (b ++ s) = sym one.same ∙ other.same in
    let long : length a ≡ length b = cc in
    let behind : a ++ r ≡ b ++ s = cc in
    let parts = append_same a b r s long behind in
    (ap Text parts.0, parts.1)

-- how an added field is read: at the end, from a 0, or behind a 1 as an original field of its kind
pub data Marked (kind : FieldKind) (bytes : List ℕ) (value : Value) (rest : List ℕ) : Type 0 where
  ended : bytes ≡ [] → rest ≡ [] → value ≡ Undefined → Marked kind bytes value rest
  passed : bytes ≡ 0 ∷ rest → rest ≢ [] → value ≡ Undefined → Marked kind bytes value rest
  given : (others : List ℕ) → bytes ≡ 1 ∷ others → IsFront (original kind) others value rest → Marked kind bytes value rest

pub marked : (kind : FieldKind) (bytes : List ℕ) (value : Value) (rest : List ℕ) → IsFront (added kind) bytes value rest → Marked kind bytes value rest
marked kind bytes (Int z) rest front = given (value_bytes (Int z) ++ rest) front.same (record { fit = front.fit; storable = front.storable; same = refl })
marked kind bytes (Text text) rest front = given (value_bytes (Text text) ++ rest) front.same (record { fit = front.fit; storable = tt; same = refl })
marked kind bytes Undefined rest front = elim front.same [ inl end ↦ ended end.0 end.1 refl | inr zero ↦ passed zero.0 zero.1 refl ]

marked_same : (kind : FieldKind) (bytes : List ℕ) (v w : Value) (r s : List ℕ) → Marked kind bytes v r → Marked kind bytes w s → (v ≡ w) × (r ≡ s)
marked_same kind bytes v w r s (ended e x u) (ended f y t) = (u ∙ sym t, x ∙ sym y)
marked_same kind bytes v w r s (ended e x u) (passed f y t) = cc
marked_same kind bytes v w r s (ended e x u) (given others f front) = cc
marked_same kind bytes v w r s (passed e x u) (ended f y t) = cc
marked_same kind bytes v w r s (passed e x u) (passed f y t) = let both : 0 ∷ r ≡ 0 ∷ s = sym e ∙ f in (u ∙ sym t, cc)
marked_same kind bytes v w r s (passed e x u) (given others f front) = cc
marked_same kind bytes v w r s (given others e front) (ended f y t) = cc
marked_same kind bytes v w r s (given others e front) (passed f y t) = cc
marked_same kind bytes v w r s (given a e front) (given b f other) =
    let both : 1 ∷ a ≡ 1 ∷ b = sym e ∙ f in
    let same : b ≡ a = cc in
    original_one kind a v w r s front (subst (λ (l : List ℕ). IsFront (original kind) l w s) same other)

front_by : (kind : FieldKind) (mark : Bool) (bytes : List ℕ) (v w : Value) (r s : List ℕ) → IsFront (record { kind = kind; added = mark }) bytes v r → IsFront (record { kind = kind; added = mark }) bytes w s → (v ≡ w) × (r ≡ s)
front_by kind false bytes v w r s one other = original_one kind bytes v w r s one other
front_by kind true bytes v w r s one other = marked_same kind bytes v w r s (marked kind bytes v r one) (marked kind bytes w s other)

-- bytes begin with one value of a field
pub front_one : (form : FieldForm) (bytes : List ℕ) (v w : Value) (r s : List ℕ) → IsFront form bytes v r → IsFront form bytes w s → (v ≡ w) × (r ≡ s)
front_one form bytes v w r s one other = front_by form.kind form.added bytes v w r s one other

reads_some : (form : FieldForm) (before : List ℕ) (value : ValueRef) (after : List ℕ) → IsFront form before (value_of value) after → Reads form before (Some value) after
reads_some form before value after front = record {
  some = front;
  exact = λ v rest other. let one = front_one form before (value_of value) v after rest front other in (ap Some one.0, one.1);
}

-- ---- added fields

-- the front behind a 1
behind_one : (kind : FieldKind) (before others : List ℕ) (value : Value) (rest : List ℕ) → before ≡ 1 ∷ others → Marked kind before value rest → IsFront (original kind) others value rest
behind_one kind before others value rest one (ended e x u) = cc
behind_one kind before others value rest one (passed e x u) = cc
behind_one kind before others value rest one (given a e front) =
    let both : 1 ∷ a ≡ 1 ∷ others = sym e ∙ one in
    let same : a ≡ others = cc in
    subst (λ (l : List ℕ). IsFront (original kind) l value rest) same front

pub front_marked : (kind : FieldKind) (before others : List ℕ) (value : Value) (rest : List ℕ) → before ≡ 1 ∷ others → IsFront (original kind) others value rest → IsFront (added kind) before value rest
front_marked kind before others (Int z) rest one front = record { fit = front.fit; storable = front.storable; same = one ∙ ap (λ (s : List ℕ). 1 ∷ s) front.same }
front_marked kind before others (Text text) rest one front = record { fit = front.fit; storable = tt; same = one ∙ ap (λ (s : List ℕ). 1 ∷ s) front.same }
front_marked kind before others Undefined rest one front = let wrong = front.fit in cc

-- behind a 1
pub read_one : (kind : FieldKind) (before others : List ℕ) (result : Option ValueRef) (after : List ℕ) → before ≡ 1 ∷ others → Reads (original kind) others result after → Reads (added kind) before result after
read_one kind before others result after one reads = record {
  some = some result reads.some;
  exact = λ value rest front. reads.exact value rest (behind_one kind before others value rest one (marked kind before value rest front));
}
  where
    some : (result : Option ValueRef) → IfSome result (λ value. IsFront (original kind) others (value_of value) after) → IfSome result (λ value. IsFront (added kind) before (value_of value) after)
    some None front = tt
    some (Some value) front = front_marked kind before others (value_of value) after one front

-- ---- numbers

pub int_front : (before bytes rest : List ℕ) (z : ℤ) → bytes ≡ take 8 before → rest ≡ drop 8 before → IsInt bytes z → IsFront (original IntField) before (Int z) rest
int_front before bytes rest z front behind number = record {
  fit = refl;
  storable = number.fit;
  same = sym (take-append-drop 8 before) ∙ ap (λ (s : List ℕ). s ++ drop 8 before) (sym front ∙ number.same) ∙ ap (λ (s : List ℕ). int_bytes z ++ s) (sym behind);
}

pub int_read : (before bytes rest : List ℕ) (z : ℤ) → bytes ≡ take 8 before → rest ≡ drop 8 before → IsInt bytes z → Reads (original IntField) before (Some (IntRef (to_z w64 (of_z w64 z)))) rest
int_read before bytes rest z front behind number =
    subst (λ (y : ℤ). Reads (original IntField) before (Some (IntRef y)) rest) (sym (to_z-of_z w64 z number.fit)) (reads_some (original IntField) before (IntRef z) rest (int_front before bytes rest z front behind number))
