-- A word stands for one thing.
use Rattle.std.proofs.Common.{◌≡◌, ◌∙◌, inl, inr, ℕ, suc, ◌^◌, ◌<◌, ◌≤◌, true, false, List, [], ◌∷◌, ◌++◌, length, get_or, drop, Some, refl, ap, sym, arith, append_assoc}
use Rattle.std.specs.Prelude.{◌≢◌, codes, decimal}
use Rattle.std.specs.Str.Parse.{AllDigits}
use Rattle.std.proofs.lemmas.Fmt.{decimal_injective, digits_decimal, decimal_nonempty}
use Rattle.std.proofs.lemmas.Str.Parse.{numerals_by_value, tells_digits, digit_at}
use Rattle.rss_base.specs.declared.name.Name.{Name}
use Rattle.rss_base.specs.declared.tid.Tid.{Tid}
use Rattle.rss_base.specs.declared.value.FieldKind.{FieldKind}
use Rattle.rss_base.specs.declared.value.FieldKind.TheVariants.{Int as IntField, Text as TextField}
use Rattle.rss_base.specs.TupleTypes.{is_kind}
use Rattle.rss_model.specs.Spellings.{name_text, field_kind_text}
use Rattle.rss_model.specs.Variables.{Meaning, Identifier, Number, Variable, meaning_of}
use Rattle.rss_model.specs.Script.{IsTransaction, IsNameWord, IsNumber, IsTid, IsVariable, IsSet, IsTidIn, IsNumberIn, IsMode, IsField}
use Rattle.rss_line.proofs.Cuts.{same_head, same_tail}
use Rattle.rss_line.proofs.Plain.{kind_range, no_colon, variable_first}
use Rattle.rss_line.proofs.NameTexts.{name_text_of, same_name}
use Rattle.rss_line.proofs.Tids.{no_point, same_tid}
use Rattle.rss_line.proofs.Fields.{same_field}

-- such a word stands for one thing at most
abbrev pub IsFunction : {T : Type 0} → (List ℕ → T → Type 0) → Type 0
IsFunction {T = T} Is = (word : List ℕ) (x y : T) → Is word x → Is word y → x ≡ y

-- ---- two parts, cut at a byte

cut_once : (c : ℕ) (a b x y : List ℕ) → ((i : ℕ) → i < length a → get_or a i 0 ≢ c) → ((i : ℕ) → i < length b → get_or b i 0 ≢ c) → a ++ c ∷ x ≡ b ++ c ∷ y → (a ≡ b) × (x ≡ y)
cut_once c [] [] x y off_a off_b e = (refl, same_tail e)
cut_once c [] (b ∷ bs) x y off_a off_b e = absurd (off_b 0 (omega arith) (sym (same_head e)))
cut_once c (a ∷ more) [] x y off_a off_b e = absurd (off_a 0 (omega arith) (same_head e))
cut_once c (a ∷ more) (b ∷ bs) x y off_a off_b e =
    let rest = cut_once c more bs x y (λ i below. off_a (suc i) (omega (arith, below))) (λ i below. off_b (suc i) (omega (arith, below))) (same_tail e) in
    (ap (λ n. n ∷ more) (same_head e) ∙ ap (λ l. b ∷ l) rest.0, rest.1)

-- ---- numbers

pub one_transaction : IsFunction IsTransaction
one_transaction word x y is has = let low = is.below in let other = has.below in decimal_injective x y (omega arith) (omega arith) (sym is.spelled ∙ has.spelled)

one_number : IsFunction IsNumber
one_number word x y is has = let low = is.below in let other = has.below in decimal_injective x y (omega arith) (omega arith) (sym is.spelled ∙ has.spelled)

one_tid : IsFunction IsTid
one_tid word x y is has =
    let page = is.page in let slot = is.slot in let page_too = has.page in let slot_too = has.slot in
    let parts = cut_once 46 (decimal x.page) (decimal y.page) (decimal x.slot) (decimal y.slot) (no_point x.page (omega arith)) (no_point y.page (omega arith))
    (sym (append_assoc (decimal x.page) (codes ".") (decimal x.slot)) ∙ (sym is.spelled ∙ (has.spelled ∙ append_assoc (decimal y.page) (codes ".") (decimal y.slot)))) in
    same_tid x y (decimal_injective x.page y.page (omega arith) (omega arith) parts.0) (decimal_injective x.slot y.slot (omega arith) (omega arith) parts.1)

-- ---- names and variables

pub one_name : IsFunction IsNameWord
one_name word x y is has = same_name x y ((name_text_of word x is).1 ∙ sym (name_text_of word y has).1)

pub one_variable : IsFunction IsVariable
one_variable word x y is has =
    one_name (drop 1 word) x y (record { spelled = ap (drop 1) is.spelled; is_name = is.is_name }) (record { spelled = ap (drop 1) has.spelled; is_name = has.is_name })

one_meaning : (names : List Variable) (word : List ℕ) (x y : Meaning) → IsSet names word x → IsSet names word y → x ≡ y
one_meaning names word x y is has =
    let same = one_variable word is.name has.name is.is_variable has.is_variable in
    some_same (sym is.means ∙ (ap (meaning_of names) same ∙ has.means))
  where
    some_same : {a b : Meaning} → Some a ≡ Some b → a ≡ b
    some_same e = cc

-- digits come first, and no `$`
decimal_first : (n : ℕ) → n < 2 ^ 64 → 48 ≤ get_or (decimal n) 0 0
decimal_first n small = let own = numerals_by_value (AllDigits 10) tells_digits in
    (digit_at (decimal n) 0 (digits_decimal own n small) (decimal_nonempty n small)).0

front_first : (a b : List ℕ) → 0 < length a → get_or (a ++ b) 0 0 ≡ get_or a 0 0
front_first [] b some = absurd (omega (arith, some))
front_first (x ∷ a) b some = refl

pub tid_no_variable : (word : List ℕ) (tid : Tid) (name : Name) → IsTid word tid → IsVariable word name → ⊥
tid_no_variable word tid name is variable =
    let page = is.page in
    let digit = decimal_first tid.page (omega arith) in
    let first = front_first (decimal tid.page) (codes "." ++ decimal tid.slot) (decimal_nonempty tid.page (omega arith)) in
    let spelled = ap (λ w. get_or w 0 0) (is.spelled ∙ append_assoc (decimal tid.page) (codes ".") (decimal tid.slot)) in
    omega (arith, digit, first, spelled, variable_first word name variable)

pub number_no_variable : (word : List ℕ) (n : ℕ) (name : Name) → IsNumber word n → IsVariable word name → ⊥
number_no_variable word n name is variable =
    let below = is.below in
    let digit = decimal_first n (omega arith) in
    omega (arith, digit, ap (λ w. get_or w 0 0) is.spelled, variable_first word name variable)

identifier_same : {s t : Tid} → Identifier s ≡ Identifier t → s ≡ t
identifier_same e = cc

number_same : {m n : ℕ} → Number m ≡ Number n → m ≡ n
number_same e = cc

pub one_tid_in : (names : List Variable) → IsFunction (IsTidIn names)
one_tid_in names word x y (inl is) (inl has) = one_tid word x y is has
one_tid_in names word x y (inl is) (inr has) = absurd (tid_no_variable word x has.name is has.is_variable)
one_tid_in names word x y (inr is) (inl has) = absurd (tid_no_variable word y is.name has is.is_variable)
one_tid_in names word x y (inr is) (inr has) = identifier_same (one_meaning names word (Identifier x) (Identifier y) is has)

pub one_number_in : (names : List Variable) → IsFunction (IsNumberIn names)
one_number_in names word x y (inl is) (inl has) = one_number word x y is has
one_number_in names word x y (inl is) (inr has) = absurd (number_no_variable word x has.name is has.is_variable)
one_number_in names word x y (inr is) (inl has) = absurd (number_no_variable word y is.name has is.is_variable)
one_number_in names word x y (inr is) (inr has) = number_same (one_meaning names word (Number x) (Number y) is has)

pub one_mode : IsFunction IsMode
one_mode word true true is has = refl
one_mode word false false is has = refl
one_mode word true false is has = let same = sym is ∙ has in absurd (omega (arith, ap length same))
one_mode word false true is has = let same = sym is ∙ has in absurd (omega (arith, ap length same))

-- ---- fields

one_kind : (x y : FieldKind) → is_kind x ≡ true → is_kind y ≡ true → field_kind_text x ≡ field_kind_text y → x ≡ y
one_kind IntField IntField is has e = refl
one_kind IntField (TextField n) is has e = absurd (omega (arith, ap (λ l. get_or l 0 0) e))
one_kind (TextField m) IntField is has e = absurd (omega (arith, ap (λ l. get_or l 0 0) e))
one_kind (TextField m) (TextField n) is has e =
    let left = (kind_range m is).1 in let right = (kind_range n has).1 in
    ap TextField (decimal_injective m n (omega arith) (omega arith) (ap (drop 4) e))

pub one_field : IsFunction IsField
one_field word x y is has =
    let parts = cut_once 58 (name_text x.name) (name_text y.name) (field_kind_text x.kind) (field_kind_text y.kind) (no_colon is.is_name) (no_colon has.is_name)
    (sym (append_assoc (name_text x.name) (codes ":") (field_kind_text x.kind)) ∙ (sym is.spelled ∙ (has.spelled ∙ append_assoc (name_text y.name) (codes ":") (field_kind_text y.kind)))) in
    same_field x y
    (one_name (name_text x.name) x.name y.name (record { spelled = refl; is_name = is.is_name }) (record { spelled = parts.0; is_name = has.is_name }))
    (one_kind x.kind y.kind is.kind has.kind parts.1) (is.original ∙ sym has.original)
