-- Words that need no quotes.
use Rattle.std.proofs.Common.{◌≡◌, ◌∙◌, inl, inr, ℕ, zero, suc, ◌-◌, ◌<◌, ◌≤◌, ◌^◌, not, cond, ◌==◌, List, [], ◌∷◌, ◌++◌, length, get_or, nat_le, Bool, true, false, replicate, take_while, refl, ap, sym, subst, arith, rules}
use Rattle.std.specs.Prelude.{◌≢◌, All, ℤ, pos, negsuc, codes, decimal, FitsSigned}
use Rattle.std.specs.Int.{w64}
use Rattle.std.proofs.lemmas.Int.{ints}
use Rattle.std.specs.List.{list_all}
use Rattle.std.proofs.lemmas.Bool.{ne_eqb, and_parts, leb-true}
use Rattle.std.proofs.lemmas.List.Sums.{take_while-cons}
use Rattle.std.specs.Fmt.{signed_decimal}
use Rattle.std.specs.Str.{IsAscii}
use Rattle.std.specs.Str.Parse.{AllDigits}
use Rattle.std.proofs.lemmas.Fmt.{digits_decimal, decimal_nonempty, IsAscii-signed, IsAscii-decimal}
use Rattle.std.proofs.lemmas.Str.{IsAscii-append}
use Rattle.std.proofs.lemmas.Str.Ascii.{IsAscii-from_reads}
use Rattle.std.proofs.lemmas.Str.Parse.{numerals_by_value, tells_digits, not_in_digits, digit_at}
use Rattle.std.proofs.lemmas.List.Elements.{All-cons, All-head, All-tail, All-append, All-weaker, All-get_or, All-from_get_or}
use Rattle.rss_base.specs.declared.tid.Tid.{Tid}
use Rattle.rss_base.specs.declared.name.Name.{Name}
use Rattle.rss_base.specs.declared.value.FieldKind.{FieldKind}
use Rattle.rss_base.specs.declared.value.FieldKind.TheVariants.{Int as IntField, Text as TextField}
use Rattle.rss_base.specs.declared.field.FieldDef.{FieldDef}
use Rattle.rss_base.specs.Names.{IsName, IsNameByte}
use Rattle.rss_base.specs.TupleTypes.{is_kind}
use Rattle.rss_model.specs.Spellings.{space, name_text, field_kind_text}
use Rattle.rss_model.specs.Script.{IsTransaction, IsNameWord, IsNumber, IsTid, IsTidIn, IsNumberIn, IsVariable, IsMode, IsField}
use Rattle.rss_model.specs.Variables.{Variable}
use Rattle.rss_line.specs.Reads.{IsPlain, IsInt}
use Rattle.rss_line.proofs.Cuts.{IsSolid, plain_solid, bare_from}
use Rattle.rss_line.proofs.Numbers.{mag_fits}

-- a byte that no digits have
pub decimal_off : (c n : ℕ) → c < 48 → n < 2 ^ 64 → All (λ b. b ≢ c) (decimal n)
decimal_off c n low small = let own = numerals_by_value (AllDigits 10) tells_digits in
    All-from_get_or (λ b. b ≢ c) (decimal n) 0 (not_in_digits own (decimal n) c (digits_decimal own n small) (λ h. omega (arith, low, h)))

-- a digit lies below 58
digits_below : (n : ℕ) → n < 2 ^ 64 → All (λ b. b < 58) (decimal n)
digits_below n small = let own = numerals_by_value (AllDigits 10) tells_digits in
    All-from_get_or (λ b. b < 58) (decimal n) 0 (λ i below. let digit = digit_at (decimal n) i (digits_decimal own n small) below in omega (arith, digit.1))

decimal_some : (n : ℕ) → n < 2 ^ 64 → decimal n ≢ []
decimal_some n small none = omega (arith, decimal_nonempty n small, ap length none)

decimal_plain : (n : ℕ) → n < 2 ^ 64 → IsPlain (decimal n)
decimal_plain n small = record {
  some = decimal_some n small;
  bare = decimal_off space n (omega arith) small;
  ascii = IsAscii-decimal n small;
}

pub transaction_plain : (word : List ℕ) (t : ℕ) → IsTransaction word t → IsPlain word
transaction_plain word t is = let below = is.below in subst IsPlain (sym is.spelled) (decimal_plain t (omega arith))

-- two plain words as one
plain_append : (a b : List ℕ) → IsPlain a → IsPlain b → IsPlain (a ++ b)
plain_append a b one other = record {
  some = λ none. one.some (front_none a b none);
  bare = All-append (λ n. n ≢ space) a b one.bare other.bare;
  ascii = IsAscii-append a b one.ascii other.ascii;
}
  where
    front_none : (a b : List ℕ) → a ++ b ≡ [] → a ≡ []
    front_none [] b none = refl
    front_none (x ∷ a) b none = absurd (omega (arith, ap length none))

-- a word as it stands in the code
literal_plain : (first : ℕ) (rest : List ℕ) → list_all (λ b. not (b == space)) (first ∷ rest) ≡ true → IsAscii (first ∷ rest) → IsPlain (first ∷ rest)
literal_plain first rest bare ascii = record { some = λ none. omega (arith, ap length none); bare = bare_from (first ∷ rest) bare; ascii = ascii }

pub tid_plain : (word : List ℕ) (tid : Tid) → IsTid word tid → IsPlain word
tid_plain word tid is = let low = is.page in let least = is.slot in
    let page = decimal_plain tid.page (omega arith) in
    let slot = decimal_plain tid.slot (omega arith) in
    let point : IsPlain (codes ".") = literal_plain _ _ refl (search rules) in
    subst IsPlain (sym is.spelled) (plain_append (decimal tid.page ++ codes ".") (decimal tid.slot) (plain_append (decimal tid.page) (codes ".") page point) slot)

-- the bytes of a number: neither a space nor a quote
pub signed_off : (c : ℕ) (z : ℤ) → c < 45 → FitsSigned w64 z → All (λ b. b ≢ c) (signed_decimal z)
signed_off c (pos n) low fits = decimal_off c n (omega (arith, low)) (omega (arith, ints, fits))
signed_off c (negsuc n) low fits = All-cons (λ b. b ≢ c) 45 (decimal (suc n)) (λ is. omega (arith, low, is)) (decimal_off c (suc n) (omega (arith, low)) (omega (arith, ints, fits)))

signed_some : (z : ℤ) → FitsSigned w64 z → signed_decimal z ≢ []
signed_some (pos n) fits none = decimal_some n (omega (arith, ints, fits)) none
signed_some (negsuc n) fits none = omega (arith, ap length none)

pub int_plain : (word : List ℕ) (z : ℤ) → IsInt word z → IsPlain word
int_plain word z is = subst IsPlain (sym is.spelled) (record {
  some = signed_some z is.proper;
  bare = signed_off space z (omega arith) is.proper;
  ascii = IsAscii-signed z (mag_fits z is.proper);
})

-- ---- names

-- a byte of a name is no zero, no space and no byte of other characters
abbrev IsPlainByte : ℕ → Type 0
IsPlainByte b = (48 ≤ b) × (b < 128)

plain_byte : (b : ℕ) → IsNameByte b → IsPlainByte b
plain_byte b (inl letter) = (omega (arith, letter.0), omega (arith, letter.1))
plain_byte b (inr (inl digit)) = (digit.0, omega (arith, digit.1))
plain_byte b (inr (inr under)) = (omega (arith, under), omega (arith, under))

before_zeros : (xs : List ℕ) (n : ℕ) → All IsPlainByte xs → take_while (λ b. not (b == 0)) (xs ++ replicate n 0) ≡ xs
before_zeros [] zero all = refl
before_zeros [] (suc n) all = take_while-cons (λ b. not (b == 0)) 0 (replicate n 0)
before_zeros (x ∷ xs) n all =
    let low = All-head IsPlainByte x xs all in
    take_while-cons (λ b. not (b == 0)) x (xs ++ replicate n 0)
    ∙ (ap (λ t. cond (not t) (x ∷ take_while (λ b. not (b == 0)) (xs ++ replicate n 0)) []) (ne_eqb x 0 (λ is. omega (arith, low.0, is)))
    ∙ ap (λ l. x ∷ l) (before_zeros xs n (All-tail IsPlainByte x xs all)))

plain_bytes : {name : Name} (is : IsName name) → All IsPlainByte (is.first ∷ is.rest)
plain_bytes is = All-cons IsPlainByte is.first is.rest (plain_byte is.first (inl is.letter)) (All-weaker IsNameByte IsPlainByte plain_byte is.rest is.each)

pub name_is : {name : Name} (is : IsName name) → name_text name ≡ is.first ∷ is.rest
name_is is = ap (take_while (λ b. not (b == 0))) is.bytes ∙ before_zeros (is.first ∷ is.rest) (15 - length is.rest) (plain_bytes is)

ascii_from : (bytes : List ℕ) → All IsPlainByte bytes → IsAscii bytes
ascii_from bytes all = IsAscii-from_reads bytes (length bytes) (omega arith) (λ k below. (All-get_or IsPlainByte bytes k 0 below all).1)

text_plain : {name : Name} → IsName name → IsPlain (name_text name)
text_plain is = subst IsPlain (sym (name_is is)) (record {
  some = λ none. omega (arith, ap length none);
  bare = All-weaker IsPlainByte (λ b. b ≢ space) (λ b low same. omega (arith, low.0, same)) (is.first ∷ is.rest) (plain_bytes is);
  ascii = ascii_from (is.first ∷ is.rest) (plain_bytes is);
})

pub name_plain : (word : List ℕ) (name : Name) → IsNameWord word name → IsPlain word
name_plain word name is = subst IsPlain (sym is.spelled) (text_plain is.is_name)

-- no byte of a name is a colon
colon_off : (b : ℕ) → IsNameByte b → b ≢ 58
colon_off b (inl letter) is = omega (arith, letter.0, is)
colon_off b (inr (inl digit)) is = omega (arith, digit.1, is)
colon_off b (inr (inr under)) is = omega (arith, under, is)

pub no_colon : {name : Name} → IsName name → (i : ℕ) → i < length (name_text name) → get_or (name_text name) i 0 ≢ 58
no_colon is = subst (λ (w : List ℕ). (i : ℕ) → i < length w → get_or w i 0 ≢ 58) (sym (name_is is))
    (λ i below. All-get_or (λ b. b ≢ 58) (is.first ∷ is.rest) i 0 below
    (All-cons (λ b. b ≢ 58) is.first is.rest (colon_off is.first (inl is.letter)) (All-weaker IsNameByte (λ b. b ≢ 58) colon_off is.rest is.each)))

-- ---- fields

-- a text has 1 to 255 bytes
pub kind_range : (n : ℕ) → is_kind (TextField n) ≡ true → (1 ≤ n) × (n ≤ 255)
kind_range n kind = let both = and_parts (nat_le 1 n) (nat_le n 255) kind in (leb-true 1 n both.0, leb-true n 255 both.1)

kind_plain : (kind : FieldKind) → is_kind kind ≡ true → IsPlain (field_kind_text kind)
kind_plain IntField is = literal_plain _ _ refl (search rules)
kind_plain (TextField n) is =
    let range = kind_range n is in
    plain_append (codes "text") (decimal n) (literal_plain _ _ refl (search rules)) (decimal_plain n (omega (arith, range.1)))

pub field_plain : (word : List ℕ) (field : FieldDef) → IsField word field → IsPlain word
field_plain word field is = subst IsPlain (sym is.spelled)
    (plain_append (name_text field.name ++ codes ":") (field_kind_text field.kind)
    (plain_append (name_text field.name) (codes ":") (text_plain is.is_name) (literal_plain _ _ refl (search rules)))
    (kind_plain field.kind is.kind))

pub field_solid : (word : List ℕ) (field : FieldDef) → IsField word field → IsSolid word
field_solid word field is = plain_solid word (field_plain word field is)

-- ---- numbers, variables and modes

pub number_plain : (word : List ℕ) (n : ℕ) → IsNumber word n → IsPlain word
number_plain word n is = let below = is.below in subst IsPlain (sym is.spelled) (decimal_plain n (omega arith))

pub variable_plain : (word : List ℕ) (name : Name) → IsVariable word name → IsPlain word
variable_plain word name is = subst IsPlain (sym is.spelled)
    (plain_append (codes "$") (name_text name) (literal_plain _ _ refl (search rules)) (text_plain is.is_name))

pub tid_in_plain : (names : List Variable) (word : List ℕ) (tid : Tid) → IsTidIn names word tid → IsPlain word
tid_in_plain names word tid (inl is) = tid_plain word tid is
tid_in_plain names word tid (inr is) = variable_plain word is.name is.is_variable

pub number_in_plain : (names : List Variable) (word : List ℕ) (n : ℕ) → IsNumberIn names word n → IsPlain word
number_in_plain names word n (inl is) = number_plain word n is
number_in_plain names word n (inr is) = variable_plain word is.name is.is_variable

pub mode_plain : (word : List ℕ) (exclusive : Bool) → IsMode word exclusive → IsPlain word
mode_plain word true is = subst IsPlain (sym is) (literal_plain _ _ refl (search rules))
mode_plain word false is = subst IsPlain (sym is) (literal_plain _ _ refl (search rules))

pub name_solid : (word : List ℕ) (name : Name) → IsNameWord word name → IsSolid word
name_solid word name is = plain_solid word (name_plain word name is)

-- ---- a word's first byte

-- a byte below the letters comes first
abbrev pub IsLow : List ℕ → Type 0
IsLow [] = ⊥
IsLow (b ∷ word) = b < 97

low_append : (a b : List ℕ) → IsLow a → IsLow (a ++ b)
low_append [] b low = absurd low
low_append (x ∷ a) b low = low

digits_low : (word : List ℕ) → All (λ b. b < 58) word → word ≢ [] → IsLow word
digits_low [] all some = absurd (some refl)
digits_low (b ∷ word) all some = omega (arith, All-head (λ b. b < 58) b word all)

decimal_low : (n : ℕ) → n < 2 ^ 64 → IsLow (decimal n)
decimal_low n small = digits_low (decimal n) (digits_below n small) (decimal_some n small)

signed_low : (z : ℤ) → FitsSigned w64 z → IsLow (signed_decimal z)
signed_low (pos n) fits = decimal_low n (omega (arith, ints, fits))
signed_low (negsuc n) fits = omega arith

pub int_low : (word : List ℕ) (z : ℤ) → IsInt word z → IsLow word
int_low word z is = subst IsLow (sym is.spelled) (signed_low z is.proper)

pub variable_low : (word : List ℕ) (name : Name) → IsVariable word name → IsLow word
variable_low word name is = subst IsLow (sym is.spelled) (omega arith)

pub tid_in_low : (names : List Variable) (word : List ℕ) (tid : Tid) → IsTidIn names word tid → IsLow word
tid_in_low names word tid (inl is) = let low = is.page in
    subst IsLow (sym is.spelled) (low_append (decimal tid.page ++ codes ".") (decimal tid.slot) (low_append (decimal tid.page) (codes ".") (decimal_low tid.page (omega arith))))
tid_in_low names word tid (inr is) = variable_low word is.name is.is_variable

pub equals_plain : IsPlain (codes "=")
equals_plain = literal_plain _ _ refl (search rules)

-- a variable begins with `$`
pub variable_first : (word : List ℕ) (name : Name) → IsVariable word name → get_or word 0 0 ≡ 36
variable_first word name is = ap (λ w. get_or w 0 0) is.spelled
