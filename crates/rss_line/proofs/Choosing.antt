-- A choice by the next word.
use Rattle.std.proofs.Common.{◌≡◌, ◌⊎◌, inl, inr, ℕ, ◌<◌, Bool, true, false, not, ◌&&◌, nat_lt, List, [], ◌∷◌, get_or, length, drop, Result, Ok, Err, IfOk, IsErrAnd, refl, ap, sym, subst, arith}
use Rattle.std.specs.Prelude.{All, ⊤}
use Rattle.std.specs.Borrow.{Bor}
use Rattle.std.specs.List.{list_all}
use Rattle.std.specs.Str.{bytes_eq}
use Rattle.std.proofs.lemmas.Bool.{false≢true, and_parts, ltb-true}
use Rattle.std.proofs.lemmas.List.Elements.{All-nil, All-cons, All-get_or}
use Rattle.std.proofs.lemmas.Slice.Eq.{bytes_eq-Decides}
use Rattle.std.proofs.lemmas.Str.Ascii.{IsAscii-from_reads}
use Rattle.rss_model.specs.Spellings.{space}
use Rattle.rss_model.specs.Script.{HasWords}
use Rattle.rss_model.specs.Forms.{Row, OneOf}
use Rattle.rss_line.specs.Reads.{IsPlain, ReadsPlain, ReadsWords, Behind}
use Rattle.rss_line.specs.declared.fault.LineFault.{LineFault}
use Rattle.rss_line.specs.declared.fault.LineFault.TheVariants.{Words}
use Rattle.rss_line.proofs.Combining.{has_as, as_form, NeedsPlain}
use Rattle.rss_line.proofs.Plain.{IsLow}

-- ---- the words of rows

-- letters, by a test
abbrev pub is_letter : ℕ → Bool
is_letter b = nat_lt 96 b && nat_lt b 123

abbrev pub is_written : List ℕ → Bool
is_written [] = false
is_written (b ∷ word) = list_all is_letter (b ∷ word)

abbrev pub IsLetterByte : ℕ → Type 0
IsLetterByte b = (96 < b) × (b < 123)

letters : (word : List ℕ) → list_all is_letter word ≡ true → All IsLetterByte word
letters [] test = All-nil IsLetterByte
letters (b ∷ word) test =
    let parts = and_parts (is_letter b) (list_all is_letter word) test in
    let both = and_parts (nat_lt 96 b) (nat_lt b 123) parts.0 in
    All-cons IsLetterByte b word (ltb-true 96 b both.0, ltb-true b 123 both.1) (letters word parts.1)

weaker : (P Q : ℕ → Type 0) → ((b : ℕ) → P b → Q b) → (word : List ℕ) → All P word → All Q word
weaker P Q to word all k d below = to _ (all k d below)

pub written_plain : (word : List ℕ) → is_written word ≡ true → IsPlain word
written_plain [] test = absurd (false≢true test)
written_plain (b ∷ word) test =
    let all = letters (b ∷ word) test in
    record {
      some = λ none. omega (arith, ap length none);
      bare = weaker IsLetterByte (λ b. b ≡ space → ⊥) (λ b letter is. omega (arith, letter.0, is)) (b ∷ word) all;
      ascii = IsAscii-from_reads (b ∷ word) (length (b ∷ word)) (omega arith) (λ k below. let letter = All-get_or IsLetterByte (b ∷ word) k 0 below all in omega (arith, letter.1));
    }

-- a letter comes first, so no byte below the letters does
pub written_high : (word : List ℕ) → is_written word ≡ true → IsLow word → ⊥
written_high [] test low = low
written_high (b ∷ word) test low =
    let parts = and_parts (is_letter b) (list_all is_letter word) test in
    let both = and_parts (nat_lt 96 b) (nat_lt b 123) parts.0 in
    omega (arith, ltb-true 96 b both.0, low)

-- each row's word is letters
abbrev pub are_written : {T : Type 0} → List (Row T) → Bool
are_written [] = true
are_written (row ∷ rows) = is_written row.word && are_written rows

pub same_first : {v w : List ℕ} {x y : List (List ℕ)} → v ∷ x ≡ w ∷ y → v ≡ w
same_first e = ap (λ l. get_or l 0 []) e

pub same_rest : {v w : List ℕ} {x y : List (List ℕ)} → v ∷ x ≡ w ∷ y → x ≡ y
same_rest e = ap (drop 1) e

-- one of the rows begins with a word of letters
pub first_word : {T : Type 0} (rows : List (Row T)) → are_written rows ≡ true → (words : List (List ℕ)) (x : T) → OneOf rows words x
    → (word : List ℕ) × (rest : List (List ℕ)) × (words ≡ word ∷ rest) × (is_written word ≡ true)
first_word [] test words x form = absurd form
first_word (row ∷ rows) test words x (inl (rest, same, form)) = (row.word, rest, same, (and_parts (is_written row.word) (are_written rows) test).0)
first_word (row ∷ rows) test words x (inr form) = first_word rows (and_parts (is_written row.word) (are_written rows) test).1 words x form

-- ---- the row of a word

abbrev pub picked : Bool → Type 0 → Type 0 → Type 0
picked true A B = A ⊎ B
picked false A B = B

-- the forms of the rows that have this word
abbrev pub chosen : {T : Type 0} → List (Row T) → List ℕ → List (List ℕ) → T → Type 0
chosen [] word words x = ⊥
chosen (row ∷ rows) word words x = picked (bytes_eq row.word word) (row.form words x) (chosen rows word words x)

picked_more : (b : Bool) (A B : Type 0) → B → picked b A B
picked_more true A B y = inr y
picked_more false A B y = y

picked_here : (b : Bool) (A B : Type 0) → b ≡ true → A → picked b A B
picked_here true A B is a = inl a
picked_here false A B is a = absurd (false≢true is)

choose : {T : Type 0} (rows : List (Row T)) (word : List ℕ) (words : List (List ℕ)) (x : T) → OneOf rows (word ∷ words) x → chosen rows word words x
choose [] word words x form = form
choose (row ∷ rows) word words x (inl (rest, same, form)) =
    picked_here (bytes_eq row.word word) (row.form words x) (chosen rows word words x) ((bytes_eq-Decides row.word word).1 (sym (same_first same)))
    (subst (λ (w : List (List ℕ)). row.form w x) (sym (same_rest same)) form)
choose (row ∷ rows) word words x (inr form) = picked_more (bytes_eq row.word word) (row.form words x) (chosen rows word words x) (choose rows word words x form)

unpick : (b : Bool) (A B : Type 0) {C : Type 0} → (b ≡ true → A → C) → (B → C) → picked b A B → C
unpick true A B first second (inl a) = first refl a
unpick true A B first second (inr y) = second y
unpick false A B first second y = second y

pub unchoose : {T : Type 0} (rows : List (Row T)) (word : List ℕ) (words : List (List ℕ)) (x : T) → chosen rows word words x → OneOf rows (word ∷ words) x
unchoose [] word words x form = form
unchoose (row ∷ rows) word words x form = unpick (bytes_eq row.word word) (row.form words x) (chosen rows word words x)
    (λ is here. inl (words, ap (λ w. w ∷ words) (sym ((bytes_eq-Decides row.word word).0 is)), here))
    (λ more. inr (unchoose rows word words x more)) form

-- ---- reading

pub sole : {T : Type 0} {Form : List (List ℕ) → T → Type 0} {old : List ℕ} (r : Result T LineFault) → ReadsWords Form old r → ReadsWords (λ words x. Form words x ⊎ ⊥) old r
sole {Form = Form} r reads = as_form r (λ words x form. inl form) (λ words x form. back words x form) reads
  where
    back : (words : List (List ℕ)) (x : _) → Form words x ⊎ ⊥ → Form words x
    back words x (inl form) = form
    back words x (inr never) = absurd never

pub reads_row : {T : Type 0} (rows : List (Row T)) {word : List ℕ} (verb : List ℕ) {old : List ℕ} (r : Result T LineFault) → word ≡ verb → ReadsWords (chosen rows verb) old r → ReadsWords (Behind rows word) old r
reads_row rows {word = word} verb {old = old} r is reads = subst (λ (w : List ℕ). ReadsWords (Behind rows w) old r) (sym is) (as_form r (unchoose rows verb) (choose rows verb) reads)

-- a word that no row has
abbrev pub IsNoneOf : {T : Type 0} → List (Row T) → List ℕ → Type 0
IsNoneOf [] word = ⊤
IsNoneOf (row ∷ rows) word = (word ≡ row.word → ⊥) × IsNoneOf rows word

-- the same by a test
abbrev pub has_none : {T : Type 0} → List (Row T) → List ℕ → Bool
has_none [] word = true
has_none (row ∷ rows) word = not (bytes_eq word row.word) && has_none rows word

pub none_of : {T : Type 0} (rows : List (Row T)) (word : List ℕ) → has_none rows word ≡ true → IsNoneOf rows word
none_of [] word test = tt
none_of (row ∷ rows) word test =
    let parts = and_parts (not (bytes_eq word row.word)) (has_none rows word) test in
    (λ is. differs (bytes_eq word row.word) parts.0 ((bytes_eq-Decides word row.word).1 is), none_of rows word parts.1)
  where
    differs : (b : Bool) → not b ≡ true → b ≡ true → ⊥
    differs true off is = false≢true off
    differs false off is = false≢true is

pub none_has : {T : Type 0} (rows : List (Row T)) (word : List ℕ) → IsNoneOf rows word → (words : List (List ℕ)) (x : T) → OneOf rows (word ∷ words) x → ⊥
none_has [] word none words x form = form
none_has (row ∷ rows) word none words x (inl (rest, same, form)) = none.0 (same_first same)
none_has (row ∷ rows) word none words x (inr form) = none_has rows word none.1 words x form

pub no_row : {T : Type 0} (rows : List (Row T)) (word : List ℕ) {old : List ℕ} → IsNoneOf rows word → ReadsWords (Behind rows word) old (Err Words)
no_row rows word none = record { ok = tt; all = λ words x has form. absurd (none_has rows word none words x form) }

row_ok : {T : Type 0} (rows : List (Row T)) {old mid : List ℕ} {w : Bor (List ℕ)} (r : Result T LineFault) → ReadsPlain old mid (Ok w)
    → IfOk r (λ x. (words : List (List ℕ)) × HasWords mid words × OneOf rows (w.now ∷ words) x)
    → IfOk r (λ x. (words : List (List ℕ)) × HasWords old words × OneOf rows words x)
row_ok rows {mid = mid} {w = w} (Ok x) reads (words, has, form) = (w.now ∷ words, (mid, reads.ok, has), form)
row_ok rows (Err e) reads ok = tt

module _ {T : Type 0} (rows : List (Row T)) (test : are_written rows ≡ true) {old mid : List ℕ} where
  pub no_first : {e : LineFault} (r : Result T LineFault) → ReadsPlain old mid (Err e) → IsErrAnd r (λ why. why ≡ e) → ReadsWords (OneOf rows) old r
  no_first (Ok x) reads is = absurd is
  no_first (Err f) reads is = record {
    ok = tt;
    all = λ words x has form.
        let (word, rest, same, written) = first_word rows test words x form in
        let (left, begins, more) = has_as old same has in
        absurd (reads.all word left begins (written_plain word written));
  }

  pub with_first : {w : Bor (List ℕ)} (r : Result T LineFault) → ReadsPlain old mid (Ok w) → ReadsWords (Behind rows w.now) mid r → ReadsWords (OneOf rows) old r
  with_first r reads next = record {
    ok = row_ok rows r reads next.ok;
    all = λ words x has form.
        let (word, rest, same, written) = first_word rows test words x form in
        let (left, begins, more) = has_as old same has in
        let read = reads.all word left begins (written_plain word written) in
        next.all rest x (subst (λ (bytes : List ℕ). HasWords bytes rest) (sym read.1) more)
        (subst (λ (v : List ℕ). OneOf rows (v ∷ rest) x) (sym read.0) (subst (λ (w : List (List ℕ)). OneOf rows w x) same form));
  }

  -- the next word, which begins with a byte below the letters, is none of the rows'
  pub not_row : {w : Bor (List ℕ)} → ReadsPlain old mid (Ok w) → IsLow w.now → (words : List (List ℕ)) (x : T) → HasWords old words → OneOf rows words x → ⊥
  not_row reads low words x has form =
      let (word, rest, same, written) = first_word rows test words x form in
      let (left, begins, more) = has_as old same has in
      written_high word written (subst IsLow (reads.all word left begins (written_plain word written)).0 low)

pub needs_row : {T : Type 0} (rows : List (Row T)) → are_written rows ≡ true → NeedsPlain (OneOf rows)
needs_row rows test words x form =
    let (word, rest, same, written) = first_word rows test words x form in
    (word, rest, same, written_plain word written)
