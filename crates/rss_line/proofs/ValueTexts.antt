-- Values: numbers, texts between quotes, and the word for what is undefined.
use Rattle.std.proofs.Common.{◌≡◌, ◌∙◌, ℕ, ℤ, List, [], ◌∷◌, ◌++◌, Some, Result, Ok, Err, IfOk, IsErrAnd, refl, ap, sym, subst, arith, append_assoc, append-nil}
use Rattle.std.specs.Prelude.{◌≢◌, All, codes}
use Rattle.std.proofs.lemmas.List.Elements.{All-nil, All-head}
use Rattle.rss_base.specs.declared.value.Value.{Value}
use Rattle.rss_base.specs.declared.value.Value.TheVariants.{Int, Text, Undefined}
use Rattle.rss_model.specs.Spellings.{space, quote, doubled}
use Rattle.rss_model.specs.Script.{IsApart, Begins, IsValue}
use Rattle.rss_line.specs.Reads.{IsOff, IsPlain, IsInt, IsPlainValue, Skips, ReadsAs, ReadsWord, ReadsText, Gives}
use Rattle.rss_line.specs.declared.fault.LineFault.{LineFault}
use Rattle.rss_line.specs.declared.fault.LineFault.TheVariants.{Words, NoMemory}
use Rattle.rss_line.proofs.Pieces.{doubled-append}
use Rattle.rss_line.proofs.Cuts.{same_tail, not_empty, IsSolid, plain_solid, skipped, at_once, no_second, same_text, apart_off}
use Rattle.rss_line.proofs.Plain.{IsLow, signed_off, int_plain, int_low}
use Rattle.rss_line.proofs.Combining.{ArePlain, AreSolid, some_same, behind_spaces}
use Rattle.rss_line.proofs.Choosing.{written_plain, written_high}

-- ---- a value's first byte

text_solid : {word rest : List ℕ} → word ≡ quote ∷ rest → IsSolid word
text_solid e = subst IsSolid (sym e) (λ is. omega (arith, is))

pub plain_value_plain : ArePlain IsPlainValue
plain_value_plain word (Int z) is = int_plain word z is
plain_value_plain word (Text bytes) is = absurd is
plain_value_plain word Undefined is = subst IsPlain (sym is.spelled) (written_plain (codes "undefined") refl)

-- a number begins with no letter
pub int_undefined : (word : List ℕ) (z : ℤ) → IsInt word z → IsValue word Undefined → ⊥
int_undefined word z is has = written_high (codes "undefined") refl (subst IsLow has.spelled (int_low word z is))

pub value_solid : AreSolid IsValue
value_solid word (Int z) is = plain_solid word (int_plain word z (record { spelled = is.spelled; proper = is.proper }))
value_solid word (Text bytes) is = text_solid is.spelled
value_solid word Undefined is = plain_solid word (plain_value_plain word Undefined is)

quote_off : (word rest : List ℕ) → All (λ b. b ≢ quote) word → word ≢ [] → IsOff quote (word ++ rest)
quote_off [] rest off some = absurd (some refl)
quote_off (b ∷ word) rest off some = All-head (λ n. n ≢ quote) b word off

-- a value without quotes begins with none
pub plain_off : (word : List ℕ) (value : Value) → IsPlainValue word value → (rest : List ℕ) → IsOff quote (word ++ rest)
plain_off word (Int z) is rest = quote_off word rest (subst (All (λ b. b ≢ quote)) (sym is.spelled) (signed_off quote z (omega arith) is.proper)) (int_plain word z is).some
plain_off word (Text bytes) is rest = absurd is
plain_off word Undefined is rest = subst (λ w. IsOff quote (w ++ rest)) (sym is.spelled) (λ same. omega (arith, same))

-- what begins with no space
off_skips : {bytes : List ℕ} → IsOff space bytes → Skips bytes bytes
off_skips off = record { spaces = []; before = All-nil (λ n. n ≡ space); parts = refl; off = off }

-- ---- a text

-- where a quote is next, no value without quotes is
no_plain : {bytes word rest : List ℕ} (value : Value) → Begins (quote ∷ bytes) word rest → IsPlainValue word value → ⊥
no_plain {bytes = bytes} {word = word} {rest = rest} value begins is =
    no_second (word ++ rest) bytes (plain_off word value is rest)
    (sym (skipped (off_skips {bytes = quote ∷ bytes} (λ same. omega (arith, same))) (plain_solid word (plain_value_plain word value is)) begins))

-- a value that begins with a quote is a text
pub quote_front : {bytes word rest : List ℕ} (value : Value) → Begins (quote ∷ bytes) word rest → IsValue word value
    → (text : List ℕ) × (value ≡ Text text) × (bytes ≡ doubled text ++ quote ∷ rest)
quote_front (Int z) begins is = absurd (no_plain (Int z) begins (record { spelled = is.spelled; proper = is.proper }))
quote_front Undefined begins is = absurd (no_plain Undefined begins (record { spelled = is.spelled; proper = is.proper }))
quote_front {bytes = bytes} {word = word} {rest = rest} (Text text) begins is =
    let all = skipped (off_skips {bytes = quote ∷ bytes} (λ same. omega (arith, same))) (value_solid word (Text text) is) begins in
    (text, refl, same_tail (all ∙ ap (λ l. l ++ rest) is.spelled) ∙ append_assoc (doubled text) (quote ∷ []) rest)

pub text_more : (old now new text : List ℕ) (b : ℕ) → old ≡ doubled text ++ now → now ≡ doubled (b ∷ []) ++ new → old ≡ doubled (text ++ b ∷ []) ++ new
text_more old now new text b e f =
    e ∙ (ap (λ l. doubled text ++ l) f ∙ (sym (append_assoc (doubled text) (doubled (b ∷ [])) new) ∙ ap (λ l. l ++ new) (sym (doubled-append text (b ∷ [])))))

-- what a text read so far is, of a line that has one
same_read : {old new text bytes rest : List ℕ} → ReadsText old new (Ok text) → IsApart rest → old ≡ doubled bytes ++ quote ∷ rest → (text ≡ bytes) × (quote ∷ new ≡ quote ∷ rest)
same_read {new = new} {text = text} {bytes = bytes} {rest = rest} (parts, off) apart same =
    same_text text bytes (quote ∷ new) (quote ∷ rest) (refl, off) (refl, apart_off rest apart) (sym parts ∙ same)

module _ {old new : List ℕ} where
  pub quoted_missing : (e : LineFault) (r : Result Value LineFault) → ReadsText old new (Err e) → IsErrAnd r (λ why. why ≡ e) → ReadsWord IsValue (quote ∷ old) new r
  quoted_missing e (Ok x) reads is = absurd is
  quoted_missing Words (Err f) (text, whole) is = record {
    ok = tt;
    all = λ word rest value begins has.
        let (bytes, same, parts) = quote_front value begins has in
        absurd (not_empty (same_text text bytes [] (quote ∷ rest) tt (refl, apart_off rest begins.apart) (append-nil (doubled text) ∙ (sym whole ∙ parts))).1);
  }
  quoted_missing NoMemory (Err f) reads is = record { ok = tt; all = λ word rest value begins has. is }

  pub quoted_read : (text : List ℕ) → ReadsText old new (Ok text) → IsApart new → ReadsWord IsValue (quote ∷ old) new (Ok (Text text))
  quoted_read text reads apart = record {
    ok = (quote ∷ (doubled text ++ quote ∷ []), at_once (ap (λ l. quote ∷ l) (reads.0 ∙ sym (append_assoc (doubled text) (quote ∷ []) new))) apart, record { spelled = refl; proper = tt });
    all = λ word rest value begins has.
        let (bytes, same, parts) = quote_front value begins has in
        let read = same_read {old = old} {new = new} {text = text} {bytes = bytes} reads begins.apart parts in
        (ap Text read.0 ∙ sym same, same_tail read.1);
  }

  pub quoted_other : (text : List ℕ) → ReadsText old new (Ok text) → (IsApart new → ⊥) → ReadsWord IsValue (quote ∷ old) new (Err Words)
  quoted_other text reads none = record {
    ok = tt;
    all = λ word rest value begins has.
        let (bytes, same, parts) = quote_front value begins has in
        let read = same_read {old = old} {new = new} {text = text} {bytes = bytes} reads begins.apart parts in
        absurd (none (subst IsApart (sym (same_tail read.1)) begins.apart));
  }

-- ---- a value

pub value_quoted : {old mid inner new : List ℕ} (r : Result Value LineFault) → Skips old mid → mid ≡ quote ∷ inner → ReadsWord IsValue (quote ∷ inner) new r → ReadsWord IsValue old new r
value_quoted {new = new} r skips e reads = behind_spaces value_solid r skips (subst (λ (m : List ℕ). ReadsWord IsValue m new r) (sym e) reads)

-- a text is none where no quote is next
no_text : {mid word rest bytes : List ℕ} → IsOff space mid → IsOff quote mid → Begins mid word rest → IsValue word (Text bytes) → ⊥
no_text {mid = mid} {word = word} {rest = rest} {bytes = bytes} off other begins is =
    no_second mid ((doubled bytes ++ quote ∷ []) ++ rest) other (skipped (off_skips off) (value_solid word (Text bytes) is) begins ∙ ap (λ l. l ++ rest) is.spelled)

-- a number is no other value
pub reads_int : (word : List ℕ) (z : ℤ) → ReadsAs (IsInt word) (Some z) → ReadsAs (IsPlainValue word) (Some (Int z))
reads_int word z reads = record { some = reads.some; all = all }
  where
    all : (value : Value) → IsPlainValue word value → Some (Int z) ≡ Some value
    all (Int y) is = ap (λ x. Some (Int x)) (some_same (reads.all y is))
    all (Text bytes) is = absurd is
    all Undefined is = absurd (int_undefined word z reads.some is)

-- where no quote is next, a value is one without quotes
pub value_plain : {old mid new : List ℕ} (r : Result Value LineFault) → Skips old mid → IsOff quote mid → ReadsWord IsPlainValue mid new r → ReadsWord IsValue old new r
value_plain {mid = mid} {new = new} r skips off reads = behind_spaces value_solid r skips (record { ok = ok r reads.ok; all = all })
  where
    is_value : (word : List ℕ) (value : Value) → IsPlainValue word value → IsValue word value
    is_value word (Int z) is = record { spelled = is.spelled; proper = is.proper }
    is_value word (Text bytes) is = absurd is
    is_value word Undefined is = is

    ok : (r : Result Value LineFault) → IfOk r (λ x. (word : List ℕ) × Begins mid word new × IsPlainValue word x) → IfOk r (λ x. (word : List ℕ) × Begins mid word new × IsValue word x)
    ok (Ok x) (word, begins, is) = (word, begins, is_value word x is)
    ok (Err e) reads = tt

    all : (word rest : List ℕ) (value : Value) → Begins mid word rest → IsValue word value → Gives value (new ≡ rest) r
    all word rest (Int y) begins is = reads.all word rest (Int y) begins (record { spelled = is.spelled; proper = is.proper })
    all word rest (Text bytes) begins is = absurd (no_text skips.off off begins is)
    all word rest Undefined begins is = reads.all word rest Undefined begins is
