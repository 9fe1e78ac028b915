-- What is skipped: words of which only the form counts.
use Rattle.std.proofs.Common.{◌≡◌, ◌∙◌, inl, inr, ℕ, ◌<◌, length, true, false, List, [], ◌∷◌, ◌++◌, Option, Some, None, Result, Ok, Err, IsErrAnd, refl, ap, sym, subst, append-nil}
use Rattle.std.specs.Prelude.{is_some}
use Rattle.rss_base.specs.declared.value.Value.{Value}
use Rattle.rss_base.specs.declared.value.Value.TheVariants.{Text}
use Rattle.rss_model.specs.Spellings.{quote, doubled}
use Rattle.rss_model.specs.Script.{AreSpaces, IsApart, IsValue}
use Rattle.rss_line.specs.Reads.{Skips, ReadsByte, ReadsWord, ReadsWords, SkipsText}
use Rattle.rss_line.specs.Owners.{IsAnyTid, IsAnyNumber, IsAnyValue, AreAnyValues, any_spots, AnyPlace, arguments, owned, HasOwner}
use Rattle.rss_line.specs.declared.fault.LineFault.{LineFault}
use Rattle.rss_line.specs.declared.fault.LineFault.TheVariants.{Words, NoMemory}
use Rattle.rss_line.proofs.Plain.{IsLow, tid_plain, number_plain, variable_plain, tid_in_low, variable_low}
use Rattle.rss_line.proofs.Combining.{ArePlain, AreSolid, behind_spaces, NeedsPlain}
use Rattle.rss_line.proofs.Choosing.{are_written, needs_row}
use Rattle.rss_line.proofs.ValueTexts.{value_solid, text_more, quoted_missing, quoted_read, quoted_other}
use Rattle.rss_line.proofs.Lengths.{byte_shorter}
use Rattle.rss_line.proofs.Sequences.{GoesOn, goes_end, goes_stops}

-- ---- identifiers and numbers

pub any_tid_plain : ArePlain IsAnyTid
any_tid_plain word done (inl (tid, is)) = tid_plain word tid is
any_tid_plain word done (inr (name, is)) = variable_plain word name is

pub any_number_plain : ArePlain IsAnyNumber
any_number_plain word done (inl (n, is)) = number_plain word n is
any_number_plain word done (inr (name, is)) = variable_plain word name is

pub any_tid_low : (word : List ℕ) (done : Unit {0}) → IsAnyTid word done → IsLow word
any_tid_low word done (inl (tid, is)) = tid_in_low [] word tid (inl is)
any_tid_low word done (inr (name, is)) = variable_low word name is

-- ---- values

pub any_solid : AreSolid IsAnyValue
any_solid word done (value, is) = value_solid word value is

module _ {old new : List ℕ} where
  -- a value is skipped where it is read
  pub any_of : {value : Value} → ReadsWord IsValue old new (Ok value) → ReadsWord IsAnyValue old new (Ok tt)
  any_of {value = value} reads = record {
    ok = let (word, begins, is) = reads.ok in (word, begins, (value, is));
    all = λ word rest done begins (other, is). (refl, (reads.all word rest other begins is).1);
  }

  pub any_none : {e : LineFault} → ReadsWord IsValue old new (Err e) → ReadsWord IsAnyValue old new (Err e)
  any_none reads = record { ok = tt; all = λ word rest done begins (other, is). reads.all word rest other begins is }

  pub any_stops : {e : LineFault} (r : Result (Unit {0}) LineFault) → ReadsWord IsValue old new (Err e) → IsErrAnd r (λ why. why ≡ e) → ReadsWord IsAnyValue old new r
  any_stops (Ok done) reads is = absurd is
  any_stops (Err f) reads is = subst (λ (e : LineFault). ReadsWord IsAnyValue old new (Err e)) (sym is) (any_none reads)

  pub skips_missing : (e : LineFault) (r : Result (Unit {0}) LineFault) → SkipsText old new (Err e) → IsErrAnd r (λ why. why ≡ e) → ReadsWord IsAnyValue (quote ∷ old) new r
  skips_missing e (Ok done) reads is = absurd is
  skips_missing e (Err f) reads is =
      subst (λ (e : LineFault). ReadsWord IsAnyValue (quote ∷ old) new (Err e)) (sym is)
      (record { ok = tt; all = λ word rest done begins (other, has). (quoted_missing {old = old} {new = new} e (Err e) reads refl).all word rest other begins has })

  pub skips_read : SkipsText old new (Ok tt) → IsApart new → ReadsWord IsAnyValue (quote ∷ old) new (Ok tt)
  skips_read (text, reads) apart =
      let read = quoted_read text reads apart in
      record {
        ok = let (word, begins, is) = read.ok in (word, begins, (Text text, is));
        all = λ word rest done begins (other, is). (refl, (read.all word rest other begins is).1);
      }

  pub skips_other : SkipsText old new (Ok tt) → (IsApart new → ⊥) → ReadsWord IsAnyValue (quote ∷ old) new (Err Words)
  skips_other (text, reads) none = record { ok = tt; all = λ word rest done begins (other, is). (quoted_other text reads none).all word rest other begins is }

-- the text so far, and then what is left
abbrev pub Skipping : List ℕ → List ℕ → Type 0
Skipping old left = (text : List ℕ) × (old ≡ doubled text ++ left)

module _ {old mid : List ℕ} (skipping : Skipping old mid) (new : List ℕ) where
  pub text_skipped : (byte : Option ℕ) → ReadsByte mid new (Ok byte) → true ≡ is_some byte → Skipping old new
  text_skipped None reads is = absurd (cc)
  text_skipped (Some b) reads is = (skipping.0 ++ b ∷ [], text_more old mid new skipping.0 b skipping.1 reads)

  pub text_shorter : (byte : Option ℕ) → ReadsByte mid new (Ok byte) → true ≡ is_some byte → length new < length mid
  text_shorter None reads is = absurd (cc)
  text_shorter (Some b) reads is = byte_shorter b mid new reads

  pub text_over : (byte : Option ℕ) → ReadsByte mid new (Ok byte) → false ≡ is_some byte → SkipsText old new (Ok tt)
  text_over (Some b) reads is = absurd (cc)
  text_over None reads is = (skipping.0, (skipping.1 ∙ ap (λ l. doubled skipping.0 ++ l) reads.0, reads.1))

  pub text_stops : (fault : LineFault) (r : Result (Unit {0}) LineFault) → ReadsByte mid new (Err fault) → IsErrAnd r (λ why. why ≡ fault) → SkipsText old new r
  text_stops fault (Ok done) over is = absurd is
  text_stops Words (Err Words) over is = (skipping.0, skipping.1 ∙ ap (λ l. doubled skipping.0 ++ l) over ∙ append-nil (doubled skipping.0))
  text_stops Words (Err NoMemory) over is = tt
  text_stops NoMemory (Err f) over is = absurd over

pub any_quoted : {old mid inner new : List ℕ} (r : Result (Unit {0}) LineFault) → Skips old mid → mid ≡ quote ∷ inner → ReadsWord IsAnyValue (quote ∷ inner) new r → ReadsWord IsAnyValue old new r
any_quoted {new = new} r skips e reads = behind_spaces any_solid r skips (subst (λ (m : List ℕ). ReadsWord IsAnyValue m new r) (sym e) reads)

-- ---- values one after another

pub values_end : {old left : List ℕ} {done : List (Unit {0})} → GoesOn IsAnyValue old done left → AreSpaces left → ReadsWords AreAnyValues old (Ok tt)
values_end {done = done} goes spaces =
    let read = goes_end IsAnyValue any_solid goes spaces in
    record {
      ok = let (words, has, are) = read.ok in (words, has, (done, are));
      all = λ words x has are. (refl, tt);
    }

pub values_stop : {old left new : List ℕ} {done : List (Unit {0})} {e : LineFault} (r : Result (Unit {0}) LineFault) → GoesOn IsAnyValue old done left → (AreSpaces left → ⊥)
    → ReadsWord IsAnyValue left new (Err e) → IsErrAnd r (λ why. why ≡ e) → ReadsWords AreAnyValues old r
values_stop (Ok x) goes some reads is = absurd is
values_stop {e = e} (Err f) goes some reads is =
    let none = goes_stops IsAnyValue any_solid (Err e) goes some reads refl in
    record { ok = tt; all = λ words x has (units, are). is ∙ none.all words units has are }

-- ---- the first word

pub owned_written : are_written (owned arguments) ≡ true
unfolding arguments
owned_written = refl

pub needs_any_place : NeedsPlain AnyPlace
needs_any_place words x (inl form) = needs_row any_spots refl words x form
needs_any_place words x (inr (word, rest, parent, same, is, after)) = (word, rest, same, any_tid_plain word parent is)

pub needs_owner : NeedsPlain HasOwner
needs_owner words x (inl form) = needs_row (owned arguments) owned_written words x form
needs_owner words x (inr (word, rest, name, same, is, after)) = (word, rest, same, variable_plain word name is)
