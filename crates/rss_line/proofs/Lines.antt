-- A line as a whole.
use Rattle.std.proofs.Common.{◌≡◌, ◌∙◌, ◌⊎◌, inl, inr, ℕ, true, List, [], ◌∷◌, ◌++◌, Option, Result, Ok, Err, IsErrAnd, IsErrOf, refl, ap, sym, subst, arith, append-nil}
use Rattle.std.proofs.lemmas.Bool.{false≢true}
use Rattle.rss_base.specs.declared.name.Name.{Name}
use Rattle.rss_base.specs.declared.call.Call.{Call}
use Rattle.rss_model.specs.Variables.{Variable}
use Rattle.rss_model.specs.Script.{AreSpaces, Begins, IsVariable}
use Rattle.rss_model.specs.Forms.{calls, spots, PlaceForm, IsStatement, IsEmpty, IsShortLine, Spells, IsWords}
use Rattle.rss_line.specs.Reads.{IsOver, IsPlain, Skips, ReadsWords}
use Rattle.rss_line.specs.declared.reading.Line.TheVariants.{Call as CallLine}
use Rattle.rss_line.specs.declared.fault.LineFault.{LineFault}
use Rattle.rss_line.specs.declared.fault.LineFault.TheVariants.{Words, NoMemory}
use Rattle.rss_line.proofs.Cuts.{IsSolid, plain_solid, skipped, cut, no_begin, same_head, spaces_append}
use Rattle.rss_line.proofs.Plain.{tid_in_plain, variable_plain, variable_first}
use Rattle.rss_line.proofs.Combining.{has_as, NeedsPlain}
use Rattle.rss_line.proofs.Choosing.{is_written, are_written, written_plain, written_high, first_word, needs_row}

-- ---- the table

pub calls_written : (names : List Variable) → are_written (calls names) ≡ true
unfolding calls
calls_written names = refl

-- ---- blank lines

pub over_empty : {old : List ℕ} (new : List ℕ) → Skips old new → IsOver new → IsEmpty old
over_empty [] skips over = inl (subst AreSpaces (sym (skips.parts ∙ append-nil skips.spaces)) skips.before)
over_empty (b ∷ new) skips over = inr (record {
  spaces = skips.spaces;
  before = skips.before;
  comment = new;
  parts = skips.parts ∙ ap (λ (x : ℕ). skips.spaces ++ x ∷ new) over;
})

pub empty_over : {old : List ℕ} (new : List ℕ) → Skips old new → IsEmpty old → IsOver new
empty_over [] skips (inl spaces) = tt
empty_over (b ∷ new) skips (inl spaces) = absurd (skips.off (spaces_append skips.spaces b new (subst AreSpaces skips.parts spaces)))
empty_over new skips (inr comment) =
    let at : new ≡ (35 ∷ []) ++ comment.comment = cut skips.spaces comment.spaces new (35 ∷ []) comment.comment skips.before comment.before skips.off (λ is. omega (arith, is)) (sym skips.parts ∙ comment.parts) in
    subst IsOver (sym at) refl

-- ---- the first word of a line that is a call

abbrev pub IsFront : List ℕ → Type 0
IsFront word = (is_written word ≡ true) ⊎ ((name : Name) × IsVariable word name)

pub front_of : (names : List Variable) (words : List (List ℕ)) (x : Option Name × Call) → IsStatement names words x → (word : List ℕ) × (rest : List (List ℕ)) × (words ≡ word ∷ rest) × IsFront word
front_of names words x (inl (call, form, made)) =
    let (word, rest, same, written) = first_word (calls names) (calls_written names) words call form in
    (word, rest, same, inl written)
front_of names words x (inr (word, rest, name, same, is, after)) = (word, rest, same, inr (name, is))

pub needs_front : (names : List Variable) → NeedsPlain (IsStatement names)
needs_front names words x form =
    let (word, rest, same, front) = front_of names words x form in
    (word, rest, same, plain word front)
  where
    plain : (word : List ℕ) → IsFront word → IsPlain word
    plain word (inl written) = written_plain word written
    plain word (inr (name, is)) = variable_plain word name is

front_solid : (word : List ℕ) → IsFront word → IsSolid word
front_solid word (inl written) = plain_solid word (written_plain word written)
front_solid word (inr (name, is)) = plain_solid word (variable_plain word name is)

-- no such word begins a comment
no_comment : (word left comment : List ℕ) → IsFront word → 35 ∷ comment ≡ word ++ left → ⊥
no_comment [] left comment (inl written) e = false≢true written
no_comment (b ∷ word) left comment (inl written) e = written_high (b ∷ word) written (omega (arith, same_head e))
no_comment [] left comment (inr (name, is)) e = omega (arith, variable_first [] name is)
no_comment (b ∷ word) left comment (inr (name, is)) e = omega (arith, same_head e, variable_first (b ∷ word) name is)

no_front : {line word left : List ℕ} → IsEmpty line → IsFront word → Begins line word left → ⊥
no_front {word = word} (inl spaces) front begins = no_begin spaces (front_solid word front) begins
no_front {line = line} {word = word} {left = left} (inr comment) front begins =
    let skips : Skips line (35 ∷ comment.comment) = record { spaces = comment.spaces; before = comment.before; parts = comment.parts; off = λ is. omega (arith, is) } in
    no_comment word left comment.comment front (skipped skips (front_solid word front) begins)

-- a blank line is no call
pub blank_no_call : {names : List Variable} {line : List ℕ} {variable : Option Name} {call : Call} → IsEmpty line → Spells names line variable call → ⊥
blank_no_call {names = names} {line = line} {variable = variable} {call = call} empty spells =
    let (word, rest, same, front) = front_of names spells.words (variable, call) spells.says in
    let (left, begins, more) = has_as line same spells.spaced in
    no_front empty front begins

-- ---- where no call was read

apart : {f e : LineFault} → f ≡ Words → f ≡ e → e ≡ NoMemory → ⊥
apart is same memory = cc

fault_same : {T : Type 0} {f e : LineFault} {r : Result T LineFault} → r ≡ Err f → IsErrOf r e → f ≡ e
fault_same is was = cc

-- where no call was read, there is none
pub no_line : {T : Type 0} {names : List Variable} {line : List ℕ} {e : LineFault} (r : Result T LineFault) → (IsEmpty line → ⊥) → ReadsWords (IsStatement names) line (Err e) → IsErrAnd r (λ why. why ≡ e)
    → IsErrOf r Words → IsWords names line
no_line (Ok x) some reads is was = absurd is
no_line (Err f) some reads is was = record {
  some = λ blank. some blank.empty;
  no_call = λ variable call spells. apart (fault_same refl was) is (reads.all spells.words (variable, call) spells.spaced spells.says);
}

-- where one was read, it is there
pub spelled_line : {names : List Variable} {line : List ℕ} {read : Option Name × Call} → IsShortLine line → ReadsWords (IsStatement names) line (Ok read) → Spells names line read.0 read.1
spelled_line short reads = let (words, has, says) = reads.ok in record { words = words; spaced = has; says = says; short = short }

pub ok_same : {T E : Type 0} {x y : T} → ◌≡◌ {A = Result T E} (Ok x) (Ok y) → x ≡ y
ok_same e = cc

pub call_same : {variable bind : Option Name} {made call : Call} → CallLine variable made ≡ CallLine bind call → (variable ≡ bind) × (made ≡ call)
call_same e = (cc, cc)

-- ---- where a tuple is put

pub needs_place : (names : List Variable) → NeedsPlain (PlaceForm names)
needs_place names words x (inl (spot, form, made)) = needs_row (spots names) refl words spot form
needs_place names words x (inr (word, rest, parent, same, is, after)) = (word, rest, same, tid_in_plain names word parent is)
