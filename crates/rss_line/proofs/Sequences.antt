-- Items one after another: values, and fields.
use Rattle.std.proofs.Common.{◌≡◌, ◌∙◌, ℕ, List, [], ◌∷◌, ◌++◌, Result, Ok, Err, IsErrAnd, refl, ap, sym, subst, append_assoc, append-nil}
use Rattle.rss_model.specs.Script.{AreSpaces, HasWords, StandFor}
use Rattle.rss_line.specs.Reads.{ReadsWord, ReadsWords}
use Rattle.rss_line.specs.declared.fault.LineFault.{LineFault}
use Rattle.rss_line.specs.declared.fault.LineFault.TheVariants.{NoMemory}
use Rattle.rss_line.proofs.Cuts.{no_begin}
use Rattle.rss_line.proofs.Combining.{AreSolid}

-- These items were read of old, and the rest is left: what is read on completes it.
pub record GoesOn {T : Type 0} (Is : List ℕ → T → Type 0) (old : List ℕ) (items : List T) (left : List ℕ) : Type 0 where
  pub on : (words : List (List ℕ)) (more : List T) → HasWords left words → StandFor Is words more
      → (all : List (List ℕ)) × HasWords old all × StandFor Is all (items ++ more)
  pub back : (all : List (List ℕ)) (given : List T) → HasWords old all → StandFor Is all given
      → (words : List (List ℕ)) × (more : List T) × HasWords left words × StandFor Is words more
      × (given ≡ items ++ more)

pub goes_start : {T : Type 0} (Is : List ℕ → T → Type 0) (old : List ℕ) → GoesOn Is old [] old
goes_start Is old = record {
  on = λ words more has are. (words, has, are);
  back = λ all given has are. (all, given, has, are, refl);
}

module _ {T : Type 0} (Is : List ℕ → T → Type 0) (solid : AreSolid Is) where
  back_more : {mid new : List ℕ} (items : List T) {v : T} → ReadsWord Is mid new (Ok v)
      → (words : List (List ℕ)) (more given : List T) → HasWords mid words → StandFor Is words more → given ≡ items ++ more
      → (words : List (List ℕ)) × (more : List T) × HasWords new words × StandFor Is words more × (given ≡ (items ++ v ∷ []) ++ more)
  back_more items reads [] [] given has are e = let (word, begins, is) = reads.ok in absurd (no_begin has (solid word _ is) begins)
  back_more items reads [] (w ∷ more) given has are e = absurd are
  back_more items reads (word ∷ words) [] given has are e = absurd are
  back_more items {v = v} reads (word ∷ words) (w ∷ more) given (left, begins, has) (is, are) e =
      let read = reads.all word left w begins is in (
        words,
        more,
        subst (λ (bytes : List ℕ). HasWords bytes words) (sym read.1) has,
        are,
        e ∙ (ap (λ x. items ++ x ∷ more) (sym read.0) ∙ sym (append_assoc items (v ∷ []) more)),
      )

  pub goes_more : {old mid new : List ℕ} {items : List T} {v : T} → GoesOn Is old items mid → ReadsWord Is mid new (Ok v) → GoesOn Is old (items ++ v ∷ []) new
  goes_more {new = new} {items = items} {v = v} goes reads = record {
    on = λ words more has are.
        let (word, begins, is) = reads.ok in
        let (all, has_all, are_all) = goes.on (word ∷ words) (v ∷ more) (new, begins, has) (is, are) in
        (all, has_all, subst (StandFor Is all) (sym (append_assoc items (v ∷ []) more)) are_all);
    back = λ all given has are.
        let (words, more, left, rest, e) = goes.back all given has are in
        back_more items reads words more given left rest e;
  }

  -- where no word is left, no item is
  none_left : (left : List ℕ) → AreSpaces left → (words : List (List ℕ)) (more : List T) → HasWords left words → StandFor Is words more → more ≡ []
  none_left left spaces [] [] has are = refl
  none_left left spaces [] (w ∷ more) has are = absurd are
  none_left left spaces (word ∷ words) [] has are = absurd are
  none_left left spaces (word ∷ words) (w ∷ more) (rest, begins, has) (is, are) = absurd (no_begin spaces (solid word w is) begins)

  pub goes_end : {old left : List ℕ} {items : List T} → GoesOn Is old items left → AreSpaces left → ReadsWords (StandFor Is) old (Ok items)
  goes_end {items = items} goes spaces = record {
    ok = let (all, has, are) = goes.on [] [] spaces tt in (all, has, subst (StandFor Is all) (append-nil items) are);
    all = λ all given has are.
        let (words, more, left, rest, e) = goes.back all given has are in
        (sym (e ∙ (ap (λ m. items ++ m) (none_left _ spaces words more left rest) ∙ append-nil items)), tt);
  }

  first_left : {left new : List ℕ} {e : LineFault} → (AreSpaces left → ⊥) → ReadsWord Is left new (Err e) → (words : List (List ℕ)) (more : List T) → HasWords left words → StandFor Is words more → e ≡ NoMemory
  first_left some reads [] more has are = absurd (some has)
  first_left some reads (word ∷ words) [] has are = absurd are
  first_left some reads (word ∷ words) (w ∷ more) (rest, begins, has) (is, are) = reads.all word rest w begins is

  pub goes_stops : {old left new : List ℕ} {items : List T} {e : LineFault} (r : Result (List T) LineFault) → GoesOn Is old items left → (AreSpaces left → ⊥)
      → ReadsWord Is left new (Err e) → IsErrAnd r (λ why. why ≡ e) → ReadsWords (StandFor Is) old r
  goes_stops (Ok x) goes some reads is = absurd is
  goes_stops (Err f) goes some reads is = record {
    ok = tt;
    all = λ all given has are.
        let (words, more, left, rest, e) = goes.back all given has are in
        is ∙ first_left some reads words more left rest;
  }
