-- What is read word by word.
use Rattle.std.proofs.Common.{◌≡◌, ◌∙◌, inl, inr, ℕ, true, false, List, [], ◌∷◌, Option, Some, None, Result, Ok, Err, IfOk, IsErrAnd, ok_or, refl, ap, sym, subst}
use Rattle.std.specs.Borrow.{Bor}
use Rattle.std.specs.List.{list_all}
use Rattle.std.proofs.lemmas.Bool.{false≢true}
use Rattle.rss_base.specs.declared.name.Name.{Name}
use Rattle.rss_base.specs.declared.call.Call.{Call}
use Rattle.rss_model.specs.Script.{AreSpaces, Begins, HasWords, IsTransaction, IsNameWord}
use Rattle.rss_model.specs.Forms.{Last, Word, Fixed, Rest, Either, Targeted}
use Rattle.rss_line.specs.Reads.{is_space, IsPlain, IsThe, Skips, ReadsPlain, ReadsAs, ReadsWord, BeginsTarget, ReadsTarget, ReadsWords, Gives}
use Rattle.rss_line.specs.declared.items.Target.{Target}
use Rattle.rss_line.specs.declared.fault.LineFault.{LineFault}
use Rattle.rss_line.specs.declared.fault.LineFault.TheVariants.{Words}
use Rattle.rss_line.proofs.Cuts.{IsSolid, skipped, unskipped, at_once, no_begin, spaces_from, spaces_test}

-- ---- one word

-- each such word is plain
abbrev pub ArePlain : {T : Type 0} → (List ℕ → T → Type 0) → Type 0
ArePlain {T = T} Is = (word : List ℕ) (x : T) → Is word x → IsPlain word

abbrev pub AreSolid : {T : Type 0} → (List ℕ → T → Type 0) → Type 0
AreSolid {T = T} Is = (word : List ℕ) (x : T) → Is word x → IsSolid word

pub some_same : {T : Type 0} {x y : T} → Some y ≡ Some x → y ≡ x
some_same e = cc

pub none_some : {T : Type 0} {x : T} → None ≡ Some x → ⊥
none_some e = cc

module _ {T : Type 0} {Is : List ℕ → T → Type 0} (plain : ArePlain Is) {old new : List ℕ} where
  pub word_missing : {e : LineFault} (r : Result T LineFault) → ReadsPlain old new (Err e) → IsErrAnd r (λ why. why ≡ e) → ReadsWord Is old new r
  word_missing (Ok x) reads is = absurd is
  word_missing (Err f) reads is = record { ok = tt; all = λ word rest x begins has. absurd (reads.all word rest begins (plain word x has)) }

  found_word : {w : Bor (List ℕ)} (found : Option T) → ReadsPlain old new (Ok w) → ReadsAs (Is w.now) found → ReadsWord Is old new (ok_or found Words)
  found_word {w = w} (Some y) reads decides = record {
    ok = (w.now, reads.ok, decides.some);
    all = λ word rest x begins has.
        let same = reads.all word rest begins (plain word x has) in
        (some_same (decides.all x (subst (λ (v : List ℕ). Is v x) (sym same.0) has)), same.1);
  }
  found_word {w = w} None reads decides = record {
    ok = tt;
    all = λ word rest x begins has.
        let same = reads.all word rest begins (plain word x has) in
        let empty : None ≡ Some x = decides.all x (subst (λ (v : List ℕ). Is v x) (sym same.0) has) in
        absurd (none_some empty);
  }

  pub word_found : {w : Bor (List ℕ)} (found : Option T) {r : Result T LineFault} → r ≡ ok_or found Words → ReadsPlain old new (Ok w) → ReadsAs (Is w.now) found → ReadsWord Is old new r
  word_found found e reads decides = subst (λ (r : Result T LineFault). ReadsWord Is old new r) (sym e) (found_word found reads decides)

-- spaces before the word are skipped
read_behind : {T : Type 0} (Is : List ℕ → T → Type 0) {old mid : List ℕ} (new : List ℕ) (r : Result T LineFault) → Skips old mid
    → IfOk r (λ x. (word : List ℕ) × Begins mid word new × Is word x) → IfOk r (λ x. (word : List ℕ) × Begins old word new × Is word x)
read_behind Is new (Ok x) skips (word, begins, is) = (word, unskipped skips begins, is)
read_behind Is new (Err e) skips ok = tt

pub behind_spaces : {T : Type 0} {Is : List ℕ → T → Type 0} → AreSolid Is → {old mid new : List ℕ} (r : Result T LineFault) → Skips old mid → ReadsWord Is mid new r → ReadsWord Is old new r
behind_spaces solid r skips reads = record {
  ok = read_behind _ _ r skips reads.ok;
  all = λ word rest x begins has. reads.all word rest x (at_once (skipped skips (solid word x has) begins) begins.apart) has;
}

-- ---- words one after another

pub has_as : (bytes : List ℕ) {words other : List (List ℕ)} → words ≡ other → HasWords bytes words → HasWords bytes other
has_as bytes e has = subst (HasWords bytes) e has

then_ok : {T U : Type 0} {Is : List ℕ → T → Type 0} (After : T → List (List ℕ) → U → Type 0) {old mid : List ℕ} {y : T} (r : Result U LineFault)
    → ReadsWord Is old mid (Ok y) → IfOk r (λ x. (words : List (List ℕ)) × HasWords mid words × After y words x)
    → IfOk r (λ x. (words : List (List ℕ)) × HasWords old words × Word Is After words x)
then_ok After {y = y} (Ok x) reads (words, has, after) = let (word, begins, is) = reads.ok in (word ∷ words, (_, begins, has), (word, words, y, refl, is, after))
then_ok After (Err e) reads ok = tt

module _ {T U : Type 0} {Is : List ℕ → T → Type 0} {After : T → List (List ℕ) → U → Type 0} {old mid : List ℕ} where
  pub stops_word : {e : LineFault} (r : Result U LineFault) → ReadsWord Is old mid (Err e) → IsErrAnd r (λ why. why ≡ e) → ReadsWords (Word Is After) old r
  stops_word (Ok x) reads is = absurd is
  stops_word {e = e} (Err f) reads is = record {
    ok = tt;
    all = λ words x has (word, rest, y, same, is_word, after).
        let behind = has_as old same has in
        is ∙ reads.all word behind.0 y behind.1 is_word;
  }

  pub then_word : {y : T} (r : Result U LineFault) → ReadsWord Is old mid (Ok y) → ReadsWords (After y) mid r → ReadsWords (Word Is After) old r
  then_word {y = y} r reads next = record {
    ok = then_ok After r reads next.ok;
    all = λ words x has (word, rest, z, same, is_word, after).
        let behind = has_as old same has in
        let read = reads.all word behind.0 z behind.1 is_word in
        next.all rest x (subst (λ (bytes : List ℕ). HasWords bytes rest) (sym read.1) behind.2) (subst (λ (t : T). After t rest x) (sym read.0) after);
  }

-- ---- the end of a line

-- where no word is left
pub ends_here : {T : Type 0} {x : T} {bytes : List ℕ} → AreSpaces bytes → ReadsWords (Last x) bytes (Ok x)
ends_here spaces = record { ok = ([], spaces, (refl, refl)); all = λ words y has (none, is). (sym is, tt) }

pub goes_beyond : {T : Type 0} {x : T} {bytes : List ℕ} → (AreSpaces bytes → ⊥) → ReadsWords (Last x) bytes (Err Words)
goes_beyond {bytes = bytes} some = record { ok = tt; all = λ words y has (none, is). absurd (some (has_as bytes none has)) }

module _ {T U : Type 0} {Are : List (List ℕ) → T → Type 0} (make : T → U) {bytes : List ℕ} where
  pub stops_rest : {e : LineFault} (r : Result U LineFault) → ReadsWords Are bytes (Err e) → IsErrAnd r (λ why. why ≡ e) → ReadsWords (Rest Are make) bytes r
  stops_rest (Ok x) reads is = absurd is
  stops_rest {e = e} (Err f) reads is = record {
    ok = tt;
    all = λ words x has (item, are, same). is ∙ reads.all words item has are;
  }

  pub then_rest : {item : T} → ReadsWords Are bytes (Ok item) → ReadsWords (Rest Are make) bytes (Ok (make item))
  then_rest {item = item} reads = record {
    ok = let (words, has, are) = reads.ok in (words, has, (item, are, refl));
    all = λ words x has (other, are, same). (ap make (reads.all words other has are).0 ∙ sym same, tt);
  }

-- ---- one form as another

told_ok : {T : Type 0} {One Other : List (List ℕ) → T → Type 0} (old : List ℕ) (r : Result T LineFault) → ((words : List (List ℕ)) (x : T) → One words x → Other words x)
    → IfOk r (λ x. (words : List (List ℕ)) × HasWords old words × One words x)
    → IfOk r (λ x. (words : List (List ℕ)) × HasWords old words × Other words x)
told_ok old (Ok x) to (words, has, form) = (words, has, to words x form)
told_ok old (Err e) to ok = tt

pub as_form : {T : Type 0} {One Other : List (List ℕ) → T → Type 0} {old : List ℕ} (r : Result T LineFault)
    → ((words : List (List ℕ)) (x : T) → One words x → Other words x) → ((words : List (List ℕ)) (x : T) → Other words x → One words x)
    → ReadsWords One old r → ReadsWords Other old r
as_form {old = old} r to back reads = record {
  ok = told_ok old r to reads.ok;
  all = λ words x has form. reads.all words x has (back words x form);
}

-- ---- a fixed word

fixed_to : {U : Type 0} (After : List (List ℕ) → U → Type 0) (expected : List ℕ) (words : List (List ℕ)) (x : U) → Word (IsThe expected) (λ _. After) words x → Fixed expected After words x
fixed_to After expected words x (word, rest, done, same, is, after) = (rest, same ∙ ap (λ w. w ∷ rest) is, after)

fixed_back : {U : Type 0} (After : List (List ℕ) → U → Type 0) (expected : List ℕ) (words : List (List ℕ)) (x : U) → Fixed expected After words x → Word (IsThe expected) (λ _. After) words x
fixed_back After expected words x (rest, same, after) = (expected, rest, tt, same, refl, after)

module _ {U : Type 0} {After : List (List ℕ) → U → Type 0} {old mid expected : List ℕ} where
  pub stops_fixed : {e : LineFault} (r : Result U LineFault) → ReadsWord (IsThe expected) old mid (Err e) → IsErrAnd r (λ why. why ≡ e) → ReadsWords (Fixed expected After) old r
  stops_fixed r reads is = as_form r (fixed_to After expected) (fixed_back After expected) (stops_word {After = λ _. After} r reads is)

  pub then_fixed : {done : Unit {0}} (r : Result U LineFault) → ReadsWord (IsThe expected) old mid (Ok done) → ReadsWords After mid r → ReadsWords (Fixed expected After) old r
  then_fixed r reads next = as_form r (fixed_to After expected) (fixed_back After expected) (then_word {After = λ _. After} r reads next)

-- ---- one of two forms

first_ok : {T : Type 0} (One Other : List (List ℕ) → T → Type 0) (old : List ℕ) (r : Result T LineFault)
    → IfOk r (λ x. (words : List (List ℕ)) × HasWords old words × One words x)
    → IfOk r (λ x. (words : List (List ℕ)) × HasWords old words × Either One Other words x)
first_ok One Other old (Ok x) (words, has, form) = (words, has, inl form)
first_ok One Other old (Err e) ok = tt

second_ok : {T : Type 0} (One Other : List (List ℕ) → T → Type 0) (old : List ℕ) (r : Result T LineFault)
    → IfOk r (λ x. (words : List (List ℕ)) × HasWords old words × Other words x)
    → IfOk r (λ x. (words : List (List ℕ)) × HasWords old words × Either One Other words x)
second_ok One Other old (Ok x) (words, has, form) = (words, has, inr form)
second_ok One Other old (Err e) ok = tt

module _ {T : Type 0} {One Other : List (List ℕ) → T → Type 0} {old : List ℕ} (r : Result T LineFault) where
  -- the bytes have no words of the other form
  pub is_first : ((words : List (List ℕ)) (x : T) → HasWords old words → Other words x → ⊥) → ReadsWords One old r → ReadsWords (Either One Other) old r
  is_first none reads = record { ok = first_ok One Other old r reads.ok; all = λ words x has form. cases words x has form }
    where
      cases : (words : List (List ℕ)) (x : T) → HasWords old words → Either One Other words x → Gives x (Unit {0}) r
      cases words x has (inl form) = reads.all words x has form
      cases words x has (inr form) = absurd (none words x has form)

  pub is_second : ((words : List (List ℕ)) (x : T) → HasWords old words → One words x → ⊥) → ReadsWords Other old r → ReadsWords (Either One Other) old r
  is_second none reads = record { ok = second_ok One Other old r reads.ok; all = λ words x has form. cases words x has form }
    where
      cases : (words : List (List ℕ)) (x : T) → HasWords old words → Either One Other words x → Gives x (Unit {0}) r
      cases words x has (inl form) = absurd (none words x has form)
      cases words x has (inr form) = reads.all words x has form

-- words of this form begin with one that has no space in front
abbrev pub NeedsWord : {T : Type 0} → (List (List ℕ) → T → Type 0) → Type 0
NeedsWord {T = T} Form = (words : List (List ℕ)) (x : T) → Form words x → (word : List ℕ) × (rest : List (List ℕ)) × (words ≡ word ∷ rest) × IsSolid word

pub no_words_left : {T : Type 0} {Form : List (List ℕ) → T → Type 0} (bytes : List ℕ) → NeedsWord Form → AreSpaces bytes → (words : List (List ℕ)) (x : T) → HasWords bytes words → Form words x → ⊥
no_words_left bytes needs spaces words x has form =
    let (word, rest, same, solid) = needs words x form in
    let (left, begins, more) = has_as bytes same has in
    no_begin spaces solid begins

pub some_words_left : {T : Type 0} {made : T} (bytes : List ℕ) → (AreSpaces bytes → ⊥) → (words : List (List ℕ)) (x : T) → HasWords bytes words → Last made words x → ⊥
some_words_left bytes some words x has (none, is) = some (has_as bytes none has)

-- ---- a transaction and a name

pub no_transaction : {old new : List ℕ} {e : LineFault} (r : Result Target LineFault) → ReadsWord IsTransaction old new (Err e) → IsErrAnd r (λ why. why ≡ e) → ReadsTarget old new r
no_transaction (Ok x) reads is = absurd is
no_transaction (Err f) reads is = record { ok = tt; all = λ target rest begins. is ∙ reads.all begins.first begins.behind target.transaction begins.begins begins.transaction }

module _ {old mid : List ℕ} {t : ℕ} (read : ReadsWord IsTransaction old mid (Ok t)) where
  -- what stands behind the transaction
  behind : (target : Target) (rest : List ℕ) (begins : BeginsTarget old target rest) → (t ≡ target.transaction) × Begins mid begins.second rest
  behind target rest begins =
      let same = read.all begins.first begins.behind target.transaction begins.begins begins.transaction in
      (same.0, subst (λ (bytes : List ℕ). Begins bytes begins.second rest) (sym same.1) begins.then)

  pub no_relation : {new : List ℕ} {e : LineFault} (r : Result Target LineFault) → ReadsWord IsNameWord mid new (Err e) → IsErrAnd r (λ why. why ≡ e) → ReadsTarget old new r
  no_relation (Ok x) reads is = absurd is
  no_relation (Err f) reads is = record { ok = tt; all = λ target rest begins. is ∙ reads.all begins.second rest target.name (behind target rest begins).1 begins.name }

  pub the_target : {new : List ℕ} {relation : Name} → ReadsWord IsNameWord mid new (Ok relation) → ReadsTarget old new (Ok (record { transaction = t; name = relation }))
  the_target {relation = relation} reads = record {
    ok = let (first, begins, is) = read.ok in
        let (second, follows, name) = reads.ok in
        record { first = first; behind = mid; second = second; begins = begins; transaction = is; then = follows; name = name };
    all = λ target rest begins.
        let on = behind target rest begins in
        let same = reads.all begins.second rest target.name on.1 begins.name in
        ((λ i. record { transaction = on.0 i; name = same.0 i }), same.1);
  }

target_ok : (After : ℕ → Name → List (List ℕ) → Call → Type 0) {old mid : List ℕ} {target : Target} (r : Result Call LineFault)
    → ReadsTarget old mid (Ok target) → IfOk r (λ x. (words : List (List ℕ)) × HasWords mid words × After target.transaction target.name words x)
    → IfOk r (λ x. (words : List (List ℕ)) × HasWords old words × Targeted After words x)
target_ok After {target = target} (Ok x) reads (words, has, after) =
    let two = reads.ok in
    (two.first ∷ two.second ∷ words, (_, two.begins, (_, two.then, has)), (two.first, two.second ∷ words, target.transaction, refl, two.transaction, (two.second, words, target.name, refl, two.name, after)))
target_ok After (Err e) reads ok = tt

-- the words of a target stand in front
in_front : (After : ℕ → Name → List (List ℕ) → Call → Type 0) (old : List ℕ) (words : List (List ℕ)) (x : Call) → HasWords old words → Targeted After words x
    → (target : Target) × (rest : List (List ℕ)) × (left : List ℕ) × BeginsTarget old target left × HasWords left rest × After target.transaction target.name rest x
in_front After old words x has (first, others, t, e, is, (second, rest, relation, f, name, after)) =
    let (behind, begins, more) = has_as old e has in
    let (left, follows, last) = has_as behind f more in (
      record { transaction = t; name = relation },
      rest,
      left,
      record { first = first; behind = behind; second = second; begins = begins; transaction = is; then = follows; name = name },
      last,
      after,
    )

module _ {After : ℕ → Name → List (List ℕ) → Call → Type 0} {old mid : List ℕ} where
  pub stops_target : {e : LineFault} (r : Result Call LineFault) → ReadsTarget old mid (Err e) → IsErrAnd r (λ why. why ≡ e) → ReadsWords (Targeted After) old r
  stops_target (Ok x) reads is = absurd is
  stops_target (Err f) reads is = record {
    ok = tt;
    all = λ words x has form.
        let (target, rest, left, begins, last, after) = in_front After old words x has form in
        is ∙ reads.all target left begins;
  }

  pub then_target : {target : Target} (r : Result Call LineFault) → ReadsTarget old mid (Ok target) → ReadsWords (After target.transaction target.name) mid r → ReadsWords (Targeted After) old r
  then_target {target = target} r reads next = record {
    ok = target_ok After r reads next.ok;
    all = λ words x has form.
        let (other, rest, left, begins, last, after) = in_front After old words x has form in
        let read = reads.all other left begins in
        next.all rest x (subst (λ (bytes : List ℕ). HasWords bytes rest) (sym read.1) last) (subst (λ (to : Target). After to.transaction to.name rest x) (sym read.0) after);
  }

-- ---- a form that needs a word

pub needs_word : {T U : Type 0} {Is : List ℕ → T → Type 0} (After : T → List (List ℕ) → U → Type 0) → AreSolid Is → NeedsWord (Word Is After)
needs_word After solid words x (word, rest, y, same, is, after) = (word, rest, same, solid word y is)

pub needs_fixed : {U : Type 0} (After : List (List ℕ) → U → Type 0) (expected : List ℕ) → IsSolid expected → NeedsWord (Fixed expected After)
needs_fixed After expected solid words x (rest, same, after) = (expected, rest, same, solid)

module _ {T : Type 0} {made : T} {Other : List (List ℕ) → T → Type 0} {bytes : List ℕ} where
  -- the line ends here
  pub at_end : NeedsWord Other → list_all is_space bytes ≡ true → ReadsWords (Either (Last made) Other) bytes (Ok made)
  at_end needs test = let spaces = spaces_from bytes test in is_first (Ok made) (no_words_left bytes needs spaces) (ends_here spaces)

  -- it doesn't
  pub goes_on : (r : Result T LineFault) → list_all is_space bytes ≡ false → ReadsWords Other bytes r → ReadsWords (Either (Last made) Other) bytes r
  goes_on r test reads = is_second r (some_words_left bytes (λ spaces. false≢true (sym test ∙ spaces_test bytes spaces))) reads

-- words of this form begin with one that needs no quotes
abbrev pub NeedsPlain : {T : Type 0} → (List (List ℕ) → T → Type 0) → Type 0
NeedsPlain {T = T} Form = (words : List (List ℕ)) (x : T) → Form words x → (word : List ℕ) × (rest : List (List ℕ)) × (words ≡ word ∷ rest) × IsPlain word

module _ {T : Type 0} {old mid : List ℕ} where
  -- no such word is next
  pub no_word : {Form : List (List ℕ) → T → Type 0} → NeedsPlain Form → {e : LineFault} (r : Result T LineFault) → ReadsPlain old mid (Err e) → IsErrAnd r (λ why. why ≡ e) → ReadsWords Form old r
  no_word needs (Ok x) reads is = absurd is
  no_word needs (Err f) reads is = record {
    ok = tt;
    all = λ words x has form.
        let (word, rest, same, plain) = needs words x form in
        let (left, begins, more) = has_as old same has in
        absurd (reads.all word left begins plain);
  }

  -- the next word doesn't stand for such a thing
  pub not_word : {U : Type 0} {Is : List ℕ → U → Type 0} (After : U → List (List ℕ) → T → Type 0) → ArePlain Is → {w : Bor (List ℕ)} → ReadsPlain old mid (Ok w) → ((y : U) → Is w.now y → ⊥)
      → (words : List (List ℕ)) (x : T) → HasWords old words → Word Is After words x → ⊥
  not_word {Is = Is} After plain reads none words x has (word, rest, y, same, is, after) =
      let (left, begins, more) = has_as old same has in
      none y (subst (λ (v : List ℕ). Is v y) (sym (reads.all word left begins (plain word y is)).0) is)

-- what is read of the next word
pub reads_found : {T : Type 0} {Is : List ℕ → T → Type 0} → ArePlain Is → {old mid : List ℕ} {w : Bor (List ℕ)} (found : Option T) (y : T) → found ≡ Some y → ReadsPlain old mid (Ok w) → ReadsAs (Is w.now) found → ReadsWord Is old mid (Ok y)
reads_found {T = T} {Is = Is} plain {old = old} {mid = mid} found y some reads decides = word_found plain found (sym (ap (λ (o : Option T). ok_or o Words) some)) reads decides
