-- A line is at most one call.
use Rattle.std.proofs.Common.{◌≡◌, ◌∙◌, inl, inr, ℕ, Bool, true, ◌&&◌, List, [], ◌∷◌, ◌++◌, Option, None, Ok, refl, ap, sym, subst, arith, append_assoc, append-nil}
use Rattle.std.specs.Prelude.{⊤, codes}
use Rattle.std.proofs.lemmas.Bool.{and_parts}
use Rattle.std.proofs.lemmas.Fmt.{signed_decimal_injective}
use Rattle.rss_base.specs.declared.tid.Tid.{Tid}
use Rattle.rss_base.specs.declared.spot.Spot.{Spot}
use Rattle.rss_base.specs.declared.item.Item.{Item}
use Rattle.rss_base.specs.declared.value.Value.{Value}
use Rattle.rss_base.specs.declared.value.Value.TheVariants.{Int, Text, Undefined}
use Rattle.rss_base.specs.declared.name.Name.{Name}
use Rattle.rss_base.specs.declared.call.Call.{Call}
use Rattle.rss_model.specs.Variables.{Variable}
use Rattle.rss_model.specs.Spellings.{space, quote, doubled}
use Rattle.rss_model.specs.Script.{Begins, HasWords, IsTransaction, IsNameWord, IsVariable, IsTidIn, IsNumberIn, IsValue, AreValues, StandFor, AreNames, AreFieldWords}
use Rattle.rss_model.specs.Forms.{Row, Last, Word, Fixed, Rest, Either, OneOf, Named, LinkForm, PlaceForm, LockOf, spots, drops, scans, locks, calls, IsStatement}
use Rattle.rss_line.specs.Reads.{IsPlain, IsThe, IsInt, IsPlainValue, IsOff, Skips, ReadsWord, ReadsWords, Gives, Behind}
use Rattle.rss_line.specs.Once.{LinesSpellOnce}
use Rattle.rss_line.proofs.Cuts.{IsSolid, plain_solid, skipped, same_front, at_once, apart_off}
use Rattle.rss_line.proofs.Plain.{IsLow, equals_plain, transaction_plain, name_plain, name_solid, variable_plain, variable_low, tid_in_plain, tid_in_low, number_in_plain, mode_plain, field_plain, field_solid}
use Rattle.rss_line.proofs.Combining.{ArePlain, AreSolid, has_as, then_word, then_fixed, then_rest, ends_here, is_first, is_second, NeedsWord, needs_word, needs_fixed, no_words_left, some_words_left}
use Rattle.rss_line.proofs.ValueTexts.{plain_value_plain, value_solid, plain_off, int_undefined, value_plain, value_quoted, quoted_read}
use Rattle.rss_line.proofs.Sequences.{GoesOn, goes_start, goes_more, goes_end}
use Rattle.rss_line.proofs.Functions.{IsFunction, one_transaction, one_name, one_variable, one_tid_in, one_number_in, one_mode, one_field}
use Rattle.rss_line.proofs.Choosing.{is_written, are_written, first_word, written_plain, written_high, IsNoneOf, has_none, none_of, none_has, same_first, same_rest}
use Rattle.rss_line.proofs.Lines.{calls_written}
use Rattle.rss_line.proofs.Numbers.{mag_fits}

-- ---- a word

-- what is read where such a word is next: it, and nothing else
abbrev IsOnce : {T : Type 0} → (List ℕ → T → Type 0) → Type 0
IsOnce {T = T} Is = (old word rest : List ℕ) (x : T) → Begins old word rest → Is word x → ReadsWord Is old rest (Ok x)

off_front : (word rest : List ℕ) → IsSolid word → IsOff space (word ++ rest)
off_front [] rest solid = absurd solid
off_front (b ∷ word) rest solid = solid

-- spaces before a word are skipped
skips_to : {old word rest : List ℕ} → Begins old word rest → IsSolid word → Skips old (word ++ rest)
skips_to {word = word} {rest = rest} begins solid = record { spaces = begins.spaces; before = begins.before; parts = begins.parts; off = off_front word rest solid }

plain_once : {old v x w y : List ℕ} → Begins old v x → IsPlain v → Begins old w y → IsPlain w → (v ≡ w) × (x ≡ y)
plain_once {v = v} {x = x} {w = w} {y = y} begins plain other plain_too =
    same_front v w x y plain.bare plain_too.bare begins.apart other.apart (skipped (skips_to begins (plain_solid v plain)) (plain_solid w plain_too) other)

once_plain : {T : Type 0} {Is : List ℕ → T → Type 0} → ArePlain Is → IsFunction Is → IsOnce Is
once_plain {Is = Is} plain function old word rest x begins is = record {
  ok = (word, begins, is);
  all = λ other left y begun has.
      let same = plain_once begins (plain word x is) begun (plain other y has) in
      (function other x y (subst (λ (v : List ℕ). Is v x) same.0 is) has, same.1);
}

one_int : IsFunction IsInt
one_int word x y is has = signed_decimal_injective x y (mag_fits x is.proper) (mag_fits y has.proper) (sym is.spelled ∙ has.spelled)

one_plain_value : IsFunction IsPlainValue
one_plain_value word (Text bytes) y is has = absurd is
one_plain_value word x (Text bytes) is has = absurd has
one_plain_value word (Int x) (Int y) is has = ap Int (one_int word x y is has)
one_plain_value word (Int x) Undefined is has = absurd (int_undefined word x is has)
one_plain_value word Undefined (Int y) is has = absurd (int_undefined word y has is)
one_plain_value word Undefined Undefined is has = refl

once_plain_value : (old word rest : List ℕ) (value : Value) → Begins old word rest → IsPlainValue word value → ReadsWord IsValue old rest (Ok value)
once_plain_value old word rest value begins is =
    value_plain (Ok value) (skips_to begins (plain_solid word (plain_value_plain word value is))) (plain_off word value is rest)
    (once_plain {Is = IsPlainValue} plain_value_plain one_plain_value (word ++ rest) word rest value (at_once refl begins.apart) is)

once_value : IsOnce IsValue
once_value old word rest (Int z) begins is = once_plain_value old word rest (Int z) begins (record { spelled = is.spelled; proper = is.proper })
once_value old word rest Undefined begins is = once_plain_value old word rest Undefined begins (record { spelled = is.spelled; proper = is.proper })
once_value old word rest (Text bytes) begins is =
    let at : word ++ rest ≡ quote ∷ (doubled bytes ++ quote ∷ rest) = ap (λ w. w ++ rest) is.spelled ∙ ap (λ l. quote ∷ l) (append_assoc (doubled bytes) (quote ∷ []) rest) in
    value_quoted (Ok (Text bytes)) (skips_to begins (value_solid word (Text bytes) is)) at
    (quoted_read bytes (refl, apart_off rest begins.apart) begins.apart)

-- ---- forms

abbrev IsLone : {T : Type 0} → (List (List ℕ) → T → Type 0) → Type 0
IsLone {T = T} Form = (old : List ℕ) (words : List (List ℕ)) (x : T) → HasWords old words → Form words x → ReadsWords Form old (Ok x)

lone_last : {T : Type 0} (made : T) → IsLone (Last made)
lone_last made old words x has (none, same) = subst (λ y. ReadsWords (Last made) old (Ok y)) (sym same) (ends_here (has_as old none has))

lone_word : {T U : Type 0} {Is : List ℕ → T → Type 0} {After : T → List (List ℕ) → U → Type 0} → IsOnce Is → ((y : T) → IsLone (After y)) → IsLone (Word Is After)
lone_word once lone old words x has (word, rest, y, same, is, after) =
    let (left, begins, more) = has_as old same has in
    then_word (Ok x) (once old word left y begins is) (lone y left rest x more after)

lone_fixed : {U : Type 0} {After : List (List ℕ) → U → Type 0} (expected : List ℕ) → IsPlain expected → IsLone After → IsLone (Fixed expected After)
lone_fixed expected plain lone old words x has (rest, same, after) =
    let (left, begins, more) = has_as old same has in
    then_fixed (Ok x) (once_plain {Is = IsThe expected} (λ word done is. subst IsPlain (sym is) plain) (λ word one other is has. refl) old expected left tt begins refl) (lone left rest x more after)

lone_rest : {T U : Type 0} {Are : List (List ℕ) → T → Type 0} (make : T → U) → IsLone Are → IsLone (Rest Are make)
lone_rest {Are = Are} make lone old words x has (item, are, same) = subst (λ y. ReadsWords (Rest Are make) old (Ok y)) (sym same) (then_rest make (lone old words item has are))

-- the line may end here
lone_optional : {T : Type 0} (made : T) {Other : List (List ℕ) → T → Type 0} → NeedsWord Other → IsLone Other → IsLone (Either (Last made) Other)
lone_optional made needs lone old words x has (inl form) = is_first (Ok x) (no_words_left old needs (has_as old form.0 has)) (lone_last made old words x has form)
lone_optional made needs lone old words x has (inr form) = is_second (Ok x) (some_words_left old (λ spaces. no_words_left old needs spaces words x has form)) (lone old words x has form)

-- one form begins with letters, and the other with what no letter does
abbrev IsWritten : {T : Type 0} → (List (List ℕ) → T → Type 0) → Type 0
IsWritten {T = T} Form = (words : List (List ℕ)) (x : T) → Form words x → (word : List ℕ) × (rest : List (List ℕ)) × (words ≡ word ∷ rest) × (is_written word ≡ true)

abbrev IsMarked : {T : Type 0} → (List (List ℕ) → T → Type 0) → Type 0
IsMarked {T = T} Form = (words : List (List ℕ)) (x : T) → Form words x → (word : List ℕ) × (rest : List (List ℕ)) × (words ≡ word ∷ rest) × IsPlain word × IsLow word

module _ {T : Type 0} {One Other : List (List ℕ) → T → Type 0} (written : IsWritten One) (marked : IsMarked Other) where
  clash : (old : List ℕ) (words others : List (List ℕ)) (x y : T) → HasWords old words → One words x → HasWords old others → Other others y → ⊥
  clash old words others x y has one has_too other =
      let (word, rest, same, letters) = written words x one in
      let (left, begins, more) = has_as old same has in
      let (mark, behind, same_too, plain, low) = marked others y other in
      let (left_too, begun, more_too) = has_as old same_too has_too in
      written_high word letters (subst IsLow (sym (plain_once begins (written_plain word letters) begun plain).0) low)

  lone_either : IsLone One → IsLone Other → IsLone (Either One Other)
  lone_either first second old words x has (inl form) = is_first (Ok x) (λ others y has_too other. clash old words others x y has form has_too other) (first old words x has form)
  lone_either first second old words x has (inr form) = is_second (Ok x) (λ others y has_too one. clash old others words y x has_too one has form) (second old words x has form)

-- ---- choices

abbrev AreLone : {T : Type 0} → List (Row T) → Type 0
AreLone [] = ⊤
AreLone (row ∷ rows) = IsLone row.form × AreLone rows

-- no two rows have one word
abbrev AreApart : {T : Type 0} → List (Row T) → Bool
AreApart [] = true
AreApart (row ∷ rows) = has_none rows row.word && AreApart rows

lone_behind : {T : Type 0} (rows : List (Row T)) → AreApart rows ≡ true → AreLone rows → (word : List ℕ) (rest : List (List ℕ)) (left : List ℕ) (x : T) → HasWords left rest → OneOf rows (word ∷ rest) x → ReadsWords (Behind rows word) left (Ok x)
lone_behind [] apart lone word rest left x has form = absurd form
lone_behind {T = T} (row ∷ rows) apart lone word rest left x has (inl (others, same, form)) =
    let reads = lone.0 left rest x has (subst (λ (w : List (List ℕ)). row.form w x) (sym (same_rest same)) form) in
    record { ok = (rest, has, inl (others, same, form)); all = λ words y has_too form. cases reads words y has_too form }
  where
    none : IsNoneOf rows row.word
    none = none_of rows row.word (and_parts (has_none rows row.word) (AreApart rows) apart).0

    cases : ReadsWords row.form left (Ok x) → (words : List (List ℕ)) (y : T) → HasWords left words → OneOf (row ∷ rows) (word ∷ words) y → Gives y (Unit {0}) (Ok x)
    cases reads words y has_too (inl (more, as_too, other)) = reads.all words y has_too (subst (λ (w : List (List ℕ)). row.form w y) (sym (same_rest as_too)) other)
    cases reads words y has_too (inr other) = absurd (none_has rows row.word none words y (subst (λ (v : List ℕ). OneOf rows (v ∷ words) y) (same_first same) other))
lone_behind {T = T} (row ∷ rows) apart lone word rest left x has (inr form) =
    let reads = lone_behind rows (and_parts (has_none rows row.word) (AreApart rows) apart).1 lone.1 word rest left x has form in
    record { ok = (rest, has, inr form); all = λ words y has_too form. cases reads words y has_too form }
  where
    none : IsNoneOf rows row.word
    none = none_of rows row.word (and_parts (has_none rows row.word) (AreApart rows) apart).0

    cases : ReadsWords (Behind rows word) left (Ok x) → (words : List (List ℕ)) (y : T) → HasWords left words → OneOf (row ∷ rows) (word ∷ words) y → Gives y (Unit {0}) (Ok x)
    cases reads words y has_too (inl (more, same, other)) = absurd (none_has rows row.word none rest x (subst (λ (v : List ℕ). OneOf rows (v ∷ rest) x) (same_first same) form))
    cases reads words y has_too (inr other) = reads.all words y has_too other

lone_rows : {T : Type 0} (rows : List (Row T)) → are_written rows ≡ true → AreApart rows ≡ true → AreLone rows → IsLone (OneOf rows)
lone_rows rows test apart lone old words x has form =
    let (word, rest, same, letters) = first_word rows test words x form in
    let (left, begins, more) = has_as old same has in
    let reads = lone_behind rows apart lone word rest left x more (subst (λ (w : List (List ℕ)). OneOf rows w x) same form) in
    record {
      ok = (words, has, form);
      all = λ others y has_too other.
          let (next, behind, as_too, letters_too) = first_word rows test others y other in
          let (left_too, begun, more_too) = has_as old as_too has_too in
          let on = plain_once begins (written_plain word letters) begun (written_plain next letters_too) in
          reads.all behind y (subst (λ (bytes : List ℕ). HasWords bytes behind) (sym on.1) more_too)
          (subst (λ (v : List ℕ). OneOf rows (v ∷ behind) y) (sym on.0) (subst (λ (w : List (List ℕ)). OneOf rows w y) as_too other));
    }

-- ---- lists

module _ {T : Type 0} {Is : List ℕ → T → Type 0} (solid : AreSolid Is) (once : IsOnce Is) where
  each_on : (old : List ℕ) (done : List T) (mid : List ℕ) → GoesOn Is old done mid → (words : List (List ℕ)) (items : List T) → HasWords mid words → StandFor Is words items → ReadsWords (StandFor Is) old (Ok (done ++ items))
  each_on old done mid goes [] [] has are = subst (λ l. ReadsWords (StandFor Is) old (Ok l)) (sym (append-nil done)) (goes_end Is solid goes has)
  each_on old done mid goes [] (item ∷ items) has are = absurd are
  each_on old done mid goes (word ∷ words) [] has are = absurd are
  each_on old done mid goes (word ∷ words) (item ∷ items) (left, begins, more) (is, are) =
      subst (λ l. ReadsWords (StandFor Is) old (Ok l)) (append_assoc done (item ∷ []) items)
      (each_on old (done ++ item ∷ []) left (goes_more Is solid goes (once mid word left item begins is)) words items more are)

  lone_each : IsLone (StandFor Is)
  lone_each old words items has are = each_on old [] old (goes_start Is old) words items has are

lone_values : IsLone AreValues
lone_values = lone_each value_solid once_value

lone_names : IsLone AreNames
lone_names old words names has are =
    let reads = lone_each name_solid (once_plain name_plain one_name) old words names has are.each in
    record { ok = (words, has, are); all = λ others y has_too other. reads.all others y has_too other.each }

lone_fields : IsLone AreFieldWords
lone_fields old words fields has are =
    let reads = lone_each field_solid (once_plain field_plain one_field) old words fields has are.each in
    record { ok = (words, has, are); all = λ others y has_too other. reads.all others y has_too other.each }

-- ---- the table

once_name : IsOnce IsNameWord
once_name = once_plain name_plain one_name

once_transaction : IsOnce IsTransaction
once_transaction = once_plain transaction_plain one_transaction

lone_named : (make : Name → Call) → IsLone (Named make)
lone_named make = lone_word once_name (λ name. lone_last (make name))

module _ (names : List Variable) where
  once_tid : IsOnce (IsTidIn names)
  once_tid = once_plain (tid_in_plain names) (one_tid_in names)

  once_number : IsOnce (IsNumberIn names)
  once_number = once_plain (number_in_plain names) (one_number_in names)

  lone_spots : IsLone (OneOf (spots names))
  lone_spots = lone_rows (spots names) refl refl (lone_last _, (lone_last _, (lone_word once_tid (λ tid. lone_last _), tt)))

  spots_written : {T : Type 0} (make : Spot → T) → IsWritten (Rest (OneOf (spots names)) make)
  spots_written make words x (spot, form, made) = first_word (spots names) refl words spot form

  tids_marked : {T : Type 0} (After : Tid → List (List ℕ) → T → Type 0) → IsMarked (Word (IsTidIn names) After)
  tids_marked After words x (word, rest, tid, same, is, after) = (word, rest, same, tid_in_plain names word tid is, tid_in_low names word tid is)

  lone_place : IsLone (PlaceForm names)
  lone_place = lone_either (spots_written _) (tids_marked _) (lone_rest _ lone_spots) (lone_word once_tid (λ parent. lone_rest _ lone_spots))

  lone_scans : (t : ℕ) → IsLone (OneOf (scans names t))
  lone_scans t = lone_rows (scans names t) refl refl (
    lone_named _,
    (
      lone_word once_name (λ image. lone_optional _ (needs_fixed _ (codes "from") (λ is. omega (arith, is))) (lone_fixed (codes "from") (written_plain _ refl) (lone_rest _ lone_values))),
      (
        lone_word once_name (λ link. lone_optional _ (needs_word _ (λ word tid is. plain_solid word (tid_in_plain names word tid is))) (lone_word once_tid (λ parent. lone_last _))),
        tt,
      ),
    ),
  )

  lone_locks : (t : ℕ) → IsLone (OneOf (locks t))
  lone_locks t = lone_rows (locks t) refl refl (lock _, (lock _, tt))
    where
      lock : (item : Name → Item) → IsLone (LockOf t item)
      lock item = lone_word once_name (λ name. lone_word (once_plain mode_plain one_mode) (λ exclusive. lone_last _))

  lone_drops : IsLone (OneOf drops)
  lone_drops = lone_rows drops refl refl (search (lone_last, lone_word, once_name) parts 10)

  lone_link : IsLone LinkForm
  lone_link = lone_word once_name (λ name. lone_word once_name (λ relation. lone_optional _ (needs_word _ name_solid) (lone_named _)))

  calls_apart : AreApart (calls names) ≡ true
  unfolding calls
  calls_apart = refl

  calls_lone : AreLone (calls names)
  unfolding calls
  calls_lone = search (lone_last, lone_word, lone_rest, lone_link, lone_drops, lone_scans, lone_locks, lone_place, lone_fields, lone_names, lone_values, once_name, once_number, once_tid, once_transaction) parts 30

  lone_calls : IsLone (OneOf (calls names))
  lone_calls = lone_rows (calls names) (calls_written names) calls_apart calls_lone

  lone_statement : IsLone (IsStatement names)
  lone_statement = lone_either written (marked _) (lone_rest _ lone_calls)
      (lone_word (once_plain variable_plain one_variable) (λ name. lone_fixed (codes "=") equals_plain (lone_rest _ lone_calls)))
    where
      written : IsWritten {T = Option Name × Call} (Rest (OneOf (calls names)) (λ call. (None, call)))
      written words x (call, form, made) = first_word (calls names) (calls_written names) words call form

      marked : (After : Name → List (List ℕ) → Option Name × Call → Type 0) → IsMarked (Word IsVariable After)
      marked After words x (word, rest, name, same, is, after) = (word, rest, same, variable_plain word name is, variable_low word name is)

-- ---- the law

pub lines_once : LinesSpellOnce
lines_once names line one other call same first second =
    let both = (lone_statement names line first.words (one, call) first.spaced first.says).all second.words (other, same) second.spaced second.says in
    (ap (λ (x : Option Name × Call). x.0) both.0, ap (λ (x : Option Name × Call). x.1) both.0)
