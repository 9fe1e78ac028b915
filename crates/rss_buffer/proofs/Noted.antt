-- The notes of a map: how they are made, what is noted, and the first page that may do.
use Rattle.std.proofs.Common.{◌≡◌, inl, inr, ℕ, ◌+◌, ◌<◌, true, false, cond, length, Option, Some, None, refl, sym, ◌∙◌, ap, arith}
use Rattle.std.specs.Prelude.{IfSome, IfNone}
use Rattle.std.proofs.lemmas.Bool.{cases_Bool, cases_eq, cond-true, cond-false, false_from_ne_true, true≢false}
use Rattle.rss_base.specs.Notes.{Noted, is_noted_space, with_note, MayDo}
use Rattle.rss_base.specs.PageMap.{owner_of}
use Rattle.rss_base.specs.Paged.{Mapped, is_same, page_key, IsFirstFrom, NoneFrom}
use Rattle.rss_base.specs.Steps.{NotesPage}
use Rattle.rss_base.specs.StoredPages.{mapped_by}
use Rattle.rss_base.specs.declared.key.PageKey.{PageKey}
use Rattle.rss_base.specs.declared.key.Space.{Space}
use Rattle.rss_base.proofs.Keys.{is_same-true, is_same-itself}
use Rattle.rss_notes.specs.Notes.{NotesView, Marks, noted_on}
use Rattle.rss_shadow.proofs.Counts.{Owners, owned_within}
use Rattle.rss_shadow.proofs.Firsts.{first_told, none_told}
use Rattle.rss_shadow.proofs.Owned.{mapped-owned, HasPage-mapped}
use Rattle.rss_buffer.specs.Buffered.{BufferView, AreNotesOf}
use Rattle.rss_buffer.specs.Views.{pages_view}

-- ---- how they are made

-- the pages of so many slots are mapped there, and none has a note
pub record ArePut (owners : Owners) (count : ℕ) (notes : NotesView) : Type 0 where
  pub slots : notes.slots ≡ length owners
  pub put : (slot : ℕ) (key : PageKey) → slot < count → owner_of owners slot ≡ Some key → is_noted_space key.space ≡ true → notes.mapped key ≡ true
  pub only : (key : PageKey) → notes.mapped key ≡ true → mapped_by owners key ≡ true
  pub none : (key : PageKey) → notes.notes key ≡ None

pub none_put : (owners : Owners) (notes : NotesView) → notes.slots ≡ length owners → ((key : PageKey) → notes.mapped key ≡ false) → ((key : PageKey) → notes.notes key ≡ None) → ArePut owners 0 notes
none_put owners notes slots mapped none = record {
  slots = slots;
  put = λ slot key lt. absurd (omega (arith, lt));
  only = λ key is. absurd (true≢false (sym is ∙ mapped key));
  none = none;
}

-- the next slot has no page
pub free_put : {owners : Owners} {count : ℕ} {notes : NotesView} → owner_of owners count ≡ None → ArePut owners count notes → ArePut owners (count + 1) notes
free_put {owners = owners} {count = count} free are = record {
  slots = are.slots;
  put = λ slot key lt owned space. elim (cases_eq slot count) [
    | inl here ↦ absurd (let no : None ≡ Some key = sym free ∙ ap (owner_of owners) (sym here) ∙ owned in cc)
    | inr off ↦ are.put slot key (omega (arith, lt, off)) owned space
  ];
  only = are.only;
  none = are.none;
}

-- or it has this one
pub one_put : {owners : Owners} {count : ℕ} {notes notes_now : NotesView} {key : PageKey} → owner_of owners count ≡ Some key → Marks notes notes_now key (is_noted_space key.space) None → ArePut owners count notes → ArePut owners (count + 1) notes_now
one_put {owners = owners} {count = count} {notes = notes} {notes_now = notes_now} {key = key} owned marks are = record {
  slots = marks.slots ∙ are.slots;
  put = λ slot other lt owns space. elim (cases_Bool (is_same other key)) [
    | inl here ↦
        let at : is_noted_space key.space ≡ true = ap (λ (k : PageKey). is_noted_space k.space) (sym (is_same-true other key here)) ∙ space in
        mapped_now other ∙ cond-true (is_same other key) (is_noted_space key.space) (notes.mapped other) here ∙ at
    | inr off ↦ mapped_now other ∙ cond-false (is_same other key) (is_noted_space key.space) (notes.mapped other) off ∙ elim (cases_eq slot count) [
      | inl here ↦ absurd (let at : Some other ≡ Some key = sym owns ∙ ap (owner_of owners) here ∙ owned in let one : other ≡ key = cc in true≢false (sym (ap (λ (k : PageKey). is_same k key) one ∙ is_same-itself key) ∙ off))
      | inr apart ↦ are.put slot other (omega (arith, lt, apart)) owns space
    ]
  ];
  only = λ other is. elim (cases_Bool (is_same other key)) [
    | inl here ↦ ap (mapped_by owners) (is_same-true other key here) ∙ mapped-owned owners key count owned
    | inr off ↦ are.only other (sym (cond-false (is_same other key) (is_noted_space key.space) (notes.mapped other) off) ∙ sym (mapped_now other) ∙ is)
  ];
  none = λ other. ap (λ (n : Noted). n other) marks.notes ∙ elim (cases_Bool (is_same other key)) [
    | inl here ↦ cond-true (is_same other key) None (notes.notes other) here
    | inr off ↦ cond-false (is_same other key) None (notes.notes other) off ∙ are.none other
  ];
}
  where
    mapped_now : (other : PageKey) → notes_now.mapped other ≡ (cond (is_same other key) (is_noted_space key.space) (notes.mapped other))
    mapped_now other = ap (λ (m : Mapped). m other) marks.mapped

-- those of all slots
pub all_put : {owners : Owners} {count : ℕ} {notes : NotesView} → count ≡ length owners → ArePut owners count notes → AreNotesOf owners notes
all_put {owners = owners} {notes = notes} all are = record {
  slots = are.slots;
  mapped = λ key space. elim (cases_Bool (notes.mapped key)) [
    | inl is ↦ is ∙ sym (are.only key is)
    | inr not ↦ not ∙ sym (false_from_ne_true (mapped_by owners key) (λ is.
        let has = HasPage-mapped owners key is in
        true≢false (sym (are.put has.slot key (omega (arith, all, owned_within owners has.slot key has.owned)) has.owned space) ∙ not)))
  ];
}

-- ---- a number is noted

pub notes_page : (b : BufferView) (notes : NotesView) {key : PageKey} {number : ℕ} → AreNotesOf b.maps.current b.notes → mapped_by b.maps.current key ≡ true → is_noted_space key.space ≡ true → Marks b.notes notes key (b.notes.mapped key) (noted_on b.notes key number) → NotesPage key number (pages_view b) (pages_view (record b { notes = notes }))
notes_page b notes {key = key} {number = number} noted is space marks = record {
  mapped = refl;
  held = refl;
  changed = refl;
  notes = marks.notes ∙ ap (with_note b.notes.notes key) (cond-true (b.notes.mapped key) (Some number) None (noted.mapped key space ∙ is));
}

-- ---- the first page that may do

module _ {owners : Owners} {notes : NotesView} (noted : AreNotesOf owners notes) (least segment : ℕ) (space : Space) (is : is_noted_space space ≡ true) where
  abbrev May : ℕ → Type 0
  May = MayDo notes.mapped notes.notes least segment space

  abbrev MayOf : ℕ → Type 0
  MayOf = MayDo (mapped_by owners) notes.notes least segment space

  may_do : (k : ℕ) → May k → MayOf k
  may_do k may = record { mapped = sym (noted.mapped (page_key segment space k) is) ∙ may.mapped; note = may.note }

  does_by : (k : ℕ) → MayOf k → May k
  does_by k may = record { mapped = noted.mapped (page_key segment space k) is ∙ may.mapped; note = may.note }

  pub first_noted_by : (from : ℕ) (result : Option ℕ) → IfSome result (IsFirstFrom May from) → IfSome result (IsFirstFrom MayOf from)
  first_noted_by from result = first_told from result may_do does_by

  pub none_noted_by : (from : ℕ) (result : Option ℕ) → IfNone result (NoneFrom May from) → IfNone result (NoneFrom MayOf from)
  none_noted_by from result = none_told May MayOf from result does_by
