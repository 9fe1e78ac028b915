-- Lemmas on columns of marks.
use Rattle.std.proofs.Common.{◌≡◌, ◌≢◌, inl, inr, ℕ, ◌+◌, ◌-◌, ◌<◌, ◌≤◌, Bool, true, false, cond, List, [], length, get_or, set, refl, sym, ◌∙◌, ap, subst, arith, length-set, get_or-set_same, get_or-set_other}
use Rattle.std.specs.Prelude.{Option, Some, None, nat_lt}
use Rattle.std.proofs.lemmas.Bool.{cases_eq, cases_lt, cases_Bool, cond-true, cond-false, ltb-true, lt-ltb, ne_eqb, true≢false, or_from}
use Rattle.std.proofs.lemmas.List.{get_or_past}
use Rattle.rss_base.specs.Paged.{is_same, page_key}
use Rattle.rss_base.specs.PageMap.{IsKey, IsSegmentOf, number_limit}
use Rattle.rss_base.specs.declared.key.Space.{Space}
use Rattle.rss_base.specs.declared.key.Space.TheVariants.{Home, Overflow, Image, System}
use Rattle.rss_base.specs.declared.key.PageKey.{PageKey}
use Rattle.rss_base.proofs.Keys.{is_same-true, is_same-itself}
use Rattle.rss_base.specs.Notes.{is_noted_space}
use Rattle.rss_notes.specs.Notes.{NotesView, Marks}
use Rattle.rss_notes.specs.Marks.{Columns, Marked, AreColumns, column_from, column_at, mark_in, mark_of, marked_in, with_mark, is_mapped_mark, note_of_mark, told}

-- ---- where a mark stands

-- the columns are those of eight segments
pub record IsColumnOf (first segment column : ℕ) : Type 0 where
  pub low : 1 ≤ segment
  pub high : segment ≤ 8
  pub place : column + 1 ≡ first + segment

some_injective : (a b : ℕ) → Some a ≡ Some b → a ≡ b
some_injective a b is = cc

column_in : (first segment column : ℕ) → column_from first segment ≡ Some column → IsColumnOf first segment column
column_in first segment column is = elim (cases_Bool (nat_lt 0 segment)) [
  | inl low ↦ elim (cases_Bool (nat_lt segment 9)) [
    | inl high ↦
        let some : ℕ = first + segment - 1 in
        let place : some ≡ column = some_injective some column (sym (cond-true _ _ None low ∙ cond-true _ (Some some) None high) ∙ is) in
        let above = ltb-true 0 segment low in
        let below = ltb-true segment 9 high in
        record { low = omega arith; high = omega arith; place = omega arith }
    | inr high ↦ absurd (let none : None ≡ Some column = sym (cond-true _ _ None low ∙ cond-false _ _ None high) ∙ is in cc)
  ]
  | inr low ↦ absurd (let none : None ≡ Some column = sym (cond-false _ _ None low) ∙ is in cc)
]

column_there : (first segment : ℕ) → 1 ≤ segment → segment ≤ 8 → column_from first segment ≡ Some (first + segment - 1)
column_there first segment low high = cond-true _ _ None (lt-ltb 0 segment (omega arith)) ∙ cond-true _ (Some (first + segment - 1)) None (lt-ltb segment 9 (omega arith))

column_within : (space : Space) (segment column : ℕ) → column_at space segment ≡ Some column → column < 16
column_within Home segment column is = let there = column_in 0 segment column is in omega arith
column_within Overflow segment column is = let there = column_in 8 segment column is in omega arith
column_within Image segment column is = absurd (cc)
column_within System segment column is = absurd (cc)

column_alone : (s t : Space) (a b column : ℕ) → column_at s a ≡ Some column → column_at t b ≡ Some column → (s ≡ t) × (a ≡ b)
column_alone Home Home a b column p q = let x = column_in 0 a column p in let y = column_in 0 b column q in (refl, omega arith)
column_alone Overflow Overflow a b column p q = let x = column_in 8 a column p in let y = column_in 8 b column q in (refl, omega arith)
column_alone Home Overflow a b column p q = let x = column_in 0 a column p in let y = column_in 8 b column q in absurd (omega arith)
column_alone Overflow Home a b column p q = let x = column_in 8 a column p in let y = column_in 0 b column q in absurd (omega arith)
column_alone Home Image a b column p q = absurd (cc)
column_alone Home System a b column p q = absurd (cc)
column_alone Overflow Image a b column p q = absurd (cc)
column_alone Overflow System a b column p q = absurd (cc)
column_alone Image _ a b column p q = absurd (cc)
column_alone System _ a b column p q = absurd (cc)

-- ---- a mark that is put

-- the column is one of those that there are
abbrev IsThere : Columns → Option ℕ → Type 0
IsThere columns place = (c : ℕ) → place ≡ Some c → c < length columns

put_here : (columns : Columns) (c n mark : ℕ) → c < length columns → n < length (get_or columns c []) → mark_in (marked_in columns (Some c) n mark) (Some c) n ≡ mark
put_here columns c n mark within inside =
    ap (λ (column : List ℕ). get_or column n 0) (get_or-set_same columns c (set (get_or columns c []) n mark) [] within) ∙ get_or-set_same (get_or columns c []) n mark 0 inside

put_zero : (columns : Columns) (place : Option ℕ) (n : ℕ) → IsThere columns place → mark_in (marked_in columns place n 0) place n ≡ 0
put_zero columns None n there = refl
put_zero columns (Some c) n there = elim (cases_lt n (length (get_or columns c []))) [
  | inl inside ↦ put_here columns c n 0 (there c refl) inside
  | inr past ↦ ap (λ (column : List ℕ). get_or column n 0) (get_or-set_same columns c (set (get_or columns c []) n 0) [] (there c refl)) ∙ get_or_past (set (get_or columns c []) n 0) n 0 (omega (arith, length-set (get_or columns c []) n 0))
]

put_again : (columns : Columns) (place : Option ℕ) (n mark : ℕ) → IsThere columns place → 0 < mark_in columns place n → mark_in (marked_in columns place n mark) place n ≡ mark
put_again columns None n mark there some = absurd (omega arith)
put_again columns (Some c) n mark there some = elim (cases_lt n (length (get_or columns c []))) [
  | inl inside ↦ put_here columns c n mark (there c refl) inside
  | inr past ↦ absurd (omega (arith, get_or_past (get_or columns c []) n 0 past))
]

put_apart : (columns : Columns) (place other : Option ℕ) (n m mark : ℕ) → IsThere columns place → ((c : ℕ) → place ≡ Some c → other ≡ Some c → n ≡ m → ⊥) → mark_in (marked_in columns place n mark) other m ≡ mark_in columns other m
put_apart columns None other n m mark there apart = refl
put_apart columns (Some c) None n m mark there apart = refl
put_apart columns (Some c) (Some d) n m mark there apart = elim (cases_eq d c) [
  | inl same ↦
      let column : List ℕ = get_or columns c [] in
      let off : m ≢ n = λ is. apart c refl (ap Some same) (sym is) in
      ap (λ (e : ℕ). get_or (get_or (set columns c (set column n mark)) e []) m 0) same
      ∙ ap (λ (l : List ℕ). get_or l m 0) (get_or-set_same columns c (set column n mark) [] (there c refl))
      ∙ get_or-set_other column n m mark 0 off
      ∙ ap (λ (e : ℕ). get_or (get_or columns e []) m 0) (sym same)
  | inr off ↦ ap (λ (l : List ℕ). get_or l m 0) (get_or-set_other columns c d (set (get_or columns c []) n mark) [] off)
]

length_marked : (columns : Columns) (place : Option ℕ) (n mark : ℕ) → length (marked_in columns place n mark) ≡ length columns
length_marked columns None n mark = refl
length_marked columns (Some c) n mark = length-set columns c (set (get_or columns c []) n mark)

pub length-with_mark : (columns : Columns) (key : PageKey) (mark : ℕ) → length (with_mark columns key mark) ≡ length columns
length-with_mark columns key mark = length_marked columns (column_at key.space key.segment) key.number mark

-- ---- what the marks tell

Marks-marked : (slots : ℕ) (old new : Columns) (key : PageKey) (mark : ℕ) → mark_of new key ≡ mark → ((other : PageKey) → other ≢ key → mark_of new other ≡ mark_of old other) → Marks (told (record { slots = slots; columns = old })) (told (record { slots = slots; columns = new })) key (is_mapped_mark mark) (note_of_mark mark)
Marks-marked slots old new key mark here others = record {
  slots = refl;
  mapped = λ i other. tells is_mapped_mark other i;
  notes = λ i other. tells note_of_mark other i;
}
  where
    tells : {X : Type 0} (tell : ℕ → X) (other : PageKey) → tell (mark_of new other) ≡ cond (is_same other key) (tell mark) (tell (mark_of old other))
    tells tell other = elim (cases_Bool (is_same other key)) [
      | inl same ↦ ap tell (ap (mark_of new) (is_same-true other key same) ∙ here) ∙ sym (cond-true (is_same other key) (tell mark) (tell (mark_of old other)) same)
      | inr apart ↦
          let off : other ≢ key = λ is. true≢false (sym (ap (λ (k : PageKey). is_same k key) is ∙ is_same-itself key) ∙ apart) in
          ap tell (others other off) ∙ sym (cond-false (is_same other key) (tell mark) (tell (mark_of old other)) apart)
    ]

module _ (slots : ℕ) (columns : Columns) (are : AreColumns slots columns) (key : PageKey) where
  there : IsThere columns (column_at key.space key.segment)
  there c is = omega (arith, column_within key.space key.segment c is, are.count)

  others_stay : (mark : ℕ) (other : PageKey) → other ≢ key → mark_of (with_mark columns key mark) other ≡ mark_of columns other
  others_stay mark other off =
      put_apart columns (column_at key.space key.segment) (column_at other.space other.segment) key.number other.number mark there
      (λ c p q same. off (let is = column_alone other.space key.space other.segment key.segment c q p in λ i. record { segment = is.1 i; space = is.0 i; number = sym same i }))

  abbrev before : NotesView
  before = told (record { slots = slots; columns = columns })

  abbrev after : ℕ → NotesView
  after mark = told (record { slots = slots; columns = with_mark columns key mark })

  marks_put : (mark : ℕ) → mark_of (with_mark columns key mark) key ≡ mark → Marks before (after mark) key (is_mapped_mark mark) (note_of_mark mark)
  marks_put mark here = Marks-marked slots columns (with_mark columns key mark) key mark here (others_stay mark)

  pub unmaps : Marks before (after 0) key false None
  unmaps = marks_put 0 (put_zero columns (column_at key.space key.segment) key.number there)

  -- a page that is mapped gets another mark
  pub notes_again : (mark : ℕ) (note : Option ℕ) → 0 < mark_of columns key → 0 < mark → note_of_mark mark ≡ note → Marks before (after mark) key (is_mapped_mark (mark_of columns key)) note
  notes_again mark note some now is =
      let same : is_mapped_mark mark ≡ is_mapped_mark (mark_of columns key) = lt-ltb 0 mark now ∙ sym (lt-ltb 0 (mark_of columns key) some) in
      subst (λ (b : Bool). Marks before (after mark) key b note) same
      (subst (λ (n : Option ℕ). Marks before (after mark) key (is_mapped_mark mark) n) is
      (marks_put mark (put_again columns (column_at key.space key.segment) key.number mark there some)))

  -- one without a note stays as it is
  pub rests : note_of_mark (mark_of columns key) ≡ None → Marks before before key (is_mapped_mark (mark_of columns key)) None
  rests none = subst (λ (n : Option ℕ). Marks before before key (is_mapped_mark (mark_of columns key)) n) none (Marks-marked slots columns columns key (mark_of columns key) refl (λ other off. refl))

pub maps : (slots : ℕ) (columns : Columns) → AreColumns slots columns → (key : PageKey) → IsKey slots key → Marks (told (record { slots = slots; columns = columns })) (told (record { slots = slots; columns = with_mark columns key 65535 })) key (is_noted_space key.space) None
maps slots columns are key is = at key.space key.segment key.number is.segment is.number
  where
    marked : (space : Space) (segment number first : ℕ) → column_at space segment ≡ column_from first segment → first ≤ 8 → 1 ≤ segment → segment ≤ 8 → number < slots → Marks (told (record { slots = slots; columns = columns })) (told (record { slots = slots; columns = with_mark columns (page_key segment space number) 65535 })) (page_key segment space number) true None
    marked space segment number first same few low high below =
        let c : ℕ = first + segment - 1 in
        let place : column_at space segment ≡ Some c = same ∙ column_there first segment low high in
        let small : c < 16 = omega arith in
        let here : mark_in (marked_in columns (column_at space segment) number 65535) (column_at space segment) number ≡ 65535 =
        subst (λ (p : Option ℕ). mark_in (marked_in columns p number 65535) p number ≡ 65535) (sym place) (put_here columns c number 65535 (omega (arith, are.count)) (omega (arith, are.long c small))) in
        marks_put slots columns are (page_key segment space number) 65535 here

    at : (space : Space) (segment number : ℕ) → IsSegmentOf space segment → number < number_limit slots space → Marks (told (record { slots = slots; columns = columns })) (told (record { slots = slots; columns = with_mark columns (page_key segment space number) 65535 })) (page_key segment space number) (is_noted_space space) None
    at Home segment number p q = marked Home segment number 0 refl (omega arith) p.0 p.1 q
    at Overflow segment number p q = marked Overflow segment number 8 refl (omega arith) p.0 p.1 q
    at Image segment number p q = Marks-marked slots columns columns (page_key segment Image number) 0 refl (λ other off. refl)
    at System segment number p q = Marks-marked slots columns columns (page_key segment System number) 0 refl (λ other off. refl)

pub note_told : (number : ℕ) → number ≤ 65533 → note_of_mark (number + 1) ≡ Some number
note_told number few =
    let back : number + 1 - 1 ≡ number = omega arith in
    cond-false _ _ (Some (number + 1 - 1)) (or_from _ _ (ne_eqb (number + 1) 0 (λ is. omega arith)) (ne_eqb (number + 1) 65535 (λ is. omega arith))) ∙ ap Some back

-- ---- what the marks tell of each page

-- what has a note is mapped
pub noted_mapped : (marked : Marked) (key : PageKey) (note : ℕ) → (told marked).notes key ≡ Some note → (told marked).mapped key ≡ true
noted_mapped marked key note is = at (mark_of marked.columns key) is
  where
    at : (mark : ℕ) → note_of_mark mark ≡ Some note → is_mapped_mark mark ≡ true
    at mark is = elim (cases_lt 0 mark) [
      | inl some ↦ lt-ltb 0 mark some
      | inr none ↦ absurd (let zero : mark ≡ 0 = omega arith in let nothing : None ≡ Some note = sym (ap note_of_mark zero) ∙ is in cc)
    ]

-- and only home and overflow pages are
pub mapped_space : (marked : Marked) (key : PageKey) → (told marked).mapped key ≡ true → is_noted_space key.space ≡ true
mapped_space marked key is = at key.space is
  where
    at : (space : Space) → is_mapped_mark (mark_in marked.columns (column_at space key.segment) key.number) ≡ true → is_noted_space space ≡ true
    at Home is = refl
    at Overflow is = refl
    at Image is = is
    at System is = is
