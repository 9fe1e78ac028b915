-- A page of which one entry is changed.
use Rattle.std.proofs.Common.{◌≡◌, ◌≢◌, ◌⊎◌, inl, inr, ℕ, ◌+◌, ◌*◌, ◌<◌, ◌≤◌, List, length, set, get_or, max, sym, ◌∙◌, ap, subst, arith, length-set, get_or-set_same, get_or-set_other}
use Rattle.std.proofs.lemmas.Bool.{cases_lt, cases_eq}
use Rattle.rss_page.specs.declared.entry_form.Entry.{Entry}
use Rattle.rss_page.specs.declared.entry_form.Entry.TheVariants.{Here as HereEntry}
use Rattle.rss_page.specs.Content.{Content, Empty, Here}
use Rattle.rss_page.specs.Slotted.{part, put, entry_bytes, entry_from, entry_at, entry_of, content_of, entries, place_of, length_of, IsInBody, IsAllowed, IsBody, IsEntry, IsSlotted, Becomes, EndBy, OthersBeside, OthersEndBy, OthersStay}
use Rattle.rss_page.proofs.Parts.{length-put, part_put, part_kept, first_byte}
use Rattle.rss_page.proofs.Contents.{length-entries, entries_at, entries_are, entry_back, entry_long, body_within, content_kept}

-- the entry of a slot is another one, which holds this
pub record Edit (old new : List ℕ) (slot : ℕ) (entry : Entry) (content : Content) : Type 0 where
  pub size : length new ≡ 4096
  pub header : part new 0 16 ≡ part old 0 16
  pub others : (other : ℕ) → other < 128 → other ≢ slot → entry_at new other ≡ entry_at old other
  pub here : entry_at new slot ≡ entry_bytes entry
  pub allowed : IsAllowed (get_or old 0 0) entry
  pub bodies : (other : ℕ) → other < 128 → other ≢ slot → content_of new (entry_of old other) ≡ content_of old (entry_of old other)
  pub apart : (other byte : ℕ) → other < 128 → other ≢ slot → IsInBody (entry_of old other) byte → IsInBody entry byte → ⊥
  pub holds : content_of new entry ≡ content

pub edited : (old new : List ℕ) (slot : ℕ) (entry : Entry) (content : Content) → IsSlotted old → slot < 128 → Edit old new slot entry content → Becomes old new (set (entries old) slot content)
edited old new slot entry content is within edit =
    let here : entry_of new slot ≡ entry = ap entry_from edit.here ∙ entry_back (get_or old 0 0) entry edit.allowed in
    let space = first_byte old new edit.header in
    let slotted : IsSlotted new = record {
      size = edit.size;
      spelled = λ other low. subst (λ (n : ℕ). IsEntry n (entry_at new other)) (sym space) (elim (cases_eq other slot) [
        | inl same ↦ subst (λ (n : ℕ). IsEntry (get_or old 0 0) (entry_at new n)) (sym same) (record {
          spelled = edit.here ∙ ap entry_bytes (sym here);
          allowed = subst (IsAllowed (get_or old 0 0)) (sym here) edit.allowed;
        })
        | inr differ ↦ subst (IsEntry (get_or old 0 0)) (sym (edit.others other low differ)) (is.spelled other low)
      ]);
      apart = λ a b byte a_low b_low in_a in_b. elim (cases_eq a slot) [
        | inl a_is ↦ elim (cases_eq b slot) [
          | inl b_is ↦ a_is ∙ sym b_is
          | inr b_not ↦ absurd (edit.apart b byte b_low b_not (kept b byte b_low b_not in_b) (at_slot here a byte a_is in_a))
        ]
        | inr a_not ↦ elim (cases_eq b slot) [
          | inl b_is ↦ absurd (edit.apart a byte a_low a_not (kept a byte a_low a_not in_a) (at_slot here b byte b_is in_b))
          | inr b_not ↦ is.apart a b byte a_low b_low (kept a byte a_low a_not in_a) (kept b byte b_low b_not in_b)
        ]
      ];
    } in
    record {
      header = edit.header;
      slotted = slotted;
      holds = entries_are new (set (entries old) slot content) (length-set (entries old) slot content ∙ length-entries old) (λ other low. elim (cases_eq other slot) [
        | inl same ↦ subst (λ (n : ℕ). content_of new (entry_of new n) ≡ get_or (set (entries old) slot content) n Empty) (sym same) (ap (content_of new) here ∙ edit.holds ∙ sym (get_or-set_same (entries old) slot content Empty (omega (arith, length-entries old))))
        | inr differ ↦ ap (λ (l : List ℕ). content_of new (entry_from l)) (edit.others other low differ) ∙ edit.bodies other low differ ∙ sym (entries_at old other low) ∙ sym (get_or-set_other (entries old) slot other content Empty differ)
      ]);
      formed = λ key was. record { space = was.space; header = edit.header ∙ was.header; slotted = slotted };
    }
  where
    kept : (other byte : ℕ) → other < 128 → other ≢ slot → IsInBody (entry_of new other) byte → IsInBody (entry_of old other) byte
    kept other byte low differ has = subst (λ (l : List ℕ). IsInBody (entry_from l) byte) (edit.others other low differ) has

    at_slot : entry_of new slot ≡ entry → (other byte : ℕ) → other ≡ slot → IsInBody (entry_of new other) byte → IsInBody entry byte
    at_slot here other byte same has = subst (λ (e : Entry). IsInBody e byte) here (subst (λ (n : ℕ). IsInBody (entry_of new n) byte) same has)

-- ---- an entry that is written

dir_within : (page : List ℕ) (slot : ℕ) (entry : Entry) → length page ≡ 4096 → slot < 128 → 16 + 8 * slot + length (entry_bytes entry) ≤ length page
dir_within page slot entry size low = omega (arith, entry_long entry)

dir_others : (page : List ℕ) (slot other : ℕ) (entry : Entry) → length page ≡ 4096 → slot < 128 → other ≢ slot → entry_at (put page (16 + 8 * slot) (entry_bytes entry)) other ≡ entry_at page other
dir_others page slot other entry size low differ = part_kept page (16 + 8 * slot) (entry_bytes entry) (16 + 8 * other) 8 (dir_within page slot entry size low) (elim (cases_lt other slot) [
  | inl before ↦ inl (omega arith)
  | inr from ↦ inr (omega (arith, differ, entry_long entry))
])

dir_here : (page : List ℕ) (slot : ℕ) (entry : Entry) → length page ≡ 4096 → slot < 128 → entry_at (put page (16 + 8 * slot) (entry_bytes entry)) slot ≡ entry_bytes entry
dir_here page slot entry size low = ap (λ (n : ℕ). part (put page (16 + 8 * slot) (entry_bytes entry)) (16 + 8 * slot) n) (sym (entry_long entry)) ∙ part_put page (16 + 8 * slot) (entry_bytes entry) (dir_within page slot entry size low)

dir_header : (page : List ℕ) (slot : ℕ) (entry : Entry) → length page ≡ 4096 → slot < 128 → part (put page (16 + 8 * slot) (entry_bytes entry)) 0 16 ≡ part page 0 16
dir_header page slot entry size low = part_kept page (16 + 8 * slot) (entry_bytes entry) 0 16 (dir_within page slot entry size low) (inl (omega arith))

-- bodies stay, and so does what has no bytes
dir_body : (page : List ℕ) (slot from count : ℕ) (entry : Entry) → length page ≡ 4096 → slot < 128 → (from + count ≡ 0) ⊎ (1040 ≤ from) → part (put page (16 + 8 * slot) (entry_bytes entry)) from count ≡ part page from count
dir_body page slot from count entry size low where_is = part_kept page (16 + 8 * slot) (entry_bytes entry) from count (dir_within page slot entry size low) (elim where_is [
  | inl none_there ↦ inl (omega arith)
  | inr body ↦ inr (omega (arith, entry_long entry))
])

-- where an entry's body stands, if it has one
placed : (page : List ℕ) (slot : ℕ) → IsSlotted page → slot < 128 → (place_of (entry_of page slot) + length_of (entry_of page slot) ≡ 0) ⊎ (1040 ≤ place_of (entry_of page slot))
placed page slot is low = elim (body_within (get_or page 0 0) (entry_of page slot) (is.spelled slot low).allowed) [ inl none_there ↦ inl none_there | inr body ↦ inr body.low ]

-- an entry without a body
pub entry_edit : (page : List ℕ) (slot : ℕ) (entry : Entry) (content : Content) → IsSlotted page → slot < 128 → IsAllowed (get_or page 0 0) entry → place_of entry + length_of entry ≡ 0 → ((bytes : List ℕ) → content_of bytes entry ≡ content)
    → Edit page (put page (16 + 8 * slot) (entry_bytes entry)) slot entry content
entry_edit page slot entry content is low allowed none_there holds = record {
  size = length-put page (16 + 8 * slot) (entry_bytes entry) (dir_within page slot entry is.size low) ∙ is.size;
  header = dir_header page slot entry is.size low;
  others = λ other other_low differ. dir_others page slot other entry is.size low differ;
  here = dir_here page slot entry is.size low;
  allowed = allowed;
  bodies = λ other other_low differ. content_kept page (put page (16 + 8 * slot) (entry_bytes entry)) (entry_of page other) (dir_body page slot (place_of (entry_of page other)) (length_of (entry_of page other)) entry is.size low (placed page other is other_low));
  apart = λ other byte other_low differ one two. omega (arith, two.low, two.high);
  holds = holds (put page (16 + 8 * slot) (entry_bytes entry));
}

-- an entry with a body, where no other one is
pub body_edit : (page : List ℕ) (slot end : ℕ) (body : List ℕ) → IsSlotted page → slot < 128 → OthersBeside page slot end (length body) → IsBody end (length body) → Edit page (put (put page end body) (16 + 8 * slot) (entry_bytes (HereEntry end (length body)))) slot (HereEntry end (length body)) (Here body)
body_edit page slot end body is low free place =
    let size = is.size in
    let within : end + length body ≤ length page = omega (arith, place.high) in
    let entry : Entry = HereEntry end (length body) in
    let mid : List ℕ = put page end body in
    let mid_size : length mid ≡ 4096 = length-put page end body within ∙ is.size in
    let front = λ (from count : ℕ) (le : from + count ≤ end). part_kept page end body from count within (inl le) in
    record {
      size = length-put mid (16 + 8 * slot) (entry_bytes entry) (dir_within mid slot entry mid_size low) ∙ mid_size;
      header = dir_header mid slot entry mid_size low ∙ front 0 16 (omega (arith, place.low));
      others = λ other other_low differ. dir_others mid slot other entry mid_size low differ ∙ front (16 + 8 * other) 8 (omega (arith, place.low));
      here = dir_here mid slot entry mid_size low;
      allowed = place;
      bodies = λ other other_low differ. content_kept page (put mid (16 + 8 * slot) (entry_bytes entry)) (entry_of page other) (dir_body mid slot (place_of (entry_of page other)) (length_of (entry_of page other)) entry mid_size low (placed page other is other_low) ∙ part_kept page end body (place_of (entry_of page other)) (length_of (entry_of page other)) within (free other other_low differ));
      apart = λ other byte other_low differ one two. elim (free other other_low differ) [
        | inl before ↦ omega (arith, one.high, two.low, before)
        | inr behind ↦ omega (arith, one.low, two.high, behind)
      ];
      holds = ap Here (dir_body mid slot end (length body) entry mid_size low (inr place.low) ∙ part_put page end body within);
    }

-- the bytes of a slot's own body belong to no other one
pub own_beside : (page : List ℕ) (slot place own count : ℕ) → IsSlotted page → slot < 128 → entry_of page slot ≡ HereEntry place own → 1 ≤ count → count ≤ own → OthersBeside page slot place count
own_beside page slot place own count is low here some few = λ other other_low differ. elim (body_within (get_or page 0 0) (entry_of page other) (is.spelled other other_low).allowed) [
  | inl none_there ↦ inl (omega (arith, none_there))
  | inr body ↦ elim (cases_lt place (place_of (entry_of page other) + length_of (entry_of page other))) [
    | inl over ↦ elim (cases_lt (place_of (entry_of page other)) (place + count)) [
      | inl under ↦
          let byte : ℕ = max place (place_of (entry_of page other)) in
          let in_other : IsInBody (entry_of page other) byte = record { low = omega arith; high = omega (arith, body.some) } in
          let in_own : IsInBody (HereEntry place own) byte = record { low = omega arith; high = omega (arith, body.some) } in
          absurd (differ (is.apart other slot byte other_low low in_other (subst (λ (e : Entry). IsInBody e byte) (sym here) in_own)))
      | inr behind ↦ inr behind
    ]
    | inr before ↦ inl before
  ]
]

-- ---- what the callers of an edit learn

pub edit_here : {old new : List ℕ} {slot : ℕ} {entry : Entry} {content : Content} → Edit old new slot entry content → entry_of new slot ≡ entry
edit_here {old = old} {entry = entry} edit = ap entry_from edit.here ∙ entry_back (get_or old 0 0) entry edit.allowed

pub edit_stay : {old new : List ℕ} {slot : ℕ} {entry : Entry} {content : Content} → Edit old new slot entry content → OthersStay old new slot
edit_stay edit = λ other low differ. ap entry_from (edit.others other low differ)

-- a place behind them has none of their bytes
pub ends_beside : (page : List ℕ) (slot end count : ℕ) → OthersEndBy page slot end → OthersBeside page slot end count
ends_beside page slot end count free = λ other low differ. inl (free other low differ)

-- all bodies end where the new one does
pub edit_ends : (old new : List ℕ) (slot : ℕ) (entry : Entry) (end now : ℕ) → entry_of new slot ≡ entry → OthersStay old new slot → OthersEndBy old slot end → end ≤ now → place_of entry + length_of entry ≤ now → EndBy new now
edit_ends old new slot entry end now here stay free le own = λ other low. elim (cases_eq other slot) [
  | inl same ↦ subst (λ (n : ℕ). place_of (entry_of new n) + length_of (entry_of new n) ≤ now) (sym same) (subst (λ (e : Entry). place_of e + length_of e ≤ now) (sym here) own)
  | inr differ ↦ subst (λ (e : Entry). place_of e + length_of e ≤ now) (sym (stay other low differ)) (omega (arith, free other low differ))
]
