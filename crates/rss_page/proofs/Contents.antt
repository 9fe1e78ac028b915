-- What the entries of a page hold.
use Rattle.std.proofs.Common.{◌≡◌, ◌⊎◌, inl, inr, ℕ, ◌+◌, ◌-◌, ◌<◌, ◌^◌, List, length, take, drop, get_or, refl, sym, ◌∙◌, ap, arith, ext_get_or, length-take-le, length-drop}
use Rattle.std.proofs.lemmas.List.FromFn.{length-map-range_with_len, get_or-map-range_with_len}
use Rattle.std.proofs.lemmas.Nat.{from_be_bytes-to_be_bytes_2, from_be_bytes-to_be_bytes_4}
use Rattle.rss_page.specs.declared.entry_form.Entry.{Entry}
use Rattle.rss_page.specs.declared.entry_form.Entry.TheVariants.{Empty as EmptyEntry, Here as HereEntry, Forward as ForwardEntry}
use Rattle.rss_page.specs.Content.{Content, Empty, Here, body_length}
use Rattle.rss_page.specs.Slotted.{part, entry_bytes, entry_from, entry_of, content_of, entries, place_of, length_of, IsAllowed, IsBody}

-- ---- the list of the contents

pub length-entries : (page : List ℕ) → length (entries page) ≡ 128
unfolding entries
length-entries page = length-map-range_with_len (λ slot. content_of page (entry_of page slot)) 0 128

pub entries_at : (page : List ℕ) (slot : ℕ) → slot < 128 → get_or (entries page) slot Empty ≡ content_of page (entry_of page slot)
unfolding entries
entries_at page slot within = get_or-map-range_with_len (λ slot. content_of page (entry_of page slot)) 0 128 slot slot Empty within (omega arith)

pub entries_are : (page : List ℕ) (now : List Content) → length now ≡ 128 → ((slot : ℕ) → slot < 128 → content_of page (entry_of page slot) ≡ get_or now slot Empty) → entries page ≡ now
entries_are page now long each =
    ext_get_or Empty (entries page) now (length-entries page ∙ sym long) (λ slot within. entries_at page slot (omega (arith, length-entries page)) ∙ each slot (omega (arith, length-entries page)))

-- ---- entries and their bytes

-- the bytes of an entry read as that entry
pub entry_back : (space : ℕ) (entry : Entry) → IsAllowed space entry → entry_from (entry_bytes entry) ≡ entry
entry_back space EmptyEntry allowed = refl
entry_back space (HereEntry place length) allowed =
    let first : place < 2 ^ 16 = omega (arith, allowed.some, allowed.high) in
    let second : length < 2 ^ 16 = omega (arith, allowed.low, allowed.high) in
    λ i. HereEntry (from_be_bytes-to_be_bytes_2 place first i) (from_be_bytes-to_be_bytes_2 length second i)
entry_back space (ForwardEntry page slot) allowed = λ i. ForwardEntry (from_be_bytes-to_be_bytes_4 page allowed.page_low i) slot

-- the body of an entry, where it has one, is where bodies are
pub body_within : (space : ℕ) (entry : Entry) → IsAllowed space entry → (place_of entry + length_of entry ≡ 0) ⊎ IsBody (place_of entry) (length_of entry)
body_within space EmptyEntry allowed = inl refl
body_within space (HereEntry place length) allowed = inr allowed
body_within space (ForwardEntry page slot) allowed = inl refl

-- where the bytes of its body stay, an entry holds the same
pub content_kept : (old new : List ℕ) (entry : Entry) → part new (place_of entry) (length_of entry) ≡ part old (place_of entry) (length_of entry) → content_of new entry ≡ content_of old entry
content_kept old new EmptyEntry same = refl
content_kept old new (HereEntry place length) same = ap Here same
content_kept old new (ForwardEntry page slot) same = refl

-- only an entry that has a body here holds one
pub no_body : (page : List ℕ) (entry : Entry) (body : List ℕ) → content_of page entry ≡ Here body → ((place length : ℕ) → entry ≡ HereEntry place length → ⊥) → ⊥
no_body page EmptyEntry body same not = cc
no_body page (HereEntry place length) body same not = not place length refl
no_body page (ForwardEntry to_page to_slot) body same not = cc

-- the body of an entry has the length that the entry says, where it lies within the page
pub body_long : (page : List ℕ) (space : ℕ) (entry : Entry) → length page ≡ 4096 → IsAllowed space entry → body_length (content_of page entry) ≡ length_of entry
body_long page space EmptyEntry size allowed = refl
body_long page space (HereEntry place count) size allowed = length-take-le count (drop place page) (omega (arith, length-drop place page, allowed.high))
body_long page space (ForwardEntry to_page to_slot) size allowed = refl

pub entry_long : (entry : Entry) → length (entry_bytes entry) ≡ 8
entry_long EmptyEntry = refl
entry_long (HereEntry place count) = refl
entry_long (ForwardEntry page slot) = refl

-- an entry that holds no body has none
pub no_place : (page : List ℕ) (entry : Entry) → ((body : List ℕ) → content_of page entry ≡ Here body → ⊥) → place_of entry + length_of entry ≡ 0
no_place page EmptyEntry not = refl
no_place page (HereEntry place count) not = absurd (not (part page place count) refl)
no_place page (ForwardEntry to_page to_slot) not = refl

-- what the entry of a slot holds, by that entry
pub held_is : (page : List ℕ) (slot : ℕ) (entry : Entry) → slot < 128 → entry ≡ entry_of page slot → get_or (entries page) slot Empty ≡ content_of page entry
held_is page slot entry low is = entries_at page slot low ∙ ap (content_of page) (sym is)

-- a part that code lends
pub lent : (page : List ℕ) (place start count bytes : ℕ) → start ≡ place → bytes ≡ count → take (start + bytes - start) (drop start page) ≡ part page place count
lent page place start count bytes at long =
    let same : start + bytes - start ≡ count = omega arith in
    λ i. take (same i) (drop (at i) page)
