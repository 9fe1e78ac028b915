-- The slotted page: a header of 16 bytes, a directory of 128 entries of 8 bytes, and in the 3,056 bytes behind it the bodies that the entries name.
use Rattle.std.specs.Prelude.{◌≡◌, ◌⊎◌, ℕ, ◌+◌, ◌*◌, ◌^◌, ◌<◌, ◌≤◌, ◌==◌, if◌then◌else◌, List, [], ◌∷◌, ◌++◌, length, take, drop, map, replicate, slice_index, slice_set, sum_by}
use Rattle.std.specs.List.{range_with_len}
use Rattle.std.specs.Int.{w16, w32, to_be_bytes, from_be_bytes}
use Rattle.rss_base.specs.Sizes.{page_entries, page_bytes, bodies_room}
use Rattle.rss_base.specs.PageMap.{space_code}
use Rattle.rss_base.specs.declared.key.PageKey.{PageKey}
use Rattle.rss_base.specs.declared.key.Space.TheVariants.{Home, Overflow}
use Rattle.rss_page.specs.declared.entry_form.Entry.{Entry}
use Rattle.rss_page.specs.declared.entry_form.Entry.TheVariants.{Empty as EmptyEntry, Here as HereEntry, Forward as ForwardEntry}
use Rattle.rss_page.specs.Content.{Content, Empty, Here, Forward, body_length}

-- ---- its measures

-- where the bodies of a page begin
abbrev pub bodies_at : ℕ
bodies_at = 1040

-- ---- the bytes of an entry

-- so many bytes, from a place on
abbrev pub part : List ℕ → ℕ → ℕ → List ℕ
part bytes at count = take count (drop at bytes)

-- a page, with these bytes written from a place on
abbrev pub put : List ℕ → ℕ → List ℕ → List ℕ
put page at bytes = take at page ++ bytes ++ drop (at + length bytes) page

abbrev pub entry_bytes : Entry → List ℕ
entry_bytes EmptyEntry = replicate 8 0
entry_bytes (HereEntry place length) = 1 ∷ 0 ∷ (to_be_bytes w16 place ++ to_be_bytes w16 length ++ 0 ∷ 0 ∷ [])
entry_bytes (ForwardEntry page slot) = 2 ∷ slot ∷ 0 ∷ 0 ∷ to_be_bytes w32 page

-- the entry that bytes spell, where they spell one
abbrev pub entry_from : List ℕ → Entry
entry_from bytes =
    if slice_index bytes 0 == 1 then HereEntry (from_be_bytes w16 (part bytes 2 2)) (from_be_bytes w16 (part bytes 4 2)) else
    if slice_index bytes 0 == 2 then ForwardEntry (from_be_bytes w32 (part bytes 4 4)) (slice_index bytes 1) else EmptyEntry

-- the first byte of an entry's body, and how many bytes it has
abbrev pub place_of : Entry → ℕ
place_of EmptyEntry = 0
place_of (HereEntry place length) = place
place_of (ForwardEntry page slot) = 0

abbrev pub length_of : Entry → ℕ
length_of EmptyEntry = 0
length_of (HereEntry place length) = length
length_of (ForwardEntry page slot) = 0

-- a byte of the page belongs to the entry's body
pub record IsInBody (entry : Entry) (byte : ℕ) : Type 0 where
  pub low : place_of entry ≤ byte
  pub high : byte < place_of entry + length_of entry

-- where a body may stand
pub record IsBody (place length : ℕ) : Type 0 where
  pub low : bodies_at ≤ place
  pub some : 1 ≤ length
  pub high : place + length ≤ page_bytes

-- where a forward may lead, from a page of the space with this code: from home pages alone, to one of 128 slots
pub record IsForward (space page slot : ℕ) : Type 0 where
  pub home : space ≡ 1
  pub slot_low : slot < page_entries
  pub page_low : page < 2 ^ 32

-- an entry may stand in a page of the space with this code
abbrev pub IsAllowed : ℕ → Entry → Type 0
IsAllowed space EmptyEntry = Unit {0}
IsAllowed space (HereEntry place length) = IsBody place length
IsAllowed space (ForwardEntry page slot) = IsForward space page slot

-- the bytes are those of an entry, and it may stand there
pub record IsEntry (space : ℕ) (bytes : List ℕ) : Type 0 where
  pub spelled : bytes ≡ entry_bytes (entry_from bytes)
  pub allowed : IsAllowed space (entry_from bytes)

-- ---- the directory

abbrev pub entry_at : List ℕ → ℕ → List ℕ
entry_at page slot = part page (16 + 8 * slot) 8

abbrev pub entry_of : List ℕ → ℕ → Entry
entry_of page slot = entry_from (entry_at page slot)

-- what an entry holds in a page
abbrev pub content_of : List ℕ → Entry → Content
content_of page EmptyEntry = Empty
content_of page (HereEntry place length) = Here (part page place length)
content_of page (ForwardEntry to_page to_slot) = Forward to_page to_slot

-- what a page says: what each of its 128 entries holds
unfoldable pub entries : List ℕ → List Content
entries page = map (λ slot. content_of page (entry_of page slot)) (range_with_len 0 page_entries)

-- how many bytes the bodies have
abbrev pub body_bytes : List Content → ℕ
body_bytes contents = sum_by body_length contents

-- a body of this length fits at a slot: it and the bodies of all other slots have at most 3,056 bytes
abbrev pub HasRoom : List Content → ℕ → ℕ → Type 0
HasRoom contents slot length = body_bytes (slice_set contents slot Empty) + length ≤ bodies_room

-- ---- when a page is well-formed

-- The directory and the bodies: each entry is spelled as it should be, and no byte belongs to two bodies. The page's first byte says whose space it is.
pub record IsSlotted (page : List ℕ) : Type 0 where
  pub size : length page ≡ page_bytes
  pub spelled : (slot : ℕ) → slot < page_entries → IsEntry (slice_index page 0) (entry_at page slot)
  pub apart : (a b byte : ℕ) → a < page_entries → b < page_entries → IsInBody (entry_of page a) byte → IsInBody (entry_of page b) byte → a ≡ b

abbrev pub header_bytes : PageKey → List ℕ
header_bytes key = space_code key.space ∷ key.segment ∷ 0 ∷ 0 ∷ (to_be_bytes w32 key.number ++ replicate 8 0)

-- the key names a home or an overflow page
abbrev pub IsHeapKey : PageKey → Type 0
IsHeapKey key = (key.space ≡ Home) ⊎ (key.space ≡ Overflow)

-- a slotted page of the home space
abbrev pub IsHome : List ℕ → Type 0
IsHome page = slice_index page 0 ≡ 1

-- the key names a home or an overflow page, whose header this is
pub record IsHeader (key : PageKey) (page : List ℕ) : Type 0 where
  pub space : IsHeapKey key
  pub header : part page 0 16 ≡ header_bytes key

-- the page of this key, by itself
pub record IsWellFormed (key : PageKey) (page : List ℕ) : Type 0 where
  pub space : IsHeapKey key
  pub header : part page 0 16 ≡ header_bytes key
  pub slotted : IsSlotted page

-- ---- a change of a page

-- The page is as well-formed as before, for whatever key, and its entries now hold this.
pub record Becomes (old new : List ℕ) (now : List Content) : Type 0 where
  pub header : part new 0 16 ≡ part old 0 16
  pub slotted : IsSlotted new
  pub holds : entries new ≡ now
  pub formed : (key : PageKey) → IsWellFormed key old → IsWellFormed key new

-- the same, where the entry of one slot now holds this, and each other one what it held
abbrev pub Sets : List ℕ → List ℕ → ℕ → Content → Type 0
Sets old new slot content = Becomes old new (slice_set (entries old) slot content)

-- the bodies of all slots, but perhaps this one, end at this place or before it
abbrev pub OthersEndBy : List ℕ → ℕ → ℕ → Type 0
OthersEndBy page slot end = (other : ℕ) → other < page_entries → (other ≡ slot → ⊥) → place_of (entry_of page other) + length_of (entry_of page other) ≤ end

-- they have none of so many bytes from this place on
abbrev pub OthersBeside : List ℕ → ℕ → ℕ → ℕ → Type 0
OthersBeside page slot place count = (other : ℕ) → other < page_entries → (other ≡ slot → ⊥) → (place_of (entry_of page other) + length_of (entry_of page other) ≤ place) ⊎ (place + count ≤ place_of (entry_of page other))

abbrev pub EndBy : List ℕ → ℕ → Type 0
EndBy page end = (slot : ℕ) → slot < page_entries → place_of (entry_of page slot) + length_of (entry_of page slot) ≤ end

-- every other body stays in its place
abbrev pub OthersStay : List ℕ → List ℕ → ℕ → Type 0
OthersStay old new slot = (other : ℕ) → other < page_entries → (other ≡ slot → ⊥) → entry_of new other ≡ entry_of old other

-- the same, where a place behind them leaves room for so many bytes
abbrev pub OthersStayIfRoom : List ℕ → List ℕ → ℕ → ℕ → Type 0
OthersStayIfRoom old new slot length = (end : ℕ) → OthersEndBy old slot end → end + length ≤ page_bytes → OthersStay old new slot

-- the entry of a slot has this body now, from a place on, and each other body stays in its place
pub record Overwrites (old new : List ℕ) (slot place : ℕ) (body : List ℕ) : Type 0 where
  pub becomes : Sets old new slot (Here body)
  pub stay : OthersStay old new slot
  pub stands : entry_of new slot ≡ HereEntry place (length body)

-- a body may be put at a slot of a page
pub record MayPut (page : List ℕ) (slot : ℕ) (body : List ℕ) : Type 0 where
  pub slotted : IsSlotted page
  pub slot_low : slot < page_entries
  pub some : 1 ≤ length body
  pub room : HasRoom (entries page) slot (length body)
