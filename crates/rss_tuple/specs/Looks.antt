-- How a look through the pages of a segment goes on, page by page and entry by entry.
use Rattle.std.specs.Prelude.{◌≡◌, ◌⊎◌, ◌↔◌, ℕ, ◌<◌, ◌≤◌, Bool, List, ◌++◌, length, slice_index_or, Option, Some, IfSome, Result, Err, IsErrOf}
use Rattle.std.specs.Int.{bit_at}
use Rattle.rss_base.specs.Sizes.{page_entries}
use Rattle.rss_base.specs.DiskRule.{IsTold}
use Rattle.rss_base.specs.Paged.{Held, page_key}
use Rattle.rss_base.specs.Faults.{Rises}
use Rattle.rss_base.specs.Steps.{PagesView, Keys, pages_in}
use Rattle.rss_base.specs.declared.place.Place.{Place}
use Rattle.rss_base.specs.declared.place.Place.TheVariants.{Room}
use Rattle.rss_base.specs.declared.fault.PageFault.{PageFault}
use Rattle.rss_base.specs.declared.fault.PageFault.TheVariants.{Device as DeviceFailed, Damaged}
use Rattle.rss_base.specs.Tids.{IsBelow}
use Rattle.rss_base.specs.declared.key.PageKey.{PageKey}
use Rattle.rss_base.specs.declared.key.Space.{Space}
use Rattle.rss_base.specs.declared.key.Space.TheVariants.{Overflow}
use Rattle.rss_base.specs.declared.tid.Tid.{Tid}
use Rattle.rss_page.specs.Content.{Content, Empty, Here, Forward}
use Rattle.rss_page.specs.Slotted.{entries, IsWellFormed}
use Rattle.rss_page.specs.Surveyed.{held_at}
use Rattle.rss_tuple.specs.Directory.{Entries, contents, overflows, body_by}
use Rattle.rss_tuple.specs.Heaps.{CoversRoom, HasBody}
use Rattle.rss_tuple.specs.Spots.{IsRoom}
use Rattle.rss_base.specs.Looking.{LooksStep}
use Rattle.rss_tuple.specs.Checked.{Rows}
use Rattle.rss_tuple.specs.Flaws.{IsPageRight, IsBodyRight, IsEntryRight}

-- ---- calls that look

-- What a call that looks at pages passes on, by its result: the damage that is found on a device that tells its contents is at such a place.
pub record LooksCall {T : Type 0} (names : Place → Type 0) (noted : Keys) (asks : ℕ)
    (old new : PagesView) (result : Result T PageFault) : Type 0 where
  pub looks : LooksStep noted asks old new
  pub failed : IsErrOf result DeviceFailed → Rises old.faults new.faults
  pub flawed : (place : Place) → result ≡ Err (Damaged place) → IsTold old.disk → names place
  pub elsewhere : IsErrOf result (Damaged Room) → ⊥

-- no place is named
abbrev pub nowhere : Place → Type 0
nowhere place = ⊥

-- The visitor saw these tuples, behind those that it had seen before, and its rule is the same.
pub record Sees {V : Type 0} (is_good : V → List ℕ → Bool) (saw : V → Rows → Type 0)
    (old new : V) (more : Rows) : Type 0 where
  pub rule : is_good new ≡ is_good old
  pub rows : (rows : Rows) → saw old rows → saw new (rows ++ more)

-- ---- a page by itself

-- the pages of a space of a segment from a number on
abbrev pub pages_from : ℕ → Space → ℕ → Keys
pages_from segment space from key = pages_in segment space key × (from ≤ key.number)

-- the page of this key is right
abbrev pub IsRightAt : Held → PageKey → Type 0
IsRightAt held key = (bytes : List ℕ) → held key ≡ Some bytes → IsPageRight key bytes

-- A page is right, and the note on it is its room.
pub record IsRoomNoted (key : PageKey) (bytes : List ℕ) (note : Option ℕ) : Type 0 where
  pub right : IsPageRight key bytes
  pub room : ℕ
  pub is : note ≡ Some room
  pub exact : IsRoom (entries bytes) room
  pub covers : IfSome note (CoversRoom (entries bytes))

abbrev pub IsNotedAt : Held → PagesView → PageKey → Type 0
IsNotedAt held now key = (bytes : List ℕ) → held key ≡ Some bytes → IsRoomNoted key bytes (now.notes key)

-- the page of this key was looked at and noted
pub record LooksAt (key : PageKey) (bytes : List ℕ) (old new : PagesView) : Type 0 where
  pub noted : IsRoomNoted key bytes (new.notes key)
  pub held : IsTold old.disk → old.held key ≡ Some bytes

-- ---- marks: one bit for each entry of an overflow page, in one word a page

abbrev pub IsMarked : List ℕ → ℕ → ℕ → Type 0
IsMarked marks page slot = bit_at (slice_index_or marks page 0) slot ≡ 1

-- the overflow entry to which this entry leads is marked now, if it leads anywhere
pub record MarksGoal (content : Content) (old new : List ℕ) : Type 0 where
  pub size : length new ≡ length old
  pub marked : (page slot : ℕ) → IsMarked new page slot
      ↔ (IsMarked old page slot ⊎ (content ≡ Forward page slot))

-- each entry that holds something is marked
abbrev pub AreMarked : List Content → ℕ → Type 0
AreMarked contents word =
    (slot : ℕ) → slot < page_entries → (held_at contents slot ≡ Empty → ⊥) → bit_at word slot ≡ 1

-- in each overflow page of a segment
abbrev pub AreAllMarked : Held → ℕ → List ℕ → Type 0
AreAllMarked held segment marks =
    (page : ℕ) → AreMarked (contents held (page_key segment Overflow page)) (slice_index_or marks page 0)

-- an entry holds something, and isn't marked
pub record HasUnmarked (contents : List Content) (word : ℕ) : Type 0 where
  pub slot : ℕ
  pub holds : held_at contents slot ≡ Empty → ⊥
  pub unmarked : bit_at word slot ≡ 1 → ⊥

-- It is the first overflow page of a segment with such an entry.
pub record IsFirstUnmarked (held : Held) (segment : ℕ) (marks : List ℕ) (page : ℕ) : Type 0 where
  pub has : HasUnmarked (contents held (page_key segment Overflow page)) (slice_index_or marks page 0)
  pub earlier : (other : ℕ) → other < page
      → AreMarked (contents held (page_key segment Overflow other)) (slice_index_or marks other 0)

-- ---- an entry of a home page

-- a body stands in an entry, and it may
pub record HasGood (is_good : List ℕ → Bool) (content : Content) : Type 0 where
  pub body : List ℕ
  pub is : content ≡ Here body
  pub good : IsBodyRight is_good body

-- The entry leads to a body, if it leads anywhere, and to no entry that is marked; and its body may stand there.
pub record MayHold (overflow : Entries) (marks : List ℕ) (is_good : List ℕ → Bool)
    (content : Content) : Type 0 where
  pub leads : (page slot : ℕ) → content ≡ Forward page slot → HasBody (overflow page slot)
  pub fresh : (page slot : ℕ) → content ≡ Forward page slot → IsMarked marks page slot → ⊥
  pub good : (body : List ℕ) → body_by overflow content ≡ Some body → IsBodyRight is_good body

-- the overflow pages of a segment are well-formed
abbrev pub AreOverflowsFormed : Held → ℕ → Type 0
AreOverflowsFormed held segment =
    (page : ℕ) (bytes : List ℕ) → held (page_key segment Overflow page) ≡ Some bytes
    → IsWellFormed (page_key segment Overflow page) bytes

-- so they are, and the entry is as above
pub record MayStand (held : Held) (segment : ℕ) (marks : List ℕ) (is_good : List ℕ → Bool)
    (content : Content) : Type 0 where
  pub formed : AreOverflowsFormed held segment
  pub holds : MayHold (overflows held segment) marks is_good content

-- ---- all entries that were looked at

-- a set of home entries, by the numbers of pages and by slots
abbrev pub Spots : Type 1
Spots = ℕ → ℕ → Type 0

-- those in front of an entry
abbrev pub in_front : ℕ → ℕ → Spots
in_front page slot p s = (p < page) ⊎ ((p ≡ page) × (s < slot))

-- one of these leads to this entry
pub record IsLedBy (spots : Spots) (home : Entries) (page slot : ℕ) : Type 0 where
  pub from_page : ℕ
  pub from_slot : ℕ
  pub inside : spots from_page from_slot
  pub forward : home from_page from_slot ≡ Forward page slot

-- Each of these entries leads to a body, if it leads anywhere, and no two to one; where they lead is marked, and nothing else; and their bodies may stand there.
pub record AreSeen (home overflow : Entries) (is_good : List ℕ → Bool) (marks : List ℕ)
    (spots : Spots) : Type 0 where
  pub leads : (page slot to_page to_slot : ℕ) → spots page slot
      → home page slot ≡ Forward to_page to_slot → HasBody (overflow to_page to_slot)
  pub marked : (page slot to_page to_slot : ℕ) → spots page slot
      → home page slot ≡ Forward to_page to_slot → IsMarked marks to_page to_slot
  pub led : (page slot : ℕ) → IsMarked marks page slot → IsLedBy spots home page slot
  pub once : (page slot other_page other_slot to_page to_slot : ℕ) → spots page slot
      → spots other_page other_slot → home page slot ≡ Forward to_page to_slot
      → home other_page other_slot ≡ Forward to_page to_slot
      → (other_page ≡ page) × (other_slot ≡ slot)
  pub good : (page slot : ℕ) (body : List ℕ) → spots page slot
      → body_by overflow (home page slot) ≡ Some body → IsBodyRight is_good body

-- The entries of all lesser identifiers are right. That of this one isn't, where the overflow pages are well-formed.
pub record StopsAt (held : Held) (segment : ℕ) (is_good : List ℕ → Bool) (tid : Tid) : Type 0 where
  pub earlier : (other : Tid) → IsBelow other tid → IsEntryRight held segment is_good other
  pub wrong : AreOverflowsFormed held segment → IsEntryRight held segment is_good tid → ⊥
