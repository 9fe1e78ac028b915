-- What the home and the overflow pages of a store are, where the device tells its contents.
use Rattle.std.specs.Prelude.{◌≡◌, ℕ, ◌+◌, ◌<◌, ◌≤◌, List, length, Option, Some, IfSome}
use Rattle.rss_base.specs.Sizes.{page_entries, bodies_room}
use Rattle.rss_base.specs.Steps.{PagesView}
use Rattle.rss_base.specs.declared.key.PageKey.{PageKey}
use Rattle.rss_page.specs.Content.{Content, Empty, Here, Forward}
use Rattle.rss_page.specs.Slotted.{entries, body_bytes, IsHeapKey, IsWellFormed}
use Rattle.rss_page.specs.Surveyed.{held_at, IsVacant}
use Rattle.rss_tuple.specs.Directory.{Entries, homes, overflows}

-- how many bytes the body of a tuple has at most
abbrev pub body_most : ℕ
body_most = 2400

-- ---- one page

-- A note on a page is no less than its room: where an entry is empty, it is more than the free bytes.
abbrev pub CoversRoom : List Content → ℕ → Type 0
CoversRoom contents note = (slot : ℕ) → slot < page_entries → held_at contents slot ≡ Empty → bodies_room + 1 ≤ note + body_bytes contents

-- A page is well-formed, not all of its entries are empty, its bodies are those of tuples, and its note, if it has one, is no less than its room.
pub record IsHeap (key : PageKey) (bytes : List ℕ) (note : Option ℕ) : Type 0 where
  pub formed : IsWellFormed key bytes
  pub some : IsVacant (entries bytes) → ⊥
  pub short : (slot : ℕ) (body : List ℕ) → held_at (entries bytes) slot ≡ Here body → length body ≤ body_most
  pub noted : IfSome note (CoversRoom (entries bytes))

-- each home and overflow page is such a page by itself
abbrev pub AreFormed : PagesView → Type 0
AreFormed view = (key : PageKey) (bytes : List ℕ) → IsHeapKey key → view.held key ≡ Some bytes → IsHeap key bytes (view.notes key)

-- ---- forwards and their goals

-- a body stands in the entry
pub record HasBody (content : Content) : Type 0 where
  pub body : List ℕ
  pub is : content ≡ Here body

-- some home entry leads to this entry of an overflow page
pub record IsLed (home : Entries) (page slot : ℕ) : Type 0 where
  pub from_page : ℕ
  pub from_slot : ℕ
  pub forward : home from_page from_slot ≡ Forward page slot

-- Each forward leads to an overflow entry that has a body, and each overflow entry that holds anything is where exactly one forward leads.
pub record AreLinked (home overflow : Entries) : Type 0 where
  pub leads : (page slot to_page to_slot : ℕ) → home page slot ≡ Forward to_page to_slot → HasBody (overflow to_page to_slot)
  pub led : (page slot : ℕ) → (overflow page slot ≡ Empty → ⊥) → IsLed home page slot
  pub once : (page slot other_page other_slot to_page to_slot : ℕ) → home page slot ≡ Forward to_page to_slot
      → home other_page other_slot ≡ Forward to_page to_slot → (other_page ≡ page) × (other_slot ≡ slot)

-- ---- all of them

-- The pages of a tuple store: each is well-formed, and the forwards of each segment and their goals are one to one.
pub record AreHeaps (view : PagesView) : Type 0 where
  pub formed : AreFormed view
  pub linked : (segment : ℕ) → AreLinked (homes view.held segment) (overflows view.held segment)
