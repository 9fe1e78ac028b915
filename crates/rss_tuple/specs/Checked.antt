-- What a look through all pages of a segment finds.
use Rattle.std.specs.Prelude.{◌≡◌, ℕ, Bool, true, List, [], ◌∷◌, flat_map, Option, Some, None}
use Rattle.std.specs.List.{range_with_len}
use Rattle.rss_base.specs.Sizes.{page_entries}
use Rattle.rss_base.specs.Paged.{Held}
use Rattle.rss_base.specs.Steps.{PagesView, Keys}
use Rattle.rss_base.specs.declared.tid.Tid.{Tid}
use Rattle.rss_base.specs.declared.key.PageKey.{PageKey}
use Rattle.rss_page.specs.Slotted.{entries, IsHeapKey}
use Rattle.rss_tuple.specs.Directory.{bodies_of, homes, overflows, tid_at}
use Rattle.rss_tuple.specs.Heaps.{IsHeap, AreLinked}
use Rattle.rss_tuple.specs.Spots.{IsRoom}

-- ---- the tuples of a segment

-- an identifier with its body
abbrev pub Row : Type 0
Row = Tid × List ℕ

abbrev pub Rows : Type 0
Rows = List Row

-- the tuple at an identifier, if there is one
abbrev pub row_of : Tid → Option (List ℕ) → Rows
row_of tid None = []
row_of tid (Some body) = (tid, body) ∷ []

abbrev pub row_at : Held → ℕ → ℕ → ℕ → Rows
row_at held segment page slot = row_of (tid_at page slot) (bodies_of held segment (tid_at page slot))

abbrev pub rows_on : Held → ℕ → ℕ → Rows
rows_on held segment page = flat_map (row_at held segment page) (range_with_len 0 page_entries)

-- all tuples of a segment whose pages have numbers below a limit, in the order of their identifiers
abbrev pub tuples_of : Held → ℕ → ℕ → Rows
tuples_of held segment limit = flat_map (rows_on held segment) (range_with_len 0 limit)

-- ---- whether its pages are in form

-- a home or an overflow page of the segment
abbrev pub pages_of : ℕ → Keys
pages_of segment key = (key.segment ≡ segment) × IsHeapKey key

-- Each page of the segment is well-formed, its forwards and their goals are one to one, and each body is such as may stand there.
pub record IsSound (held : Held) (segment : ℕ) (is_good : List ℕ → Bool) : Type 0 where
  pub formed : (key : PageKey) (bytes : List ℕ) → pages_of segment key → held key ≡ Some bytes
      → IsHeap key bytes None
  pub linked : AreLinked (homes held segment) (overflows held segment)
  pub good : (tid : Tid) (body : List ℕ) → bodies_of held segment tid ≡ Some body → is_good body ≡ true

-- A page is one of a tuple store's, and the note on it is its room.
pub record IsNoted (key : PageKey) (bytes : List ℕ) (note : Option ℕ) : Type 0 where
  pub heap : IsHeap key bytes note
  pub room : ℕ
  pub is : note ≡ Some room
  pub exact : IsRoom (entries bytes) room

-- each page of the segment is such a page
abbrev pub AreNoted : ℕ → PagesView → Type 0
AreNoted segment view =
    (key : PageKey) (bytes : List ℕ) → pages_of segment key → view.held key ≡ Some bytes
    → IsNoted key bytes (view.notes key)
