-- What is right in the pages of a segment, page by page and entry by entry, and what is wrong first.
use Rattle.std.specs.Prelude.{◌≡◌, ◌⊎◌, ℕ, ◌<◌, ◌≤◌, Bool, true, List, length, Option, Some, None}
use Rattle.rss_base.specs.Paged.{Held}
use Rattle.rss_base.specs.Steps.{Keys}
use Rattle.rss_base.specs.Tids.{IsBelow}
use Rattle.rss_base.specs.declared.key.PageKey.{PageKey}
use Rattle.rss_base.specs.declared.key.Space.TheVariants.{Home, Overflow}
use Rattle.rss_base.specs.declared.place.Place.{Place}
use Rattle.rss_base.specs.declared.place.Place.TheVariants.{Page as PagePlace}
use Rattle.rss_base.specs.declared.tid.Tid.{Tid}
use Rattle.rss_page.specs.Content.{Empty, Forward}
use Rattle.rss_page.specs.Slotted.{entries, IsWellFormed}
use Rattle.rss_page.specs.Surveyed.{IsVacant}
use Rattle.rss_tuple.specs.Directory.{homes, overflows, bodies_of}
use Rattle.rss_tuple.specs.Heaps.{body_most, HasBody, IsLed}
use Rattle.rss_tuple.specs.declared.flaw.Flaw.{Flaw}
use Rattle.rss_tuple.specs.declared.flaw.Flaw.TheVariants.{Entry, Unled}

-- ---- pages, each by itself

-- A page is well-formed, and not all of its entries are empty.
pub record IsPageRight (key : PageKey) (bytes : List ℕ) : Type 0 where
  pub formed : IsWellFormed key bytes
  pub some : IsVacant (entries bytes) → ⊥

-- each of these pages that is mapped
abbrev pub ArePagesRight : Held → Keys → Type 0
ArePagesRight held keys =
    (key : PageKey) (bytes : List ℕ) → keys key → held key ≡ Some bytes → IsPageRight key bytes

-- The order of a segment's pages: home pages come before overflow pages, and then the lesser number.
abbrev pub ComesBefore : PageKey → PageKey → Type 0
ComesBefore a b =
    ((a.space ≡ Home) × (b.space ≡ Overflow)) ⊎ ((a.space ≡ b.space) × (a.number < b.number))

-- Of these pages it is the first one that isn't right.
pub record IsFirstWrongPage (held : Held) (keys : Keys) (key : PageKey) : Type 0 where
  pub inside : keys key
  pub bytes : List ℕ
  pub there : held key ≡ Some bytes
  pub wrong : IsPageRight key bytes → ⊥
  pub earlier : ArePagesRight held (λ other. keys other × ComesBefore other key)

-- the place is that of this page
pub record NamesPage (held : Held) (keys : Keys) (place : Place) : Type 0 where
  pub key : PageKey
  pub is : place ≡ PagePlace key
  pub first : IsFirstWrongPage held keys key

-- ---- entries of home pages

-- The body may stand there, and isn't longer than that of a tuple.
pub record IsBodyRight (is_good : List ℕ → Bool) (body : List ℕ) : Type 0 where
  pub good : is_good body ≡ true
  pub short : length body ≤ body_most

-- The home entry of an identifier is empty, has a body that may stand there, or leads to one in an overflow page, to which that of no lesser identifier leads.
pub record IsEntryRight (held : Held) (segment : ℕ) (is_good : List ℕ → Bool) (tid : Tid) : Type 0 where
  pub leads : (page slot : ℕ) → homes held segment tid.page tid.slot ≡ Forward page slot
      → HasBody (overflows held segment page slot)
  pub first : (page slot : ℕ) (other : Tid) → homes held segment tid.page tid.slot ≡ Forward page slot
      → homes held segment other.page other.slot ≡ Forward page slot → IsBelow other tid → ⊥
  pub good : (body : List ℕ) → bodies_of held segment tid ≡ Some body → IsBodyRight is_good body

-- each of a segment
abbrev pub AreEntriesRight : Held → ℕ → (List ℕ → Bool) → Type 0
AreEntriesRight held segment is_good = (tid : Tid) → IsEntryRight held segment is_good tid

-- It is the least identifier whose entry isn't right.
pub record IsFirstWrongEntry (held : Held) (segment : ℕ) (is_good : List ℕ → Bool) (tid : Tid) : Type 0 where
  pub wrong : IsEntryRight held segment is_good tid → ⊥
  pub earlier : (other : Tid) → IsBelow other tid → IsEntryRight held segment is_good other

-- ---- entries of overflow pages

-- each entry of an overflow page that holds something is led to
abbrev pub AreLed : Held → ℕ → ℕ → Type 0
AreLed held segment page =
    (slot : ℕ) → (overflows held segment page slot ≡ Empty → ⊥) → IsLed (homes held segment) page slot

-- It is the least overflow page with an entry that holds something, and to which no home entry leads.
pub record IsFirstUnled (held : Held) (segment page : ℕ) : Type 0 where
  pub slot : ℕ
  pub holds : overflows held segment page slot ≡ Empty → ⊥
  pub unled : IsLed (homes held segment) page slot → ⊥
  pub earlier : (other : ℕ) → other < page → AreLed held segment other

-- ---- what is wrong first, where each page by itself is right

-- An entry that isn't right comes before each overflow page.
abbrev pub IsFirstFlaw : Held → ℕ → (List ℕ → Bool) → Flaw → Type 0
IsFirstFlaw held segment is_good (Entry tid) = IsFirstWrongEntry held segment is_good tid
IsFirstFlaw held segment is_good (Unled page) =
    AreEntriesRight held segment is_good × IsFirstUnled held segment page

-- by the first entry that isn't right, and the first overflow page with an entry that isn't led to
abbrev pub flaw_of : Option Tid → Option ℕ → Option Flaw
flaw_of (Some tid) unled = Some (Entry tid)
flaw_of None (Some page) = Some (Unled page)
flaw_of None None = None
