-- What the calls on tuples do to the pages.
use Rattle.std.specs.Prelude.{◌≡◌, ◌⊎◌, ℕ, ◌<◌, ◌≤◌, Bool, true, false, List, [], ◌∷◌, length, sum_by, Option, Some, MatchOption, option_map, unwrap_or}
use Rattle.std.specs.List.{range_with_len}
use Rattle.rss_base.specs.DiskRule.{IsTold}
use Rattle.rss_base.specs.Sizes.{page_entries, bodies_room}
use Rattle.rss_base.specs.Paged.{Held, mapped_pages}
use Rattle.rss_base.specs.Steps.{PagesView}
use Rattle.rss_base.specs.declared.tid.Tid.{Tid}
use Rattle.rss_base.specs.declared.key.PageKey.{PageKey}
use Rattle.rss_base.specs.declared.key.Space.TheVariants.{Home, Overflow}
use Rattle.rss_page.specs.Slotted.{IsHeapKey}
use Rattle.rss_tuple.specs.Directory.{Bodies, bodies_of, with_body, tid_at}
use Rattle.rss_base.specs.Tids.{IsAfter}
use Rattle.rss_tuple.specs.Heaps.{body_most, AreHeaps}
use Rattle.rss_tuple.specs.Located.{StandsAt}
use Rattle.rss_tuple.specs.TupleSteps.{IsLeast, NoneIs}
use Rattle.rss_tuple.specs.declared.body_at.BodyAt.{BodyAt}

-- the pages that a tuple may have: the home pages of its identifier's number, and overflow pages
abbrev pub IsPageFor : Tid → PageKey → Type 0
IsPageFor tid key = ((key.space ≡ Home) × (key.number ≡ tid.page)) ⊎ (key.space ≡ Overflow)

-- the body of a segment's tuple with this identifier
abbrev pub body_at : PagesView → ℕ → Tid → Option (List ℕ)
body_at pages segment tid = bodies_of pages.held segment tid

-- how many bytes a body has, where there is one
abbrev pub size_of_body : Option (List ℕ) → ℕ
size_of_body body = unwrap_or (option_map (λ (bytes : List ℕ). length bytes) body) 0

-- how many bytes the tuples of a segment have whose identifiers are on a page
abbrev pub bytes_at : Bodies → ℕ → ℕ → ℕ
bytes_at bodies segment page =
    sum_by (λ slot. size_of_body (bodies segment (tid_at page slot)))
    (range_with_len 0 page_entries)

-- The pages may be changed: they are those of a tuple store, there is room for one page more, and not all are mapped.
pub record CanChange (pages : PagesView) : Type 0 where
  pub heaps : IsTold pages.disk → AreHeaps pages
  pub spare : 0 < pages.spare
  pub few : mapped_pages pages.slots pages.mapped < pages.slots

-- They may be, with room for two pages more.
pub record CanPut (pages : PagesView) : Type 0 where
  pub heaps : IsTold pages.disk → AreHeaps pages
  pub spare : 2 ≤ pages.spare

-- a body, where there is one, is not too long for a page
abbrev pub IsShortBody : Option (List ℕ) → Type 0
IsShortBody body = size_of_body body ≤ body_most

-- The tuple has this body now, or there is none, and no other tuple has changed. An overflow page is mapped that wasn't only where the tuple is new or longer, and the tuples with identifiers of that page have no room there.
pub record SetsBody (segment : ℕ) (tid : Tid) (now : Option (List ℕ)) (old new : PagesView) : Type 0 where
  pub bodies : bodies_of new.held ≡ with_body (bodies_of old.held) segment tid now
  pub heaps : AreHeaps new
  pub over : (key : PageKey) → key.space ≡ Overflow → new.mapped key ≡ true → old.mapped key ≡ false
      → bodies_room < bytes_at (bodies_of new.held) segment tid.page
  pub grows : (key : PageKey) → key.space ≡ Overflow → new.mapped key ≡ true → old.mapped key ≡ false
      → size_of_body (body_at old segment tid) < size_of_body now

-- A tuple was changed: of home and overflow pages one more is mapped at most, and those of this tuple alone were changed.
pub record ChangesTuple (segment : ℕ) (tid : Tid) (now : Option (List ℕ)) (old new : PagesView) : Type 0 where
  pub one : (key other : PageKey) → IsHeapKey key → IsHeapKey other
      → new.mapped key ≡ true → old.mapped key ≡ false
      → new.mapped other ≡ true → old.mapped other ≡ false → key ≡ other
  pub changed : (key : PageKey) → IsHeapKey key → new.changed key ≡ true
      → (old.changed key ≡ true) ⊎ IsPageFor tid key
  pub sets : IsTold old.disk → SetsBody segment tid now old new

-- A look at an identifier: whether the tuple there is one of the relation of this number, and if so, its body.
pub record FindsBody (segment number : ℕ) (tid : Tid) (pages : PagesView) (there : Bool) (bytes : List ℕ) : Type 0 where
  pub rest : List ℕ
  pub some : there ≡ true → (bytes ≡ number ∷ rest) × (body_at pages segment tid ≡ Some bytes)
  pub none : there ≡ false → (values : List ℕ) → body_at pages segment tid ≡ Some (number ∷ values) → ⊥

-- a tuple of the relation of this number stands at the identifier, behind another one, or anywhere where there is none
pub record IsNextOf (segment number : ℕ) (after : Option Tid) (pages : PagesView) (tid : Tid) : Type 0 where
  pub rest : List ℕ
  pub behind : IsAfter after tid
  pub body : body_at pages segment tid ≡ Some (number ∷ rest)

-- the least of them, with its body
pub record IsNextBody (segment number : ℕ) (after : Option Tid) (pages : PagesView) (bytes : List ℕ) (tid : Tid) : Type 0 where
  pub least : IsLeast (IsNextOf segment number after pages) tid
  pub body : body_at pages segment tid ≡ Some bytes

-- ---- where bodies stand

-- Where the body stands of the tuple with an identifier, where that is one of the relation of this number.
abbrev pub FindsBodyAt : ℕ → ℕ → Tid → PagesView → Held → Option BodyAt → Type 0
FindsBodyAt segment number tid pages held found =
    MatchOption found (FindsBody segment number tid pages false [])
    (StandsAt held (FindsBody segment number tid pages true))

-- the next tuple of a relation, and where its body stands
abbrev pub IsNextBodyAt : ℕ → ℕ → Option Tid → PagesView → Held → Tid × BodyAt → Type 0
IsNextBodyAt segment number after pages held next =
    StandsAt held (λ bytes. IsNextBody segment number after pages bytes next.0) next.1

-- if there is one
abbrev pub FindsNextBodyAt : ℕ → ℕ → Option Tid → PagesView → Held → Option (Tid × BodyAt) → Type 0
FindsNextBodyAt segment number after pages held found =
    MatchOption found (NoneIs (IsNextOf segment number after pages))
    (IsNextBodyAt segment number after pages held)
