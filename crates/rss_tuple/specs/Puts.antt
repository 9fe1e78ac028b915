-- What becomes of the entries of a segment where a tuple is put, moved or taken away.
use Rattle.std.specs.Prelude.{◌≡◌, ◌⊎◌, ℕ, ◌<◌, false, List, length, Option, Some, Result, OnOk}
use Rattle.rss_base.specs.DiskRule.{IsTold}
use Rattle.rss_base.specs.Paged.{page_key}
use Rattle.rss_base.specs.Sizes.{page_entries}
use Rattle.rss_base.specs.Steps.{PagesView, PagesCall}
use Rattle.rss_base.specs.declared.fault.PageFault.{PageFault}
use Rattle.rss_base.specs.declared.key.PageKey.{PageKey}
use Rattle.rss_base.specs.declared.key.Space.TheVariants.{Home, Overflow}
use Rattle.rss_base.specs.declared.tid.Tid.{Tid}
use Rattle.rss_page.specs.Content.{Content, Empty, Here, Forward}
use Rattle.rss_page.specs.Slotted.{HasRoom}
use Rattle.rss_tuple.specs.Directory.{homes, overflows, bodies_of}
use Rattle.rss_tuple.specs.Heaps.{AreFormed}
use Rattle.rss_tuple.specs.TupleSteps.{IsLeast, NoneIs, pages_for}
use Rattle.rss_tuple.specs.Placing.{IsSpot, IsPlaced, TakesOne, overflow_for}
use Rattle.rss_tuple.specs.Edits.{IsRead, SetsEntry, Moves}

-- The tuple has this body now, or none; its entries are those of no other tuple.
pub record Changed (segment : ℕ) (tid : Tid) (now : Option (List ℕ)) (old new : PagesView) : Type 0 where
  pub formed : AreFormed new
  pub body : bodies_of new.held segment tid ≡ now
  pub moves : Moves tid.page tid.slot (homes old.held segment) (overflows old.held segment) (homes new.held segment) (overflows new.held segment)

-- The overflow entry that a body gets: the first with the room, else one of a new page.
pub record IsNewPage (view : PagesView) (segment : ℕ) (body : List ℕ) (to : Tid) : Type 0 where
  pub no_room : NoneIs (IsSpot view (overflow_for segment (length body)))
  pub unmapped : view.mapped (page_key segment Overflow to.page) ≡ false
  pub first : to.slot ≡ 0

abbrev pub IsAwayPlace : PagesView → ℕ → List ℕ → Tid → Type 0
IsAwayPlace view segment body to = IsLeast (IsSpot view (overflow_for segment (length body))) to ⊎ IsNewPage view segment body to

-- The first entry of an overflow page that wasn't mapped has the body now.
pub record TakesAway (segment : ℕ) (body : List ℕ) (to : Tid) (old new : PagesView) : Type 0 where
  pub unmapped : old.mapped (page_key segment Overflow to.page) ≡ false
  pub first : to.slot ≡ 0
  pub sets : SetsEntry (page_key segment Overflow to.page) 0 (Here body) old new
  pub off : (key : PageKey) → (key ≡ page_key segment Overflow to.page → ⊥) → new.held key ≡ old.held key

-- An overflow entry that was empty has the body now.
pub record PutsAway (segment : ℕ) (body : List ℕ) (to : Tid) (old new : PagesView) : Type 0 where
  pub place : IsAwayPlace old segment body to
  pub was : overflows old.held segment to.page to.slot ≡ Empty
  pub here : overflows new.held segment to.page to.slot ≡ Here body
  pub others : (page slot : ℕ) → ((page ≡ to.page) → (slot ≡ to.slot) → ⊥) → overflows new.held segment page slot ≡ overflows old.held segment page slot
  pub formed : AreFormed new

-- The home entry of a tuple has the body now, or leads to an overflow entry that was empty and has it now.
pub record Puts (segment : ℕ) (tid : Tid) (body : List ℕ) (old new : PagesView) : Type 0 where
  pub placed : IsPlaced old segment tid body (homes new.held segment tid.page tid.slot)
  pub others : (page slot : ℕ) → ((page ≡ tid.page) → (slot ≡ tid.slot) → ⊥) → homes new.held segment page slot ≡ homes old.held segment page slot
  pub kept : (page slot : ℕ) → (homes new.held segment tid.page tid.slot ≡ Forward page slot → ⊥) → overflows new.held segment page slot ≡ overflows old.held segment page slot
  pub came : (page slot : ℕ) → homes new.held segment tid.page tid.slot ≡ Forward page slot → overflows new.held segment page slot ≡ Here body
  pub fresh : (page slot : ℕ) → homes new.held segment tid.page tid.slot ≡ Forward page slot → overflows old.held segment page slot ≡ Empty
  pub formed : AreFormed new

-- The tuple has this body now, and it stands where it is to be.
pub record Moved (segment : ℕ) (tid : Tid) (body : List ℕ) (old new : PagesView) : Type 0 where
  pub changed : Changed segment tid (Some body) old new
  pub placed : IsPlaced old segment tid body (homes new.held segment tid.page tid.slot)

-- so does a call, where it succeeds; so many pages it asks for at most, and as many may leave memory
pub record MovesBody {T : Type 0} (segment : ℕ) (tid : Tid) (body : List ℕ) (cost : ℕ) (old new : PagesView) (result : Result T PageFault) : Type 0 where
  pub moved : OnOk result (IsTold old.disk → Moved segment tid body old new)
  pub takes : OnOk result (TakesOne segment tid body old new)
  pub did : PagesCall (pages_for segment tid) cost cost old new result

-- the home page of a tuple was read
pub record HomeRead (view : PagesView) (segment : ℕ) (tid : Tid) (bytes : List ℕ) : Type 0 where
  pub read : IsRead view (page_key segment Home tid.page) bytes
  pub low : tid.slot < page_entries

-- a body of this length fits in the overflow page where it stands, and not at home
pub record Stays (home : List Content) (slot : ℕ) (away : List Content) (to_slot length : ℕ) : Type 0 where
  pub not_home : HasRoom home slot length → ⊥
  pub room : HasRoom away to_slot length
