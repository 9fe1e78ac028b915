-- How one entry of a page is changed, and what the pages are that a call has read.
use Rattle.std.specs.Prelude.{◌≡◌, ℕ, ◌<◌, true, List, Some, None, Result, OnOk}
use Rattle.rss_base.specs.DiskRule.{IsTold}
use Rattle.rss_base.specs.Paged.{AreAmong}
use Rattle.rss_base.specs.Sizes.{page_entries}
use Rattle.rss_base.specs.Steps.{PagesView, WritesPage, PagesCall, only}
use Rattle.rss_base.specs.declared.fault.PageFault.{PageFault}
use Rattle.rss_base.specs.declared.key.PageKey.{PageKey}
use Rattle.rss_page.specs.Content.{Content, Empty, Here, Forward}
use Rattle.rss_page.specs.Slotted.{entries, IsHeader, IsHeapKey, IsWellFormed}
use Rattle.rss_page.specs.Surveyed.{held_at}
use Rattle.rss_tuple.specs.Directory.{Entries, content_at}
use Rattle.rss_tuple.specs.Heaps.{IsHeap, AreFormed, HasBody}

-- these bytes are a well-formed page, and those of the key where the device tells its contents
pub record IsRead (view : PagesView) (key : PageKey) (bytes : List ℕ) : Type 0 where
  pub mapped : view.mapped key ≡ true
  pub formed : IsWellFormed key bytes
  pub held : IsTold view.disk → view.held key ≡ Some bytes

-- these bytes are those of the key where the device tells its contents, and nothing is known of them else
pub record IsCopied (view : PagesView) (key : PageKey) (bytes : List ℕ) : Type 0 where
  pub mapped : view.mapped key ≡ true
  pub held : IsTold view.disk → view.held key ≡ Some bytes

-- these bytes begin with the header of this key, and the entry of the slot isn't empty
pub record HoldsAt (key : PageKey) (slot : ℕ) (bytes : List ℕ) : Type 0 where
  pub header : IsHeader key bytes
  pub some : held_at (entries bytes) slot ≡ Empty → ⊥

-- what a call may be given that reads a page, looks at an entry of one, or changes an entry of one that was read or copied
pub record MayRead (view : PagesView) (key : PageKey) : Type 0 where
  pub heap : IsHeapKey key
  pub mapped : IsTold view.disk → view.mapped key ≡ true
  pub formed : IsTold view.disk → AreFormed view

pub record NamesEntry (view : PagesView) (key : PageKey) (slot : ℕ) : Type 0 where
  pub heap : IsHeapKey key
  pub low : slot < page_entries
  pub formed : IsTold view.disk → AreFormed view

pub record MayEdit (view : PagesView) (key : PageKey) (slot : ℕ) (bytes : List ℕ) : Type 0 where
  pub read : IsRead view key bytes
  pub low : slot < page_entries
  pub formed : IsTold view.disk → AreFormed view

pub record MayChange (view : PagesView) (key : PageKey) (slot : ℕ) (bytes : List ℕ) : Type 0 where
  pub header : IsHeader key bytes
  pub copied : IsCopied view key bytes
  pub low : slot < page_entries
  pub formed : IsTold view.disk → AreFormed view

-- one entry of a page holds this now, and all pages are still well-formed by themselves
pub record SetsEntry (key : PageKey) (slot : ℕ) (content : Content) (old new : PagesView) : Type 0 where
  pub here : content_at new.held key slot ≡ content
  pub others : (other : ℕ) → (other ≡ slot → ⊥) → content_at new.held key other ≡ content_at old.held key other
  pub formed : AreFormed new

-- so does a call, where it succeeds; so many pages it asks for at most, and as many may leave memory
pub record Edits {T : Type 0} (key : PageKey) (slot : ℕ) (content : Content) (cost : ℕ) (old new : PagesView) (result : Result T PageFault) : Type 0 where
  pub sets : OnOk result (IsTold old.disk → SetsEntry key slot content old new)
  pub did : PagesCall (only key) cost cost old new result

-- The page holds one body now, and nothing else.
pub record FillsPage (key : PageKey) (slot : ℕ) (body : List ℕ) (old new : PagesView) : Type 0 where
  pub bytes : List ℕ
  pub written : WritesPage key bytes old new
  pub heap : IsHeap key bytes None
  pub here : held_at (entries bytes) slot ≡ Here body
  pub others : (other : ℕ) → (other ≡ slot → ⊥) → held_at (entries bytes) other ≡ Empty

-- no page was changed, and all are still well-formed by themselves
pub record KeepsEntries (old new : PagesView) : Type 0 where
  pub mapped : new.mapped ≡ old.mapped
  pub held : IsTold old.disk → new.held ≡ old.held
  pub changed : AreAmong new.changed old.changed
  pub formed : IsTold old.disk → AreFormed new

-- The entries of a segment, before and after one tuple was put, moved or taken away: those of no other tuple changed, where it led before is empty now, and where it leads now was empty and has a body.
pub record Moves (page slot : ℕ) (home overflow home_now overflow_now : Entries) : Type 0 where
  pub homes : (p s : ℕ) → ((p ≡ page) → (s ≡ slot) → ⊥) → home_now p s ≡ home p s
  pub kept : (p s : ℕ) → (home page slot ≡ Forward p s → ⊥) → (home_now page slot ≡ Forward p s → ⊥) → overflow_now p s ≡ overflow p s
  pub left : (p s : ℕ) → home page slot ≡ Forward p s → (home_now page slot ≡ Forward p s → ⊥) → overflow_now p s ≡ Empty
  pub came : (p s : ℕ) → home_now page slot ≡ Forward p s → HasBody (overflow_now p s)
  pub fresh : (p s : ℕ) → home_now page slot ≡ Forward p s → (home page slot ≡ Forward p s → ⊥) → overflow p s ≡ Empty
