-- What is found in a page of free entries and of room.
use Rattle.std.specs.Prelude.{◌≡◌, ◌↔◌, ℕ, ◌+◌, ◌<◌, ◌≤◌, Bool, true, false, List, [], Option, Some, MatchOption, Contains, slice_index_or}
use Rattle.rss_base.specs.Sizes.{page_entries, bodies_room}
use Rattle.rss_base.specs.DiskRule.{IsTold}
use Rattle.rss_base.specs.Paged.{page_key}
use Rattle.rss_base.specs.Steps.{PagesView}
use Rattle.rss_base.specs.declared.key.PageKey.{PageKey}
use Rattle.rss_base.specs.declared.tid.Tid.{Tid}
use Rattle.rss_page.specs.Content.{Content, Empty}
use Rattle.rss_page.specs.Slotted.{entries, body_bytes}
use Rattle.rss_page.specs.Surveyed.{held_at, IsSurvey}
use Rattle.rss_tuple.specs.declared.finding.Spot.{Spot}
use Rattle.rss_tuple.specs.Directory.{tid_at}
use Rattle.rss_tuple.specs.TupleSteps.{IsLeast, NoneIs}
use Rattle.rss_tuple.specs.Placing.{Wanted, IsOpen, IsSpot}
use Rattle.rss_tuple.specs.Edits.{IsRead}

-- the slots whose identifiers are barred are marked
abbrev pub AreBarred : List Tid → ℕ → List Bool → Type 0
AreBarred barred number marks = (slot : ℕ) → slot < page_entries → (slice_index_or marks slot false ≡ true) ↔ Contains barred (tid_at number slot)

-- the first open slot of a page
pub record IsFirstOpen (contents : List Content) (barred : List Tid) (number slot : ℕ) : Type 0 where
  pub is : IsOpen contents barred (tid_at number slot)
  pub lesser : (other : ℕ) → other < slot → IsOpen contents barred (tid_at number other) → ⊥

abbrev pub NoneOpen : List Content → List Tid → ℕ → Type 0
NoneOpen contents barred number = (slot : ℕ) → IsOpen contents barred (tid_at number slot) → ⊥

-- the page has so many free bytes, and this is its first open slot
pub record HasSpot (contents : List Content) (length : ℕ) (barred : List Tid) (number slot : ℕ) : Type 0 where
  pub bytes : body_bytes contents + length ≤ bodies_room
  pub first : IsFirstOpen contents barred number slot

-- it has no open slot, or fewer free bytes
abbrev pub HasNoSpot : List Content → ℕ → List Tid → ℕ → Type 0
HasNoSpot contents length barred number = body_bytes contents + length ≤ bodies_room → NoneOpen contents barred number

-- What is noted on a page is its room: 0 where no entry is empty, else 1 and the free bytes.
pub record IsRoom (contents : List Content) (room : ℕ) : Type 0 where
  pub full : ((slot : ℕ) → slot < page_entries → held_at contents slot ≡ Empty → ⊥) → room ≡ 0
  pub free : (slot : ℕ) → slot < page_entries → held_at contents slot ≡ Empty → room + body_bytes contents ≡ bodies_room + 1
  pub most : room ≤ bodies_room + 1

-- The next search for so many bytes passes by this page: it has a note, which is too small for them where no identifier is barred.
pub record IsPassedBy (view : PagesView) (key : PageKey) (length : ℕ) (barred : List Tid) : Type 0 where
  pub note : ℕ
  pub noted : view.notes key ≡ Some note
  pub small : barred ≡ [] → note ≤ length

-- A page was read that has so many free bytes, and its first open slot is this one. With it comes what a walk over the page finds.
pub record ReadsSpot (view : PagesView) (key : PageKey) (bytes : List ℕ)
    (length : ℕ) (barred : List Tid) (spot : Spot) : Type 0 where
  pub read : IsRead view key bytes
  pub found : IsSurvey bytes spot.found
  pub page : spot.tid.page ≡ key.number
  pub has : HasSpot (entries bytes) length barred key.number spot.tid.slot

-- The page of this identifier was read, has what is looked for, and is the first one that had it before the search.
pub record IsFoundSpot (old new : PagesView) (wanted : Wanted) (bytes : List ℕ) (spot : Spot) : Type 0 where
  pub there : ReadsSpot new (page_key wanted.segment wanted.space spot.tid.page) bytes
      wanted.length wanted.barred spot
  pub least : IsTold old.disk → IsLeast (IsSpot old wanted) spot.tid

-- It was looked for, and if no page has it, there was none before the search.
abbrev pub FindsSpot : PagesView → PagesView → Wanted → List ℕ → Option Spot → Type 0
FindsSpot old new wanted bytes found =
    MatchOption found (IsTold old.disk → NoneIs (IsSpot old wanted))
    (IsFoundSpot old new wanted bytes)
