-- At which places the lines of a check are broken, and the first of these: there pages are no store.
use Rattle.std.specs.Prelude.{◌≡◌, ◌≢◌, ℕ, ◌<◌, ◌≤◌, true, List, [], ◌∷◌, ◌++◌, Contains, Some, None, is_some}
use Rattle.rss_base.specs.DiskRule.{Pages}
use Rattle.rss_base.specs.Sizes.{system_pages}
use Rattle.rss_base.specs.LogPages.{log_bytes}
use Rattle.rss_base.specs.LogRecords.{spelled, ArePlaced, BeginsWith}
use Rattle.rss_base.specs.LogRecords as records
use Rattle.rss_base.specs.Listings.{Listing, segment_at, relation_at, link_at}
use Rattle.rss_base.specs.Paged.{page_key}
use Rattle.rss_base.specs.declared.tid.Tid.{Tid}
use Rattle.rss_base.specs.declared.relation.RelationEntry.{RelationEntry}
use Rattle.rss_base.specs.declared.image.ImageEntry.{ImageEntry}
use Rattle.rss_base.specs.declared.link.LinkEntry.{LinkEntry}
use Rattle.rss_base.specs.declared.key.PageKey.{PageKey}
use Rattle.rss_base.specs.declared.key.Space.TheVariants.{Overflow, Image as ImageSpace, System}
use Rattle.rss_base.specs.declared.log_record.LogRecord.{LogRecord}
use Rattle.rss_base.specs.declared.place.Place.{Place}
use Rattle.rss_base.specs.declared.place.Place.TheVariants.{Catalog as CatalogPlace, Page as PagePlace, Tuple as TuplePlace, Count as CountPlace, Image as ImagePlace, Link as LinkPlace, Log as LogPlace, Room as RoomPlace}
use Rattle.rss_page.specs.Content.{Empty}
use Rattle.rss_page.specs.Slotted.{IsHeapKey}
use Rattle.rss_tuple.specs.Directory.{homes, overflows}
use Rattle.rss_tuple.specs.Heaps.{IsLed}
use Rattle.rss_tuple.specs.Flaws.{IsPageRight, IsEntryRight}
use Rattle.rss_tuple.specs.Checked.{tuples_of}
use Rattle.rss_model.specs.Records.{changes_in, list_after}
use Rattle.rss_model.specs.Restart.{Lone}
use Rattle.rss_model.specs.Recovers.{lists_at, BeginsAtCheckpoint}
use Rattle.rss_model.specs.Meanings.{Logged, as_entries}
use Rattle.rss_model.specs.Meter.{room_number}
use Rattle.rss_stored.specs.Store.{Stored, IsStore, HasLog, IsListedImage, IsBrokenAt, meter_of}
use Rattle.rss_access.specs.Bodies.{is_body}
use Rattle.rss_access.specs.Rows.{HasRows}
use Rattle.rss_check.specs.Checks.{count_of}
use Rattle.rss_check.specs.Lines.{Line, Layout, SystemPages, Definitions, HeapPages, Entries, Led, Counts, Images, Reached, Links, Records, Marks, Items, Way, Room, line_number, IsFirst}
use Rattle.rss_check.specs.Layouts.{Laid, held_in}
use Rattle.rss_check.specs.Spellings.{AreSuited, Spelling, held_of}
use Rattle.rss_check.specs.Rows.{HasLists}
use Rattle.rss_check.specs.Logs.{IsRead, IsOver}

-- ---- pages of tuples

-- a page of a segment that is defined, which is right by itself
pub record IsHeapPage (listing : Listing) (key : PageKey) (bytes : List ℕ) : Type 0 where
  pub segment : is_some (segment_at listing key.segment) ≡ true
  pub right : IsPageRight key bytes

-- ---- at which places a line is broken

pub data Breaks (pages : Pages) : Line → Place → Type 0 where
  layout : {place : Place} → IsBrokenAt place pages → Breaks pages Layout place
  unmapped : (laid : Laid pages) (page : ℕ) → page < system_pages
      → held_in pages laid (page_key 0 System page) ≡ None
      → Breaks pages SystemPages (CatalogPlace page)
  undefined : (laid : Laid pages) (page : ℕ) → page < system_pages
      → (AreSuited (held_in pages laid) laid.root.version page → ⊥)
      → Breaks pages Definitions (CatalogPlace page)
  heap_page : (at : Spelling pages) (key : PageKey) (bytes : List ℕ) → IsHeapKey key
      → held_of pages at key ≡ Some bytes → (IsHeapPage at.listing key bytes → ⊥)
      → Breaks pages HeapPages (PagePlace key)
  entry : (at : Spelling pages) (segment : ℕ) (tid : Tid)
      → (IsEntryRight (held_of pages at) segment (is_body at.listing segment) tid → ⊥)
      → Breaks pages Entries (TuplePlace segment tid)
  unled : (at : Spelling pages) (segment page slot : ℕ)
      → overflows (held_of pages at) segment page slot ≢ Empty
      → (IsLed (homes (held_of pages at) segment) page slot → ⊥)
      → Breaks pages Led (PagePlace (page_key segment Overflow page))
  count : (at : Spelling pages) (number : ℕ) (relation : RelationEntry)
      → relation_at at.listing number ≡ Some relation
      → count_of number (tuples_of (held_of pages at) relation.segment at.laid.root.slots)
      ≢ relation.live
      → Breaks pages Counts (CountPlace number)
  image : (at : Spelling pages) (number : ℕ) (image : ImageEntry) (relation : RelationEntry)
      → IsListedImage at.listing number image relation
      → ((nodes : List ℕ) → HasRows (held_of pages at) at.laid.root.slots at.listing number image
      relation nodes → ⊥)
      → Breaks pages Images (ImagePlace number)
  unused : (at : Spelling pages) (key : PageKey) → key.space ≡ ImageSpace
      → is_some (held_of pages at key) ≡ true
      → ((number : ℕ) (image : ImageEntry) (relation : RelationEntry) (nodes : List ℕ)
      → IsListedImage at.listing number image relation
      → HasRows (held_of pages at) at.laid.root.slots at.listing number image relation nodes
      → key.segment ≡ relation.segment → Contains nodes key.number → ⊥)
      → Breaks pages Reached (PagePlace key)
  link : (at : Spelling pages) (number : ℕ) (link : LinkEntry)
      → link_at at.listing number ≡ Some link
      → (HasLists (held_of pages at) at.listing number link → ⊥)
      → Breaks pages Links (LinkPlace number)
  -- records stand from the head up to this position, and there none does
  no_record : (laid : Laid pages) (position : ℕ) (front : List records.Placed) (rest : List ℕ)
      → position < laid.root.end → ArePlaced laid.root.head front position
      → log_bytes pages laid.root ≡ spelled front ++ rest
      → ((r : LogRecord) (more : List ℕ) → BeginsWith rest r more → ⊥)
      → Breaks pages Records (LogPlace position)
  -- no Checkpoint record of the lists begins at the root's position, or another one stands behind it
  marks : (at : Spelling pages)
      → ((older newer : List Logged) → IsRead at older newer
      → BeginsAtCheckpoint (lists_at (as_entries older)) (as_entries newer) → ⊥)
      → Breaks pages Marks (LogPlace at.laid.root.checkpoint)
  -- with this change an item stands in the lists of two transactions
  shared : (at : Spelling pages) (older newer front behind : List Logged) (change : Logged)
      → IsRead at older newer → older ++ newer ≡ front ++ change ∷ behind
      → (Lone (changes_in (list_after [] (as_entries (front ++ change ∷ [])))) → ⊥)
      → Breaks pages Items (LogPlace change.at)
  -- over the tables of the checkpoint the log is that of no store
  no_way : (at : Spelling pages)
      → ((stored : Stored) → IsOver at stored → HasLog pages stored → ⊥)
      → Breaks pages Way (LogPlace at.laid.root.checkpoint)
  no_room : (at : Spelling pages) (stored : Stored) → IsOver at stored → HasLog pages stored
      → stored.root.slots < room_number stored.saved.definitions (meter_of stored)
      → Breaks pages Room RoomPlace

-- ---- the first place

-- The first place at which pages are no store: no earlier line is broken anywhere, and this one nowhere before it.
abbrev pub IsFirstFault : Pages → Place → Type 0
IsFirstFault pages place = IsFirst (Breaks pages) place

-- no line up to this one is broken anywhere
abbrev pub ArePassed : Pages → Line → Type 0
ArePassed pages last =
    (line : Line) (place : Place) → line_number line ≤ line_number last → Breaks pages line place → ⊥

-- the pages are a store
pub record AreStore (pages : Pages) : Type 0 where
  pub stored : Stored
  pub is : IsStore pages stored

-- ---- laws

-- there is one first place at most
abbrev pub FaultsAreOne : Type 0
FaultsAreOne = (pages : Pages) (a b : Place) → IsFirstFault pages a → IsFirstFault pages b → a ≡ b

-- and none in a store
abbrev pub StoresHaveNone : Type 0
StoresHaveNone = (pages : Pages) (place : Place) → AreStore pages → IsFirstFault pages place → ⊥

-- but in any other pages it can't be that there is none
abbrev pub OthersHaveOne : Type 0
OthersHaveOne = (pages : Pages) → (AreStore pages → ⊥) → ((place : Place) → IsFirstFault pages place → ⊥) → ⊥
