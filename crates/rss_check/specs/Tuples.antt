-- At which places the lines of tuples, images and links are broken, by the pages, the number of slots and the listing alone.
use Rattle.std.specs.Prelude.{◌≡◌, ◌≢◌, ℕ, ◌+◌, true, nat_lt, if◌then◌else◌, List, Contains, Option, Some, None, is_some}
use Rattle.rss_base.specs.Listings.{Listing, relation_at, link_at}
use Rattle.rss_base.specs.Paged.{Held, Mapped, page_key}
use Rattle.rss_base.specs.Steps.{PagesView}
use Rattle.rss_base.specs.declared.key.PageKey.{PageKey}
use Rattle.rss_base.specs.declared.key.Space.TheVariants.{Overflow, Image as ImageSpace}
use Rattle.rss_base.specs.declared.place.Place.{Place}
use Rattle.rss_base.specs.declared.place.Place.TheVariants.{Page as PagePlace, Tuple as TuplePlace, Count as CountPlace, Image as ImagePlace, Link as LinkPlace}
use Rattle.rss_base.specs.declared.image.ImageEntry.{ImageEntry}
use Rattle.rss_base.specs.declared.link.LinkEntry.{LinkEntry}
use Rattle.rss_base.specs.declared.relation.RelationEntry.{RelationEntry}
use Rattle.rss_base.specs.declared.tid.Tid.{Tid}
use Rattle.rss_page.specs.Content.{Empty}
use Rattle.rss_tuple.specs.Directory.{homes, overflows}
use Rattle.rss_tuple.specs.Heaps.{IsLed}
use Rattle.rss_tuple.specs.Flaws.{IsEntryRight, ComesBefore}
use Rattle.rss_tuple.specs.Checked.{pages_of, tuples_of}
use Rattle.rss_tuple.specs.declared.flaw.Flaw.{Flaw}
use Rattle.rss_tuple.specs.declared.flaw.Flaw.TheVariants.{Entry, Unled}
use Rattle.rss_stored.specs.Store.{IsListedImage}
use Rattle.rss_access.specs.Bodies.{is_body}
use Rattle.rss_access.specs.Rows.{HasRows}
use Rattle.rss_check.specs.Checks.{count_of}
use Rattle.rss_check.specs.Lines.{Line, HeapPages, Entries, Led, Counts, Images, Reached, Links}
use Rattle.rss_check.specs.Rows.{HasLists}
use Rattle.rss_check.specs.Faults.{IsHeapPage}

-- ---- places

-- in one segment, and of the relations in it
pub data BreaksIn (held : Held) (slots : ℕ) (listing : Listing) (segment : ℕ) : Line → Place → Type 0 where
  page_in : (key : PageKey) (bytes : List ℕ) → pages_of segment key → held key ≡ Some bytes
      → (IsHeapPage listing key bytes → ⊥)
      → BreaksIn held slots listing segment HeapPages (PagePlace key)
  entry_in : (tid : Tid) → (IsEntryRight held segment (is_body listing segment) tid → ⊥)
      → BreaksIn held slots listing segment Entries (TuplePlace segment tid)
  unled_in : (page slot : ℕ) → overflows held segment page slot ≢ Empty
      → (IsLed (homes held segment) page slot → ⊥)
      → BreaksIn held slots listing segment Led (PagePlace (page_key segment Overflow page))
  count_in : (number : ℕ) (relation : RelationEntry) → relation_at listing number ≡ Some relation
      → relation.segment ≡ segment
      → count_of number (tuples_of held segment slots) ≢ relation.live
      → BreaksIn held slots listing segment Counts (CountPlace number)

-- in any segment
pub record BreaksTuples (held : Held) (slots : ℕ) (listing : Listing) (line : Line) (place : Place) : Type 0 where
  pub segment : ℕ
  pub breaks : BreaksIn held slots listing segment line place

-- as a view has them
abbrev pub BreaksAt : PagesView → Listing → ℕ → Line → Place → Type 0
BreaksAt view listing segment = BreaksIn view.held view.slots listing segment

abbrev pub BreaksOf : PagesView → Listing → Line → Place → Type 0
BreaksOf view listing = BreaksTuples view.held view.slots listing

-- of images, of their pages, and of links
pub data BreaksPaths (held : Held) (slots : ℕ) (listing : Listing) : Line → Place → Type 0 where
  image_in : (number : ℕ) (image : ImageEntry) (relation : RelationEntry)
      → IsListedImage listing number image relation
      → ((nodes : List ℕ) → HasRows held slots listing number image relation nodes → ⊥)
      → BreaksPaths held slots listing Images (ImagePlace number)
  unused_in : (key : PageKey) → key.space ≡ ImageSpace → is_some (held key) ≡ true
      → ((number : ℕ) (image : ImageEntry) (relation : RelationEntry) (nodes : List ℕ)
      → IsListedImage listing number image relation
      → HasRows held slots listing number image relation nodes
      → key.segment ≡ relation.segment → Contains nodes key.number → ⊥)
      → BreaksPaths held slots listing Reached (PagePlace key)
  link_in : (number : ℕ) (link : LinkEntry) → link_at listing number ≡ Some link
      → (HasLists held listing number link → ⊥)
      → BreaksPaths held slots listing Links (LinkPlace number)

abbrev pub PathsOf : PagesView → Listing → Line → Place → Type 0
PathsOf view listing = BreaksPaths view.held view.slots listing

-- ---- what is named

-- where a flaw of a segment shows
abbrev pub place_of_flaw : ℕ → Flaw → Place
place_of_flaw segment (Entry tid) = TuplePlace segment tid
place_of_flaw segment (Unled page) = PagePlace (page_key segment Overflow page)

-- A tuple comes before each page, a page before each count, and of counts that of the lesser number.
abbrev pub rank_of : Place → ℕ
rank_of (TuplePlace segment tid) = 0
rank_of (PagePlace key) = 1
rank_of (CountPlace number) = 2 + number
rank_of place = 65535

-- the one that comes first, and the first one if neither does
abbrev pub earlier_of : Option Place → Option Place → Option Place
earlier_of None second = second
earlier_of (Some one) None = Some one
earlier_of (Some one) (Some other) = if nat_lt (rank_of other) (rank_of one) then Some other else Some one

-- It is the first home or overflow page of a segment that is mapped.
pub record IsFirstMapped (mapped : Mapped) (segment : ℕ) (key : PageKey) : Type 0 where
  pub there : mapped key ≡ true
  pub inside : pages_of segment key
  pub earlier : (other : PageKey) → pages_of segment other → ComesBefore other key
      → mapped other ≡ true → ⊥
