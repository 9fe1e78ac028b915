-- Marks of image pages: a row for each segment, with a bit for each page's number.
use Rattle.std.specs.Prelude.{◌≡◌, ℕ, zero, suc, ◌*◌, ◌≤◌, true, List, [], length, map, replicate, slice_index_or, Contains, is_some}
use Rattle.std.specs.Global.{Vec}
use Rattle.rss_base.specs.Listings.{Listing, segment_at}
use Rattle.rss_base.specs.Paged.{Held, Mapped, page_key, IsMappedAt}
use Rattle.rss_base.specs.Sizes.{segments}
use Rattle.rss_base.specs.declared.image.ImageEntry.{ImageEntry}
use Rattle.rss_base.specs.declared.relation.RelationEntry.{RelationEntry}
use Rattle.rss_base.specs.declared.key.PageKey.{PageKey}
use Rattle.rss_base.specs.declared.key.Space.TheVariants.{Image as ImageSpace}
use Rattle.rss_base.specs.declared.place.Place.TheVariants.{Page as PagePlace}
use Rattle.rss_image.specs.Marks.{IsMarked}
use Rattle.rss_stored.specs.Store.{IsListedImage}
use Rattle.rss_access.specs.Changes.{AccessView}
use Rattle.rss_access.specs.Rows.{HasRows, HasRowsIn}
use Rattle.rss_check.specs.Lines.{ComesBefore}
use Rattle.rss_check.specs.Rows.{HasSomeRows, IsUsed}

-- ---- rows

-- the marks of a segment's pages; there is no segment 0
abbrev pub row_of : List (Vec ℕ) → ℕ → List ℕ
row_of rows zero = []
row_of rows (suc place) = slice_index_or (map (λ (row : Vec ℕ). row.items) rows) place []

-- so many rows of so many words, in which no bit is set
abbrev pub AreZeros : ℕ → ℕ → List (Vec ℕ) → Type 0
AreZeros count words rows = map (λ (row : Vec ℕ). row.items) rows ≡ replicate count (replicate words 0)

-- each segment has a row, with a bit for each page that it may have
pub record AreRows (slots : ℕ) (rows : List (Vec ℕ)) : Type 0 where
  pub eight : length rows ≡ segments
  pub wide : (segment : ℕ) → 1 ≤ segment → segment ≤ segments → slots ≤ 64 * length (row_of rows segment)

-- no page is marked
abbrev pub AreBlank : List (Vec ℕ) → Type 0
AreBlank rows = (segment page : ℕ) → IsMarked (row_of rows segment) page → ⊥

-- marks were changed in the row of this segment alone, which has as many bits as before
pub record KeepsRows (segment : ℕ) (old new : List (Vec ℕ)) : Type 0 where
  pub rows : length new ≡ length old
  pub words : length (row_of new segment) ≡ length (row_of old segment)
  pub off : (other : ℕ) → (other ≡ segment → ⊥) → row_of new other ≡ row_of old other

-- ---- the pages of images

-- the image has the rows of its relation, and its pages are marked in the row of its segment
abbrev pub MarksRows : AccessView → ℕ → ℕ → List (Vec ℕ) → List (Vec ℕ) → Type 0
MarksRows at number count old new =
    (image : ImageEntry) (relation : RelationEntry) → IsListedImage at.catalog.listing number image relation
    → HasRowsIn count (row_of old relation.segment) (row_of new relation.segment) at number image relation

-- Each image up to this number has the rows of its relation. Their pages are marked, and no others.
pub record AreMarked (most : ℕ) (held : Held) (slots : ℕ) (listing : Listing) (rows : List (Vec ℕ)) : Type 0 where
  pub each : (number : ℕ) (image : ImageEntry) (relation : RelationEntry) → number ≤ most
      → IsListedImage listing number image relation
      → HasSomeRows held slots listing number image relation
  pub all : (number : ℕ) (image : ImageEntry) (relation : RelationEntry) (nodes : List ℕ) (page : ℕ)
      → number ≤ most → IsListedImage listing number image relation
      → HasRows held slots listing number image relation nodes
      → Contains nodes page → IsMarked (row_of rows relation.segment) page
  pub used : (segment page : ℕ) → IsMarked (row_of rows segment) page
      → IsUsed held slots listing (page_key segment ImageSpace page)

-- only the rows of segments that are listed have marks
abbrev pub AreOwnMarks : Listing → List (Vec ℕ) → Type 0
AreOwnMarks listing rows =
    (segment page : ℕ) → IsMarked (row_of rows segment) page → is_some (segment_at listing segment) ≡ true

-- ---- pages that aren't marked

-- the image page of this number is mapped, and isn't marked
pub record IsUnmarkedIn (mapped : Mapped) (segment : ℕ) (row : List ℕ) (number : ℕ) : Type 0 where
  pub there : IsMappedAt mapped segment ImageSpace number
  pub unmarked : IsMarked row number → ⊥

pub record IsUnmarked (mapped : Mapped) (rows : List (Vec ℕ)) (key : PageKey) : Type 0 where
  pub space : key.space ≡ ImageSpace
  pub there : mapped key ≡ true
  pub unmarked : IsMarked (row_of rows key.segment) key.number → ⊥

-- it is the first such page
pub record IsFirstUnmarked (mapped : Mapped) (rows : List (Vec ℕ)) (key : PageKey) : Type 0 where
  pub is : IsUnmarked mapped rows key
  pub earlier : (other : PageKey) → IsUnmarked mapped rows other
      → ComesBefore (PagePlace other) (PagePlace key) → ⊥
