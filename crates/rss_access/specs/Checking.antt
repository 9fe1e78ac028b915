-- An image is checked against the tuples of its relation.
use Rattle.std.specs.Prelude.{◌≡◌, ℕ, ◌<◌, true, List, length, All, Contains, Result, IsErrOf}
use Rattle.rss_base.specs.Nodes.{Node}
use Rattle.rss_base.specs.Paged.{Held}
use Rattle.rss_base.specs.Faults.{Rises}
use Rattle.rss_base.specs.Steps.{PagesView, PagesStep, no_page}
use Rattle.rss_base.specs.declared.fault.PageFault.{PageFault}
use Rattle.rss_base.specs.declared.fault.PageFault.TheVariants.{Device as DeviceFailed, NoMemory}
use Rattle.rss_base.specs.Trees.{IsNodeAt}
use Rattle.rss_base.specs.Listings.{ListingFits}
use Rattle.rss_base.specs.declared.name.Name.{Name}
use Rattle.rss_base.specs.declared.tid.Tid.{Tid}
use Rattle.rss_base.specs.declared.image.ImageEntry.{ImageEntry}
use Rattle.rss_base.specs.declared.relation.RelationEntry.{RelationEntry}
use Rattle.rss_tuple.specs.Directory.{bodies_of}
use Rattle.rss_model.specs.Tables.{Tables}
use Rattle.rss_model.specs.Fits.{IsLive, IsIdentifier}
use Rattle.rss_stored.specs.Store.{Defines, AreCounts, IsListedImage, SpellsContents, SpellsImage, image_definition, nodes_of}
use Rattle.rss_entries.specs.Images.{AreTuples}
use Rattle.rss_entries.specs.Seeking.{AreSingle}
use Rattle.rss_access.specs.Changes.{AccessView}

-- ---- what a check answers

-- The pages of tuples spell these tables, whose definitions and counts are listed so, with tuples of their relations and identifiers of the store. Nothing is said of images.
pub record ShowsTuples (at : AccessView) (tables : Tables) : Type 0 where
  pub listed : ListingFits at.catalog.listing
  pub defines : Defines at.catalog.listing tables.definitions
  pub counts : AreCounts at.catalog.listing tables.contents
  pub contents : SpellsContents at.catalog.listing (bodies_of at.pages.held) tables.contents
  pub tuples : AreTuples tables
  pub tids : (relation : Name) (tid : Tid) → IsLive tables relation tid → IsIdentifier at.pages.slots tid

-- the identifiers in the nodes of an image that stand in these pages have pages below the number of slots
abbrev pub AreWithin : ℕ → Held → ℕ → ImageEntry → RelationEntry → List ℕ → Type 0
AreWithin slots held number image relation pages =
    (page : ℕ) (node : Node) → Contains pages page → IsNodeAt held (nodes_of number image relation) page node
    → All (λ entry. entry.tid.page < slots) node.entries

-- The image shows the tables in its pages, with identifiers of the store; and where it is unique, no two tuples have one key.
pub record IsSound (at : AccessView) (tables : Tables) (number : ℕ) (image : ImageEntry) (relation : RelationEntry) : Type 0 where
  pub pages : List ℕ
  pub spells : SpellsImage at.pages.held tables number image relation pages
  pub within : AreWithin at.pages.slots at.pages.held number image relation pages
  pub single : image.is_unique ≡ true → AreSingle tables (image_definition image relation)

-- so, and it has so many pages
pub record IsSoundIn (count : ℕ) (at : AccessView) (tables : Tables) (number : ℕ) (image : ImageEntry) (relation : RelationEntry) : Type 0 where
  pub sound : IsSound at tables number image relation
  pub counted : count ≡ length sound.pages

-- whatever tables the pages of tuples spell, the image of this number shows them, in so many pages
abbrev pub ShowsThem : AccessView → ℕ → ℕ → Type 0
ShowsThem at number count =
    (tables : Tables) (image : ImageEntry) (relation : RelationEntry)
    → ShowsTuples at tables → IsListedImage at.catalog.listing number image relation
    → IsSoundIn count at tables number image relation

-- there are no tables that the pages of tuples spell and the image shows
abbrev pub ShowsNone : AccessView → ℕ → Type 0
ShowsNone at number =
    (tables : Tables) (image : ImageEntry) (relation : RelationEntry)
    → ShowsTuples at tables → IsListedImage at.catalog.listing number image relation
    → IsSound at tables number image relation → ⊥

-- Pages were asked for, and nothing was changed. A device's fault has come where one is answered, and memory never runs out.
pub record LooksAt {T : Type 0} (old new : PagesView) (result : Result T PageFault) : Type 0 where
  pub most : ℕ
  pub step : PagesStep no_page most most old new
  pub failed : IsErrOf result DeviceFailed → Rises old.faults new.faults
  pub memory : IsErrOf result NoMemory → ⊥
