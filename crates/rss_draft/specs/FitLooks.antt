-- What is looked at before a change is made, so that tables that fit still do after it.
use Rattle.std.specs.Prelude.{◌≡◌, ◌≢◌, ◌↔◌, ℕ, Bool, true, List, Option, Some, None, is_some, IsTrue}
use Rattle.rss_base.specs.TupleTypes.{kinds, Spells, SpellsSome}
use Rattle.rss_base.specs.Listings.{Listing, relation_at, image_at, link_at}
use Rattle.rss_base.specs.declared.tid.Tid.{Tid}
use Rattle.rss_base.specs.declared.value.Value.{Value}
use Rattle.rss_base.specs.declared.relation.RelationEntry.{RelationEntry}
use Rattle.rss_base.specs.declared.image.ImageEntry.{ImageEntry}
use Rattle.rss_base.specs.declared.link.LinkEntry.{LinkEntry}
use Rattle.rss_base.specs.declared.change.Change as told
use Rattle.rss_model.specs.Items.{Values}
use Rattle.rss_model.specs.Tables.{Tables, tuple_count}
use Rattle.rss_model.specs.Images.{key_in, owner_of_key}
use Rattle.rss_model.specs.Chains.{is_there, is_connected, connected, HasParent}
use Rattle.rss_model.specs.Changes.{Change, apply}
use Rattle.rss_model.specs.Fits.{Fits}
use Rattle.rss_model.specs.Restart.{FitWith}
use Rattle.rss_stored.specs.Store.{AreCounts, IsListedImage, IsListedLink, image_definition, link_definition}
use Rattle.rss_access.specs.Changes.{AccessView}
use Rattle.rss_draft.specs.Views.{DraftView}
use Rattle.rss_draft.specs.Lookups.{LooksUp}
use Rattle.rss_draft.specs.Fitting.{IsLone, AreKeysFree, TupleFits, MayCome}
use Rattle.rss_draft.specs.Looks.{StandsOver, SoNow, SoLookedUp, IsFoundAs, HasLinkOfForm}

-- It is so in all tables that the draft stands for and looks up, and that fit.
abbrev pub SoFitting : AccessView → DraftView → (Tables → Type 0) → Type 0
SoFitting at draft so =
    (saved tables : Tables) → StandsOver at draft saved tables → LooksUp draft saved tables → Fits at.pages.slots tables → so tables

-- whether they fit after a change that finds what it tells
abbrev pub FitsAfter : AccessView → DraftView → told.Change → Bool → Type 0
FitsAfter at draft told_change fits = SoFitting at draft (λ tables.
    (change : Change) → IsFoundAs at.catalog.listing told_change tables change
    → IsTrue fits ↔ FitWith at.pages.slots tables (apply tables.contents change))

-- ---- identifiers

-- another relation in the segment of one has this number
pub record IsOtherIn (listing : Listing) (number other : ℕ) : Type 0 where
  pub relation : RelationEntry
  pub entry : RelationEntry
  pub at : relation_at listing number ≡ Some relation
  pub its : relation_at listing other ≡ Some entry
  pub apart : other ≢ number
  pub within : entry.segment ≡ relation.segment

-- and has a tuple with this identifier
pub record IsInOther (listing : Listing) (tables : Tables) (number : ℕ) (tid : Tid) (other : ℕ) : Type 0 where
  pub is : IsOtherIn listing number other
  pub there : is_there tables.contents is.entry.name tid ≡ true

abbrev pub IsLoneNow : AccessView → DraftView → ℕ → Tid → Bool → Type 0
IsLoneNow at draft number tid lone = SoFitting at draft (λ tables.
    (relation : RelationEntry) → relation_at at.catalog.listing number ≡ Some relation → IsTrue lone ↔ IsLone tables relation.name tid)

-- ---- keys

-- a unique image of the relation has this number
pub record IsUniqueOf (listing : Listing) (number k : ℕ) : Type 0 where
  pub image : ImageEntry
  pub at : image_at listing k ≡ Some image
  pub unique : image.is_unique ≡ true
  pub of : image.relation ≡ number

-- and another tuple has there the key of the values with these bytes
pub record IsTakenIn (listing : Listing) (tables : Tables) (number : ℕ) (tid : Tid) (bytes : List ℕ) (k : ℕ) : Type 0 where
  pub image : ImageEntry
  pub relation : RelationEntry
  pub at : IsListedImage listing k image relation
  pub unique : image.is_unique ≡ true
  pub of : image.relation ≡ number
  pub values : List Value
  pub spells : Spells (kinds relation.fields) bytes values
  pub owner : Tid
  pub is : owner_of_key tables (image_definition image relation) None
      (key_in tables.definitions (image_definition image relation) values) ≡ Some owner
  pub other : owner ≢ tid

abbrev pub AreFreeNow : AccessView → DraftView → ℕ → Tid → List ℕ → Bool → Type 0
AreFreeNow at draft number tid bytes free = SoFitting at draft (λ tables.
    (relation : RelationEntry) → relation_at at.catalog.listing number ≡ Some relation
    → (values : List Value) → Spells (kinds relation.fields) bytes values → IsTrue free ↔ AreKeysFree tables relation.name tid values)

-- ---- links

-- the relation of this number is that of the children of the link of this number,
pub record IsChildIn (listing : Listing) (number k : ℕ) : Type 0 where
  pub link : LinkEntry
  pub at : link_at listing k ≡ Some link
  pub is : link.child ≡ number

-- or that of its parents
pub record IsParentIn (listing : Listing) (number k : ℕ) : Type 0 where
  pub link : LinkEntry
  pub at : link_at listing k ≡ Some link
  pub is : link.parent ≡ Some number

-- a tuple of the relation stands in a chain of the link of this number, or has one
pub record IsLinkedIn (listing : Listing) (tables : Tables) (number : ℕ) (tid : Tid) (k : ℕ) : Type 0 where
  pub relation : RelationEntry
  pub link : LinkEntry
  pub child : RelationEntry
  pub at : relation_at listing number ≡ Some relation
  pub listed : IsListedLink listing k link child
  pub is : is_connected tables.contents relation.name tid (link.name, link_definition listing link child) ≡ true

abbrev pub IsUnlinkedNow : AccessView → DraftView → ℕ → Tid → Bool → Type 0
IsUnlinkedNow at draft number tid unlinked = SoFitting at draft (λ tables.
    (relation : RelationEntry) → relation_at at.catalog.listing number ≡ Some relation
    → IsTrue unlinked ↔ (connected tables relation.name tid ≡ None))

-- ---- what comes, and what goes

-- the bytes are those of values of a listed relation
pub record IsRow (listing : Listing) (number : ℕ) (bytes : List ℕ) : Type 0 where
  pub relation : RelationEntry
  pub at : relation_at listing number ≡ Some relation
  pub spelled : SpellsSome (kinds relation.fields) bytes

-- whether a tuple of these values may come, or come to have them if it is there
abbrev pub IsRowFitting : AccessView → DraftView → ℕ → Tid → Bool → List ℕ → Bool → Type 0
IsRowFitting at draft number tid there bytes fits = SoFitting at draft (λ tables.
    (relation : RelationEntry) → relation_at at.catalog.listing number ≡ Some relation
    → is_there tables.contents relation.name tid ≡ there
    → (values : List Value) → Spells (kinds relation.fields) bytes values
    → IsTrue fits ↔ TupleFits at.pages.slots tables relation.name tid (Some (Values values)))

-- whether it may go
abbrev pub IsGoneFitting : AccessView → DraftView → ℕ → Tid → Bool → Type 0
IsGoneFitting at draft number tid fits = SoFitting at draft (λ tables.
    (relation : RelationEntry) → relation_at at.catalog.listing number ≡ Some relation
    → IsTrue fits ↔ TupleFits at.pages.slots tables relation.name tid None)

-- how many tuples a relation has
abbrev pub IsCountNow : Listing → DraftView → ℕ → ℕ → Type 0
IsCountNow listing draft number count =
    (saved tables : Tables) → AreCounts listing saved.contents → LooksUp draft saved tables
    → (relation : RelationEntry) → relation_at listing number ≡ Some relation → tuple_count tables.contents relation.name ≡ count

-- ---- what comes into a chain

-- whether the parent is there
abbrev pub HasParentNow : AccessView → DraftView → ℕ → Option Tid → Bool → Type 0
HasParentNow at draft number parent found = SoNow at draft (λ tables.
    (link : LinkEntry) (child : RelationEntry) → IsListedLink at.catalog.listing number link child
    → is_some link.parent ≡ is_some parent
    → IsTrue found ↔ HasParent tables.contents (link_definition at.catalog.listing link child).parent parent)

-- It is a chain of the link, and the tuple may come into it.
pub record MayConnect (listing : Listing) (tables : Tables) (number : ℕ) (parent : Option Tid) (child : Tid) : Type 0 where
  pub link : LinkEntry
  pub its : RelationEntry
  pub listed : IsListedLink listing number link its
  pub under : HasParent tables.contents (link_definition listing link its).parent parent
  pub comes : MayCome tables link.name (link_definition listing link its) child

abbrev pub IsConnectFitting : AccessView → DraftView → ℕ → Option Tid → Tid → Bool → Type 0
IsConnectFitting at draft number parent child fits = SoLookedUp at draft (λ tables.
    HasLinkOfForm at.catalog.listing number parent
    → IsTrue fits ↔ MayConnect at.catalog.listing tables number parent child)
