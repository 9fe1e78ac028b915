-- The room that an image needs which is to be made, what it is built of, and what it is then.
use Rattle.std.specs.Prelude.{◌≡◌, ℕ, ◌+◌, ◌≤◌, Bool, List, length, All, Option, Some, None, Result, Ok, Err}
use Rattle.rss_base.specs.DiskRule.{IsTold}
use Rattle.rss_base.specs.Listings.{Listing, ListingFits, IsLeastUnused, field_numbers, relation_at, with_image as with_listed, with_root}
use Rattle.rss_base.specs.Paged.{mapped_of}
use Rattle.rss_base.specs.Steps.{Keys, PagesStep}
use Rattle.rss_base.specs.declared.call.Call.TheVariants.{MakeImage}
use Rattle.rss_base.specs.declared.image.ImageEntry.{ImageEntry}
use Rattle.rss_base.specs.declared.key.Space.TheVariants.{Image}
use Rattle.rss_base.specs.declared.name.Name.{Name}
use Rattle.rss_base.specs.declared.refusal.Kind.TheVariants.{Image as ImageKind}
use Rattle.rss_base.specs.declared.refusal.Refusal.{Refusal}
use Rattle.rss_base.specs.declared.relation.RelationEntry.{RelationEntry}
use Rattle.rss_base.specs.declared.tid.Tid.{Tid}
use Rattle.rss_catalog.specs.Catalogs.{CatalogView, Lists, page_of}
use Rattle.rss_model.specs.Defining.{if_repeated, with_definitions, with_image, image_def}
use Rattle.rss_model.specs.Fits.{tuple_limit}
use Rattle.rss_model.specs.Kept.{Kept}
use Rattle.rss_model.specs.Machine.{State}
use Rattle.rss_model.specs.Rules.{if_no_room_for}
use Rattle.rss_model.specs.Spares.{bound_at}
use Rattle.rss_model.specs.Steps.{refusal}
use Rattle.rss_entries.specs.Building.{AreRising}
use Rattle.rss_access.specs.Changes.{both}
use Rattle.rss_access.specs.Filling.{keys_by, IsEntryLong, AreEntries}
use Rattle.rss_access.specs.Written.{heap_now}
use Rattle.rss_session.specs.Admissions.{Tests}
use Rattle.rss_session.specs.Calls.{IsRedefined}
use Rattle.rss_session.specs.Planning.{PlansImage}
use Rattle.rss_session.specs.Sessions.{SessionView, CanSave, CountsStill, sums_in}
use Rattle.rss_session.specs.Shown.{Shows}
use Rattle.rss_session.specs.Weighing.{room_of, saved_most, saved_images_with}

-- the entry is that of an image that may be made
pub record IsPlanned (listing : Listing) (entry : ImageEntry) : Type 0 where
  pub name : Name
  pub relation : Name
  pub is_unique : Bool
  pub fields : List Name
  pub plans : PlansImage listing name relation is_unique fields entry

-- how many pages the image may have, by the tuples of its relation
abbrev pub pages_for : SessionView → ImageEntry → ℕ
pages_for view image = bound_at view.store.catalog.listing (saved_most view) (Some image)

-- how many slots may be needed behind a checkpoint, with it
abbrev pub room_for : SessionView → ImageEntry → ℕ
room_for view image =
    room_of (heap_now view.store.pages) (sums_in view.opened).p 0 (saved_images_with view None + pages_for view image)

-- There are as many.
pub record RoomsImage (view : SessionView) (image : ImageEntry) : Type 0 where
  pub slots : room_for view image ≤ view.store.root.slots

-- images have no more pages than they may have behind a checkpoint
abbrev pub HasFewPages : SessionView → Type 0
HasFewPages view =
    mapped_of view.store.pages.mapped Image view.store.pages.slots ≤ saved_images_with view None

-- In each state in which the session may be, the test of room for an image that the entry plans says this.
abbrev pub TestsRoom : {T : Type 0} → SessionView → ImageEntry → Result T Refusal → Type 0
TestsRoom view entry result =
    (name relation : Name) (is_unique : Bool) (fields : List Name)
    → PlansImage view.store.catalog.listing name relation is_unique fields entry
    → Tests view (λ state. if_no_room_for state
    (with_image state.base.definitions name (image_def relation is_unique fields))) result

-- ---- what it is built of

-- The entries are those of all tuples of this relation, in the image's order.
pub record AreEntriesOf (view : SessionView) (image : ImageEntry) (relation : RelationEntry) (entries : List (List ℕ × Tid)) : Type 0 where
  pub few : length entries ≤ relation.live
  pub long : All (IsEntryLong (keys_by relation (field_numbers image))) entries
  pub are : IsTold view.store.pages.disk
      → AreEntries (both view.store.pages view.store.catalog) image.relation relation (field_numbers image) entries

-- and they are no more than an image may have
pub record AreImageEntries (view : SessionView) (image : ImageEntry) (entries : List (List ℕ × Tid)) : Type 0 where
  pub most : length entries ≤ tuple_limit
  pub rising : AreRising entries
  pub of : (relation : RelationEntry) → relation_at view.store.catalog.listing image.relation ≡ Some relation
      → AreEntriesOf view image relation entries

-- what was refused, if anything was
abbrev pub refused_by : {T : Type 0} → Result T Refusal → Option Refusal
refused_by (Ok value) = None
refused_by (Err why) = Some why

-- In each state in which the session may be, the test of the keys of an image that the entry plans says this.
abbrev pub TestsKeys : {T : Type 0} → SessionView → ImageEntry → Result T Refusal → Type 0
TestsKeys view entry result =
    (name relation : Name) (is_unique : Bool) (fields : List Name)
    → PlansImage view.store.catalog.listing name relation is_unique fields entry
    → IsTold view.store.pages.disk → (state : State) → Kept state → Shows view state
    → if_repeated state name is_unique (image_def relation is_unique fields) ≡ refused_by result

-- ---- once it is made

-- a page of an image
abbrev pub IsImageKey : Keys
IsImageKey key = key.space ≡ Image

-- Pages of images may have been touched, and the catalog; all else is as it was.
pub record TouchesImages (old new : SessionView) : Type 0 where
  pub asks : ℕ
  pub step : PagesStep IsImageKey asks asks old.store.pages new.store.pages
  pub log : new.store.log ≡ old.store.log
  pub root : new.store.root ≡ old.store.root
  pub number : new.store.number ≡ old.store.number
  pub opened : new.opened ≡ old.opened
  pub counts : CountsStill old new

-- The entry is listed, by the least number that is not in use, with where its tree begins.
pub record ListsImage (entry : ImageEntry) (old new : CatalogView) : Type 0 where
  pub number : ℕ
  pub root : ℕ
  pub levels : ℕ
  pub least : IsLeastUnused ImageKind old.listing number
  pub lists : Lists (with_listed old.listing number (Some (with_root root levels entry)))
      (page_of ImageKind number) old new
  pub fits : ListingFits old.listing → ListingFits new.listing

-- A call makes the image that the entry plans, and isn't refused in this state.
pub record MayMakeImage (listing : Listing) (state : State) (entry : ImageEntry) : Type 0 where
  pub name : Name
  pub relation : Name
  pub is_unique : Bool
  pub fields : List Name
  pub plans : PlansImage listing name relation is_unique fields entry
  pub passed : refusal state (MakeImage name relation is_unique fields) ≡ None

-- What it defines may be committed, in each state in which the session was.
abbrev pub FillsImage : SessionView → SessionView → ImageEntry → Type 0
FillsImage old new entry =
    IsTold old.store.pages.disk → (state : State) → Kept state → Shows old state
    → (may : MayMakeImage old.store.catalog.listing state entry)
    → IsRedefined new state
    (with_definitions (with_image state.base.definitions may.name (image_def may.relation may.is_unique may.fields)) state.base)

-- It is listed, and its definition may be committed.
pub record MakesImage (entry : ImageEntry) (old new : SessionView) : Type 0 where
  pub touches : TouchesImages old new
  pub lists : ListsImage entry old.store.catalog new.store.catalog
  pub saves : CanSave new
  pub fills : FillsImage old new entry
