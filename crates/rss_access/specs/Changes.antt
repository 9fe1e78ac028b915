-- What a change of a tuple does, as a record of the log tells it: to the pages, to the catalog, and to the tables that these spell.
use Rattle.std.specs.Prelude.{◌≡◌, ℕ, ◌+◌, ◌*◌, ◌^◌, ◌<◌, ◌≤◌, List, Option, Some, None, option_map, Result, Err, IsErrOf, OnOk, OnErr}
use Rattle.rss_base.specs.DiskRule.{IsTold}
use Rattle.rss_base.specs.Faults.{Rises}
use Rattle.rss_base.specs.Steps.{PagesView, Keys, PagesStep, no_page, pages_in}
use Rattle.rss_base.specs.declared.key.Space.TheVariants.{Image as ImageSpace}
use Rattle.rss_base.specs.TupleTypes.{kinds, tuple_bytes}
use Rattle.rss_base.specs.Listings.{Listing, relation_at, link_at}
use Rattle.rss_base.specs.declared.name.Name.{Name}
use Rattle.rss_base.specs.declared.tid.Tid.{Tid}
use Rattle.rss_base.specs.declared.place.Place.{Place}
use Rattle.rss_base.specs.declared.place.Place.TheVariants.{Tuple as TuplePlace, Count as CountPlace, Link as LinkPlace}
use Rattle.rss_base.specs.declared.fault.PageFault.{PageFault}
use Rattle.rss_base.specs.declared.fault.PageFault.TheVariants.{Device as DeviceFailed, Damaged, NoMemory}
use Rattle.rss_base.specs.declared.relation.RelationEntry.{RelationEntry}
use Rattle.rss_base.specs.declared.link.LinkEntry.{LinkEntry}
use Rattle.rss_base.specs.declared.change.Change as told
use Rattle.rss_base.specs.declared.change.Change.TheVariants.{Insert, Delete, Update, Connect, Disconnect}
use Rattle.rss_tuple.specs.Heaps.{AreHeaps}
use Rattle.rss_tuple.specs.Placing.{TakesOnly}
use Rattle.rss_tuple.specs.TupleSteps.{tuples_in}
use Rattle.rss_catalog.specs.Catalogs.{CatalogView, HasImageOf}
use Rattle.rss_model.specs.Items.{Content}
use Rattle.rss_model.specs.Tables.{Tables, content, tuple_count}
use Rattle.rss_model.specs.Chains.{LinksFit}
use Rattle.rss_model.specs.Changes.{Change, apply, undo}
use Rattle.rss_model.specs.Fits.{Fits, IsLive, IsIdentifier, tuple_limit}
use Rattle.rss_model.specs.Meanings.{IsChangeTold, Means}
use Rattle.rss_stored.specs.Store.{SpellsTables, SpellsImages, AreNodesWithin}
use Rattle.rss_members.specs.Calls.{MembersView, Connects, Disconnects, NoneConnects, NoneDisconnects, Reends, pages_of_link}
use Rattle.rss_entries.specs.Rooms.{images_room, image_places, images_cost}
use Rattle.rss_entries.specs.Images.{AreTuples, TupleMove, CanMove, after_move}
use Rattle.rss_access.specs.Told.{IsTupleRecord, number_told, tid_told, values_before, values_after, body_before, body_after, count_after, IsPrefix, MayBecome, MayCount}
use Rattle.rss_access.specs.Tuples.{body_at, ChangesTuple}
use Rattle.rss_access.specs.Written.{heap_now, content_of}
use Rattle.rss_access.specs.Relisted.{Rerooted, Recounted, Relists}

-- ---- the tables

-- the pages with the catalog
pub record AccessView : Type 1 where
  pub pages : PagesView
  pub catalog : CatalogView

abbrev pub both : PagesView → CatalogView → AccessView
both pages catalog = record { pages = pages; catalog = catalog }

-- the tuples in the pages, with the catalog
abbrev pub members : AccessView → MembersView
members at = record { tuples = tuples_in at.pages; catalog = at.catalog }

-- The pages spell tables by the catalog's listing, with tuples of their relations, not too many of each, chains such as links have, and identifiers of the store, also in the nodes of images.
pub record HasTables (at : AccessView) : Type 0 where
  pub tables : Tables
  pub spells : SpellsTables at.pages.held at.catalog.listing tables
  pub tuples : AreTuples tables
  pub tids : (relation : Name) (tid : Tid) → IsLive tables relation tid → IsIdentifier at.pages.slots tid
  pub few : (relation : Name) → tuple_count tables.contents relation ≤ tuple_limit
  pub links : LinksFit tables
  pub nodes : AreNodesWithin at.pages.slots at.pages.held at.catalog.listing

-- On a device that tells its contents, the pages are those of a tuple store, and spell tables.
pub record CanAlter (at : AccessView) : Type 0 where
  pub heaps : IsTold at.pages.disk → AreHeaps at.pages
  pub tables : IsTold at.pages.disk → ∥ HasTables at ∥₁

-- There is room for two pages more, and for a pair more in each image of the relation.
abbrev pub HasRoom : AccessView → ℕ → Type 0
HasRoom at number = 2 + images_room at.catalog.listing number ≤ image_places at.pages

-- There is for the change. One of a chain puts no pair into an image: no relation has the number 0.
abbrev pub HasRoomFor : AccessView → told.Change → Type 0
HasRoomFor at (Insert relation tid values) = HasRoom at relation
HasRoomFor at (Delete relation tid values) = HasRoom at relation
HasRoomFor at (Update relation tid old new) = HasRoom at relation
HasRoomFor at (Connect link parent child left) = HasRoom at 0
HasRoomFor at (Disconnect link parent child left) = HasRoom at 0

-- the tables with the change applied, or undone
abbrev pub applied : Tables → Change → Tables
applied tables change = record tables { contents = apply tables.contents change }

abbrev pub taken_back : Tables → Change → Tables
taken_back tables change = record tables { contents = undo tables.contents change }

-- The pages spell these tables by the catalog's listing, the change is one that is told, its item holds this, and the tables fit before and after.
pub record Finds (at : AccessView) (told_change : told.Change) (change : Change)
    (tables : Tables) (found : Option Content) (next : Tables) : Type 0 where
  pub spells : SpellsTables at.pages.held at.catalog.listing tables
  pub tells : IsChangeTold at.catalog.listing change.by told_change change
  pub means : Means at.catalog.listing told_change change
  pub holds : content tables.contents change.item ≡ found
  pub fit : Fits at.pages.slots tables
  pub fit_next : Fits at.pages.slots next

-- it may be applied, where its item holds its old content, and undone, where it holds the new one
abbrev pub CanApply : AccessView → told.Change → Tables → Change → Type 0
CanApply at told_change tables change =
    Finds at told_change change tables change.old (applied tables change)

abbrev pub CanUndo : AccessView → told.Change → Tables → Change → Type 0
CanUndo at told_change tables change =
    Finds at told_change change tables change.new (taken_back tables change)

-- from all such tables the pages come to spell those with the change applied
abbrev pub Applies : told.Change → AccessView → AccessView → Type 0
Applies told_change old new =
    IsTold old.pages.disk → (tables : Tables) (change : Change) → CanApply old told_change tables change
    → SpellsTables new.pages.held new.catalog.listing (applied tables change)

-- or undone
abbrev pub Undoes : told.Change → AccessView → AccessView → Type 0
Undoes told_change old new =
    IsTold old.pages.disk → (tables : Tables) (change : Change) → CanUndo old told_change tables change
    → SpellsTables new.pages.held new.catalog.listing (taken_back tables change)

-- there are no such tables
abbrev pub NoneApplies : told.Change → AccessView → Type 0
NoneApplies told_change at =
    (tables : Tables) (change : Change) → CanApply at told_change tables change → ⊥

abbrev pub NoneUndoes : told.Change → AccessView → Type 0
NoneUndoes told_change at =
    (tables : Tables) (change : Change) → CanUndo at told_change tables change → ⊥

-- ---- the images of a relation

-- the pages of a relation's images are among these
abbrev pub image_pages_of : Option RelationEntry → Keys
image_pages_of None = no_page
image_pages_of (Some relation) = pages_in relation.segment ImageSpace

-- and where it has none, there are none
abbrev pub own_image_pages : Listing → ℕ → Keys
own_image_pages listing number key =
    image_pages_of (relation_at listing number) key × HasImageOf listing number

-- the change tells of this tuple, with these values
pub record TellsMove (change : told.Change) (move : TupleMove) : Type 0 where
  pub number : number_told change ≡ move.number
  pub tid : tid_told change ≡ move.tid
  pub before : values_before change ≡ option_map (tuple_bytes (kinds move.relation.fields)) move.was
  pub after : values_after change ≡ option_map (tuple_bytes (kinds move.relation.fields)) move.next

-- The image pages show tables in which the tuple can change so, and there is room for its entries.
pub record ShowsMove (at : AccessView) (change : told.Change) (move : TupleMove) (tables : Tables) : Type 0 where
  pub tells : TellsMove change move
  pub can : CanMove at.catalog.listing move tables
  pub images : SpellsImages at.pages.held at.catalog.listing tables
  pub room : images_room at.catalog.listing move.number ≤ image_places at.pages

-- there are such tables
pub record MayMoveAll (at : AccessView) (change : told.Change) : Type 0 where
  pub move : TupleMove
  pub tables : Tables
  pub shows : ShowsMove at change move tables

-- from all such tables the image pages come to show those after the change
abbrev pub MovesAll : AccessView → AccessView → told.Change → Type 0
MovesAll old new change = (move : TupleMove) (tables : Tables) → ShowsMove old change move tables
    → SpellsImages new.pages.held new.catalog.listing (after_move move tables)

-- where the identifiers in the nodes of images have pages below a number of slots, and so has this one, they have still
abbrev pub NodesStay : Tid → AccessView → AccessView → Type 0
NodesStay tid old new =
    (slots : ℕ) → tid.page < slots → AreNodesWithin slots old.pages.held old.catalog.listing
    → AreNodesWithin slots new.pages.held new.catalog.listing

-- from all such tables they stay so, where the change's tuple has such an identifier
abbrev pub AllNodesStay : AccessView → AccessView → told.Change → Type 0
AllNodesStay old new change = (move : TupleMove) (tables : Tables) → ShowsMove old change move tables
    → NodesStay (tid_told change) old new

-- ---- what is done to the pages and the catalog

-- A tuple was changed: there was room; it was as the change finds it, and is as the change leaves it, with these bytes between; so is the count of its relation, with its images.
pub record AltersTuple (change : told.Change) (old new : AccessView) : Type 0 where
  pub relation : RelationEntry
  pub prefix : List ℕ
  pub listed : relation_at old.catalog.listing (number_told change) ≡ Some relation
  pub small : old.pages.slots < 2 ^ 32
  pub room : HasRoom old (number_told change)
  pub fitting : IsPrefix old.catalog.listing change prefix
  pub found : IsTold old.pages.disk
      → body_at old.pages relation.segment (tid_told change) ≡ body_before prefix change
  pub changes : ChangesTuple relation.segment (tid_told change) (body_after prefix change)
      old.pages new.pages
  pub counts : Recounted (number_told change) (count_after change relation.live) relation
      old.catalog new.catalog
  pub images : IsTold old.pages.disk → MovesAll old new change

-- A tuple came into a chain or went out of it, in whatever tables were spelled: there was room, but no page was taken; the link's ends are listed.
pub record AltersChain (result : MembersView → MembersView → Type 0) (number : ℕ) (old new : AccessView) : Type 0 where
  pub link : LinkEntry
  pub listed : link_at old.catalog.listing number ≡ Some link
  pub small : old.pages.slots < 2 ^ 32
  pub room : HasRoom old 0
  pub takes : IsTold old.pages.disk → TakesOnly no_page old.pages new.pages
  pub heaps : IsTold old.pages.disk → AreHeaps new.pages
  pub ends : Reends number link old.catalog new.catalog
  pub chains : result (members old) (members new)

-- what the change does
abbrev pub Alters : told.Change → AccessView → AccessView → Type 0
Alters (Insert relation tid values) = AltersTuple (Insert relation tid values)
Alters (Delete relation tid values) = AltersTuple (Delete relation tid values)
Alters (Update relation tid old new) = AltersTuple (Update relation tid old new)
Alters (Connect link parent child left) =
    AltersChain (λ was now. Connects was now (record { link = link; parent = parent; child = child; left = left })) link
Alters (Disconnect link parent child left) =
    AltersChain (λ was now. Disconnects was now (record { link = link; parent = parent; child = child; left = left })) link

-- The change can't be made: the tuple isn't as the change finds it or can't be as the change leaves it; its relation isn't listed, or can't be counted so; or there is no room. Or the tuple can't come into the chain that the change tells, or doesn't stand where it tells.
pub data Misfits (change : told.Change) (at : AccessView) : Place → Type 0 where
  tuple : {relation : RelationEntry} → IsTupleRecord change
      → relation_at at.catalog.listing (number_told change) ≡ Some relation
      → ((prefix : List ℕ) → IsPrefix at.catalog.listing change prefix
      → body_at at.pages relation.segment (tid_told change) ≡ body_before prefix change
      → MayBecome at.pages.slots at.catalog.listing relation.fields change → ⊥)
      → Misfits change at (TuplePlace relation.segment (tid_told change))
  room : {relation : RelationEntry} → IsTupleRecord change
      → relation_at at.catalog.listing (number_told change) ≡ Some relation
      → (HasRoom at (number_told change) → ⊥)
      → Misfits change at (TuplePlace relation.segment (tid_told change))
  count : {relation : RelationEntry} {prefix : List ℕ} → IsTupleRecord change
      → relation_at at.catalog.listing (number_told change) ≡ Some relation
      → IsPrefix at.catalog.listing change prefix
      → body_at at.pages relation.segment (tid_told change) ≡ body_before prefix change
      → (MayCount change relation.live → ⊥)
      → Misfits change at (CountPlace (number_told change))
  unlisted : IsTupleRecord change → relation_at at.catalog.listing (number_told change) ≡ None
      → Misfits change at (CountPlace (number_told change))
  chain_room : (IsTupleRecord change → ⊥) → (HasRoom at 0 → ⊥)
      → Misfits change at (LinkPlace (number_told change))
  connect : {link : ℕ} {parent left : Option Tid} {child : Tid} {place : Place}
      → change ≡ Connect link parent child left → at.pages.slots < 2 ^ 32
      → NoneConnects (members at) (record { link = link; parent = parent; child = child; left = left })
      → Misfits change at place
  disconnect : {link : ℕ} {parent left : Option Tid} {child : Tid} {place : Place}
      → change ≡ Disconnect link parent child left → at.pages.slots < 2 ^ 32
      → NoneDisconnects (members at) (record { link = link; parent = parent; child = child; left = left })
      → Misfits change at place

-- the pages of the relation's segment, or those of a link's segments
abbrev pub pages_of_relation : Listing → Option RelationEntry → Keys
pages_of_relation listing None key = ⊥
pages_of_relation listing (Some relation) key = (key.segment ≡ relation.segment) × content_of listing key

abbrev pub pages_told : Listing → told.Change → Keys
pages_told listing (Insert relation tid values) = pages_of_relation listing (relation_at listing relation)
pages_told listing (Delete relation tid values) = pages_of_relation listing (relation_at listing relation)
pages_told listing (Update relation tid old new) = pages_of_relation listing (relation_at listing relation)
pages_told listing (Connect link parent child left) = pages_of_link listing link
pages_told listing (Disconnect link parent child left) = pages_of_link listing link

-- how many pages are asked for at most, and how many may leave memory
abbrev pub alter_cost : ℕ → ℕ
alter_cost slots = 3 * slots + 9 + images_cost

-- So many home and overflow pages more are mapped at most, and so many places fewer are left to images.
pub record Takes (pages : ℕ) (old new : PagesView) : Type 0 where
  pub heap : heap_now new ≤ heap_now old + pages
  pub places : image_places old ≤ image_places new + pages

-- What a call that makes this change passes on, by its result: what was done, with pages that may be changed on; or where it can't be made, on a device that tells its contents, over pages that spell tables, and then nothing was changed. Only pages of the relation's segment, or of the link's, are touched. Each failure of the device has its cause, memory never runs out, and at an error the catalog lists the same, but for where images begin.
pub record Makes {T : Type 0} (change : told.Change) (old new : AccessView)
    (result : Result T PageFault) : Type 0 where
  pub alters : OnOk result (Alters change old new)
  pub still : OnOk result (CanAlter new)
  pub takes : OnOk result (Takes 2 old.pages new.pages)
  pub relists : OnOk result (Relists change old.catalog new.catalog)
  pub step : PagesStep (pages_told old.catalog.listing change)
      (alter_cost old.pages.slots) (alter_cost old.pages.slots) old.pages new.pages
  pub rerooted : OnErr result (Rerooted old.catalog new.catalog)
  pub failed : IsErrOf result DeviceFailed → Rises old.pages.faults new.pages.faults
  pub memory : IsErrOf result NoMemory → ⊥
  pub damaged : (place : Place) → result ≡ Err (Damaged place) → IsTold old.pages.disk
      → HasTables old → Misfits change old place
  pub kept : (place : Place) → result ≡ Err (Damaged place) → IsTold old.pages.disk
      → PagesStep no_page 16 16 old.pages new.pages
