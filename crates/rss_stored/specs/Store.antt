-- A store: its pages, and the tables that they open to.
use Rattle.std.specs.Prelude.{◌≡◌, ◌⊎◌, ◌↔◌, ℕ, ◌+◌, ◌*◌, ◌<◌, ◌≤◌, true, List, [], ◌∷◌, ◌++◌, length, map as list_map, flat_map, count_by, Contains, Option, Some, None, is_some, option_map, option_and_then, unwrap_or, All}
use Rattle.std.specs.FinMap as map
use Rattle.rss_base.specs.declared.name.Name.{Name}
use Rattle.rss_base.specs.declared.tid.Tid.{Tid}
use Rattle.rss_base.specs.declared.item.Item.{Item}
use Rattle.rss_base.specs.declared.item.Item.TheVariants.{Tuple as TupleItem, Chain as ChainItem}
use Rattle.rss_base.specs.declared.value.Value.{Value}
use Rattle.rss_base.specs.declared.value.FieldForm.{FieldForm}
use Rattle.rss_base.specs.declared.relation.RelationEntry.{RelationEntry}
use Rattle.rss_base.specs.declared.image.ImageEntry.{ImageEntry}
use Rattle.rss_base.specs.declared.link.LinkEntry.{LinkEntry}
use Rattle.rss_base.specs.declared.refusal.Kind.{Kind}
use Rattle.rss_base.specs.declared.refusal.Kind.TheVariants.{Segment as SegmentKind, Relation as RelationKind, Image as ImageKind, Link as LinkKind}
use Rattle.rss_base.specs.declared.root.Root.{Root}
use Rattle.rss_base.specs.declared.key.Space.{Space}
use Rattle.rss_base.specs.declared.key.Space.TheVariants.{Home, Overflow, Image as ImageSpace, System}
use Rattle.rss_base.specs.declared.key.PageKey.{PageKey}
use Rattle.rss_base.specs.declared.place.Place.{Place}
use Rattle.rss_base.specs.DiskRule.{Disk, Pages, Leaves}
use Rattle.rss_base.specs.TupleTypes.{kinds, field_names, chosen, key_width, key_bytes, tuple_bytes, IsStorable}
use Rattle.rss_base.specs.Layout.{map_at, slots_at, HasRoot, IsRootFault}
use Rattle.rss_base.specs.LogRecords.{ArePlaced, Parses}
use Rattle.rss_base.specs.LogPages.{log_bytes}
use Rattle.rss_base.specs.PageMap.{IsMap, IsMapFault, page_count}
use Rattle.rss_base.specs.Paged.{Held, mapped_of}
use Rattle.rss_base.specs.StoredPages.{mapped_by, held_at}
use Rattle.rss_base.specs.Listings.{Listing, ListingFits, HoldsListing, SuitsVersion, IsNumberOf, AreDifferent, field_numbers, segment_at, relation_at, image_at, link_at}
use Rattle.rss_base.specs.Nodes.{Node, NodesOf}
use Rattle.rss_base.specs.Trees.{Pair, IsNodeAt, IsImage}
use Rattle.rss_base.specs.Prefixes.{ChildPlace, Part, Outside, Member, Child, Parent, early_part, neighbours_in, ends_of, first_of, last_of, member_block, child_block, parent_block}
use Rattle.rss_page.specs.Slotted.{IsHeapKey}
use Rattle.rss_tuple.specs.Directory.{Bodies, bodies_of, homes, overflows}
use Rattle.rss_tuple.specs.Heaps.{IsHeap, AreLinked}
use Rattle.rss_model.specs.Items.{Values, parent_of}
use Rattle.rss_model.specs.Tables.{RelationDef, ImageDef, LinkDef, Definitions, Contents, Tables, content, tuple_count}
use Rattle.rss_model.specs.Chains.{tuples_in, chain, chain_with}
use Rattle.rss_model.specs.Images.{Entry, image_list}
use Rattle.rss_model.specs.Fits.{Fits}
use Rattle.rss_model.specs.Meter.{Meter, owed, log_room, room_number}
use Rattle.rss_model.specs.Records.{Listed}
use Rattle.rss_model.specs.Restart.{restarted}
use Rattle.rss_model.specs.Recovers.{lists_at, Recovers, WayFits}
use Rattle.rss_model.specs.Meanings.{Logged, as_bytes, as_entries, IsLogged, is_change, traffic_of}
use Rattle.rss_model.specs.Machine.{StoreSize, State, IsAtRest}
use Rattle.rss_model.specs.Kept.{IsMetered}

-- ---- definitions by their numbers

-- a relation of a listing, where its segment has this name
abbrev pub definition_of : Name → RelationEntry → RelationDef
definition_of segment relation = record { segment = segment; fields = relation.fields }

-- a relation has this number, and its segment this name
pub record IsListed (listing : Listing) (number : ℕ) (relation : RelationEntry) (segment : Name) : Type 0 where
  pub at : relation_at listing number ≡ Some relation
  pub within : segment_at listing relation.segment ≡ Some segment

-- an image has this number, and its relation is this one
pub record IsListedImage (listing : Listing) (number : ℕ) (image : ImageEntry) (relation : RelationEntry) : Type 0 where
  pub at : image_at listing number ≡ Some image
  pub within : relation_at listing image.relation ≡ Some relation

abbrev pub image_definition : ImageEntry → RelationEntry → ImageDef
image_definition image relation = record {
  relation = relation.name;
  is_unique = image.is_unique;
  fields = field_names (chosen (field_numbers image) relation.fields);
}

-- a link has this number, and these are its relations
pub record IsListedLink (listing : Listing) (number : ℕ) (link : LinkEntry) (child : RelationEntry) : Type 0 where
  pub at : link_at listing number ≡ Some link
  pub within : relation_at listing link.child ≡ Some child

abbrev pub relation_name : Listing → ℕ → Option Name
relation_name listing number = option_map (λ relation. relation.name) (relation_at listing number)

abbrev pub link_definition : Listing → LinkEntry → RelationEntry → LinkDef
link_definition listing link child = record {
  parent = option_and_then (relation_name listing) link.parent;
  child = child.name;
  late = link.late;
}

-- some number is that of a segment, a relation, an image or a link of this name
abbrev pub HasNumber : Kind → Listing → Name → Type 0
HasNumber kind listing name = (number : ℕ) × IsNumberOf kind listing name number

-- the images and the links that are defined are those that the listing has
pub record DefinesPaths (listing : Listing) (definitions : Definitions) : Type 0 where
  pub images : (number : ℕ) (image : ImageEntry) (relation : RelationEntry)
      → IsListedImage listing number image relation
      → map.get definitions.images image.name ≡ Some (image_definition image relation)
  pub only_images : (name : Name) → is_some (map.get definitions.images name) ≡ true
      → HasNumber ImageKind listing name
  pub links : (number : ℕ) (link : LinkEntry) (child : RelationEntry)
      → IsListedLink listing number link child
      → map.get definitions.links link.name ≡ Some (link_definition listing link child)
  pub only_links : (name : Name) → is_some (map.get definitions.links name) ≡ true
      → HasNumber LinkKind listing name

-- What is defined is what the listing has, whichever number it has.
pub record Defines (listing : Listing) (definitions : Definitions) : Type 0 where
  pub segments : (name : Name)
      → (is_some (map.get definitions.segments name) ≡ true) ↔ HasNumber SegmentKind listing name
  pub relations : (number : ℕ) (relation : RelationEntry) (segment : Name)
      → IsListed listing number relation segment
      → map.get definitions.relations relation.name ≡ Some (definition_of segment relation)
  pub only_relations : (name : Name) → is_some (map.get definitions.relations name) ≡ true
      → HasNumber RelationKind listing name
  pub paths : DefinesPaths listing definitions

-- ---- chains in the prefixes of tuples

-- where a tuple stands: below the parent of its chain
abbrev pub place_below : Contents → Tid → Item → Option Tid → Option ChildPlace
place_below contents tid item None = None
place_below contents tid item (Some parent) =
    option_map (λ neighbours. record { parent = parent; neighbours = neighbours })
    (neighbours_in (tuples_in (content contents item)) tid)

abbrev pub place_of : Contents → Tid → Option Item → Option ChildPlace
place_of contents tid None = None
place_of contents tid (Some item) = place_below contents tid item (parent_of item)

-- the block of a link in a tuple, by the part of its relation
abbrev pub block_of : Contents → Name → Tid → Part → List ℕ
block_of contents link tid Outside = []
block_of contents link tid Member = member_block (neighbours_in (chain contents link None) tid)
block_of contents link tid Child = child_block (place_of contents tid (chain_with contents link tid))
block_of contents link tid Parent = parent_block (ends_of (chain contents link (Some tid)))

abbrev pub listed_block : Contents → ℕ → Tid → Option LinkEntry → List ℕ
listed_block contents number tid None = []
listed_block contents number tid (Some link) = block_of contents link.name tid (early_part link number)

-- the blocks of all links, by the links' numbers
abbrev pub prefix_of : Listing → Contents → ℕ → Tid → List ℕ
prefix_of listing contents number tid = flat_map (listed_block contents number tid) listing.links

-- the catalog has the ends of each chain that has no parent
abbrev pub AreEnds : Listing → Contents → Type 0
AreEnds listing contents =
    (number : ℕ) (link : LinkEntry) → link_at listing number ≡ Some link
    → (link.first ≡ first_of (chain contents link.name None))
    × (link.last ≡ last_of (chain contents link.name None))

-- ---- tuples by the numbers of their relations

-- what the fields of a relation ask of their values; there are none where nothing has the number
abbrev pub fields_at : Listing → ℕ → List FieldForm
fields_at listing number =
    unwrap_or (option_map (λ relation. kinds relation.fields) (relation_at listing number)) []

-- the body of a tuple: the number of its relation, its blocks, and the bytes of its values
abbrev pub body_of : Listing → Contents → ℕ → Tid → List Value → List ℕ
body_of listing contents number tid values =
    number ∷ (prefix_of listing contents number tid ++ tuple_bytes (fields_at listing number) values)

-- the body is that of a tuple of a relation of this segment, which has this identifier
pub record IsTupleBody (listing : Listing) (contents : Contents) (segment : ℕ) (tid : Tid) (body : List ℕ) : Type 0 where
  pub number : ℕ
  pub relation : RelationEntry
  pub values : List Value
  pub at : relation_at listing number ≡ Some relation
  pub within : relation.segment ≡ segment
  pub is : body ≡ body_of listing contents number tid values
  pub storable : All IsStorable values
  pub holds : content contents (TupleItem relation.name tid) ≡ Some (Values values)

-- the item is a tuple of a relation that has a number, or a chain of a link that has one
pub record IsTupleItem (listing : Listing) (item : Item) : Type 0 where
  pub number : ℕ
  pub relation : RelationEntry
  pub tid : Tid
  pub at : relation_at listing number ≡ Some relation
  pub is : item ≡ TupleItem relation.name tid

pub record IsChainItem (listing : Listing) (item : Item) : Type 0 where
  pub number : ℕ
  pub link : LinkEntry
  pub parent : Option Tid
  pub at : link_at listing number ≡ Some link
  pub is : item ≡ ChainItem link.name parent

-- The bodies of each segment are those of its relations' tuples, and nothing else is there.
pub record SpellsContents (listing : Listing) (bodies : Bodies) (contents : Contents) : Type 0 where
  pub stands : (number : ℕ) (relation : RelationEntry) (tid : Tid) (values : List Value)
      → relation_at listing number ≡ Some relation
      → content contents (TupleItem relation.name tid) ≡ Some (Values values)
      → bodies relation.segment tid ≡ Some (body_of listing contents number tid values)
  pub bodies_are : (segment : ℕ) (tid : Tid) (body : List ℕ) → bodies segment tid ≡ Some body
      → IsTupleBody listing contents segment tid body
  pub only : (item : Item) → is_some (content contents item) ≡ true
      → IsTupleItem listing item ⊎ IsChainItem listing item
  pub ends : AreEnds listing contents

-- ---- images in trees

-- whose pages the nodes of an image are
abbrev pub nodes_of : ℕ → ImageEntry → RelationEntry → NodesOf
nodes_of number image relation = record {
  segment = relation.segment;
  image = number;
  width = key_width (kinds (chosen (field_numbers image) relation.fields));
}

-- an entry of an image in bytes
abbrev pub pair_spelled : ImageEntry → RelationEntry → Entry → Pair
pair_spelled image relation given = record {
  key = key_bytes (kinds (chosen (field_numbers image) relation.fields)) given.key;
  tid = given.tid;
}

-- Under the root of an image stand its list and these pages, none of them twice.
pub record SpellsImage (held : Held) (tables : Tables) (number : ℕ) (image : ImageEntry) (relation : RelationEntry) (pages : List ℕ) : Type 0 where
  pub pairs : List Pair
  pub tree : IsImage held (nodes_of number image relation) image.root image.levels pages pairs
  pub once : AreDifferent pages
  pub list : pairs ≡ list_map (pair_spelled image relation) (image_list tables (image_definition image relation))

-- the page is one of an image's
pub record IsReached (held : Held) (listing : Listing) (tables : Tables) (key : PageKey) : Type 0 where
  pub number : ℕ
  pub image : ImageEntry
  pub relation : RelationEntry
  pub pages : List ℕ
  pub at : IsListedImage listing number image relation
  pub spells : SpellsImage held tables number image relation pages
  pub segment : key.segment ≡ relation.segment
  pub among : Contains pages key.number

-- each image stands in its pages, and each page of the space of images is one of theirs
pub record SpellsImages (held : Held) (listing : Listing) (tables : Tables) : Type 0 where
  pub each : (number : ℕ) (image : ImageEntry) (relation : RelationEntry)
      → IsListedImage listing number image relation
      → (pages : List ℕ) × SpellsImage held tables number image relation pages
  pub reached : (key : PageKey) → key.space ≡ ImageSpace → is_some (held key) ≡ true
      → IsReached held listing tables key

-- each relation's count is that of its tuples
abbrev pub AreCounts : Listing → Contents → Type 0
AreCounts listing contents =
    (number : ℕ) (relation : RelationEntry) → relation_at listing number ≡ Some relation
    → tuple_count contents relation.name ≡ relation.live

-- ---- what its pages spell

-- a page that a store may have: one of the system space, or a home, overflow or image page of a segment that is defined
abbrev pub IsStorePage : Listing → PageKey → Type 0
IsStorePage listing key = (key.space ≡ System) ⊎ (is_some (segment_at listing key.segment) ≡ true)

-- The pages beside those of the system space spell these tables, whose definitions are listed so: they are those of a tuple store with these tuples.
pub record SpellsTables (held : Held) (listing : Listing) (tables : Tables) : Type 0 where
  pub only : (key : PageKey) → is_some (held key) ≡ true → IsStorePage listing key
  pub formed : (key : PageKey) (bytes : List ℕ) → IsHeapKey key → held key ≡ Some bytes
      → IsHeap key bytes None
  pub linked : (segment : ℕ) → AreLinked (homes held segment) (overflows held segment)
  pub listed : ListingFits listing
  pub defines : Defines listing tables.definitions
  pub counts : AreCounts listing tables.contents
  pub contents : SpellsContents listing (bodies_of held) tables.contents
  pub images : SpellsImages held listing tables

-- ---- a store

-- number, root: the selected root and its number.
-- owners: the map that it names.
-- listing: which number each definition has.
-- saved: the tables that the pages of the map spell, those of the last checkpoint.
-- older, newer: the records of the log up to the last Checkpoint record, and those from it on.
-- tables: the tables that are recovered.
pub record Stored : Type 0 where
  pub number : ℕ
  pub root : Root
  pub owners : List (Option PageKey)
  pub listing : Listing
  pub saved : Tables
  pub older : List Logged
  pub newer : List Logged
  pub tables : Tables

-- the pages of the map
abbrev pub held_in : Pages → Stored → Held
held_in pages stored =
    held_at (slots_at stored.root.slots stored.root.log_pages) pages stored.owners

-- how many pages of a space the map has
abbrev pub pages_of_space : Space → Stored → ℕ
pages_of_space space stored = mapped_of (mapped_by stored.owners) space stored.root.slots

abbrev pub overflow_pages : Stored → ℕ
overflow_pages stored = pages_of_space Overflow stored

-- ---- the log of a store

-- the changes in the lists of the checkpoint
abbrev pub listed_at : Stored → List Listed
listed_at stored = lists_at (as_entries stored.older)

-- The log of a store.
-- parses: its bytes are those of the records, from the head up to the end.
-- checkpoint: the newer ones begin at the position of the last Checkpoint record.
-- logged: they say these entries.
-- recovers, way: over the tables of the checkpoint they recover the tables, and all tables on the way of restart fit.
-- definitions: a record tells of tuples and chains alone.
pub record HasLog (pages : Pages) (stored : Stored) : Type 0 where
  pub parses : Parses (log_bytes pages stored.root) stored.root.head
      (as_bytes (stored.older ++ stored.newer)) stored.root.end
  pub checkpoint : ArePlaced stored.root.head (as_bytes stored.older) stored.root.checkpoint
  pub logged : IsLogged stored.listing (listed_at stored) stored.older stored.newer
  pub recovers : Recovers stored.saved.contents
      (as_entries stored.older) (as_entries stored.newer) stored.tables.contents
  pub way : WayFits stored.root.slots stored.saved
      (as_entries stored.older) (as_entries stored.newer)
  pub definitions : stored.tables.definitions ≡ stored.saved.definitions

-- ---- the room of a store

-- the meter of the checkpoint with all changes behind it, those that were undone included
abbrev pub meter_of : Stored → Meter
meter_of stored = record {
  heap = pages_of_space Home stored + overflow_pages stored;
  surviving = length (listed_at stored);
  since = count_by (λ l. is_change l.is) stored.newer;
  traffic = traffic_of stored.saved.contents (listed_at stored) stored.newer;
  stamps = [];
  head = stored.root.head;
  end = stored.root.end;
  over = overflow_pages stored;
}

-- ---- all of it

-- the identifiers in the nodes of images have pages below the number of slots
abbrev pub AreNodesWithin : ℕ → Held → Listing → Type 0
AreNodesWithin slots held listing =
    (number : ℕ) (image : ImageEntry) (relation : RelationEntry)
    → IsListedImage listing number image relation
    → (page : ℕ) (node : Node) → IsNodeAt held (nodes_of number image relation) page node
    → All (λ entry. entry.tid.page < slots) node.entries

pub record IsStore (pages : Pages) (stored : Stored) : Type 0 where
  pub root_there : HasRoot pages stored.number stored.root
  pub map : IsMap stored.root.slots pages (map_at stored.root.slots stored.root.area) stored.owners
  pub system : HoldsListing (held_in pages stored) stored.listing
  pub spells : SpellsTables (held_in pages stored) stored.listing stored.saved
  pub nodes : AreNodesWithin stored.root.slots (held_in pages stored) stored.listing
  pub fit : Fits stored.root.slots stored.saved
  pub log : HasLog pages stored
  pub room : room_number stored.saved.definitions (meter_of stored) ≤ stored.root.slots
  pub version : SuitsVersion stored.root.version stored.listing

-- the size of a store, by its root
abbrev pub size_of : Root → StoreSize
size_of root = record { slots = root.slots; log_pages = root.log_pages }

-- The pages are a store of this size with these tables.
pub record OpensTo (pages : Pages) (size : StoreSize) (tables : Tables) : Type 0 where
  pub stored : Stored
  pub store : IsStore pages stored
  pub same_size : size ≡ size_of stored.root
  pub holds : tables ≡ stored.tables

abbrev pub OpensToEither : StoreSize → Tables → Tables → Pages → Type 0
OpensToEither size before after pages = OpensTo pages size before ⊎ OpensTo pages size after

-- the state counts as many overflow pages as the map of these pages has
abbrev pub CountsOverflow : Pages → State → Type 0
CountsOverflow pages state =
    (stored : Stored) → IsStore pages stored → state.meter.over ≡ overflow_pages stored

-- The state of the machine in which these pages, as they are once they are opened, are opened: at rest with their tables, with their overflow pages, and with the positions of their log.
pub record OpensIn (pages : Pages) (size : StoreSize) (tables : Tables) (state : State) : Type 0 where
  pub rest : IsAtRest size tables state
  pub over : CountsOverflow pages state
  pub head : (stored : Stored) → IsStore pages stored → state.meter.head ≡ stored.root.head
  pub end : (stored : Stored) → IsStore pages stored → state.meter.end ≡ stored.root.end

-- The pages open to the committed tables of a state; and where no change was made since its last checkpoint and none undone, it counts their overflow pages.
pub record HoldsState (pages : Pages) (state : State) : Type 0 where
  pub opens : OpensTo pages state.size state.base
  pub over : state.meter.since ≡ 0 → length state.changes ≡ state.meter.surviving
      → CountsOverflow pages state

-- a stop now leaves pages that open to these tables
abbrev pub Opens : Disk → StoreSize → Tables → Type 0
Opens disk size tables = (image : Pages) → Leaves disk image → OpensTo image size tables

-- ---- pages that are no store

-- The first place at which the layout is out of form: that of the device or its roots, or that of the map.
pub data IsBrokenAt (place : Place) (pages : Pages) : Type 0 where
  at_root : IsRootFault pages place → IsBrokenAt place pages
  at_map : {number : ℕ} {root : Root} → HasRoot pages number root → IsMapFault root.slots pages (map_at root.slots root.area) place → IsBrokenAt place pages

-- The layout is sound, and there is no room for each page in two slots.
pub record IsOverfull (pages : Pages) : Type 0 where
  pub number : ℕ
  pub root : Root
  pub owners : List (Option PageKey)
  pub root_there : HasRoot pages number root
  pub map : IsMap root.slots pages (map_at root.slots root.area) owners
  pub over : root.slots < 2 * count_by is_some owners

-- the pages open to no tables
abbrev pub IsNoStore : Pages → Type 0
IsNoStore pages = (size : StoreSize) (tables : Tables) → OpensTo pages size tables → ⊥

-- the rules let a state go on that has nothing open
pub record HasRoom (size : StoreSize) (tables : Tables) (meter : Meter) : Type 0 where
  pub pages : room_number tables.definitions meter ≤ size.slots
  pub log : owed meter.stamps ≤ log_room size.log_pages meter

-- ---- laws

-- pages open to one size and one set of tables at most
abbrev pub OpensOnce : Type 0
OpensOnce = (pages : Pages) (size other_size : StoreSize) (tables others : Tables)
    → OpensTo pages size tables → OpensTo pages other_size others → (other_size ≡ size) × (others ≡ tables)

-- the tables that pages open to fit: those that are recovered
abbrev pub StoresFit : Type 0
StoresFit = (pages : Pages) (size : StoreSize) (tables : Tables) → OpensTo pages size tables → Fits size.slots tables

-- what restart does on the tables of the checkpoint gives the tables that are recovered
abbrev pub RestartRecovers : Type 0
RestartRecovers = (pages : Pages) (stored : Stored) → IsStore pages stored
    → restarted stored.saved.contents (listed_at stored) (as_entries stored.newer) ≡ stored.tables.contents

-- each page has room in two slots
abbrev pub StoresHaveRoom : Type 0
StoresHaveRoom = (pages : Pages) (stored : Stored) → IsStore pages stored → 2 * page_count stored.owners ≤ stored.root.slots

-- a store at rest has room
abbrev pub OpeningsHaveRoom : Type 0
OpeningsHaveRoom = (pages : Pages) (size : StoreSize) (tables : Tables) (state : State)
    → OpensTo pages size tables → OpensIn pages size tables state → HasRoom size tables state.meter

-- and its meter says of it what every step keeps
abbrev pub OpeningsAreMetered : Type 0
OpeningsAreMetered = (pages : Pages) (size : StoreSize) (tables : Tables) (state : State)
    → OpensTo pages size tables → OpensIn pages size tables state → IsMetered state
