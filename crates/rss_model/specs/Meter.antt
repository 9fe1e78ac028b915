-- The meter: what the rules read that keep room for all pages and for the log.
use Rattle.std.specs.Prelude.{ℕ, ◌+◌, ◌-◌, ◌*◌, ◌/◌, ◌≤◌, ◌==◌, ◌&&◌, Bool, false, not, nat_lt, is_some, min, if◌then◌else◌, List, [], ◌∷◌, ◌++◌, length, filter, find, count_by, sum_by, Option, Some, None, option_map, unwrap_or}
use Rattle.std.specs.List.{list_any, range_with_len}
use Rattle.std.specs.Ordering.{eq_by_cmp}
use Rattle.std.specs.FinMap as map
use Rattle.rss_base.specs.Sizes.{page_entries, system_pages, piece_bytes, largest_checkpoint, bodies_room}
use Rattle.rss_base.specs.TupleTypes.{kinds, tuple_bytes, key_width}
use Rattle.rss_base.specs.Nodes.{node_least}
use Rattle.rss_base.specs.Prefixes.{Part, Outside, Member, Child, Parent, block_size}
use Rattle.rss_base.specs.declared.name.Name.{Name}
use Rattle.rss_base.specs.declared.tid.Tid.{Tid}
use Rattle.rss_base.specs.declared.item.Item.{Item}
use Rattle.rss_base.specs.declared.item.Item.TheVariants.{Segment, Relation, Tuple, Chain, Key}
use Rattle.rss_model.specs.Items.{Content, Values, Tuples, name_cmp, is_name, is_tuple_of}
use Rattle.rss_model.specs.Tables.{LinkDef, ImageDef, Definitions, Contents, Tables, content, fields_in, segment_of, tuple_count}
use Rattle.rss_model.specs.Images.{key_kinds}
use Rattle.rss_model.specs.Chains.{chain, stands_in, is_parent_relation}
use Rattle.rss_model.specs.Changes.{Change}

-- the position of a change's record in the log, and the transaction that made it
pub record Stamp : Type 0 where
  pub by : ℕ
  pub at : ℕ

-- Of a relation: how many tuples it had at the last checkpoint; how many changes of its tuples survived there; and how many were made since then, undone ones included.
pub record Traffic : Type 0 where
  pub entries : ℕ
  pub surviving : ℕ
  pub since : ℕ

-- heap: how many pages had identifiers of tuples at the last checkpoint, and how many overflow pages there were.
-- surviving: how many changes of open transactions survived there.
-- since: how many changes were made since then, undone ones included.
-- traffic: the same of each relation.
-- stamps: those of the changes that survive now, the newest first.
-- head, end: the first position of the log that is kept, and the next one to be written.
-- over: how many overflow pages there are.
pub record Meter : Type 0 where
  pub heap : ℕ
  pub surviving : ℕ
  pub since : ℕ
  pub traffic : Name → Traffic
  pub stamps : List Stamp
  pub head : ℕ
  pub end : ℕ
  pub over : ℕ

-- ---- pages that hold tuples

-- the relations of a segment
abbrev pub is_in_segment : Tables → Name → Name → Bool
is_in_segment tables segment relation =
    unwrap_or (option_map (eq_by_cmp name_cmp segment) (segment_of tables relation)) false

abbrev pub relations_in : Tables → Name → List Name
relations_in tables segment =
    filter (is_in_segment tables segment) (map.keys tables.definitions.relations)

-- some tuple of the relation has an identifier on this page
unfoldable pub has_tuples : Contents → ℕ → Name → Bool
has_tuples contents page relation =
    list_any (λ slot. is_some (content contents (Tuple relation (record { page = page; slot = slot }))))
    (range_with_len 0 page_entries)

-- some tuple of the segment does
abbrev pub is_heap_page : Tables → Name → ℕ → Bool
is_heap_page tables segment page =
    list_any (has_tuples tables.contents page) (relations_in tables segment)

-- how many pages have identifiers of tuples, of all segments of a store of so many slots
unfoldable pub heap_pages : ℕ → Tables → ℕ
heap_pages slots tables =
    sum_by (λ segment. count_by (is_heap_page tables segment) (range_with_len 0 slots))
    (map.keys tables.definitions.segments)

-- ---- pages that overfill

-- which part the tuples of a relation have in a link
abbrev pub part_below : Option Name → Part
part_below None = Member
part_below (Some parent) = Child

abbrev pub part_by : Name → LinkDef → Part
part_by relation link =
    if is_name relation link.child then part_below link.parent
    else (if is_parent_relation link relation then Parent else Outside)

-- how many bytes the block of a link has in each of them: a late link has none there
abbrev pub block_of_link : Name → LinkDef → ℕ
block_of_link relation link = block_size (if link.late then Outside else part_by relation link)

-- how many bytes the blocks of all its links have
abbrev pub blocks_size : Definitions → Name → ℕ
blocks_size definitions relation = sum_by (block_of_link relation) (map.values definitions.links)

-- how many bytes the values of a relation's tuple take
abbrev pub values_size : Definitions → Name → Content → ℕ
values_size definitions relation (Values values) =
    length (tuple_bytes (kinds (fields_in definitions relation)) values)
values_size definitions relation (Tuples tids) = 0

-- how many bytes a tuple takes on its page: its relation's number, its blocks, and its values
abbrev pub body_size : Definitions → Name → Content → ℕ
body_size definitions relation held =
    1 + blocks_size definitions relation + values_size definitions relation held

-- how many bytes the tuple takes that has this identifier, if there is one
abbrev pub held_size : Tables → Name → Tid → ℕ
held_size tables relation tid =
    unwrap_or (option_map (body_size tables.definitions relation)
    (content tables.contents (Tuple relation tid))) 0

-- how many bytes the tuples of a relation take that have an identifier on this page
unfoldable pub bytes_of : Tables → ℕ → Name → ℕ
bytes_of tables page relation =
    sum_by (λ slot. held_size tables relation (record { page = page; slot = slot }))
    (range_with_len 0 page_entries)

-- how many bytes all tuples of a segment take that do
abbrev pub bytes_on : Tables → Name → ℕ → ℕ
bytes_on tables segment page = sum_by (bytes_of tables page) (relations_in tables segment)

-- The tuples whose bodies a change of an item may make new or longer: its own; or the one that comes into the chain, and the chain's parent.
abbrev pub of_relation : Option Name → Option Tid → List (Name × Tid)
of_relation (Some relation) (Some tid) = (relation, tid) ∷ []
of_relation relation tid = []

abbrev pub of_chain : Option LinkDef → Option Tid → Option Tid → List (Name × Tid)
of_chain None parent coming = []
of_chain (Some link) parent coming = of_relation (Some link.child) coming ++ of_relation link.parent parent

-- the tuple that comes into a chain
abbrev pub coming : List Tid → List Tid → Option Tid
coming before after = find (λ tid. not (stands_in tid before)) after

abbrev pub touched : Tables → Tables → Item → List (Name × Tid)
touched before after (Segment name) = []
touched before after (Relation name) = []
touched before after (Tuple relation tid) = (relation, tid) ∷ []
touched before after (Chain link parent) =
    of_chain (map.get after.definitions.links link) parent
    (coming (chain before.contents link parent) (chain after.contents link parent))
touched before after (Key image values) = []

-- the page of an identifier has no room for all tuples of the segment that have one there
abbrev pub is_beyond : Tables → Option Name → ℕ → Bool
is_beyond tables None page = false
is_beyond tables (Some segment) page = nat_lt bodies_room (bytes_on tables segment page)

-- the tuple takes more bytes than before, and its page has no room for all
abbrev pub overfills : Tables → Tables → Name × Tid → Bool
overfills before after tuple =
    nat_lt (held_size before tuple.0 tuple.1) (held_size after tuple.0 tuple.1)
    && is_beyond after (segment_of after tuple.0) tuple.1.page

-- After a change of an item there is at most one overflow page more for each tuple by which a page is overfilled.
abbrev pub MayLead : Tables → Tables → Item → ℕ → ℕ → Type 0
MayLead before after item from to =
    to ≤ from + count_by (overfills before after) (touched before after item)

-- ---- records of the log

-- how many bytes the record of a change has: that of a tuple has the values that it tells, and that of a chain three identifiers
abbrev pub told_size : Definitions → Name → Option Content → ℕ
told_size definitions relation None = 0
told_size definitions relation (Some held) = 2 + values_size definitions relation held

abbrev pub change_size : Definitions → Change → ℕ
change_size definitions change = size_for change.item
  where
    size_for : Item → ℕ
    size_for (Tuple relation tid) =
        12 + told_size definitions relation change.old + told_size definitions relation change.new
    size_for other = 24

abbrev pub restore_size : ℕ
restore_size = 13

-- of an End or an Abort record
abbrev pub end_size : ℕ
end_size = 5

-- by how many transactions it names
abbrev pub checkpoint_size : ℕ → ℕ
checkpoint_size named = 2 + 12 * named

-- how many transactions have changes among these
abbrev pub changers : List Stamp → ℕ
changers [] = 0
changers (stamp ∷ stamps) =
    if list_any (λ other. other.by == stamp.by) stamps then changers stamps else 1 + changers stamps

-- how many bytes are owed: for each change that survives a Restore record, for each transaction that has one an End or Abort record, and the largest Checkpoint record
abbrev pub owed : List Stamp → ℕ
owed stamps = restore_size * length stamps + end_size * changers stamps + largest_checkpoint

-- how many bytes a log of so many pages has room for
abbrev pub free_between : ℕ → ℕ → ℕ → ℕ
free_between log_pages head end = (head / piece_bytes + log_pages + 1) * piece_bytes - 1 - end

abbrev pub log_room : ℕ → Meter → ℕ
log_room log_pages meter = free_between log_pages meter.head meter.end

-- the least position of these, or this one where there is none
abbrev pub least_position : ℕ → List Stamp → ℕ
least_position end [] = end
least_position end (stamp ∷ stamps) = min stamp.at (least_position end stamps)

-- ---- the room number

-- how many pages an image may have, by how many bytes its keys have and how many entries it has
abbrev pub bound_of : ℕ → ℕ → ℕ
bound_of width entries = entries / (node_least width - 1) + 2

-- how many entries it may have: those at the last checkpoint, and as many as changes may add to them
abbrev pub entries_most : Traffic → ℕ
entries_most traffic = traffic.entries + traffic.surviving + 2 * traffic.since

abbrev pub image_pages : ℕ → Traffic → ℕ
image_pages width traffic = bound_of width (entries_most traffic)

abbrev pub pages_of_image : Definitions → Meter → ImageDef → ℕ
pages_of_image definitions meter image =
    image_pages (key_width (key_kinds (fields_in definitions image.relation) image.fields))
    (meter.traffic image.relation)

-- How many slots may be needed: two for each page of the heap, of the images and of the catalog. Each change may take two pages, and a way back from it two more.
abbrev pub room_number : Definitions → Meter → ℕ
room_number definitions meter =
    2 * (meter.heap + 2 * meter.surviving + 4 * meter.since
    + sum_by (pages_of_image definitions meter) (map.values definitions.images) + system_pages)

-- ---- what is done to the meter

-- the change of an item counts for its relation
abbrev pub counts_for : Item → Name → Bool
counts_for item relation = is_tuple_of relation item

-- one change more
abbrev pub with_traffic : Item → (Name → Traffic) → Name → Traffic
with_traffic item traffic relation =
    if counts_for item relation then record { entries = (traffic relation).entries; surviving = (traffic relation).surviving; since = (traffic relation).since + 1 }
    else traffic relation

abbrev pub counted : Definitions → Change → ℕ → Meter → Meter
counted definitions change over meter = record meter {
  since = meter.since + 1;
  traffic = with_traffic change.item meter.traffic;
  stamps = record { by = change.by; at = meter.end } ∷ meter.stamps;
  end = meter.end + change_size definitions change;
  over = over;
}

-- so many bytes more in the log, and these changes survive
abbrev pub with_record : ℕ → List Stamp → ℕ → Meter → Meter
with_record size stamps over meter = record meter { stamps = stamps; end = meter.end + size; over = over }

-- how many changes of a relation's tuples there are among these
abbrev pub changes_of : List Change → Name → ℕ
changes_of changes relation = count_by (λ change. counts_for change.item relation) changes

-- A checkpoint of these tables, with these changes surviving in them. Its record stands in the log from the end on, and the log is kept from the first surviving change on.
abbrev pub checkpointed : ℕ → Tables → List Change → Meter → Meter
checkpointed slots tables changes meter = record {
  heap = heap_pages slots tables + meter.over;
  surviving = length changes;
  since = 0;
  traffic = λ relation. record {
    entries = tuple_count tables.contents relation;
    surviving = changes_of changes relation;
    since = 0;
  };
  stamps = meter.stamps;
  head = least_position meter.end meter.stamps;
  end = meter.end + checkpoint_size (changers meter.stamps);
  over = meter.over;
}

-- the meter where these tables are opened, with so many overflow pages and a log of these positions
abbrev pub at_rest : ℕ → Tables → ℕ → ℕ → ℕ → Meter
at_rest slots tables over head end = record {
  heap = heap_pages slots tables + over;
  surviving = 0;
  since = 0;
  traffic = λ relation. record { entries = tuple_count tables.contents relation; surviving = 0; since = 0 };
  stamps = [];
  head = head;
  end = end;
  over = over;
}
