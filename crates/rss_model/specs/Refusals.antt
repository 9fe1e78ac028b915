-- What a call is refused for: its tests, in their order.
use Rattle.std.specs.Prelude.{ℕ, ◌+◌, ◌&&◌, Bool, true, false, not, nat_le, List, [], ◌∷◌, length, map, Option, Some, None, is_some, is_none, option_map, option_and_then, unwrap_or, Result, count_by}
use Rattle.std.specs.List.{list_any, list_all, range_with_len}
use Rattle.std.specs.FinMap as finite
use Rattle.rss_base.specs.declared.name.Name.{Name}
use Rattle.rss_base.specs.declared.tid.Tid.{Tid}
use Rattle.rss_base.specs.declared.value.Value.{Value}
use Rattle.rss_base.specs.declared.value.FieldForm.{FieldForm}
use Rattle.rss_base.specs.declared.spot.Spot.{Spot}
use Rattle.rss_base.specs.declared.item.Item.{Item}
use Rattle.rss_base.specs.declared.item.Item.TheVariants.{Segment as SegmentItem, Relation as RelationItem, Tuple as TupleItem, Chain as ChainItem, Key as KeyItem}
use Rattle.rss_base.specs.declared.call.Call.{Call}
use Rattle.rss_base.specs.declared.call.Call.TheVariants.{Begin, Save, Restore, End, Abort, Insert, Fetch, Update, Delete, Connect, Disconnect, Parent, OpenRelation, OpenImage, OpenLink, Next, CloseScan, Lock, Checkpoint, MakeSegment, MakeRelation, MakeImage, MakeLink, DropSegment, DropRelation, DropImage, DropLink}
use Rattle.rss_base.specs.declared.answer.Reply.{Reply}
use Rattle.rss_base.specs.declared.refusal.Kind.TheVariants.{Segment as SegmentKind, Relation as RelationKind, Image as ImageKind, Link as LinkKind, Scan as ScanKind}
use Rattle.rss_base.specs.declared.refusal.Refusal.{Refusal}
use Rattle.rss_base.specs.declared.refusal.LimitKind.TheVariants.{Tuples as TupleLimit, Identifiers as IdentifierLimit, Scans as ScanLimit}
use Rattle.rss_base.specs.declared.refusal.Refusal.TheVariants.{NoTransaction, AlreadyOpen, TooMany, NoSuch, Limit, BadTuple, NoTuple, Duplicate, Connected, NotConnected, Busy, NoSave}
use Rattle.rss_base.specs.Sizes.{page_entries}
use Rattle.rss_base.specs.TupleTypes.{misfit}
use Rattle.rss_model.specs.Items.{Content, Values, Tuples}
use Rattle.rss_model.specs.Tables.{ImageDef, LinkDef, content, fields_of, segment_of, tuple_count}
use Rattle.rss_model.specs.Chains.{tuples_in, chain_content, chain, stands_in, chain_with, with_behind, without, left_of, has_spot, connected}
use Rattle.rss_model.specs.Images.{Entry, unique_images, owner_of_key, key_in, key_kinds}
use Rattle.rss_model.specs.Fits.{tuple_limit}
use Rattle.rss_model.specs.Changes.{Change, is_delete_of}
use Rattle.rss_model.specs.Locks.{Bar, first_bar, is_held_by_another}
use Rattle.rss_model.specs.Scans.{Path, RelationPath, ImagePath, LinkPath, scans_most, scan_of}
use Rattle.rss_model.specs.Meter.{relations_in}
pub use Rattle.rss_model.specs.Machine.{is_open}
use Rattle.rss_model.specs.Machine.{State, now}
use Rattle.rss_model.specs.Callers.{caller}
use Rattle.rss_model.specs.Needs.{needs}
use Rattle.rss_model.specs.Rules.{if_no_room, if_no_log_room}
use Rattle.rss_model.specs.Defining.{refused_unless, refused_if, fields_now, is_segment, is_relation, definition_tests}

-- A call is answered by a reply or refused.
abbrev pub Answer : Type 0
Answer = Result Reply Refusal

-- at most so many transactions are open
abbrev pub transaction_limit : ℕ
transaction_limit = 32

abbrev pub misfit_of : Option (List FieldForm) → List Value → Option Refusal
misfit_of None values = None
misfit_of (Some fields) values = option_map BadTuple (misfit fields values)

-- the first refusal that applies
abbrev pub first_of : List (Option Refusal) → Option Refusal
first_of [] = None
first_of (None ∷ rest) = first_of rest
first_of (Some why ∷ rest) = Some why

-- ---- the changes that calls make

-- what a tuple holds is changed
abbrev pub tuple_change : ℕ → Name → Tid → Option (List Value) → Option (List Value) → Change
tuple_change t relation tid old new = record {
  by = t;
  item = TupleItem relation tid;
  old = option_map Values old;
  new = option_map Values new;
}

abbrev pub insertion : ℕ → Name → Tid → List Value → Change
insertion t relation tid values = tuple_change t relation tid None (Some values)

abbrev pub deletion : ℕ → Name → Tid → List Value → Change
deletion t relation tid values = tuple_change t relation tid (Some values) None

abbrev pub replacement : ℕ → Name → Tid → List Value → List Value → Change
replacement t relation tid old new = tuple_change t relation tid (Some old) (Some new)

-- what a chain holds is changed
abbrev pub chain_change : ℕ → Item → List Tid → List Tid → Change
chain_change t item old new = record { by = t; item = item; old = chain_content old; new = chain_content new }

-- a tuple comes behind a spot, or goes out of its chain
abbrev pub connection : State → ℕ → Name → Tid → Option Tid → Spot → Change
connection state t link child parent spot =
    chain_change t (ChainItem link parent) (chain (now state).contents link parent)
    (with_behind (left_of spot (chain (now state).contents link parent)) child
    (chain (now state).contents link parent))

abbrev pub disconnection : State → ℕ → Item → Tid → Change
disconnection state t item child =
    chain_change t item (tuples_in (content (now state).contents item))
    (without child (tuples_in (content (now state).contents item)))

-- the values of a tuple that is there
abbrev pub values_in : Option Content → Option (List Value)
values_in None = None
values_in (Some (Values values)) = Some values
values_in (Some (Tuples tids)) = None

abbrev pub values_at : State → Name → Tid → Option (List Value)
values_at state relation tid = values_in (content (now state).contents (TupleItem relation tid))

-- the first identifier of all; which one a new tuple gets doesn't matter to the rules
abbrev pub first_tid : Tid
first_tid = record { page = 0; slot = 0 }

-- the change that a call is to make, where it finds what it changes
abbrev pub change_of : State → Call → Option Change
change_of state (Insert t relation values) = Some (insertion t relation first_tid values)
change_of state (Update t relation tid values) =
    option_map (λ was. replacement t relation tid was values) (values_at state relation tid)
change_of state (Delete t relation tid) =
    option_map (deletion t relation tid) (values_at state relation tid)
change_of state (Connect t link child parent spot) = Some (connection state t link child parent spot)
change_of state (Disconnect t link child) =
    option_map (λ item. disconnection state t item child) (chain_with (now state).contents link child)
change_of state call = None

-- ---- single tests

abbrev pub unless_open : State → ℕ → Option Refusal
unless_open state t = refused_unless (is_open state t) NoTransaction

abbrev pub unless_defined : State → Name → Option Refusal
unless_defined state relation =
    refused_unless (is_some (fields_of state.base relation)) (NoSuch RelationKind)

-- what a call on a relation is refused for first
abbrev pub admission : State → ℕ → Name → Option Refusal
admission state t relation = first_of (unless_open state t ∷ unless_defined state relation ∷ [])

-- and what one that gives a tuple to it is
abbrev pub value_admission : State → ℕ → Name → List Value → Option Refusal
value_admission state t relation values =
    first_of (unless_open state t ∷ unless_defined state relation
    ∷ misfit_of (fields_of state.base relation) values ∷ [])

-- how many tuples of a relation there are or may come back: those now, and those that an open transaction deleted
abbrev pub used_tuples : State → Name → ℕ
used_tuples state relation =
    tuple_count (now state).contents relation + count_by (is_delete_of relation) state.changes

abbrev pub if_used_up : State → Name → Option Refusal
if_used_up state relation =
    refused_if (nat_le tuple_limit (used_tuples state relation)) (Limit TupleLimit)

-- the relations of a relation's segment
abbrev pub relations_beside : State → Name → List Name
relations_beside state relation =
    unwrap_or (option_map (relations_in state.base) (segment_of state.base relation)) []

-- no tuple of this relation has the identifier, and no other transaction holds one
abbrev pub is_clear : State → ℕ → Tid → Name → Bool
is_clear state t tid relation =
    is_none (content (now state).contents (TupleItem relation tid))
    && not (is_held_by_another state.locks t (TupleItem relation tid))

-- a new tuple of a transaction may have this identifier, as far as what is there goes
abbrev pub is_free : State → ℕ → Name → Tid → Bool
is_free state t relation tid = list_all (is_clear state t tid) (relations_beside state relation)

-- it may have some identifier
unfoldable pub some_free : State → ℕ → Name → Bool
some_free state t relation =
    list_any (λ page. list_any (λ slot. is_free state t relation (record { page = page; slot = slot }))
    (range_with_len 0 page_entries)) (range_with_len 0 state.size.slots)

abbrev pub unless_free : State → ℕ → Name → Option Refusal
unless_free state t relation = refused_unless (some_free state t relation) (Limit IdentifierLimit)

abbrev pub unless_live : State → Name → Tid → Option Refusal
unless_live state relation tid =
    refused_unless (is_some (content (now state).contents (TupleItem relation tid)))
    (NoTuple relation tid)

-- another transaction holds an item of the call's list
abbrev pub busy : Bar → Refusal
busy bar = Busy bar.item bar.holder

abbrev pub if_busy_for : State → ℕ → Call → Option Refusal
if_busy_for state t call = option_map busy (first_bar state.locks t (needs (now state) call))

abbrev pub if_busy : State → Call → Option Refusal
if_busy state call = option_and_then (λ t. if_busy_for state t call) (caller call)

-- a unique image has the key at another tuple
abbrev pub if_owned : State → Option Tid → List Value → Name × ImageDef → Option Refusal
if_owned state but values image =
    option_map (Duplicate image.0)
    (owner_of_key (now state) image.1 but (key_in state.base.definitions image.1 values))

abbrev pub if_duplicate : State → Name → Option Tid → List Value → Option Refusal
if_duplicate state relation but values =
    first_of (map (if_owned state but values) (unique_images state.base.definitions relation))

-- the rules that keep room
abbrev pub if_full : State → Call → Option Refusal
if_full state call = option_and_then (if_no_room state) (change_of state call)

-- ---- tests of links

abbrev pub link_of : State → Name → Option LinkDef
link_of state name = finite.get state.base.definitions.links name

-- a parent is given exactly where the link has parents
abbrev pub is_same : Bool → Bool → Bool
is_same true given = given
is_same false given = not given

abbrev pub has_form : Option LinkDef → Bool → Bool
has_form None given = false
has_form (Some link) given = is_same (is_some link.parent) given

abbrev pub unless_link_form : State → Name → Bool → Option Refusal
unless_link_form state link given = refused_unless (has_form (link_of state link) given) (NoSuch LinkKind)

abbrev pub unless_child : State → Option LinkDef → Tid → Option Refusal
unless_child state None child = None
unless_child state (Some link) child = unless_live state link.child child

-- where the link has parents
abbrev pub unless_live_below : State → Option Name → Option Tid → Option Refusal
unless_live_below state None parent = None
unless_live_below state (Some relation) None = None
unless_live_below state (Some relation) (Some parent) = unless_live state relation parent

abbrev pub unless_parent : State → Option LinkDef → Option Tid → Option Refusal
unless_parent state None parent = None
unless_parent state (Some link) parent = unless_live_below state link.parent parent

abbrev pub is_in_chain : State → Name → Tid → Bool
is_in_chain state link child = is_some (chain_with (now state).contents link child)

abbrev pub unless_spot : State → Name → Option Tid → Spot → Option Refusal
unless_spot state link parent spot =
    refused_unless (has_spot spot (chain (now state).contents link parent)) (NotConnected link)

abbrev pub if_connected : State → Name → Tid → Option Refusal
if_connected state relation tid = option_map Connected (connected (now state) relation tid)

-- ---- tests of scans

abbrev pub if_scans_used_up : State → Option Refusal
if_scans_used_up state = refused_if (nat_le scans_most (finite.len state.scans)) (Limit ScanLimit)

abbrev pub image_of : State → Name → Option ImageDef
image_of state name = finite.get state.base.definitions.images name

-- the key from which a scan of an image begins, where there is one, fits the image's fields
abbrev pub unless_key_fits : State → Option ImageDef → Option (List Value) → Option Refusal
unless_key_fits state None start = None
unless_key_fits state (Some image) None = None
unless_key_fits state (Some image) (Some key) =
    option_map BadTuple (misfit (key_kinds (fields_now state image.relation) image.fields) key)

abbrev pub unless_scan : State → ℕ → ℕ → Option Refusal
unless_scan state t scan = refused_unless (is_some (scan_of state.scans t scan)) (NoSuch ScanKind)

-- what a scan of a chain gave last is still there
abbrev pub unless_in_chain : State → Path → Option Entry → Option Refusal
unless_in_chain state (RelationPath relation) last = None
unless_in_chain state (ImagePath image start) last = None
unless_in_chain state (LinkPath link parent) None = None
unless_in_chain state (LinkPath link parent) (Some given) =
    refused_unless (stands_in given.tid (chain (now state).contents link parent)) (NotConnected link)

abbrev pub unless_lost : State → ℕ → ℕ → Option Refusal
unless_lost state t scan =
    option_and_then (λ open_scan. unless_in_chain state open_scan.path open_scan.last)
    (scan_of state.scans t scan)

-- ---- tests of transactions

-- the save points of an open transaction
abbrev pub saves_of : State → ℕ → ℕ
saves_of state t = unwrap_or (option_map length (finite.get state.marks t)) 0

abbrev pub unless_saved : State → ℕ → ℕ → Option Refusal
unless_saved state t save = refused_unless (nat_le save (saves_of state t)) NoSave

-- what is to be locked is defined
abbrev pub unless_granule : State → Item → Option Refusal
unless_granule state (SegmentItem name) = refused_unless (is_segment state name) (NoSuch SegmentKind)
unless_granule state (RelationItem name) = refused_unless (is_relation state name) (NoSuch RelationKind)
unless_granule state (TupleItem relation tid) = None
unless_granule state (ChainItem link parent) = None
unless_granule state (KeyItem image values) = None

-- ---- the tests of each call

abbrev pub tests : State → Call → List (Option Refusal)
tests state (Begin t) =
    refused_if (is_open state t) AlreadyOpen
    ∷ refused_if (nat_le transaction_limit (finite.len state.marks)) TooMany
    ∷ []
tests state (Save t) = unless_open state t ∷ []
tests state (Restore t save) = unless_open state t ∷ unless_saved state t save ∷ []
tests state (End t) = unless_open state t ∷ []
tests state (Abort t) = unless_open state t ∷ []
tests state (Insert t relation values) =
    unless_open state t
    ∷ unless_defined state relation
    ∷ misfit_of (fields_of state.base relation) values
    ∷ if_used_up state relation
    ∷ unless_free state t relation
    ∷ if_busy state (Insert t relation values)
    ∷ if_duplicate state relation None values
    ∷ if_full state (Insert t relation values)
    ∷ []
tests state (Fetch t relation tid) =
    unless_open state t
    ∷ unless_defined state relation
    ∷ if_busy state (Fetch t relation tid)
    ∷ unless_live state relation tid
    ∷ []
tests state (Update t relation tid values) =
    unless_open state t
    ∷ unless_defined state relation
    ∷ misfit_of (fields_of state.base relation) values
    ∷ if_busy state (Update t relation tid values)
    ∷ unless_live state relation tid
    ∷ if_duplicate state relation (Some tid) values
    ∷ if_full state (Update t relation tid values)
    ∷ []
tests state (Delete t relation tid) =
    unless_open state t
    ∷ unless_defined state relation
    ∷ if_busy state (Delete t relation tid)
    ∷ unless_live state relation tid
    ∷ if_connected state relation tid
    ∷ if_full state (Delete t relation tid)
    ∷ []
tests state (Connect t link child parent spot) =
    unless_open state t
    ∷ unless_link_form state link (is_some parent)
    ∷ if_busy state (Connect t link child parent spot)
    ∷ unless_child state (link_of state link) child
    ∷ unless_parent state (link_of state link) parent
    ∷ refused_if (is_in_chain state link child) (Connected link)
    ∷ unless_spot state link parent spot
    ∷ if_full state (Connect t link child parent spot)
    ∷ []
tests state (Disconnect t link child) =
    unless_open state t
    ∷ refused_unless (is_some (link_of state link)) (NoSuch LinkKind)
    ∷ if_busy state (Disconnect t link child)
    ∷ unless_child state (link_of state link) child
    ∷ refused_unless (is_in_chain state link child) (NotConnected link)
    ∷ if_full state (Disconnect t link child)
    ∷ []
tests state (Parent t link child) =
    unless_open state t
    ∷ unless_link_form state link true
    ∷ if_busy state (Parent t link child)
    ∷ unless_child state (link_of state link) child
    ∷ []
tests state (OpenRelation t relation) =
    unless_open state t
    ∷ unless_defined state relation
    ∷ if_scans_used_up state
    ∷ if_busy state (OpenRelation t relation)
    ∷ []
tests state (OpenImage t image start) =
    unless_open state t
    ∷ refused_unless (is_some (image_of state image)) (NoSuch ImageKind)
    ∷ unless_key_fits state (image_of state image) start
    ∷ if_scans_used_up state
    ∷ if_busy state (OpenImage t image start)
    ∷ []
tests state (OpenLink t link parent) =
    unless_open state t
    ∷ unless_link_form state link (is_some parent)
    ∷ if_scans_used_up state
    ∷ if_busy state (OpenLink t link parent)
    ∷ unless_parent state (link_of state link) parent
    ∷ []
tests state (Next t scan) = unless_open state t ∷ unless_scan state t scan ∷ unless_lost state t scan ∷ []
tests state (CloseScan t scan) = unless_open state t ∷ unless_scan state t scan ∷ []
tests state (Lock t item exclusive) =
    unless_open state t
    ∷ unless_granule state item
    ∷ if_busy state (Lock t item exclusive)
    ∷ []
tests state Checkpoint = if_no_log_room state ∷ []
tests state (MakeSegment name) = definition_tests state (MakeSegment name)
tests state (MakeRelation name segment fields) = definition_tests state (MakeRelation name segment fields)
tests state (MakeImage name relation is_unique fields) =
    definition_tests state (MakeImage name relation is_unique fields)
tests state (MakeLink name parent child) = definition_tests state (MakeLink name parent child)
tests state (DropSegment name) = definition_tests state (DropSegment name)
tests state (DropRelation name) = definition_tests state (DropRelation name)
tests state (DropImage name) = definition_tests state (DropImage name)
tests state (DropLink name) = definition_tests state (DropLink name)

abbrev pub refusal : State → Call → Option Refusal
refusal state call = first_of (tests state call)
