-- The calls that define, and those that take a definition away: what they do, and what they are refused for.
use Rattle.std.specs.Prelude.{ℕ, map as list_map, ◌||◌, Bool, true, false, if◌then◌else◌, nat_le, List, [], ◌∷◌, length, Option, Some, None, is_some, option_map, slice_get, All, ⊤}
use Rattle.std.specs.List.{list_any, list_all}
use Rattle.std.specs.Ordering.{eq_by_cmp}
use Rattle.std.specs.FinMap as map
use Rattle.rss_base.specs.Sizes.{segments, relations_most, images_most, links_most, roles_most}
use Rattle.rss_base.specs.Names.{IsName}
use Rattle.rss_base.specs.TupleTypes.{as_original, kinds, width, most_width, key_width, most_key_width, are_kinds, field_names}
use Rattle.rss_base.specs.declared.name.Name.{Name}
use Rattle.rss_base.specs.declared.field.FieldDef.{FieldDef}
use Rattle.rss_base.specs.declared.item.Item.{Item}
use Rattle.rss_base.specs.declared.item.Item.TheVariants.{Segment as SegmentItem, Relation as RelationItem, Tuple as TupleItem, Chain as ChainItem, Key as KeyItem}
use Rattle.rss_base.specs.declared.call.Call.{Call}
use Rattle.rss_base.specs.declared.call.Call.TheVariants.{Lock, MakeSegment, MakeRelation, MakeImage, MakeLink, DropSegment, DropRelation, DropImage, DropLink}
use Rattle.rss_base.specs.declared.refusal.Kind.TheVariants.{Segment as SegmentKind, Relation as RelationKind, Image as ImageKind, Link as LinkKind, Field as FieldKind}
use Rattle.rss_base.specs.declared.refusal.LimitKind.TheVariants.{Segments as SegmentLimit, Relations as RelationLimit, Images as ImageLimit, Links as LinkLimit, Fields as FieldLimit, Width as WidthLimit, KeyWidth as KeyWidthLimit, Roles as RoleLimit}
use Rattle.rss_base.specs.declared.refusal.Refusal.{Refusal}
use Rattle.rss_base.specs.declared.refusal.Refusal.TheVariants.{NoSuch, NameTaken, Limit, Duplicate, NotEmpty, TransactionsOpen}
use Rattle.rss_model.specs.Items.{name_cmp}
use Rattle.rss_model.specs.Tables.{RelationDef, ImageDef, LinkDef, Definitions, Tables, fields_in, tuple_count}
use Rattle.rss_model.specs.Images.{image_list, repeated, key_kinds}
use Rattle.rss_model.specs.Chains.{parts_of}
use Rattle.rss_model.specs.Fits.{is_field_of}
use Rattle.rss_model.specs.Meter.{relations_in}
use Rattle.rss_model.specs.Machine.{State}
use Rattle.rss_model.specs.Rules.{if_no_room_for}

-- ---- what they do

-- the tables with other definitions
abbrev pub with_definitions : Definitions → Tables → Tables
with_definitions definitions tables = record tables { definitions = definitions }

-- the fields of a relation as it is made: none was added to it
abbrev pub originals : List FieldDef → List FieldDef
originals fields = list_map as_original fields

-- a relation, an image and a link as they are made
abbrev pub relation_def : Name → List FieldDef → RelationDef
relation_def segment fields = record { segment = segment; fields = originals fields }

abbrev pub image_def : Name → Bool → List Name → ImageDef
image_def relation is_unique fields = record { relation = relation; is_unique = is_unique; fields = fields }

abbrev pub link_def : Option Name → Name → LinkDef
link_def parent child = record { parent = parent; child = child; late = false }

abbrev pub with_image : Definitions → Name → ImageDef → Definitions
with_image definitions name image =
    record definitions { images = map.insert definitions.images name image }

-- the committed tables after a call, where it is one that defines
abbrev pub defined : Call → Tables → Option Tables
defined (MakeSegment name) tables =
    Some (with_definitions (record tables.definitions {
      segments = map.insert tables.definitions.segments name tt;
    }) tables)
defined (MakeRelation name segment fields) tables =
    Some (with_definitions (record tables.definitions {
      relations = map.insert tables.definitions.relations name (relation_def segment fields);
    }) tables)
defined (MakeImage name relation is_unique fields) tables =
    Some (with_definitions (with_image tables.definitions name (image_def relation is_unique fields)) tables)
defined (MakeLink name parent child) tables =
    Some (with_definitions (record tables.definitions {
      links = map.insert tables.definitions.links name (link_def parent child);
    }) tables)
defined (DropSegment name) tables =
    Some (with_definitions (record tables.definitions {
      segments = map.remove tables.definitions.segments name;
    }) tables)
defined (DropRelation name) tables =
    Some (with_definitions (record tables.definitions {
      relations = map.remove tables.definitions.relations name;
    }) tables)
defined (DropImage name) tables =
    Some (with_definitions (record tables.definitions {
      images = map.remove tables.definitions.images name;
    }) tables)
defined (DropLink name) tables =
    Some (with_definitions (record tables.definitions {
      links = map.remove tables.definitions.links name;
    }) tables)
defined call tables = None

-- ---- what a caller sees to

-- the names that a call is to define are names
abbrev pub DefinesNames : Call → Type 0
DefinesNames (MakeSegment name) = IsName name
DefinesNames (MakeRelation name segment fields) = IsName name × All IsName (field_names fields)
DefinesNames (MakeImage name relation is_unique fields) = IsName name
DefinesNames (MakeLink name parent child) = IsName name
DefinesNames call = ⊤

-- an item that a caller may lock
abbrev pub IsGranule : Item → Type 0
IsGranule (SegmentItem name) = ⊤
IsGranule (RelationItem name) = ⊤
IsGranule (TupleItem relation tid) = ⊥
IsGranule (ChainItem link parent) = ⊥
IsGranule (KeyItem image values) = ⊥

-- what a call is to lock is a segment or a relation
abbrev pub LocksGranule : Call → Type 0
LocksGranule (Lock t item exclusive) = IsGranule item
LocksGranule call = ⊤

-- ---- what they are refused for

-- The tests of a call, each with its refusal where it fails.
abbrev pub refused_unless : Bool → Refusal → Option Refusal
refused_unless holds why = if holds then None else Some why

abbrev pub refused_if : Bool → Refusal → Option Refusal
refused_if holds why = if holds then Some why else None

-- the least of the open transactions
abbrev pub least_open : State → Option ℕ
least_open state = slice_get (map.keys state.marks) 0

abbrev pub if_any_open : State → Option Refusal
if_any_open state = option_map TransactionsOpen (least_open state)

abbrev pub is_segment : State → Name → Bool
is_segment state name = is_some (map.get state.base.definitions.segments name)

abbrev pub is_relation : State → Name → Bool
is_relation state name = is_some (map.get state.base.definitions.relations name)

abbrev pub unless_segment : State → Name → Option Refusal
unless_segment state name = refused_unless (is_segment state name) (NoSuch SegmentKind)

abbrev pub unless_relation : State → Name → Option Refusal
unless_relation state name = refused_unless (is_relation state name) (NoSuch RelationKind)

-- a name stands twice
abbrev pub has_twice : List Name → Bool
has_twice [] = false
has_twice (name ∷ names) = list_any (eq_by_cmp name_cmp name) names || has_twice names

abbrev pub if_segments_used_up : State → Option Refusal
if_segments_used_up state =
    refused_if (nat_le segments (map.len state.base.definitions.segments)) (Limit SegmentLimit)

abbrev pub if_relations_used_up : State → Option Refusal
if_relations_used_up state =
    refused_if (nat_le relations_most (map.len state.base.definitions.relations)) (Limit RelationLimit)

abbrev pub is_image : State → Name → Bool
is_image state name = is_some (map.get state.base.definitions.images name)

abbrev pub is_link : State → Name → Bool
is_link state name = is_some (map.get state.base.definitions.links name)

abbrev pub unless_image : State → Name → Option Refusal
unless_image state name = refused_unless (is_image state name) (NoSuch ImageKind)

abbrev pub unless_link : State → Name → Option Refusal
unless_link state name = refused_unless (is_link state name) (NoSuch LinkKind)

abbrev pub if_images_used_up : State → Option Refusal
if_images_used_up state =
    refused_if (nat_le images_most (map.len state.base.definitions.images)) (Limit ImageLimit)

abbrev pub if_links_used_up : State → Option Refusal
if_links_used_up state =
    refused_if (nat_le links_most (map.len state.base.definitions.links)) (Limit LinkLimit)

-- ---- images

-- the fields of a relation
abbrev pub fields_now : State → Name → List FieldDef
fields_now state relation = fields_in state.base.definitions relation

abbrev pub unless_fields : State → Name → List Name → Option Refusal
unless_fields state relation names =
    refused_unless (list_all (is_field_of (fields_now state relation)) names) (NoSuch FieldKind)

abbrev pub unless_narrow : State → Name → List Name → Option Refusal
unless_narrow state relation names =
    refused_unless (nat_le (key_width (key_kinds (fields_now state relation) names)) most_key_width)
    (Limit KeyWidthLimit)

-- a unique image would have two equal keys
abbrev pub if_repeated : State → Name → Bool → ImageDef → Option Refusal
if_repeated state name false image = None
if_repeated state name true image = option_map (Duplicate name) (repeated (image_list state.base image))

-- an image of a relation
abbrev pub is_image_of : Name → ImageDef → Bool
is_image_of relation image = eq_by_cmp name_cmp relation image.relation

abbrev pub has_image : State → Name → Bool
has_image state relation = list_any (is_image_of relation) (map.values state.base.definitions.images)

-- ---- links

-- the relations that a link names
abbrev pub relations_of_link : Option Name → Name → List Name
relations_of_link None child = child ∷ []
relations_of_link (Some parent) child = parent ∷ child ∷ []

abbrev pub unless_relations : State → List Name → Option Refusal
unless_relations state names = refused_unless (list_all (is_relation state) names) (NoSuch RelationKind)

abbrev pub is_in_most_links : State → Name → Bool
is_in_most_links state relation = nat_le roles_most (parts_of state.base.definitions relation)

abbrev pub holds_tuples : State → Name → Bool
holds_tuples state relation = nat_le 1 (tuple_count state.base.contents relation)

abbrev pub if_any_holds_tuples : State → List Name → Option Refusal
if_any_holds_tuples state names = refused_if (list_any (holds_tuples state) names) NotEmpty

-- one of the relations of a link that is there holds a tuple
abbrev pub if_link_holds_tuples : State → Option LinkDef → Option Refusal
if_link_holds_tuples state None = None
if_link_holds_tuples state (Some link) =
    if_any_holds_tuples state (relations_of_link link.parent link.child)

abbrev pub has_link : State → Name → Bool
has_link state relation = nat_le 1 (parts_of state.base.definitions relation)

-- ---- the tests of each call, in their order

abbrev pub image_tests : State → Name → Name → Bool → List Name → List (Option Refusal)
image_tests state name relation is_unique fields =
    if_any_open state
    ∷ unless_relation state relation
    ∷ unless_fields state relation fields
    ∷ refused_if (is_image state name || has_twice fields) NameTaken
    ∷ if_images_used_up state
    ∷ refused_unless (nat_le 1 (length fields)) (Limit FieldLimit)
    ∷ unless_narrow state relation fields
    ∷ if_repeated state name is_unique (image_def relation is_unique fields)
    ∷ if_no_room_for state (with_image state.base.definitions name (image_def relation is_unique fields))
    ∷ []

abbrev pub link_tests : State → Name → Option Name → Name → List (Option Refusal)
link_tests state name parent child =
    if_any_open state
    ∷ unless_relations state (relations_of_link parent child)
    ∷ refused_if (is_link state name || has_twice (relations_of_link parent child)) NameTaken
    ∷ if_links_used_up state
    ∷ refused_if (list_any (is_in_most_links state) (relations_of_link parent child)) (Limit RoleLimit)
    ∷ if_any_holds_tuples state (relations_of_link parent child)
    ∷ []

abbrev pub definition_tests : State → Call → List (Option Refusal)
definition_tests state (MakeSegment name) =
    if_any_open state
    ∷ refused_if (is_segment state name) NameTaken
    ∷ if_segments_used_up state
    ∷ []
definition_tests state (MakeRelation name segment fields) =
    if_any_open state
    ∷ unless_segment state segment
    ∷ refused_if (is_relation state name || has_twice (field_names fields)) NameTaken
    ∷ if_relations_used_up state
    ∷ refused_unless (are_kinds (kinds (originals fields))) (Limit FieldLimit)
    ∷ refused_unless (nat_le (width (kinds (originals fields))) most_width) (Limit WidthLimit)
    ∷ []
definition_tests state (DropSegment name) =
    if_any_open state
    ∷ unless_segment state name
    ∷ refused_if (nat_le 1 (length (relations_in state.base name))) NotEmpty
    ∷ []
definition_tests state (MakeImage name relation is_unique fields) =
    image_tests state name relation is_unique fields
definition_tests state (MakeLink name parent child) = link_tests state name parent child
definition_tests state (DropRelation name) =
    if_any_open state
    ∷ unless_relation state name
    ∷ refused_if (holds_tuples state name || has_image state name || has_link state name) NotEmpty
    ∷ []
definition_tests state (DropImage name) = if_any_open state ∷ unless_image state name ∷ []
definition_tests state (DropLink name) =
    if_any_open state
    ∷ unless_link state name
    ∷ if_link_holds_tuples state (map.get state.base.definitions.links name)
    ∷ []
definition_tests state call = []
