-- The locks of each call, in the order in which they are tested.
use Rattle.std.specs.Prelude.{Bool, true, false, List, [], ◌∷◌, ◌++◌, flat_map, Option, Some, None}
use Rattle.std.specs.FinMap as map
use Rattle.rss_base.specs.declared.name.Name.{Name}
use Rattle.rss_base.specs.declared.tid.Tid.{Tid}
use Rattle.rss_base.specs.declared.value.Value.{Value}
use Rattle.rss_base.specs.declared.item.Item.{Item}
use Rattle.rss_base.specs.declared.item.Item.TheVariants.{Segment, Relation, Tuple, Chain, Key}
use Rattle.rss_base.specs.declared.need.Need.{Need}
use Rattle.rss_base.specs.declared.need.Mode.{Mode}
use Rattle.rss_base.specs.declared.need.Mode.TheVariants.{IS, IX, S, X}
use Rattle.rss_base.specs.declared.call.Call.{Call}
use Rattle.rss_base.specs.declared.call.Call.TheVariants.{Insert, Fetch, Update, Delete, Connect, Disconnect, Parent, OpenRelation, OpenImage, OpenLink, Lock}
use Rattle.rss_model.specs.Items.{Content, Values, Tuples, parent_of}
use Rattle.rss_model.specs.Tables.{ImageDef, LinkDef, Tables, content, segment_of}
use Rattle.rss_model.specs.Chains.{chain_with}
use Rattle.rss_model.specs.Images.{unique_images, key_in}

abbrev pub need : Item → Mode → Need
need item mode = record { item = item; mode = mode }

-- ---- parts of lists

-- the segment of a relation
abbrev pub segment_needs : Option Name → Mode → List Need
segment_needs None mode = []
segment_needs (Some segment) mode = need (Segment segment) mode ∷ []

-- a relation, and its segment before it
abbrev pub relation_needs : Tables → Name → Mode → Mode → List Need
relation_needs tables relation coarse mode =
    segment_needs (segment_of tables relation) coarse ++ need (Relation relation) mode ∷ []

-- to read in a relation, or to change it
abbrev pub reading : Tables → Name → List Need
reading tables relation = relation_needs tables relation IS IS

abbrev pub changing : Tables → Name → List Need
changing tables relation = relation_needs tables relation IX IX

-- to read all of a relation
abbrev pub reading_all : Tables → Name → List Need
reading_all tables relation = relation_needs tables relation IS S

-- a tuple that is read, or changed
abbrev pub tuple_read : Tables → Name → Tid → List Need
tuple_read tables relation tid = reading tables relation ++ need (Tuple relation tid) S ∷ []

abbrev pub tuple_changed : Tables → Name → Tid → List Need
tuple_changed tables relation tid = changing tables relation ++ need (Tuple relation tid) X ∷ []

-- the key of values in a unique image
abbrev pub key_need : Tables → List Value → Name × ImageDef → Need
key_need tables values image = need (Key image.0 (key_in tables.definitions image.1 values)) X

-- the keys of some values in each unique image of the relation, one image after another
abbrev pub keys_of_each : Tables → List (List Value) → Name × ImageDef → List Need
keys_of_each tables [] image = []
keys_of_each tables (values ∷ rest) image = key_need tables values image ∷ keys_of_each tables rest image

abbrev pub key_needs : Tables → Name → List (List Value) → List Need
key_needs tables relation all = flat_map (keys_of_each tables all) (unique_images tables.definitions relation)

-- where the tuple is there, the keys of what it holds, and of these values
abbrev pub keys_where_live : Tables → Name → Option Content → List (List Value) → List Need
keys_where_live tables relation None new = []
keys_where_live tables relation (Some (Values values)) new = key_needs tables relation (values ∷ new)
keys_where_live tables relation (Some (Tuples tids)) new = []

abbrev pub tuple_keys : Tables → Name → Tid → List (List Value) → List Need
tuple_keys tables relation tid new =
    keys_where_live tables relation (content tables.contents (Tuple relation tid)) new

-- the chain below a parent, and the parent before it, where the link has parents
abbrev pub chain_needs : Tables → Name → Option Name → Option Tid → List Need
chain_needs tables link None parent = need (Chain link None) X ∷ []
chain_needs tables link (Some relation) None = []
chain_needs tables link (Some relation) (Some parent) =
    tuple_read tables relation parent ++ need (Chain link (Some parent)) X ∷ []

-- the chain that a tuple is in, where it is in one
abbrev pub needs_of_chain : Tables → Name → LinkDef → Option Item → List Need
needs_of_chain tables link definition None = []
needs_of_chain tables link definition (Some item) =
    chain_needs tables link definition.parent (parent_of item)

-- ---- by the definition of a link or an image, where there is one

abbrev pub connect_needs : Tables → Name → Tid → Option Tid → Option LinkDef → List Need
connect_needs tables link child parent None = []
connect_needs tables link child parent (Some definition) =
    tuple_changed tables definition.child child ++ chain_needs tables link definition.parent parent

abbrev pub disconnect_needs : Tables → Name → Tid → Option LinkDef → List Need
disconnect_needs tables link child None = []
disconnect_needs tables link child (Some definition) =
    tuple_changed tables definition.child child
    ++ needs_of_chain tables link definition (chain_with tables.contents link child)

abbrev pub parent_needs : Tables → Tid → Option LinkDef → List Need
parent_needs tables child None = []
parent_needs tables child (Some definition) = tuple_read tables definition.child child

-- the parent of the chain, where the link has parents
abbrev pub upper_needs : Tables → Option Name → Option Tid → List Need
upper_needs tables None parent = []
upper_needs tables (Some relation) None = []
upper_needs tables (Some relation) (Some parent) = tuple_read tables relation parent

abbrev pub link_scan_needs : Tables → Option Tid → Option LinkDef → List Need
link_scan_needs tables parent None = []
link_scan_needs tables parent (Some definition) =
    upper_needs tables definition.parent parent ++ reading_all tables definition.child

abbrev pub image_scan_needs : Tables → Option ImageDef → List Need
image_scan_needs tables None = []
image_scan_needs tables (Some definition) = reading_all tables definition.relation

-- a segment or a relation
abbrev pub lock_needs : Tables → Item → Bool → List Need
lock_needs tables (Segment name) false = need (Segment name) S ∷ []
lock_needs tables (Segment name) true = need (Segment name) X ∷ []
lock_needs tables (Relation name) false = relation_needs tables name IS S
lock_needs tables (Relation name) true = relation_needs tables name IX X
lock_needs tables (Tuple relation tid) exclusive = []
lock_needs tables (Chain link parent) exclusive = []
lock_needs tables (Key image values) exclusive = []

-- ---- the list of each call, over the tables as they are now

abbrev pub needs : Tables → Call → List Need
needs tables (Fetch t relation tid) = tuple_read tables relation tid
needs tables (Insert t relation values) = changing tables relation ++ key_needs tables relation (values ∷ [])
needs tables (Update t relation tid values) =
    tuple_changed tables relation tid ++ tuple_keys tables relation tid (values ∷ [])
needs tables (Delete t relation tid) =
    tuple_changed tables relation tid ++ tuple_keys tables relation tid []
needs tables (Connect t link child parent spot) =
    connect_needs tables link child parent (map.get tables.definitions.links link)
needs tables (Disconnect t link child) =
    disconnect_needs tables link child (map.get tables.definitions.links link)
needs tables (Parent t link child) = parent_needs tables child (map.get tables.definitions.links link)
needs tables (OpenRelation t relation) = reading_all tables relation
needs tables (OpenImage t image start) = image_scan_needs tables (map.get tables.definitions.images image)
needs tables (OpenLink t link parent) =
    link_scan_needs tables parent (map.get tables.definitions.links link)
needs tables (Lock t item exclusive) = lock_needs tables item exclusive
needs tables call = []
