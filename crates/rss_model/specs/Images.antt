-- Images: a relation's tuples in the order of a key.
use Rattle.std.specs.Prelude.{◌≡◌, ℕ, ◌+◌, Bool, true, false, not, ◌&&◌, if◌then◌else◌, List, [], ◌∷◌, slice_get, filter, filter_map, find, flat_map, Option, Some, None, option_and_then, ⊤}
use Rattle.std.specs.Ordering.{is_eq, is_ge, is_gt, ordering_then}
use Rattle.std.specs.FinMap as map
use Rattle.std.specs.declared.cmp.Ordering.{Ordering}
use Rattle.rss_base.specs.TupleTypes.{kinds, chosen, values_cmp}
use Rattle.rss_base.specs.Trees.{tid_cmp}
use Rattle.rss_base.specs.Prefixes.{is_tid}
use Rattle.rss_base.specs.declared.name.Name.{Name}
use Rattle.rss_base.specs.declared.tid.Tid.{Tid}
use Rattle.rss_base.specs.declared.value.Value.{Value}
use Rattle.rss_base.specs.declared.value.FieldForm.{FieldForm}
use Rattle.rss_base.specs.declared.field.FieldDef.{FieldDef}
use Rattle.rss_base.specs.declared.item.Item.{Item}
use Rattle.rss_base.specs.declared.item.Item.TheVariants.{Segment, Relation, Tuple, Chain, Key}
use Rattle.rss_model.specs.Items.{Content, Values, Tuples, is_name}
use Rattle.rss_model.specs.Tables.{ImageDef, Definitions, Tables, content, fields_in}

-- ---- keys

-- the number of the field with a name, counted from 1
abbrev pub number_from : ℕ → List FieldDef → Name → Option ℕ
number_from k [] name = None
number_from k (field ∷ fields) name =
    if is_name name field.name then Some k else number_from (k + 1) fields name

abbrev pub field_number : List FieldDef → Name → Option ℕ
field_number fields name = number_from 1 fields name

abbrev pub numbers_of : List FieldDef → List Name → List ℕ
numbers_of fields names = filter_map (field_number fields) names

-- the values of these fields of a tuple
abbrev pub key_of : List FieldDef → List Name → List Value → List Value
key_of fields names values = chosen (numbers_of fields names) values

-- the kinds of these fields
abbrev pub key_kinds : List FieldDef → List Name → List FieldForm
key_kinds fields names = kinds (chosen (numbers_of fields names) fields)

-- ---- entries

-- a key, and the tuple that has it
pub record Entry : Type 0 where
  pub key : List Value
  pub tid : Tid

-- by the key, and then by the identifier
abbrev pub entry_cmp : Entry → Entry → Ordering
entry_cmp a b = ordering_then (values_cmp a.key b.key) (tid_cmp a.tid b.tid)

abbrev pub entry : List Value → Tid → Entry
entry key tid = record { key = key; tid = tid }

-- the entry of what an item holds, where it is a tuple of the relation
abbrev pub entry_of : Name → List FieldDef → List Name → Item → Content → List (Entry × ⊤)
entry_of relation fields names (Segment name) held = []
entry_of relation fields names (Relation name) held = []
entry_of relation fields names (Tuple name tid) (Tuples tids) = []
entry_of relation fields names (Tuple name tid) (Values values) =
    if is_name relation name then (entry (key_of fields names values) tid, tt) ∷ [] else []
entry_of relation fields names (Chain link parent) held = []
entry_of relation fields names (Key image values) held = []

-- the tuples of a relation, by the values of these fields and their identifiers
abbrev pub entries_by : Tables → Name → List Name → List Entry
entries_by tables relation names =
    map.keys (map.from_entries {R = entry_cmp}
    (flat_map (λ held. entry_of relation (fields_in tables.definitions relation) names held.0 held.1)
    (map.entries tables.contents)))

-- the list of an image: of its relation, by its fields
abbrev pub image_list : Tables → ImageDef → List Entry
image_list tables image = entries_by tables image.relation image.fields

-- the list of a relation, by the identifiers alone
abbrev pub relation_list : Tables → Name → List Entry
relation_list tables relation = entries_by tables relation []

-- ---- unique images

-- the unique images of a relation, in the order of their names
abbrev pub unique_images : Definitions → Name → List (Name × ImageDef)
unique_images definitions relation =
    filter (λ image. image.1.is_unique && is_name relation image.1.relation) (map.entries definitions.images)

abbrev pub is_key : List Value → List Value → Bool
is_key a b = is_eq (values_cmp a b)

-- the tuple is another one than this
abbrev pub is_other : Option Tid → Tid → Bool
is_other None tid = true
is_other (Some one) tid = not (is_tid one tid)

-- what an item holds is a tuple of the relation with this key, and not this one tuple
abbrev pub has_key : Name → List FieldDef → List Name → List Value → Option Tid → Item × Content → Bool
has_key relation fields names key but (Segment name, held) = false
has_key relation fields names key but (Relation name, held) = false
has_key relation fields names key but (Tuple name tid, Tuples tids) = false
has_key relation fields names key but (Tuple name tid, Values values) =
    is_name relation name && is_key (key_of fields names values) key && is_other but tid
has_key relation fields names key but (Chain link parent, held) = false
has_key relation fields names key but (Key image values, held) = false

-- the identifier of an item, where it is a tuple
abbrev pub tid_of : Item → Option Tid
tid_of (Segment name) = None
tid_of (Relation name) = None
tid_of (Tuple relation tid) = Some tid
tid_of (Chain link parent) = None
tid_of (Key image values) = None

-- the tuple that has a key in an image, but for this one
unfoldable pub owner_of_key : Tables → ImageDef → Option Tid → List Value → Option Tid
owner_of_key tables image but key =
    option_and_then (λ held. tid_of held.0)
    (find (has_key image.relation (fields_in tables.definitions image.relation) image.fields key but)
    (map.entries tables.contents))

-- the key of these values in an image of the relation
abbrev pub key_in : Definitions → ImageDef → List Value → List Value
key_in definitions image values = key_of (fields_in definitions image.relation) image.fields values

-- the first pair of a list whose key is that of the pair before it
abbrev pub repeated_behind : List Value → List Entry → Option Tid
repeated_behind key [] = None
repeated_behind key (e ∷ entries) = if is_key key e.key then Some e.tid else repeated_behind e.key entries

abbrev pub repeated : List Entry → Option Tid
repeated [] = None
repeated (e ∷ entries) = repeated_behind e.key entries

-- this tuple of a relation has this key in an image
pub record HasKey (tables : Tables) (image : ImageDef) (tid : Tid) (key : List Value) : Type 0 where
  pub values : List Value
  pub there : content tables.contents (Tuple image.relation tid) ≡ Some (Values values)
  pub is : is_key (key_in tables.definitions image values) key ≡ true

-- no unique image has two equal keys
abbrev pub KeysFit : Tables → Type 0
KeysFit tables =
    (name : Name) (image : ImageDef) (one other : Tid) (key : List Value)
    → map.get tables.definitions.images name ≡ Some image → image.is_unique ≡ true
    → HasKey tables image one key → HasKey tables image other key → one ≡ other

-- ---- the way along a list

-- the first entry above another one, or the first whose key is at or above a key where there is none
abbrev pub next_entry : Option (List Value) → Option Entry → List Entry → Option Entry
next_entry None None entries = slice_get entries 0
next_entry (Some key) None entries = find (λ e. is_ge (values_cmp e.key key)) entries
next_entry start (Some given) entries = find (λ e. is_gt (entry_cmp e given)) entries
