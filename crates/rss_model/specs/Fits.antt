-- When tables fit: what every store keeps to.
use Rattle.std.specs.Prelude.{◌≡◌, ◌≢◌, ℕ, ◌^◌, ◌<◌, ◌≤◌, Bool, true, List, length, All, Some, None, IfSome, is_some}
use Rattle.std.specs.FinMap as finite
use Rattle.rss_base.specs.Sizes.{page_entries, segments, relations_most, images_most, links_most, roles_most}
use Rattle.rss_base.specs.Names.{IsName, AreApart}
use Rattle.rss_base.specs.TupleTypes.{misfit, AreFields, key_width, most_key_width}
use Rattle.rss_base.specs.declared.name.Name.{Name}
use Rattle.rss_base.specs.declared.tid.Tid.{Tid}
use Rattle.rss_base.specs.declared.value.Value.{Value}
use Rattle.rss_base.specs.declared.item.Item.{Item}
use Rattle.rss_base.specs.declared.item.Item.TheVariants.{Segment, Relation, Tuple, Chain, Key}
use Rattle.rss_base.specs.declared.field.FieldDef.{FieldDef}
use Rattle.rss_base.specs.declared.value.FieldForm.{FieldForm}
use Rattle.rss_model.specs.Items.{Content, Values}
use Rattle.rss_model.specs.Tables.{RelationDef, ImageDef, LinkDef, Definitions, Tables, content, fields_of, fields_in, segment_of, tuple_count}
use Rattle.rss_model.specs.Images.{field_number, key_kinds, KeysFit}
use Rattle.rss_model.specs.Chains.{parts_of, LinksFit}

-- ---- limits

-- a relation has at most so many tuples
abbrev pub tuple_limit : ℕ
tuple_limit = 2 ^ 20

-- ---- definitions

-- the relation's segment is there, and its fields are such as a relation may have
pub record RelationFits (definitions : Definitions) (relation : RelationDef) : Type 0 where
  pub segment : is_some (finite.get definitions.segments relation.segment) ≡ true
  pub fields : AreFields relation.fields

-- the field is one of these
abbrev pub is_field_of : List FieldDef → Name → Bool
is_field_of fields name = is_some (field_number fields name)

-- the image's relation is there, and its fields are some of that, each once, whose keys are not too wide
pub record ImageFits (definitions : Definitions) (image : ImageDef) : Type 0 where
  pub relation : is_some (finite.get definitions.relations image.relation) ≡ true
  pub some : 1 ≤ length image.fields
  pub fields : All (λ name. is_field_of (fields_in definitions image.relation) name ≡ true) image.fields
  pub apart : AreApart image.fields
  pub narrow : key_width (key_kinds (fields_in definitions image.relation) image.fields) ≤ most_key_width

-- the link's relations are there, and they are two
pub record LinkFits (definitions : Definitions) (link : LinkDef) : Type 0 where
  pub child : is_some (finite.get definitions.relations link.child) ≡ true
  pub parent : IfSome link.parent (λ parent. is_some (finite.get definitions.relations parent) ≡ true)
  pub two : IfSome link.parent (λ parent. parent ≢ link.child)

-- the images and the links
pub record PathsFit (definitions : Definitions) : Type 0 where
  pub image_names : (name : Name)
      → is_some (finite.get definitions.images name) ≡ true → IsName name
  pub few_images : finite.len definitions.images ≤ images_most
  pub images : (name : Name) (image : ImageDef)
      → finite.get definitions.images name ≡ Some image → ImageFits definitions image
  pub link_names : (name : Name)
      → is_some (finite.get definitions.links name) ≡ true → IsName name
  pub few_links : finite.len definitions.links ≤ links_most
  pub links : (name : Name) (link : LinkDef)
      → finite.get definitions.links name ≡ Some link → LinkFits definitions link
  pub few_parts : (relation : Name) → parts_of definitions relation ≤ roles_most

pub record DefinitionsFit (definitions : Definitions) : Type 0 where
  pub segment_names : (name : Name)
      → is_some (finite.get definitions.segments name) ≡ true → IsName name
  pub few_segments : finite.len definitions.segments ≤ segments
  pub relation_names : (name : Name)
      → is_some (finite.get definitions.relations name) ≡ true → IsName name
  pub few_relations : finite.len definitions.relations ≤ relations_most
  pub relations : (name : Name) (relation : RelationDef)
      → finite.get definitions.relations name ≡ Some relation → RelationFits definitions relation
  pub paths : PathsFit definitions

-- ---- tuples

-- what an item holds is a tuple that fits these fields
pub record IsTupleOf (tables : Tables) (relation : Name) (held : Content) : Type 0 where
  pub fields : List FieldForm
  pub values : List Value
  pub defined : fields_of tables relation ≡ Some fields
  pub tuple : held ≡ Values values
  pub fit : misfit fields values ≡ None

-- there is a tuple with this identifier
abbrev pub IsLive : Tables → Name → Tid → Type 0
IsLive tables relation tid = is_some (content tables.contents (Tuple relation tid)) ≡ true

-- an identifier of a store of so many slots
pub record IsIdentifier (slots : ℕ) (tid : Tid) : Type 0 where
  pub page : tid.page < slots
  pub slot : tid.slot < page_entries

-- the items that may hold something
abbrev pub HasContent : Item → Type 0
HasContent (Segment name) = ⊥
HasContent (Relation name) = ⊥
HasContent (Tuple relation tid) = Unit {0}
HasContent (Chain link parent) = Unit {0}
HasContent (Key image values) = ⊥

pub record Fits (slots : ℕ) (tables : Tables) : Type 0 where
  pub definitions : DefinitionsFit tables.definitions
  pub tuples : (relation : Name) (tid : Tid) (held : Content)
      → content tables.contents (Tuple relation tid) ≡ Some held → IsTupleOf tables relation held
  pub tids : (relation : Name) (tid : Tid) → IsLive tables relation tid → IsIdentifier slots tid
  -- an identifier is that of one tuple of its segment
  pub alone : (one other : Name) (tid : Tid) → IsLive tables one tid → IsLive tables other tid
      → segment_of tables one ≡ segment_of tables other → one ≡ other
  pub few : (relation : Name) → tuple_count tables.contents relation ≤ tuple_limit
  pub keys : KeysFit tables
  pub links : LinksFit tables
  -- nothing else holds anything
  pub only : (item : Item) → is_some (content tables.contents item) ≡ true → HasContent item
