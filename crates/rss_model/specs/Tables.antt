-- Tables: what is defined, and what the items hold.
use Rattle.std.specs.Prelude.{ℕ, Bool, List, [], Option, Some, None, option_map, unwrap_or, ⊤}
use Rattle.std.specs.FinMap as map
use Rattle.std.specs.FinMap.{FinMap}
use Rattle.rss_base.specs.declared.name.Name.{Name}
use Rattle.rss_base.specs.declared.item.Item.{Item}
use Rattle.rss_base.specs.declared.field.FieldDef.{FieldDef}
use Rattle.rss_base.specs.declared.value.FieldForm.{FieldForm}
use Rattle.rss_base.specs.TupleTypes.{kinds}
use Rattle.rss_model.specs.Items.{Content, item_cmp, name_cmp}
pub use Rattle.rss_model.specs.Items.{is_tuple_of}

-- ---- what is defined

-- a relation: the segment that its tuples stand in, and its fields
pub record RelationDef : Type 0 where
  pub segment : Name
  pub fields : List FieldDef

-- an image: an order of a relation's tuples by some of its fields, which may be unique
pub record ImageDef : Type 0 where
  pub relation : Name
  pub is_unique : Bool
  pub fields : List Name

-- A link: chains of tuples of one relation, each under a tuple of another where there is a parent. A late one takes room in a tuple only while it says something of it.
pub record LinkDef : Type 0 where
  pub parent : Option Name
  pub child : Name
  pub late : Bool

-- of each kind, what is defined by its name
pub record Definitions : Type 0 where
  pub segments : FinMap name_cmp ⊤
  pub relations : FinMap name_cmp RelationDef
  pub images : FinMap name_cmp ImageDef
  pub links : FinMap name_cmp LinkDef

-- ---- what the items hold

-- from items to what they hold
abbrev pub Contents : Type 0
Contents = FinMap item_cmp Content

-- what an item holds; an item that is not in the map is absent
abbrev pub content : Contents → Item → Option Content
content contents item = map.get contents item

-- the item holds this, and every other what it held
unfoldable pub put : Contents → Item → Option Content → Contents
put contents item None = map.remove contents item
put contents item (Some held) = map.insert contents item held

-- ---- tables

pub record Tables : Type 0 where
  pub definitions : Definitions
  pub contents : Contents

-- tables in which nothing is defined
abbrev pub no_tables : Tables
no_tables = record {
  definitions = record {
    segments = map.empty;
    relations = map.empty;
    images = map.empty;
    links = map.empty;
  };
  contents = map.empty;
}

-- the fields of a relation, and its segment, where there is one of this name
abbrev pub fields_of : Tables → Name → Option (List FieldForm)
fields_of tables name =
    option_map (λ relation. kinds relation.fields) (map.get tables.definitions.relations name)

-- the same with the fields' names, of which there are none where nothing is defined
abbrev pub fields_in : Definitions → Name → List FieldDef
fields_in definitions name =
    unwrap_or (option_map (λ relation. relation.fields) (map.get definitions.relations name)) []

abbrev pub segment_of : Tables → Name → Option Name
segment_of tables name =
    option_map (λ relation. relation.segment) (map.get tables.definitions.relations name)

-- how many tuples a relation has
unfoldable pub tuple_count : Contents → Name → ℕ
tuple_count contents relation = map.len (map.retain_keys contents (is_tuple_of relation))
