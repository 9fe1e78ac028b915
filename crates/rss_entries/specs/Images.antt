-- The images of a relation, where one of its tuples changes: which tables they show before and after it.
use Rattle.std.specs.Prelude.{◌≡◌, ℕ, ◌<◌, ◌≤◌, true, List, All, Contains, Option, Some, None, option_map, IfSome, is_some}
use Rattle.rss_base.specs.Paged.{Held}
use Rattle.rss_base.specs.TupleTypes.{kinds, misfit, IsStorable}
use Rattle.rss_base.specs.Listings.{Listing, ListingFits, field_numbers, relation_at}
use Rattle.rss_base.specs.declared.key.PageKey.{PageKey}
use Rattle.rss_base.specs.declared.key.Space.TheVariants.{Image as ImageSpace}
use Rattle.rss_base.specs.declared.name.Name.{Name}
use Rattle.rss_base.specs.declared.tid.Tid.{Tid}
use Rattle.rss_base.specs.declared.value.Value.{Value}
use Rattle.rss_base.specs.declared.item.Item.TheVariants.{Tuple as TupleItem}
use Rattle.rss_base.specs.declared.image.ImageEntry.{ImageEntry}
use Rattle.rss_base.specs.declared.relation.RelationEntry.{RelationEntry}
use Rattle.rss_base.specs.Tids.{IsSpelledTid}
use Rattle.rss_image.specs.declared.image.Image.{Image}
use Rattle.rss_model.specs.Items.{Content, Values}
use Rattle.rss_model.specs.Tables.{Tables, content, put}
use Rattle.rss_model.specs.Fits.{IsTupleOf, tuple_limit}
use Rattle.rss_stored.specs.Store.{Defines, AreCounts, IsListedImage, SpellsImage}
use Rattle.rss_entries.specs.Rooms.{width_of}
use Rattle.rss_entries.specs.Moving.{KeyKinds}

-- the image of an entry of the catalog, and the fields of its keys
abbrev pub image_of : ℕ → ImageEntry → RelationEntry → Image
image_of number image relation = record {
  segment = relation.segment;
  number = number;
  width = width_of image relation;
  root = image.root;
  levels = image.levels;
}

abbrev pub key_of : ImageEntry → RelationEntry → KeyKinds
key_of image relation = record { fields = kinds relation.fields; which = field_numbers image }

-- the tables with these values for a tuple, or without it
abbrev pub with_tuple : Tables → Name → Tid → Option (List Value) → Tables
with_tuple tables relation tid next = record tables {
  contents = put tables.contents (TupleItem relation tid) (option_map Values next);
}

-- each tuple is one of its relation
abbrev pub AreTuples : Tables → Type 0
AreTuples tables =
    (relation : Name) (tid : Tid) (held : Content)
    → content tables.contents (TupleItem relation tid) ≡ Some held → IsTupleOf tables relation held

-- A change of a tuple of a relation, by its number: the values that it has before, and after it.
pub record TupleMove : Type 0 where
  pub number : ℕ
  pub relation : RelationEntry
  pub tid : Tid
  pub was : Option (List Value)
  pub next : Option (List Value)

-- the tables after it
abbrev pub after_move : TupleMove → Tables → Tables
after_move move tables = with_tuple tables move.relation.name move.tid move.next

-- The tables are such as are listed, the tuple has its old values in them, and there is room in all images.
pub record CanMove (listing : Listing) (move : TupleMove) (tables : Tables) : Type 0 where
  pub listed : relation_at listing move.number ≡ Some move.relation
  pub fits : ListingFits listing
  pub defines : Defines listing tables.definitions
  pub counts : AreCounts listing tables.contents
  pub tuples : AreTuples tables
  pub storable : (relation : Name) (tid : Tid) (values : List Value)
      → content tables.contents (TupleItem relation tid) ≡ Some (Values values) → All IsStorable values
  pub tids : (relation : Name) (tid : Tid)
      → is_some (content tables.contents (TupleItem relation tid)) ≡ true → IsSpelledTid tid
  pub holds : content tables.contents (TupleItem move.relation.name move.tid) ≡ option_map Values move.was
  pub tid : IsSpelledTid move.tid
  pub fit : IfSome move.next (λ values. misfit (kinds move.relation.fields) values ≡ None)
  pub next_storable : IfSome move.next (All IsStorable)
  pub few : (number : ℕ) (relation : RelationEntry) → relation_at listing number ≡ Some relation → relation.live ≤ tuple_limit

-- The page is one of an image's, which shows the tables after the change where its number is below this one, and else those before it.
pub record IsReachedBelow (k : ℕ) (held : Held) (listing : Listing) (move : TupleMove) (tables : Tables) (key : PageKey) : Type 0 where
  pub number : ℕ
  pub image : ImageEntry
  pub relation : RelationEntry
  pub pages : List ℕ
  pub at : IsListedImage listing number image relation
  pub moved : number < k → SpellsImage held (after_move move tables) number image relation pages
  pub rest : k ≤ number → SpellsImage held tables number image relation pages
  pub segment : key.segment ≡ relation.segment
  pub among : Contains pages key.number

-- The images below a number show the tables after the change, and the others those before it; each page of the space of images is one of theirs.
pub record ShowBelow (k : ℕ) (held : Held) (listing : Listing) (move : TupleMove) (tables : Tables) : Type 0 where
  pub moved : (number : ℕ) (image : ImageEntry) (relation : RelationEntry)
      → IsListedImage listing number image relation → number < k
      → (pages : List ℕ) × SpellsImage held (after_move move tables) number image relation pages
  pub rest : (number : ℕ) (image : ImageEntry) (relation : RelationEntry)
      → IsListedImage listing number image relation → k ≤ number
      → (pages : List ℕ) × SpellsImage held tables number image relation pages
  pub reached : (key : PageKey) → key.space ≡ ImageSpace → is_some (held key) ≡ true
      → IsReachedBelow k held listing move tables key
