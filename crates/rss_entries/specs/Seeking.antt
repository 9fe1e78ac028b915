-- What an image tells of the tables that it shows: a key's owner, and the next entry.
use Rattle.std.specs.Prelude.{◌≡◌, ℕ, true, List, replicate, All, Option, Some, None, option_map, IfSome, is_some}
use Rattle.rss_base.specs.Paged.{Held}
use Rattle.rss_base.specs.TupleTypes.{kinds, chosen, misfit, key_bytes, IsStorable, Spells}
use Rattle.rss_base.specs.Listings.{Listing, ListingFits, field_numbers}
use Rattle.rss_base.specs.declared.name.Name.{Name}
use Rattle.rss_base.specs.declared.tid.Tid.{Tid}
use Rattle.rss_base.specs.declared.value.Value.{Value}
use Rattle.rss_base.specs.declared.value.FieldForm.{FieldForm}
use Rattle.rss_base.specs.declared.item.Item.TheVariants.{Tuple as TupleItem}
use Rattle.rss_base.specs.declared.image.ImageEntry.{ImageEntry}
use Rattle.rss_base.specs.declared.relation.RelationEntry.{RelationEntry}
use Rattle.rss_base.specs.Tids.{IsSpelledTid}
use Rattle.rss_image.specs.declared.image.Image.{Image}
use Rattle.rss_model.specs.Items.{Values}
use Rattle.rss_model.specs.Tables.{ImageDef, Tables, content}
use Rattle.rss_model.specs.Images.{Entry, HasKey, image_list, key_in, next_entry, owner_of_key}
use Rattle.rss_stored.specs.Store.{Defines, IsListedImage, SpellsImage, image_definition}
use Rattle.rss_entries.specs.Rooms.{width_of}
use Rattle.rss_entries.specs.Moving.{KeyKinds}
use Rattle.rss_entries.specs.Images.{AreTuples, image_of, key_of}

-- The image shows these tables, whose values and identifiers can be spelled.
pub record ShowsImage (held : Held) (listing : Listing) (tables : Tables) (number : ℕ) (image : ImageEntry) (relation : RelationEntry) : Type 0 where
  pub at : IsListedImage listing number image relation
  pub fits : ListingFits listing
  pub defines : Defines listing tables.definitions
  pub tuples : AreTuples tables
  pub storable : (relation : Name) (tid : Tid) (values : List Value)
      → content tables.contents (TupleItem relation tid) ≡ Some (Values values) → All IsStorable values
  pub tids : (relation : Name) (tid : Tid)
      → is_some (content tables.contents (TupleItem relation tid)) ≡ true → IsSpelledTid tid
  pub pages : List ℕ
  pub spells : SpellsImage held tables number image relation pages

-- ---- a key's owner

-- no two tuples have one key
abbrev pub AreSingle : Tables → ImageDef → Type 0
AreSingle tables image =
    (one other : Tid) (key : List Value)
    → HasKey tables image one key → HasKey tables image other key → one ≡ other

-- In each image that shows tables in which its keys are single, this is the owner of the key of the values that the bytes spell.
abbrev pub IsOwnerIn : Image → Held → KeyKinds → List ℕ → Option Tid → Option Tid → Type 0
IsOwnerIn image held key bytes own found =
    (listing : Listing) (tables : Tables) (number : ℕ) (entry : ImageEntry) (relation : RelationEntry)
    → ShowsImage held listing tables number entry relation
    → image ≡ image_of number entry relation → key ≡ key_of entry relation
    → AreSingle tables (image_definition entry relation)
    → (values : List Value) → Spells (kinds relation.fields) bytes values
    → found ≡ owner_of_key tables (image_definition entry relation) own
    (key_in tables.definitions (image_definition entry relation) values)

-- ---- the next entry

-- the kinds of the fields of an image's keys
abbrev pub kinds_in : ImageEntry → RelationEntry → List FieldForm
kinds_in image relation = kinds (chosen (field_numbers image) relation.fields)

-- an image's tuples may have the key
pub record IsKeyIn (image : ImageEntry) (relation : RelationEntry) (key : List Value) : Type 0 where
  pub fit : misfit (kinds_in image relation) key ≡ None
  pub storable : All IsStorable key

-- a tuple may have the entry
pub record IsEntryIn (image : ImageEntry) (relation : RelationEntry) (given : Entry) : Type 0 where
  pub key : IsKeyIn image relation given.key
  pub tid : IsSpelledTid given.tid

-- The bytes that a scan starts at: those of its key, or zeros where it has none, which are at or below each key.
abbrev pub start_bytes : ImageEntry → RelationEntry → Option (List Value) → List ℕ
start_bytes image relation None = replicate (width_of image relation) 0
start_bytes image relation (Some key) = key_bytes (kinds_in image relation) key

-- an entry as a scan keeps it
abbrev pub kept_pair : ImageEntry → RelationEntry → Entry → List ℕ × Tid
kept_pair image relation given = (key_bytes (kinds_in image relation) given.key, given.tid)

-- In each image that shows tables, the pair is the next entry's behind the one that was given last, for a scan that starts at these bytes.
abbrev pub IsNextIn : Image → Held → List ℕ → Option (List ℕ × Tid) → Option (List ℕ × Tid) → Type 0
IsNextIn image held start last found =
    (listing : Listing) (tables : Tables) (number : ℕ) (entry : ImageEntry) (relation : RelationEntry)
    → ShowsImage held listing tables number entry relation
    → image ≡ image_of number entry relation
    → (from : Option (List Value)) → IfSome from (IsKeyIn entry relation) → start ≡ start_bytes entry relation from
    → (given : Option Entry) → IfSome given (IsEntryIn entry relation) → last ≡ option_map (kept_pair entry relation) given
    → found ≡ option_map (kept_pair entry relation)
    (next_entry from given (image_list tables (image_definition entry relation)))
