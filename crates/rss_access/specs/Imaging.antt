-- What a look into an image finds.
use Rattle.std.specs.Prelude.{◌≡◌, ℕ, true, List, length, Option, option_map, IfSome}
use Rattle.rss_base.specs.DiskRule.{IsTold}
use Rattle.rss_base.specs.Listings.{Listing}
use Rattle.rss_base.specs.TupleTypes.{kinds, Spells}
use Rattle.rss_base.specs.declared.image.ImageEntry.{ImageEntry}
use Rattle.rss_base.specs.declared.relation.RelationEntry.{RelationEntry}
use Rattle.rss_base.specs.declared.tid.Tid.{Tid}
use Rattle.rss_base.specs.declared.value.Value.{Value}
use Rattle.rss_model.specs.Tables.{Tables}
use Rattle.rss_model.specs.Images.{Entry, image_list, key_in, next_entry, owner_of_key}
use Rattle.rss_model.specs.Fits.{Fits}
use Rattle.rss_stored.specs.Store.{SpellsTables, IsListedImage, image_definition}
use Rattle.rss_entries.specs.Rooms.{width_of}
use Rattle.rss_entries.specs.Seeking.{IsKeyIn, IsEntryIn, start_bytes, kept_pair}
use Rattle.rss_access.specs.Changes.{AccessView}

-- an image of this number is listed, and its relation
pub record ListsImage (listing : Listing) (number : ℕ) : Type 0 where
  pub image : ImageEntry
  pub relation : RelationEntry
  pub at : IsListedImage listing number image relation

-- the tuple that has in these tables the key of these values, other than `own`, where the image is unique
abbrev pub IsOwner : Tables → Listing → ℕ → List ℕ → Option Tid → Option Tid → Type 0
IsOwner tables listing number bytes own found =
    (image : ImageEntry) (relation : RelationEntry)
    → IsListedImage listing number image relation → image.is_unique ≡ true
    → (values : List Value) → Spells (kinds relation.fields) bytes values
    → found ≡ owner_of_key tables (image_definition image relation) own
    (key_in tables.definitions (image_definition image relation) values)

-- the pair of the entry that comes next in these tables, behind the one that was given last, for a scan that starts at these bytes
abbrev pub IsNextEntry : Tables → Listing → ℕ → List ℕ → Option (List ℕ × Tid) → Option (List ℕ × Tid) → Type 0
IsNextEntry tables listing number start last found =
    (image : ImageEntry) (relation : RelationEntry) → IsListedImage listing number image relation
    → (from : Option (List Value)) → IfSome from (IsKeyIn image relation) → start ≡ start_bytes image relation from
    → (given : Option Entry) → IfSome given (IsEntryIn image relation) → last ≡ option_map (kept_pair image relation) given
    → found ≡ option_map (kept_pair image relation)
    (next_entry from given (image_list tables (image_definition image relation)))

-- such it is in all tables that the pages spell
abbrev pub FindsOwner : AccessView → ℕ → List ℕ → Option Tid → Option Tid → Type 0
FindsOwner at number bytes own found =
    IsTold at.pages.disk → (tables : Tables) → SpellsTables at.pages.held at.catalog.listing tables
    → Fits at.pages.slots tables → IsOwner tables at.catalog.listing number bytes own found

abbrev pub FindsNextEntry : AccessView → ℕ → List ℕ → Option (List ℕ × Tid) → Option (List ℕ × Tid) → Type 0
FindsNextEntry at number start last found =
    IsTold at.pages.disk → (tables : Tables) → SpellsTables at.pages.held at.catalog.listing tables
    → Fits at.pages.slots tables → IsNextEntry tables at.catalog.listing number start last found

-- so many bytes has each key of the image of this number
abbrev pub IsKeyLong : Listing → ℕ → List ℕ → Type 0
IsKeyLong listing number key =
    (image : ImageEntry) (relation : RelationEntry) → IsListedImage listing number image relation
    → length key ≡ width_of image relation
