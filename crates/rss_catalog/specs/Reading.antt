-- What bytes of the catalog read as, whether or not they are in form: what was read is in form where it is spelled by the same bytes.
use Rattle.std.specs.Prelude.{◌≡◌, ℕ, ◌+◌, ◌-◌, ◌*◌, ◌≤◌, ◌==◌, ◌&&◌, Bool, zero, suc, min, nat_le, if◌then◌else◌, List, [], ◌∷◌, ◌++◌, length, replicate, flat_map, take, drop, slice_index, Option, Some, None}
use Rattle.std.specs.Int.{w16, w32, to_be_bytes, from_be_bytes}
use Rattle.rss_base.specs.Names.{name_bytes}
use Rattle.rss_base.specs.TupleTypes.{most_fields}
use Rattle.rss_base.specs.Listings.{field_spelled, field_bytes, added_count}
use Rattle.rss_base.specs.declared.name.Name.{Name}
use Rattle.rss_base.specs.declared.value.FieldKind.{FieldKind}
use Rattle.rss_base.specs.declared.value.FieldKind.TheVariants.{Int, Text}
use Rattle.rss_base.specs.declared.field.FieldDef.{FieldDef}
use Rattle.rss_base.specs.declared.relation.RelationEntry.{RelationEntry}
use Rattle.rss_base.specs.declared.image.ImageEntry.{ImageEntry}
use Rattle.rss_base.specs.declared.link.LinkEntry.{LinkEntry}
use Rattle.rss_base.specs.declared.tid.Tid.{Tid}

-- ---- what is spelled in front of the zeros of a relation

abbrev pub definition_spelled : RelationEntry → List ℕ
definition_spelled relation =
    relation.name.bytes ++ relation.segment ∷ length relation.fields ∷ added_count relation.fields ∷ 0 ∷ []
    ++ to_be_bytes w32 relation.live ++ replicate 8 0 ++ flat_map field_spelled relation.fields

abbrev pub definition_bytes : RelationEntry → ℕ
definition_bytes relation = 32 + field_bytes * length relation.fields

-- a relation that has a place has no more fields than there is room for
abbrev pub HasFewFields : Option RelationEntry → Type 0
HasFewFields relation = (entry : RelationEntry) → relation ≡ Some entry → length entry.fields ≤ most_fields

-- ---- what is read

-- the first so many pieces of one width
unfoldable pub pieces : ℕ → ℕ → List ℕ → List (List ℕ)
pieces width zero bytes = []
pieces width (suc count) bytes = pieces width count bytes ++ take width (drop (width * count) bytes) ∷ []

-- the name of these bytes
abbrev pub name_of : List ℕ → Name
name_of bytes = record { bytes = bytes }

-- no name begins with a zero
abbrev pub segment_of : List ℕ → Option Name
segment_of bytes = if slice_index bytes 0 == 0 then None else Some (name_of bytes)

abbrev pub kind_of : ℕ → ℕ → FieldKind
kind_of code most = if code == 1 then Int else Text most

-- its own bytes don't say whether a field was added
abbrev pub field_of : Bool → List ℕ → FieldDef
field_of added bytes = record {
  name = name_of (take name_bytes bytes);
  kind = kind_of (slice_index bytes 16) (slice_index bytes 17);
  added = added;
}

-- so many fields: the first ones are original, as many as the first number says, and those behind them were added
unfoldable pub fields_of : ℕ → ℕ → List ℕ → List FieldDef
fields_of originals zero bytes = []
fields_of originals (suc count) bytes =
    fields_of originals count bytes
    ++ field_of (nat_le originals count) (take field_bytes (drop (field_bytes * count) bytes)) ∷ []

abbrev pub entry_of : List ℕ → RelationEntry
entry_of bytes = record {
  name = name_of (take name_bytes bytes);
  segment = slice_index bytes 16;
  fields = fields_of (min (slice_index bytes 17) most_fields - slice_index bytes 18)
      (min (slice_index bytes 17) most_fields) (drop 32 bytes);
  live = from_be_bytes w32 (take 4 (drop 20 bytes));
}

abbrev pub relation_of : List ℕ → Option RelationEntry
relation_of bytes = if slice_index bytes 0 == 0 then None else Some (entry_of bytes)

abbrev pub image_entry_of : List ℕ → ImageEntry
image_entry_of bytes = record {
  name = name_of (take name_bytes bytes);
  relation = slice_index bytes 16;
  is_unique = slice_index bytes 17 == 1;
  count = slice_index bytes 18;
  fields = take most_fields (drop 24 bytes);
  levels = slice_index bytes 19;
  root = from_be_bytes w32 (take 4 (drop 20 bytes));
}

abbrev pub image_of : List ℕ → Option ImageEntry
image_of bytes = if slice_index bytes 0 == 0 then None else Some (image_entry_of bytes)

abbrev pub parent_of : ℕ → ℕ → Option ℕ
parent_of code parent = if code == 2 then Some parent else None

-- six bytes of 255 are no identifier
abbrev pub tid_of : ℕ → ℕ → Option Tid
tid_of page slot = if (page == 4294967295) && (slot == 65535) then None else Some (record { page = page; slot = slot })

abbrev pub place_of : List ℕ → Option Tid
place_of bytes = tid_of (from_be_bytes w32 (take 4 bytes)) (from_be_bytes w16 (take 2 (drop 4 bytes)))

abbrev pub link_entry_of : List ℕ → LinkEntry
link_entry_of bytes = record {
  name = name_of (take name_bytes bytes);
  parent = parent_of (slice_index bytes 16) (slice_index bytes 17);
  child = slice_index bytes 18;
  late = slice_index bytes 19 == 1;
  first = place_of (take 6 (drop 20 bytes));
  last = place_of (take 6 (drop 26 bytes));
}

abbrev pub link_of : List ℕ → Option LinkEntry
link_of bytes = if slice_index bytes 0 == 0 then None else Some (link_entry_of bytes)
