-- The entries of all tuples of a relation, for an image that is made over them.
use Rattle.std.specs.Prelude.{◌≡◌, ℕ, ◌<◌, ◌≤◌, if◌then◌else◌, List, [], ◌∷◌, length, map as list_map, Option, Some, None, MatchOption, Result, IsErrOf}
use Rattle.std.specs.Ordering.{nat_cmp, is_eq, ordering_then}
use Rattle.std.specs.Cmp.Lexicographic.{slice_cmp}
use Rattle.std.specs.declared.cmp.Ordering.{Ordering}
use Rattle.rss_base.specs.Faults.{Rises}
use Rattle.rss_base.specs.Sizes.{page_entries}
use Rattle.rss_base.specs.Steps.{PagesView, PagesStep, no_page}
use Rattle.rss_base.specs.Trees.{tid_cmp}
use Rattle.rss_base.specs.TupleTypes.{kinds, chosen, key_width, Spells, SpellsSome}
use Rattle.rss_base.specs.Listings.{relation_at, field_numbers}
use Rattle.rss_base.specs.declared.fault.PageFault.{PageFault}
use Rattle.rss_base.specs.declared.fault.PageFault.TheVariants.{Device as DeviceFailed}
use Rattle.rss_base.specs.declared.tid.Tid.{Tid}
use Rattle.rss_base.specs.declared.value.Value.{Value}
use Rattle.rss_base.specs.declared.image.ImageEntry.{ImageEntry}
use Rattle.rss_base.specs.declared.relation.RelationEntry.{RelationEntry}
use Rattle.rss_image.specs.Images.{pairs_most}
use Rattle.rss_model.specs.Tables.{Tables}
use Rattle.rss_model.specs.Images.{image_list}
use Rattle.rss_stored.specs.Store.{image_definition}
use Rattle.rss_entries.specs.Keyed.{key_with}
use Rattle.rss_entries.specs.Moving.{KeyKinds}
use Rattle.rss_entries.specs.Seeking.{kept_pair}
use Rattle.rss_access.specs.Bodies.{HoldsBytes}
use Rattle.rss_access.specs.Changes.{AccessView}
use Rattle.rss_access.specs.Checking.{ShowsTuples}
use Rattle.rss_access.specs.Tuples.{body_at}

-- ---- what a caller gets

-- the key of these fields of a relation
abbrev pub keys_by : RelationEntry → List ℕ → KeyKinds
keys_by relation which = record { fields = kinds relation.fields; which = which }

-- a pair in bytes has a key of so many, and an identifier that a page may have
abbrev pub IsEntryLong : KeyKinds → List ℕ × Tid → Type 0
IsEntryLong key pair = (length pair.0 ≡ key_width (chosen key.which key.fields)) × (pair.1.slot < page_entries)

-- In all tables that the pages of tuples spell, these are the entries of an image of the relation of this number with these fields, in its order.
abbrev pub AreEntries : AccessView → ℕ → RelationEntry → List ℕ → List (List ℕ × Tid) → Type 0
AreEntries at number relation which entries =
    (tables : Tables) (image : ImageEntry)
    → ShowsTuples at tables → relation_at at.catalog.listing number ≡ Some relation
    → field_numbers image ≡ which
    → entries ≡ list_map (kept_pair image relation) (image_list tables (image_definition image relation))

-- the pages of tuples spell no tables in which the relation has no more tuples than it may
abbrev pub HasNoTables : AccessView → ℕ → RelationEntry → Type 0
HasNoTables at number relation =
    (tables : Tables) → ShowsTuples at tables → relation_at at.catalog.listing number ≡ Some relation
    → relation.live ≤ pairs_most → ⊥

-- Pages were asked for, and nothing was changed. A device's fault has come where one is answered.
pub record SearchesPages {T : Type 0} (old new : PagesView) (result : Result T PageFault) : Type 0 where
  pub most : ℕ
  pub step : PagesStep no_page most most old new
  pub failed : IsErrOf result DeviceFailed → Rises old.faults new.faults

-- the first entry whose key is that of the one before it
abbrev pub repeated_behind : List ℕ → List (List ℕ × Tid) → Option Tid
repeated_behind key [] = None
repeated_behind key (e ∷ entries) =
    if is_eq (slice_cmp nat_cmp key e.0) then Some e.1 else repeated_behind e.0 entries

abbrev pub repeated_key : List (List ℕ × Tid) → Option Tid
repeated_key [] = None
repeated_key (e ∷ entries) = repeated_behind e.0 entries

-- ---- how they are gathered

-- by the key's bytes, and then by the identifier
abbrev pub entry_order : List ℕ × Tid → List ℕ × Tid → Ordering
entry_order a b = ordering_then (slice_cmp nat_cmp a.0 b.0) (tid_cmp a.1 b.1)

-- The tuple with an identifier is one of the relation of this number, and has this behind the number.
pub record HasBody (pages : PagesView) (number : ℕ) (relation : RelationEntry) (tid : Tid) : Type 0 where
  pub rest : List ℕ
  pub there : body_at pages relation.segment tid ≡ Some (number ∷ rest)

-- The key is that of the tuple with this identifier.
pub record IsKeyAt (at : AccessView) (number : ℕ) (relation : RelationEntry) (which : List ℕ) (tid : Tid) (key : List ℕ) : Type 0 where
  pub has : HasBody at.pages number relation tid
  pub bytes : List ℕ
  pub holds : HoldsBytes at.catalog.listing number (number ∷ has.rest) bytes
  pub spelled : SpellsSome (kinds relation.fields) bytes
  pub is : (values : List Value) → Spells (kinds relation.fields) bytes values
      → key ≡ key_with (keys_by relation which) values

-- where the tuple is one of the relation, its key
abbrev pub FindsKey : AccessView → ℕ → RelationEntry → List ℕ → Tid → Option (List ℕ) → Type 0
FindsKey at number relation which tid found =
    MatchOption found (HasBody at.pages number relation tid → ⊥) (IsKeyAt at number relation which tid)

-- The tuple is one of the relation, and no values of its fields stand behind its blocks, or no page has its entry.
pub record IsMisspelled (at : AccessView) (number : ℕ) (relation : RelationEntry) (tid : Tid) : Type 0 where
  pub has : HasBody at.pages number relation tid
  pub not : (bytes : List ℕ) → HoldsBytes at.catalog.listing number (number ∷ has.rest) bytes
      → SpellsSome (kinds relation.fields) bytes → tid.slot < page_entries → ⊥
