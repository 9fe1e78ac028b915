-- What there is to see of an engine, and what holds of it between two calls.
use Rattle.std.specs.Prelude.{◌≡◌, ℕ, ◌+◌, ◌*◌, ◌^◌, ◌≤◌, true, List, [], length, replicate, All, Option, Some, None, IfSome, option_map, ⊤}
use Rattle.std.specs.FinMap.{get}
use Rattle.rss_base.specs.Listings.{Listing, IsNumberOf, IsUnlisted, relation_at}
use Rattle.rss_base.specs.Paged.{IsUnfixed}
use Rattle.rss_base.specs.Steps.{PagesView}
use Rattle.rss_base.specs.Prefixes.{prefix_size}
use Rattle.rss_base.specs.TupleTypes.{kinds, misfit, key_width, key_bytes, tuple_bytes, IsStorable}
use Rattle.rss_base.specs.declared.item.Item.{Item}
use Rattle.rss_base.specs.declared.name.Name.{Name}
use Rattle.rss_base.specs.declared.need.Mode.{Mode}
use Rattle.rss_base.specs.declared.refusal.Kind.TheVariants.{Image as ImageKind, Link as LinkKind}
use Rattle.rss_base.specs.declared.relation.RelationEntry.{RelationEntry}
use Rattle.rss_base.specs.declared.tid.Tid.{Tid}
use Rattle.rss_base.specs.declared.value.FieldForm.{FieldForm}
use Rattle.rss_base.specs.declared.value.Value.{Value}
use Rattle.rss_base.specs.Tids.{IsSpelledTid}
use Rattle.rss_tuple.specs.Placing.{IsChosen}
use Rattle.rss_catalog.specs.Catalogs.{HasNoLesser}
use Rattle.rss_members.specs.Calls.{HasForm}
use Rattle.rss_stored.specs.Calls.{EngineView}
use Rattle.rss_model.specs.Images.{Entry, key_kinds}
use Rattle.rss_model.specs.Kept.{Kept}
use Rattle.rss_model.specs.Locks.{held}
use Rattle.rss_model.specs.Machine.{State}
use Rattle.rss_model.specs.Meter.{end_size}
use Rattle.rss_model.specs.Scans.{Scans, RelationPath, ImagePath, LinkPath}
use Rattle.rss_model.specs.Scans.{Path as MachinePath, Scan as MachineScan}
use Rattle.rss_model.specs.Tables.{ImageDef, Definitions, fields_in}
use Rattle.rss_lock.specs.Locks.{LocksView}
use Rattle.rss_scan.specs.Scans.{OpenScans}
use Rattle.rss_scan.specs.Ties.{Spelling, AreSpelled}
use Rattle.rss_scan.specs.declared.cursor.Path.{Path}
use Rattle.rss_scan.specs.declared.cursor.Path.TheVariants.{Relation, Image, Link}
use Rattle.rss_scan.specs.declared.cursor.Scan.{Scan}
use Rattle.rss_trans.specs.Transactions.{OpenView, is_open, transaction_in}
use Rattle.rss_store.specs.Commits.{IsEndPlace, new_pieces}
use Rattle.rss_session.specs.Imaging.{IsKeyLong}
use Rattle.rss_session.specs.Sessions.{SessionView}
use Rattle.rss_session.specs.Sessions.{IsReady as IsSessionReady}
use Rattle.rss_session.specs.Shown.{Shows}

-- the parts of an engine: its session, and the locks and the scans of its transactions
pub record RssParts : Type 1 where
  pub session : SessionView
  pub locks : LocksView
  pub scans : OpenScans

-- ---- scans in bytes

-- the kinds of the fields of an image's keys
abbrev pub kinds_by : Definitions → Option ImageDef → List FieldForm
kinds_by definitions None = []
kinds_by definitions (Some image) = key_kinds (fields_in definitions image.relation) image.fields

abbrev pub kinds_of : Definitions → Name → List FieldForm
kinds_of definitions image = kinds_by definitions (get definitions.images image)

-- the bytes that a scan starts at whose keys have these fields: zeros where it has no key, which are at or below each of them
abbrev pub start_spelled : List FieldForm → Option (List Value) → List ℕ
start_spelled fields None = replicate (key_width fields) 0
start_spelled fields (Some key) = key_bytes fields key

abbrev pub pair_spelled : List FieldForm → Entry → List ℕ × Tid
pair_spelled fields given = (key_bytes fields given.key, given.tid)

-- The cursor of a scan. Along a relation a key has no values, and no bytes.
abbrev pub spelling : Definitions → Spelling
spelling definitions (RelationPath relation) last =
    record { path = Relation relation; last = option_map (pair_spelled []) last }
spelling definitions (ImagePath image start) last = record {
  path = Image image (start_spelled (kinds_of definitions image) start);
  last = option_map (pair_spelled (kinds_of definitions image)) last;
}
spelling definitions (LinkPath link parent) last =
    record { path = Link link parent; last = option_map (pair_spelled []) last }

-- a key of these fields, of values that can be stored
pub record IsKey (fields : List FieldForm) (key : List Value) : Type 0 where
  pub fit : misfit fields key ≡ None
  pub storable : All IsStorable key

-- such a key, and an identifier that can be spelled
pub record IsPair (fields : List FieldForm) (given : Entry) : Type 0 where
  pub key : IsKey fields given.key
  pub tid : IsSpelledTid given.tid

-- which keys a scan may have: none along a relation or a link, and along an image those of its fields
abbrev pub HasKeys : Definitions → MachinePath → Option Entry → Type 0
HasKeys definitions (RelationPath relation) last = IfSome last (λ given. given.key ≡ [])
HasKeys definitions (ImagePath image start) last =
    IfSome start (IsKey (kinds_of definitions image)) × IfSome last (IsPair (kinds_of definitions image))
HasKeys definitions (LinkPath link parent) last = IfSome last (λ given. given.key ≡ [])

-- the open scans are the machine's, with their keys spelled
pub record AreScans (definitions : Definitions) (machine : Scans) (scans : OpenScans) : Type 0 where
  pub spelled : AreSpelled (spelling definitions) machine scans
  pub keys : (number : ℕ) (scan : MachineScan) → get machine number ≡ Some scan
      → HasKeys definitions scan.path scan.last

-- they are in this state of the machine
pub record IsIn (parts : RssParts) (state : State) : Type 0 where
  pub shows : Shows parts.session state
  pub locked : state.locks ≡ parts.locks.locks
  pub scanned : AreScans state.base.definitions state.scans parts.scans
  pub kept : Kept state

-- how many bytes a body has whose values have so many: the number of its relation and the blocks of its links stand before them
abbrev pub body_length : Listing → ℕ → ℕ → ℕ
body_length listing number values = 1 + prefix_size listing.links number + values

-- The placing rule of tuple stores, for the body of such a tuple.
pub record MayStandAt (pages : PagesView) (listing : Listing) (relation : Name) (values : List Value) (barred : List Tid) (tid : Tid) : Type 0 where
  pub number : ℕ
  pub entry : RelationEntry
  pub at : relation_at listing number ≡ Some entry
  pub named : entry.name ≡ relation
  pub chosen : IsChosen pages entry.segment (body_length listing number (length (tuple_bytes (kinds entry.fields) values))) barred tid

-- where the log ends behind an end
abbrev pub end_after : RssParts → ℕ
end_after parts = parts.session.store.log.end + end_size

-- an engine of these parts, which was asked for so many calls
abbrev pub engine_view : RssParts → ℕ → Type 0 → EngineView
engine_view parts calls is_up = record {
  disk = parts.session.store.pages.disk;
  shows = IsIn parts;
  places = MayStandAt parts.session.store.pages parts.session.store.catalog.listing;
  is_up = is_up;
  slots = parts.session.store.root.slots;
  calls = calls;
  asks = parts.session.store.pages.asks;
  writes = parts.session.store.pages.writes;
  faults = parts.session.store.pages.faults;
  outs = parts.session.store.pages.outs;
  free = IsUnfixed parts.session.store.pages.fixed;
  saved = parts.session.store.root.checkpoint;
  end_places = IsEndPlace parts.session.store.number parts.session.store.root (end_after parts);
  end_most = new_pieces parts.session.store.root (end_after parts) + 2;
}

-- ---- between two calls

-- so many bytes has each key of the image of this name, the first one
abbrev pub IsLongFor : Listing → Name → List ℕ → Type 0
IsLongFor listing image key =
    (number : ℕ) → IsNumberOf ImageKind listing image number → HasNoLesser ImageKind listing image number
    → IsKeyLong listing number key

-- a link of this name is listed, and the first one has parents exactly where one is given
abbrev pub HasChain : Listing → Name → Option Tid → Type 0
HasChain listing link parent =
    (IsUnlisted LinkKind listing link → ⊥)
    × ((number : ℕ) → IsNumberOf LinkKind listing link number → HasNoLesser LinkKind listing link number
    → HasForm listing number parent)

-- The keys of a scan of an image are as long as the image's; and a scan of a link goes along a chain that there may be.
abbrev pub AreLong : Listing → Path → Option (List ℕ × Tid) → Type 0
AreLong listing (Relation relation) last = ⊤
AreLong listing (Image image start) last =
    IsLongFor listing image start × IfSome last (λ given. IsLongFor listing image given.0)
AreLong listing (Link link parent) last = HasChain listing link parent

-- A scan may go on: its transaction is open.
pub record MayGoOn (listing : Listing) (opened : OpenView) (scan : Scan) : Type 0 where
  pub owner : is_open opened scan.owner ≡ true
  pub long : AreLong listing scan.cursor.path scan.cursor.last

abbrev pub AllMayGoOn : Listing → OpenView → OpenScans → Type 0
AllMayGoOn listing opened scans =
    (number : ℕ) (scan : Scan) → get scans number ≡ Some scan → MayGoOn listing opened scan

-- how far the log may have come by so many calls, from an opening on
abbrev pub paced_end : ℕ → ℕ
paced_end calls = 2 ^ 62 + 2 ^ 13 * (calls + 1)

-- Another call may be made. No call appends more to the log, nor sets more than one save point. Who holds an item is open, and each scan may go on.
pub record IsReady (parts : RssParts) (calls : ℕ) : Type 0 where
  pub session : IsSessionReady parts.session
  pub paced : parts.session.store.log.end ≤ paced_end calls
  pub saves : (t : ℕ) → length (transaction_in parts.session.opened t).saves ≤ calls
  pub scans : AllMayGoOn parts.session.store.catalog.listing parts.session.opened parts.scans
  pub holders : (t : ℕ) (item : Item) (mode : Mode) → held parts.locks.locks t item ≡ Some mode
      → is_open parts.session.opened t ≡ true
