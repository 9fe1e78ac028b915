-- What the records of a log mean, where definitions have these numbers.
use Rattle.std.specs.Prelude.{◌≡◌, ℕ, true, false, List, [], ◌∷◌, ◌++◌, map, count_by, All, Option, Some, None, IfSome, is_some, option_map, unwrap_or, ⊤}
use Rattle.std.specs.List.{list_any}
use Rattle.std.specs.Prelude.{Bool, ◌==◌}
use Rattle.rss_base.specs.declared.name.Name.{Name}
use Rattle.rss_base.specs.declared.tid.Tid.{Tid}
use Rattle.rss_base.specs.declared.value.Value.{Value}
use Rattle.rss_base.specs.declared.item.Item.{Item}
use Rattle.rss_base.specs.declared.item.Item.TheVariants.{Tuple as TupleItem, Chain as ChainItem}
use Rattle.rss_base.specs.declared.relation.RelationEntry.{RelationEntry}
use Rattle.rss_base.specs.declared.image.ImageEntry.{ImageEntry}
use Rattle.rss_base.specs.declared.link.LinkEntry.{LinkEntry}
use Rattle.rss_base.specs.declared.refusal.Kind.{Kind}
use Rattle.rss_base.specs.declared.refusal.Kind.TheVariants.{Relation as RelationKind, Link as LinkKind}
use Rattle.rss_base.specs.declared.change.Change as told
use Rattle.rss_base.specs.declared.change.Change.TheVariants.{Insert, Delete, Update, Connect, Disconnect}
use Rattle.rss_base.specs.declared.log_record.LogRecord.{LogRecord}
use Rattle.rss_base.specs.declared.log_record.LogRecord.TheVariants as records
use Rattle.rss_base.specs.TupleTypes.{kinds, Spells}
use Rattle.rss_base.specs.Listings.{Listing, numbered, names_of, relation_at, link_at, with_count}
use Rattle.rss_base.specs.LogRecords as bytes
use Rattle.rss_model.specs.Items.{Content, Values}
use Rattle.rss_model.specs.Chains.{chain_content, stands_in, with_behind}
use Rattle.rss_model.specs.Tables.{Contents, tuple_count}
use Rattle.rss_model.specs.Changes.{Change}
use Rattle.rss_model.specs.Meter.{Traffic, counts_for, changes_of}
use Rattle.rss_model.specs.Records.{LogEntry, Changed, Restore, End, Abort, Checkpoint, Placed, Listed, changes_in}
use Rattle.rss_model.specs.Restart.{survives}

-- ---- definitions

abbrev pub rootless : ImageEntry → ImageEntry
rootless image = record image { root = 0; levels = 0 }

abbrev pub endless : LinkEntry → LinkEntry
endless link = record link { first = None; last = None }

-- The same definitions under the same numbers, whatever the counts of tuples and the ends of chains.
pub record SameDefinitions (listing other : Listing) : Type 0 where
  pub segments : other.segments ≡ listing.segments
  pub relations : map (option_map (with_count 0)) other.relations
      ≡ map (option_map (with_count 0)) listing.relations
  pub images : map (option_map rootless) other.images ≡ map (option_map rootless) listing.images
  pub links : map (option_map endless) other.links ≡ map (option_map endless) listing.links

-- ---- the item of a change

-- A number that nothing has stands for itself, by what is no name.
abbrev pub nameless : ℕ → Name
nameless number = record { bytes = 0 ∷ number ∷ [] }

abbrev pub name_at : Kind → Listing → ℕ → Name
name_at kind listing number = unwrap_or (numbered (names_of kind listing) number) (nameless number)

abbrev pub item_told : Listing → told.Change → Item
item_told listing (Insert relation tid values) = TupleItem (name_at RelationKind listing relation) tid
item_told listing (Delete relation tid values) = TupleItem (name_at RelationKind listing relation) tid
item_told listing (Update relation tid old new) = TupleItem (name_at RelationKind listing relation) tid
item_told listing (Connect link parent child left) = ChainItem (name_at LinkKind listing link) parent
item_told listing (Disconnect link parent child left) = ChainItem (name_at LinkKind listing link) parent

-- ---- records

-- the change of a record, as far as its transaction and its item go
pub record IsChangeTold (listing : Listing) (by : ℕ) (told_change : told.Change) (change : Change) : Type 0 where
  pub maker : change.by ≡ by
  pub item : change.item ≡ item_told listing told_change

-- what a record of the log says
pub data Says (listing : Listing) : LogRecord → LogEntry → Type 0 where
  says_change : {by : ℕ} {told_change : told.Change} {made : Change} → IsChangeTold listing by told_change made
      → Says listing (records.Change by told_change) (Changed made)
  says_restore : {by position : ℕ} → Says listing (records.Restore by position) (Restore by position)
  says_end : {by : ℕ} → Says listing (records.End by) (End by)
  says_abort : {by : ℕ} → Says listing (records.Abort by) (Abort by)
  says_checkpoint : {marks : List (ℕ × ℕ)} → Says listing (records.Checkpoint marks) (Checkpoint marks)

-- ---- what the changes mean that are undone or done again

-- the bytes are those of a tuple of this relation, and this holds its values
pub record TellsValues (listing : Listing) (number : ℕ) (spelled : List ℕ) (held : Option Content) : Type 0 where
  pub relation : RelationEntry
  pub values : List Value
  pub at : relation_at listing number ≡ Some relation
  pub spells : Spells (kinds relation.fields) spelled values
  pub is : held ≡ Some (Values values)

-- a tuple stands behind another one in a chain, or it doesn't stand there
pub record TellsPlace (listing : Listing) (number : ℕ) (parent : Option Tid) (child : Tid) (left : Option Tid) (off on : Option Content) : Type 0 where
  pub link : LinkEntry
  pub tids : List Tid
  pub at : link_at listing number ≡ Some link
  pub form : is_some link.parent ≡ is_some parent
  pub apart : stands_in child tids ≡ false
  pub behind : IfSome left (λ tid. stands_in tid tids ≡ true)
  pub without : off ≡ chain_content tids
  pub with : on ≡ chain_content (with_behind left child tids)

abbrev pub Means : Listing → told.Change → Change → Type 0
Means listing (Insert relation tid values) change =
    (change.old ≡ None) × TellsValues listing relation values change.new
Means listing (Delete relation tid values) change =
    TellsValues listing relation values change.old × (change.new ≡ None)
Means listing (Update relation tid old new) change =
    TellsValues listing relation old change.old × TellsValues listing relation new change.new
Means listing (Connect link parent child left) change =
    TellsPlace listing link parent child left change.old change.new
Means listing (Disconnect link parent child left) change =
    TellsPlace listing link parent child left change.new change.old

-- ---- a log

-- a record with its position, and what it says
pub record Logged : Type 0 where
  pub at : ℕ
  pub told : LogRecord
  pub is : LogEntry

abbrev pub as_bytes : List Logged → List bytes.Placed
as_bytes logged = map (λ l. record { at = l.at; is = l.told }) logged

abbrev pub as_entries : List Logged → List Placed
as_entries logged = map (λ l. record { at = l.at; is = l.is }) logged

abbrev pub MeansIt : Listing → LogRecord → LogEntry → Type 0
MeansIt listing (records.Change by told_change) (Changed change) = Means listing told_change change
MeansIt listing told_record entry = ⊤

-- the change at this position is in the lists
abbrev pub is_listed : ℕ → List Listed → Bool
is_listed at ls = list_any (λ l. l.at == at) ls

-- A change survives to an End record behind it.
abbrev pub is_redone : LogEntry → ℕ → List Logged → Bool
is_redone (Changed change) at later = survives change.by at (as_entries later)
is_redone entry at later = false

abbrev pub RedoneMean : Listing → List Logged → Type 0
RedoneMean listing [] = ⊤
RedoneMean listing (l ∷ later) =
    (is_redone l.is l.at later ≡ true → MeansIt listing l.told l.is) × RedoneMean listing later

-- The records say these entries, and each change means something that is in the lists of the checkpoint or is done again behind it.
pub record IsLogged (listing : Listing) (lists : List Listed) (older newer : List Logged) : Type 0 where
  pub say : All (λ l. Says listing l.told l.is) (older ++ newer)
  pub listed : All (λ l. is_listed l.at lists ≡ true → MeansIt listing l.told l.is) older
  pub later : RedoneMean listing newer

-- ---- what a meter counts of a log

abbrev pub is_change : LogEntry → Bool
is_change (Changed change) = true
is_change entry = false

-- the change of an entry counts for a relation
abbrev pub is_change_of : Name → LogEntry → Bool
is_change_of relation (Changed change) = counts_for change.item relation
is_change_of relation entry = false

-- The changes of a relation's tuples: over the contents of a checkpoint, where these changes were listed, with these records from it on, undone ones included.
abbrev pub traffic_of : Contents → List Listed → List Logged → Name → Traffic
traffic_of saved lists newer relation = record {
  entries = tuple_count saved relation;
  surviving = changes_of (changes_in lists) relation;
  since = count_by (λ l. is_change_of relation l.is) newer;
}
