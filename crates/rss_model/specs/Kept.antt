-- What each step of the machine keeps.
use Rattle.std.specs.Prelude.{◌≡◌, ℕ, ◌+◌, ◌*◌, ◌<◌, ◌≤◌, true, nat_le, if◌then◌else◌, List, [], ◌∷◌, ◌++◌, length, map, All, Contains, Option, Some, is_some}
use Rattle.std.specs.FinMap as finite
use Rattle.rss_base.specs.declared.name.Name.{Name}
use Rattle.rss_base.specs.declared.tid.Tid.{Tid}
use Rattle.rss_base.specs.declared.value.Value.{Value}
use Rattle.rss_base.specs.declared.item.Item.{Item}
use Rattle.rss_base.specs.declared.item.Item.TheVariants.{Relation as RelationItem, Tuple as TupleItem, Chain as ChainItem, Key as KeyItem}
use Rattle.rss_base.specs.declared.need.Mode.{Mode}
use Rattle.rss_base.specs.declared.need.Mode.TheVariants.{S, IX, X}
use Rattle.rss_base.specs.declared.call.Call.{Call}
use Rattle.rss_model.specs.Items.{Content, Values}
use Rattle.rss_model.specs.Tables.{ImageDef, LinkDef, Tables, content, tuple_count}
use Rattle.rss_model.specs.Chains.{tuples_in, stands_in}
use Rattle.rss_model.specs.Images.{key_in}
use Rattle.rss_model.specs.Changes.{Change, IsChange, maker, own, Chained}
use Rattle.rss_model.specs.Fits.{Fits, tuple_limit}
use Rattle.rss_model.specs.Locks.{held, Holds, AreApart}
use Rattle.rss_model.specs.Scans.{Scan, scans_most, path_relation}
use Rattle.rss_model.specs.Meter.{Stamp, heap_pages, changes_of, owed, log_room, room_number}
use Rattle.rss_model.specs.Machine.{StoreSize, State, IsIdle, with_changes, now}
use Rattle.rss_model.specs.Rules.{saved_now, room_with}
use Rattle.rss_model.specs.Steps.{Answer, Step, transaction_limit, is_open, used_tuples, stamp_by}

-- ---- what fits

-- of each transaction's changes so many, the oldest
abbrev pub up_to : (ℕ → ℕ) → List Change → List Change
up_to counts [] = []
up_to counts (change ∷ changes) =
    if nat_le (counts change.by) (length (own change.by changes)) then up_to counts changes
    else change ∷ up_to counts changes

-- the committed tables fit with any of the transactions' changes up to some time of each
abbrev pub FitMixed : State → Type 0
FitMixed state =
    (counts : ℕ → ℕ) → Fits state.size.slots (with_changes state.base (up_to counts state.changes))

-- the committed tables fit with what a transaction had made at any time
abbrev pub FitOnTheWay : State → ℕ → Type 0
FitOnTheWay state transaction =
    (newer older : List Change) → own transaction state.changes ≡ newer ++ older
    → Fits state.size.slots (with_changes state.base older)

-- ---- what is locked

-- the keys of what a tuple held and holds, in each unique image of its relation
abbrev pub HoldsKeys : State → ℕ → Name → Option Content → Type 0
HoldsKeys state t relation known =
    (values : List Value) (name : Name) (image : ImageDef)
    → known ≡ Some (Values values) → finite.get state.base.definitions.images name ≡ Some image
    → image.relation ≡ relation → image.is_unique ≡ true
    → Holds state.locks t (KeyItem name (key_in state.base.definitions image values)) X

-- the tuple that comes into a chain or goes out of it
abbrev pub IsMoved : Change → Tid → Type 0
IsMoved change child = (stands_in child (tuples_in change.old) ≡ stands_in child (tuples_in change.new)) → ⊥

-- The transaction holds the tuple that it changed, with its relation and its keys; or the chain, the tuple that came or went with its relation, and the parent.
pub record IsGuarded (state : State) (change : Change) : Type 0 where
  pub item : Holds state.locks change.by change.item X
  pub above : (relation : Name) (tid : Tid) → change.item ≡ TupleItem relation tid
      → Holds state.locks change.by (RelationItem relation) IX
  pub keys : (relation : Name) (tid : Tid) → change.item ≡ TupleItem relation tid
      → HoldsKeys state change.by relation change.old × HoldsKeys state change.by relation change.new
  pub child : (link : Name) (parent : Option Tid) (definition : LinkDef) (tid : Tid)
      → change.item ≡ ChainItem link parent → finite.get state.base.definitions.links link ≡ Some definition
      → IsMoved change tid → Holds state.locks change.by (TupleItem definition.child tid) X
  pub members : (link : Name) (parent : Option Tid) (definition : LinkDef)
      → change.item ≡ ChainItem link parent → finite.get state.base.definitions.links link ≡ Some definition
      → Holds state.locks change.by (RelationItem definition.child) IX
  pub parent : (link relation : Name) (tid : Tid) (definition : LinkDef)
      → change.item ≡ ChainItem link (Some tid) → finite.get state.base.definitions.links link ≡ Some definition
      → definition.parent ≡ Some relation → Holds state.locks change.by (TupleItem relation tid) S

-- ---- what the meter says

-- each stamp is that of the change at its place, and positions fall down to the head
abbrev pub AreStamps : ℕ → ℕ → List Stamp → Type 0
AreStamps head end [] = head ≤ end
AreStamps head end (stamp ∷ stamps) = (stamp.at < end) × AreStamps head stamp.at stamps

-- of a relation: what may be there by the rule covers what is there, with the changes that may be undone
abbrev pub CoversTuples : State → Name → Type 0
CoversTuples state relation =
    tuple_count (now state).contents relation + changes_of state.changes relation
    ≤ (state.meter.traffic relation).entries + (state.meter.traffic relation).surviving
    + 2 * (state.meter.traffic relation).since

pub record IsMetered (state : State) : Type 0 where
  pub makers : map stamp_by state.meter.stamps ≡ map maker state.changes
  pub positions : AreStamps state.meter.head state.meter.end state.meter.stamps
  pub heap : heap_pages state.size.slots (now state) + state.meter.over + 2 * length state.changes
      ≤ state.meter.heap + 2 * state.meter.surviving + 4 * state.meter.since
  pub tuples : (relation : Name) → CoversTuples state relation
  pub room : room_number state.base.definitions state.meter ≤ state.size.slots

-- the log has room for what is owed
abbrev pub HasLogRoom : State → Type 0
HasLogRoom state = owed state.meter.stamps ≤ log_room state.size.log_pages state.meter

-- ---- all of it

pub record Kept (state : State) : Type 0 where
  pub few : finite.len state.marks ≤ transaction_limit
  pub few_scans : finite.len state.scans ≤ scans_most
  pub opened : All (λ change. is_open state change.by ≡ true) state.changes
  pub holders : (t : ℕ) (item : Item) (mode : Mode) → held state.locks t item ≡ Some mode → is_open state t ≡ true
  pub scanners : (number : ℕ) (scan : Scan) → finite.get state.scans number ≡ Some scan → is_open state scan.by ≡ true
  -- whose scan is open, holds the relation whose tuples it gives, and there is one
  pub scanned : (number : ℕ) (scan : Scan) (relation : Name) → finite.get state.scans number ≡ Some scan
      → path_relation state.base scan.path ≡ Some relation
      → Holds state.locks scan.by (RelationItem relation) S
  pub along : (number : ℕ) (scan : Scan) → finite.get state.scans number ≡ Some scan → is_some (path_relation state.base scan.path) ≡ true
  pub kinds : All IsChange state.changes
  pub chained : Chained state.base.contents state.changes
  pub fit : FitMixed state
  pub guarded : All (IsGuarded state) state.changes
  pub apart : AreApart state.locks
  pub counted : (relation : Name) → used_tuples state relation ≤ tuple_limit

-- ---- laws

-- whatever step is made
abbrev pub StepsKeep : Type 0
StepsKeep = (old new : State) (call : Call) (answer : Answer) → Step old call answer new → Kept old → Kept new

-- where nothing is open and the tables fit
abbrev pub RestKeeps : Type 0
RestKeeps = (size : StoreSize) (tables : Tables) (state : State) → IsIdle size tables state
    → Fits size.slots tables → Kept state

-- and what the meter says: there is room for all pages
abbrev pub StepsKeepRoom : Type 0
StepsKeepRoom = (old new : State) (call : Call) (answer : Answer) → Step old call answer new
    → Kept old → IsMetered old → IsMetered new

-- the tables now fit, and so do the committed ones
abbrev pub KeptFit : Type 0
KeptFit = (state : State) → Kept state → Fits state.size.slots state.base × Fits state.size.slots (now state)

-- so do the committed ones with what one transaction had made at any time
abbrev pub EachFits : Type 0
EachFits = (state : State) (transaction : ℕ) → Kept state → FitOnTheWay state transaction

-- the first change of an item found what is committed
abbrev pub FirstFindsBase : Type 0
FirstFindsBase = (state : State) (change : Change) (newer older : List Change) → Kept state
    → state.changes ≡ newer ++ change ∷ older → All (λ other. other.item ≡ change.item → ⊥) older
    → change.old ≡ content state.base.contents change.item

-- and the last left what is there now
abbrev pub LastLeavesNow : Type 0
LastLeavesNow = (state : State) (change : Change) (newer older : List Change) → Kept state
    → state.changes ≡ newer ++ change ∷ older → All (λ other. other.item ≡ change.item → ⊥) newer
    → change.new ≡ content (now state).contents change.item

-- no two transactions changed one item
abbrev pub OwnersAreAlone : Type 0
OwnersAreAlone = (state : State) → Kept state
    → (one other : Change) → Contains state.changes one → Contains state.changes other
    → one.item ≡ other.item → one.by ≡ other.by

-- behind a checkpoint no more slots are needed for a change than without one
abbrev pub SavingNeedsNoMore : Type 0
SavingNeedsNoMore = (state : State) (change : Change) → IsMetered state
    → room_with state change (saved_now state) ≤ room_with state change state.meter

-- a step leaves the store's size
abbrev pub StepsLeaveSize : Type 0
StepsLeaveSize = (old new : State) (call : Call) (answer : Answer) → Step old call answer new → new.size ≡ old.size
