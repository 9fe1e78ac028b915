-- A step of the relation machine: which reply a call may get, and the state that follows.
use Rattle.std.specs.Prelude.{◌≡◌, ◌↔◌, ℕ, ◌+◌, ◌<◌, Bool, true, false, if◌then◌else◌, List, [], ◌∷◌, ◌++◌, length, take, slice_index, Option, Some, None, is_some, Ok, Err}
use Rattle.std.specs.FinMap as map
use Rattle.rss_base.specs.declared.name.Name.{Name}
use Rattle.rss_base.specs.declared.tid.Tid.{Tid}
use Rattle.rss_base.specs.declared.value.Value.{Value}
use Rattle.rss_base.specs.declared.spot.Spot.{Spot}
use Rattle.rss_base.specs.declared.item.Item.{Item}
use Rattle.rss_base.specs.declared.item.Item.TheVariants.{Tuple as TupleItem}
use Rattle.rss_base.specs.declared.need.Mode.TheVariants.{X}
use Rattle.rss_base.specs.declared.call.Call.{Call}
use Rattle.rss_base.specs.declared.call.Call.TheVariants.{Begin, Save, Restore, End, Abort, Insert, Fetch, Update, Delete, Connect, Disconnect, Parent, OpenRelation, OpenImage, OpenLink, Next, CloseScan, Lock, Checkpoint}
use Rattle.rss_base.specs.declared.answer.Reply.TheVariants.{Ok as Done, Tid as Identifier, Number, Tuple as TupleReply, Row, End as AtEnd, Nothing}
use Rattle.rss_base.specs.declared.refusal.Refusal.{Refusal}
use Rattle.rss_base.specs.declared.refusal.Refusal.TheVariants.{NoTuple, Duplicate, Connected, NotConnected}
use Rattle.rss_model.specs.Items.{Values, parent_of}
use Rattle.rss_model.specs.Tables.{Tables, content, fields_of, segment_of}
use Rattle.rss_model.specs.Chains.{chain_with}
use Rattle.rss_model.specs.Images.{Entry}
use Rattle.rss_model.specs.Fits.{IsIdentifier}
use Rattle.rss_model.specs.Changes.{Change, maker, own, others, theirs, kept_to, cut_off, undo}
use Rattle.rss_model.specs.Locks.{held, with_lock, granted, released}
use Rattle.rss_model.specs.Scans.{Path, RelationPath, ImagePath, LinkPath, Scan, number_limit, scan_of, closed, new_scan, next_of_scan, path_relation}
use Rattle.rss_model.specs.Meter.{Stamp, MayLead, restore_size, end_size, counted, with_record, checkpointed}
use Rattle.rss_model.specs.Machine.{State, with_changes, now}
use Rattle.rss_model.specs.Callers.{caller}
use Rattle.rss_model.specs.Needs.{need, needs}
use Rattle.rss_model.specs.Rules.{meter_for, saved_now}
use Rattle.rss_model.specs.Defining.{defined, DefinesNames, LocksGranule}
pub use Rattle.rss_model.specs.Refusals.{Answer, transaction_limit, is_open, misfit_of, first_of, tuple_change, insertion, deletion, replacement, connection, disconnection, unless_open, unless_defined, admission, value_admission, used_tuples, if_used_up, relations_beside, is_free, unless_free, unless_live, if_full, tests, refusal}
unfoldable pub use Rattle.rss_model.specs.Refusals.{some_free}

-- ---- what stays of a refused call

-- the answer rests on what the call's list locks
abbrev pub keeps_locks : Refusal → Bool
keeps_locks (NoTuple relation tid) = true
keeps_locks (Duplicate image tid) = true
keeps_locks (Connected link) = true
keeps_locks (NotConnected link) = true
keeps_locks why = false

-- the caller holds all of the call's list
abbrev pub locked_by : Option ℕ → Call → State → State
locked_by None call state = state
locked_by (Some t) call state =
    record state { locks = granted t (needs (now state) call) state.locks }

abbrev pub locked : Call → State → State
locked call state = locked_by (caller call) call state

abbrev pub left_by : State → Call → Refusal → State
left_by state call why = if keeps_locks why then locked call state else state

-- ---- what a call does

-- A new tuple of a transaction may have this identifier: no tuple of the segment has it, and no other transaction holds one that might.
pub record IsFree (state : State) (t : ℕ) (relation : Name) (tid : Tid) : Type 0 where
  pub within : IsIdentifier state.size.slots tid
  pub absent : (other : Name) → segment_of state.base other ≡ segment_of state.base relation
      → content (now state).contents (TupleItem other tid) ≡ None
  pub alone : (other : Name) (u : ℕ) → segment_of state.base other ≡ segment_of state.base relation
      → (u ≡ t → ⊥) → held state.locks u (TupleItem other tid) ≡ None

-- the test for a free identifier finds one exactly where there is one
abbrev pub FreeIsFound : Type 0
FreeIsFound = (state : State) (t : ℕ) (relation : Name) → is_some (fields_of state.base relation) ≡ true
    → (some_free state t relation ≡ true) ↔ ((tid : Tid) × IsFree state t relation tid)

-- the tuple with this identifier has these values
abbrev pub HasValues : State → Name → Tid → List Value → Type 0
HasValues state relation tid values =
    content (now state).contents (TupleItem relation tid) ≡ Some (Values values)

-- ---- changes

-- one change more, from a checkpoint on where the rules say so, and so many overflow pages
abbrev pub changed : Change → ℕ → State → State
changed change over state = record state {
  changes = change ∷ state.changes;
  meter = counted state.base.definitions change over (meter_for state change);
}

-- how many there may be after it
abbrev pub IsOver : State → Change → ℕ → Type 0
IsOver state change over =
    MayLead (now state) (with_changes state.base (change ∷ state.changes)) change.item state.meter.over over

-- a new tuple is its maker's alone
abbrev pub holding : ℕ → Item → State → State
holding t item state = record state { locks = with_lock t (need item X) state.locks }

-- ---- ways back

-- From so many overflow pages there may be so many others, once these changes are undone in these tables, the newest first.
pub data MayUndo : Tables → List Change → ℕ → ℕ → Type 0 where
  none : {tables : Tables} {over : ℕ} → MayUndo tables [] over over
  more : {tables : Tables} {change : Change} {changes : List Change} {over mid next : ℕ}
      → MayLead tables (record tables { contents = undo tables.contents change }) change.item over mid
      → MayUndo (record tables { contents = undo tables.contents change }) changes mid next
      → MayUndo tables (change ∷ changes) over next

abbrev pub stamp_by : Stamp → ℕ
stamp_by stamp = stamp.by

-- a record of this size where there are any changes
abbrev pub size_for : List Change → ℕ → ℕ
size_for [] size = 0
size_for (change ∷ changes) size = size

-- how many changes of a transaction a save point leaves
abbrev pub left_at : List ℕ → ℕ → ℕ
left_at marks save = slice_index (0 ∷ marks) save

-- what the way back to a save point undoes, the newest first
abbrev pub undone_to : State → ℕ → ℕ → List Change
undone_to state t left = cut_off maker t left state.changes

-- ---- states

abbrev pub begun : ℕ → State → State
begun t state = record state { marks = map.insert state.marks t [] }

abbrev pub own_count : State → ℕ → ℕ
own_count state t = length (own t state.changes)

abbrev pub with_save : ℕ → List ℕ → State → State
with_save t marks state =
    record state { marks = map.insert state.marks t (marks ++ own_count state t ∷ []) }

-- back to a save point: later ones go, and this one stays
abbrev pub restored : ℕ → ℕ → List ℕ → ℕ → State → State
restored t save marks over state = record state {
  changes = kept_to maker t (left_at marks save) state.changes;
  marks = map.insert state.marks t (take save marks);
  meter = with_record (size_for (undone_to state t (left_at marks save)) restore_size)
      (kept_to stamp_by t (left_at marks save) state.meter.stamps) over state.meter;
}

-- a transaction goes, with all that is its own
abbrev pub gone : ℕ → ℕ → State → State
gone t over state = record state {
  changes = others t state.changes;
  marks = map.remove state.marks t;
  locks = released t state.locks;
  scans = closed t state.scans;
  meter = with_record (size_for (own t state.changes) end_size) (theirs stamp_by t state.meter.stamps) over state.meter;
}

-- what it changed is committed
abbrev pub committing : ℕ → State → State
committing t state = record (gone t state.meter.over state) { base = with_changes state.base (own t state.changes) }

abbrev pub ended : ℕ → State → State
ended t state = committing t state

-- ---- scans

-- along which path a call opens a scan
abbrev pub path_of : Call → Option Path
path_of (OpenRelation t relation) = Some (RelationPath relation)
path_of (OpenImage t image start) = Some (ImagePath image start)
path_of (OpenLink t link parent) = Some (LinkPath link parent)
path_of call = None

abbrev pub with_scan : ℕ → Scan → State → State
with_scan number scan state = record state { scans = map.insert state.scans number scan }

-- the scan has given this
abbrev pub with_given : Scan → Entry → Scan
with_given scan given = record scan { last = Some given }

-- it goes on to what it gives next, and the tuple of that has these values
pub record GivesNext (state : State) (scan : Scan) (given : Entry) (values : List Value) : Type 0 where
  pub next : next_of_scan (now state) scan ≡ Some given
  pub relation : Name
  pub along : path_relation state.base scan.path ≡ Some relation
  pub has : HasValues state relation given.tid values

-- ---- definitions

-- these committed tables, behind a checkpoint of them
abbrev pub redefined : Tables → State → State
redefined tables state = record state {
  base = tables;
  meter = checkpointed state.size.slots tables state.changes state.meter;
}

-- A step, where this tells what a call is refused for. The machine leaves open which free identifier, which number of a scan and how many overflow pages come.
pub data StepBy (judge : State → Call → Option Refusal) (old : State) : Call → Answer → State → Type 0 where
  refuses : (call : Call) (why : Refusal) → judge old call ≡ Some why
      → StepBy judge old call (Err why) (left_by old call why)
  begins : (t : ℕ) → judge old (Begin t) ≡ None → StepBy judge old (Begin t) (Ok Done) (begun t old)
  saves : (t : ℕ) (marks : List ℕ) → judge old (Save t) ≡ None → map.get old.marks t ≡ Some marks
      → StepBy judge old (Save t) (Ok (Number (length marks + 1))) (with_save t marks old)
  restores : (t save : ℕ) (marks : List ℕ) (over : ℕ)
      → judge old (Restore t save) ≡ None → map.get old.marks t ≡ Some marks
      → MayUndo (now old) (undone_to old t (left_at marks save)) old.meter.over over
      → StepBy judge old (Restore t save) (Ok Done) (restored t save marks over old)
  ends : (t : ℕ) → judge old (End t) ≡ None → StepBy judge old (End t) (Ok Done) (ended t old)
  aborts : (t over : ℕ) → judge old (Abort t) ≡ None
      → MayUndo (now old) (own t old.changes) old.meter.over over
      → StepBy judge old (Abort t) (Ok Done) (gone t over old)
  inserts : (t : ℕ) (relation : Name) (values : List Value) (tid : Tid) (over : ℕ)
      → judge old (Insert t relation values) ≡ None → IsFree old t relation tid
      → IsOver old (insertion t relation tid values) over
      → StepBy judge old (Insert t relation values) (Ok (Identifier tid))
      (changed (insertion t relation tid values) over
      (holding t (TupleItem relation tid) (locked (Insert t relation values) old)))
  fetches : (t : ℕ) (relation : Name) (tid : Tid) (values : List Value)
      → judge old (Fetch t relation tid) ≡ None → HasValues old relation tid values
      → StepBy judge old (Fetch t relation tid) (Ok (TupleReply values)) (locked (Fetch t relation tid) old)
  updates : (t : ℕ) (relation : Name) (tid : Tid) (was values : List Value) (over : ℕ)
      → judge old (Update t relation tid values) ≡ None → HasValues old relation tid was
      → IsOver old (replacement t relation tid was values) over
      → StepBy judge old (Update t relation tid values) (Ok Done)
      (changed (replacement t relation tid was values) over (locked (Update t relation tid values) old))
  deletes : (t : ℕ) (relation : Name) (tid : Tid) (was : List Value) (over : ℕ)
      → judge old (Delete t relation tid) ≡ None → HasValues old relation tid was
      → IsOver old (deletion t relation tid was) over
      → StepBy judge old (Delete t relation tid) (Ok Done)
      (changed (deletion t relation tid was) over (locked (Delete t relation tid) old))
  connects : (t : ℕ) (link : Name) (child : Tid) (parent : Option Tid) (spot : Spot) (over : ℕ)
      → judge old (Connect t link child parent spot) ≡ None
      → IsOver old (connection old t link child parent spot) over
      → StepBy judge old (Connect t link child parent spot) (Ok Done)
      (changed (connection old t link child parent spot) over (locked (Connect t link child parent spot) old))
  disconnects : (t : ℕ) (link : Name) (child : Tid) (item : Item) (over : ℕ)
      → judge old (Disconnect t link child) ≡ None → chain_with (now old).contents link child ≡ Some item
      → IsOver old (disconnection old t item child) over
      → StepBy judge old (Disconnect t link child) (Ok Done)
      (changed (disconnection old t item child) over (locked (Disconnect t link child) old))
  finds : (t : ℕ) (link : Name) (child parent : Tid) (item : Item)
      → judge old (Parent t link child) ≡ None
      → chain_with (now old).contents link child ≡ Some item → parent_of item ≡ Some parent
      → StepBy judge old (Parent t link child) (Ok (Identifier parent)) (locked (Parent t link child) old)
  finds_none : (t : ℕ) (link : Name) (child : Tid) → judge old (Parent t link child) ≡ None
      → chain_with (now old).contents link child ≡ None
      → StepBy judge old (Parent t link child) (Ok Nothing) (locked (Parent t link child) old)
  opens : (call : Call) (t number : ℕ) (path : Path) → judge old call ≡ None
      → caller call ≡ Some t → path_of call ≡ Some path
      → number < number_limit → map.get old.scans number ≡ None
      → StepBy judge old call (Ok (Number number)) (with_scan number (new_scan t path) (locked call old))
  gives : (t number : ℕ) (scan : Scan) (given : Entry) (values : List Value)
      → judge old (Next t number) ≡ None → scan_of old.scans t number ≡ Some scan
      → GivesNext old scan given values
      → StepBy judge old (Next t number) (Ok (Row given.tid values)) (with_scan number (with_given scan given) old)
  stops : (t number : ℕ) (scan : Scan)
      → judge old (Next t number) ≡ None → scan_of old.scans t number ≡ Some scan
      → next_of_scan (now old) scan ≡ None
      → StepBy judge old (Next t number) (Ok AtEnd) old
  closes : (t number : ℕ) → judge old (CloseScan t number) ≡ None
      → StepBy judge old (CloseScan t number) (Ok Done) (record old { scans = map.remove old.scans number })
  locks : (t : ℕ) (item : Item) (exclusive : Bool) → judge old (Lock t item exclusive) ≡ None
      → LocksGranule (Lock t item exclusive)
      → StepBy judge old (Lock t item exclusive) (Ok Done) (locked (Lock t item exclusive) old)
  checkpoints : judge old Checkpoint ≡ None
      → StepBy judge old Checkpoint (Ok Done) (record old { meter = saved_now old })
  defines : (call : Call) (tables : Tables) → judge old call ≡ None → DefinesNames call
      → defined call old.base ≡ Some tables
      → StepBy judge old call (Ok Done) (redefined tables old)

abbrev pub Step : State → Call → Answer → State → Type 0
Step = StepBy refusal
