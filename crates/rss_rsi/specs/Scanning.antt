-- What a scan finds next.
use Rattle.std.specs.Prelude.{◌≡◌, ℕ, ◌+◌, ◌*◌, ◌≤◌, true, List, [], Option, Some, None, Result, Ok, Err, option_map}
use Rattle.rss_base.specs.DiskRule.{IsTold}
use Rattle.rss_base.specs.Listings.{Listing, IsNumberOf, image_at, relation_at}
use Rattle.rss_base.specs.Runs.{run_pages}
use Rattle.rss_base.specs.declared.answer.CallError.{CallError}
use Rattle.rss_base.specs.declared.answer.CallError.TheVariants.{Refused, Damaged, Device, NoMemory, Down}
use Rattle.rss_base.specs.declared.answer.Reply.TheVariants.{Row}
use Rattle.rss_base.specs.declared.fault.PageFault.TheVariants.{Device as DeviceFailed}
use Rattle.rss_base.specs.declared.image.ImageEntry.{ImageEntry}
use Rattle.rss_base.specs.declared.name.Name.{Name}
use Rattle.rss_base.specs.declared.call.Call.{Call}
use Rattle.rss_base.specs.declared.call.Call.TheVariants.{Next}
use Rattle.rss_base.specs.declared.refusal.Kind.TheVariants.{Image as ImageKind}
use Rattle.rss_base.specs.declared.refusal.Refusal.{Refusal}
use Rattle.rss_base.specs.declared.relation.RelationEntry.{RelationEntry}
use Rattle.rss_base.specs.declared.tid.Tid.{Tid}
use Rattle.rss_base.specs.declared.value.Value.{Value}
use Rattle.rss_model.specs.Chains.{is_there}
use Rattle.rss_model.specs.Images.{entry}
use Rattle.rss_model.specs.Kept.{Kept}
use Rattle.rss_model.specs.Machine.{State, now}
use Rattle.rss_model.specs.Refusals.{unless_in_chain}
use Rattle.rss_model.specs.ReplyText.{IsShort}
use Rattle.rss_model.specs.Scans.{RelationPath, LinkPath, next_along, next_of_scan, path_relation, scan_of}
use Rattle.rss_model.specs.Scans.{Scan as MachineScan}
use Rattle.rss_model.specs.Steps.{HasValues, unless_open}
use Rattle.rss_scan.specs.Scans.{cursor_of}
use Rattle.rss_scan.specs.declared.cursor.Cursor.{Cursor}
use Rattle.rss_scan.specs.declared.cursor.Path.TheVariants.{Image}
use Rattle.rss_catalog.specs.Catalogs.{HasNoLesser}
use Rattle.rss_session.specs.Admissions.{Says}
use Rattle.rss_session.specs.Calls.{GoesOn, KeepsTables}
use Rattle.rss_session.specs.Looks.{LooksOn}
use Rattle.rss_session.specs.Sessions.{SessionView}
use Rattle.rss_session.specs.Shown.{Shows}
use Rattle.rss_rsi.specs.Imaging.{Searches}
use Rattle.rss_rsi.specs.Placing.{IsRelationIn}
use Rattle.rss_rsi.specs.Views.{RssParts, IsIn, HasKeys, AreLong, spelling}

-- what a look along a path passes on
abbrev pub LooksBehind : {T : Type 0} → SessionView → SessionView → T → Type 0
LooksBehind old new found = LooksOn old new (Ok found)

-- the relation's list goes on so behind an entry, or begins so, in this state
abbrev pub GoesOnBy : State → RelationEntry → Option Tid → Option Tid → Type 0
GoesOnBy state relation after found =
    next_along (now state) (RelationPath relation.name) (option_map (entry []) after) ≡ option_map (entry []) found

-- A tuple stands next, with these values, in each state in which the engine is. The line that gives it is short.
pub record FindsRow (parts : RssParts) (number : ℕ) (after : Option Tid) (tid : Tid) (values : List Value) : Type 0 where
  pub next : (relation : RelationEntry) (state : State) → IsRelationIn parts number relation state
      → GoesOnBy state relation after (Some tid)
  pub has : (relation : RelationEntry) (state : State) → IsRelationIn parts number relation state
      → HasValues state relation.name tid values
  pub short : IsShort (Ok (Row tid values))

-- what stands behind an identifier, or first of all
abbrev pub FindsBehind : RssParts → ℕ → Option Tid → Option (Tid × List Value) → Type 0
FindsBehind parts number after (Some (tid, values)) = FindsRow parts number after tid values
FindsBehind parts number after None =
    (relation : RelationEntry) (state : State) → IsRelationIn parts number relation state
    → GoesOnBy state relation after None

-- ---- along a chain

-- the tuple that was given last is in the chain still, if any was
abbrev pub lost_test : Name → Option Tid → Option Tid → State → Option Refusal
lost_test link parent after state = unless_in_chain state (LinkPath link parent) (option_map (entry []) after)

-- the chain goes on so behind it, or begins so, in this state
abbrev pub ChainGoesOn : State → Name → Option Tid → Option Tid → Option Tid → Type 0
ChainGoesOn state link parent after found =
    next_along (now state) (LinkPath link parent) (option_map (entry []) after) ≡ option_map (entry []) found

-- It has these values. The line that gives it is short.
pub record Reads (view : SessionView) (number : ℕ) (tid : Tid) (values : List Value) : Type 0 where
  pub has : IsTold view.store.pages.disk → (state : State) → Kept state → Shows view state
      → (relation : RelationEntry) → relation_at view.store.catalog.listing number ≡ Some relation
      → HasValues state relation.name tid values
  pub short : IsShort (Ok (Row tid values))

-- no state shows a tuple there of the relation of this number
pub record FindsAbsent (old new : SessionView) (number : ℕ) (tid : Tid) : Type 0 where
  pub goes : GoesOn {T = Unit {0}} old new (Ok tt)
  pub moments : KeepsTables old new
  pub sound : IsTold old.store.pages.disk → (state : State) → Kept state → Shows old state
      → (relation : RelationEntry) → relation_at old.store.catalog.listing number ≡ Some relation
      → is_there (now state).contents relation.name tid ≡ true → ⊥

-- by the result, and whether the engine is up then
abbrev pub ReadComes : SessionView → SessionView → Type 0 → ℕ → Tid → Result (List Value) CallError → Type 0
ReadComes old new up number tid (Ok values) = up × Searches old new × Reads old number tid values
ReadComes old new up number tid (Err NoMemory) = up × Searches old new
ReadComes old new up number tid (Err Device) = (up → ⊥) × LooksOn {T = Unit {0}} old new (Err DeviceFailed)
ReadComes old new up number tid (Err (Damaged place)) = (up → ⊥) × FindsAbsent old new number tid
ReadComes old new up number tid (Err (Refused why)) = ⊥
ReadComes old new up number tid (Err Down) = ⊥

-- How a look for a tuple ends that is there. Where memory runs out, nothing is changed.
pub record ReadEnds (old new : SessionView) (up : Type 0) (number : ℕ) (tid : Tid) (result : Result (List Value) CallError) : Type 0 where
  pub by : ReadComes old new up number tid result

-- a tuple of the link's child relation has these values
pub record HasMember (state : State) (link : Name) (parent : Option Tid) (tid : Tid) (values : List Value) : Type 0 where
  pub relation : Name
  pub along : path_relation state.base (LinkPath link parent) ≡ Some relation
  pub has : HasValues state relation tid values

-- It stands next in the chain, in each state in which the session is. The line that gives it is short.
pub record FindsMemberRow (view : SessionView) (link : Name) (parent after : Option Tid) (tid : Tid) (values : List Value) : Type 0 where
  pub next : IsTold view.store.pages.disk → (state : State) → Kept state → Shows view state
      → ChainGoesOn state link parent after (Some tid)
  pub has : IsTold view.store.pages.disk → (state : State) → Kept state → Shows view state
      → HasMember state link parent tid values
  pub short : IsShort (Ok (Row tid values))

-- what stands behind a tuple of a chain, or first in it
abbrev pub FindsMember : SessionView → Name → Option Tid → Option Tid → Option (Tid × List Value) → Type 0
FindsMember view link parent after (Some (tid, values)) = FindsMemberRow view link parent after tid values
FindsMember view link parent after None =
    IsTold view.store.pages.disk → (state : State) → Kept state → Shows view state
    → ChainGoesOn state link parent after None

-- ---- along a scan

-- the call goes on along this scan of a transaction that is open
pub record IsNextOf (parts : RssParts) (t number : ℕ) (call : Call) : Type 0 where
  pub is : call ≡ Next t number
  pub opened : Says parts.session (λ state. unless_open state t) None

-- the scan of this number is a transaction's, in a state in which the engine is
pub record IsScanIn (parts : RssParts) (t number : ℕ) (state : State) (scan : MachineScan) : Type 0 where
  pub told : IsTold parts.session.store.pages.disk
  pub is_in : IsIn parts state
  pub there : scan_of state.scans t number ≡ Some scan

-- What a scan gives next: a tuple with these values, and with a key that is spelled so. What it gave last is there still, along a chain.
pub record GivesSpelled (state : State) (scan : MachineScan) (key : List ℕ) (tid : Tid) (values : List Value) : Type 0 where
  pub given : List Value
  pub stays : unless_in_chain state scan.path scan.last ≡ None
  pub next : next_of_scan (now state) scan ≡ Some (entry given tid)
  pub spelled : spelling state.base.definitions scan.path (Some (entry given tid))
      ≡ record (spelling state.base.definitions scan.path scan.last) { last = Some (key, tid) }
  pub keys : HasKeys state.base.definitions scan.path (Some (entry given tid))
  pub relation : Name
  pub along : path_relation state.base scan.path ≡ Some relation
  pub has : HasValues state relation tid values

-- It does so in each state in which the engine is. The line that gives the tuple is short, and its key as long as those of the scan.
pub record FindsNextRow (parts : RssParts) (t number : ℕ) (key : List ℕ) (tid : Tid) (values : List Value) : Type 0 where
  pub gives : (state : State) (scan : MachineScan) → IsScanIn parts t number state scan
      → GivesSpelled state scan key tid values
  pub long : (cursor : Cursor) → cursor_of parts.scans t number ≡ Some cursor
      → AreLong parts.session.store.catalog.listing cursor.path (Some (key, tid))
  pub short : IsShort (Ok (Row tid values))

-- what comes next along a scan
abbrev pub FindsNext : RssParts → ℕ → ℕ → Option (List ℕ × Tid × List Value) → Type 0
FindsNext parts t number (Some (key, tid, values)) = FindsNextRow parts t number key tid values
FindsNext parts t number None =
    (state : State) (scan : MachineScan) → IsScanIn parts t number state scan
    → (unless_in_chain state scan.path scan.last ≡ None) × (next_of_scan (now state) scan ≡ None)

-- ---- scans of images

-- the scan goes along the image of this number
pub record GoesAlongImage (parts : RssParts) (t scan number : ℕ) : Type 0 where
  pub cursor : Cursor
  pub image : Name
  pub start : List ℕ
  pub there : cursor_of parts.scans t scan ≡ Some cursor
  pub along : cursor.path ≡ Image image start
  pub named : IsNumberOf ImageKind parts.session.store.catalog.listing image number
  pub first : HasNoLesser ImageKind parts.session.store.catalog.listing image number

-- an image of this name is listed, with so many levels
pub record IsOfLevels (listing : Listing) (image : Name) (levels : ℕ) : Type 0 where
  pub number : ℕ
  pub listed : ImageEntry
  pub at : image_at listing number ≡ Some listed
  pub named : listed.name ≡ image
  pub many : listed.levels ≡ levels

-- each image of this name has at most so many levels
abbrev pub HasLevels : Listing → Name → ℕ → Type 0
HasLevels listing image most =
    (number : ℕ) (listed : ImageEntry) → image_at listing number ≡ Some listed → listed.name ≡ image
    → listed.levels ≤ most

-- A scan of an image asks for a page a level and three more at most, each of which may drive out another, with a run of pages.
abbrev pub CostsLevels : RssParts → RssParts → ℕ → ℕ → Type 0
CostsLevels old new t scan =
    (cursor : Cursor) (image : Name) (start : List ℕ) (most : ℕ)
    → cursor_of old.scans t scan ≡ Some cursor → cursor.path ≡ Image image start
    → HasLevels old.session.store.catalog.listing image most
    → (new.session.store.pages.asks ≤ old.session.store.pages.asks + (most + 3))
    × (new.session.store.pages.writes ≤ old.session.store.pages.writes + run_pages * (most + 3))
