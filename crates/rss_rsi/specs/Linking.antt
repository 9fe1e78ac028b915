-- What a call on a link asks for, and what it finds.
use Rattle.std.specs.Prelude.{◌≡◌, ℕ, true, List, [], ◌∷◌, ◌++◌, Option, Some, None, option_map, IfSome, Result, Ok, Err, ⊤}
use Rattle.std.specs.FinMap as map
use Rattle.rss_base.specs.DiskRule.{IsTold}
use Rattle.rss_base.specs.LogRecords.{HasSlot, HasPage}
use Rattle.rss_base.specs.declared.answer.CallError.{CallError}
use Rattle.rss_base.specs.declared.answer.CallError.TheVariants.{Refused, Damaged, Device, NoMemory, Down}
use Rattle.rss_base.specs.declared.fault.PageFault.TheVariants.{Device as DeviceFailed}
use Rattle.rss_base.specs.declared.item.Item.{Item}
use Rattle.rss_base.specs.declared.item.Item.TheVariants.{Chain as ChainItem}
use Rattle.rss_base.specs.declared.name.Name.{Name}
use Rattle.rss_base.specs.declared.need.Need.{Need}
use Rattle.rss_base.specs.declared.place.Place.TheVariants.{Tuple as TuplePlace}
use Rattle.rss_base.specs.declared.refusal.Refusal.{Refusal}
use Rattle.rss_base.specs.declared.refusal.Refusal.TheVariants.{Connected, NotConnected}
use Rattle.rss_base.specs.declared.spot.Spot.{Spot}
use Rattle.rss_base.specs.declared.tid.Tid.{Tid}
use Rattle.rss_members.specs.declared.membership.Membership.{Membership}
use Rattle.rss_model.specs.Chains.{chain_with}
use Rattle.rss_model.specs.Defining.{refused_if}
use Rattle.rss_model.specs.Kept.{Kept}
use Rattle.rss_model.specs.Locks.{Locks, granted}
use Rattle.rss_model.specs.Machine.{State, now}
use Rattle.rss_model.specs.Needs.{chain_needs, disconnect_needs, upper_needs, tuple_read, tuple_changed}
use Rattle.rss_model.specs.Refusals.{is_in_chain, link_of, unless_child, unless_parent, unless_spot}
use Rattle.rss_model.specs.ReplyText.{IsShort}
use Rattle.rss_model.specs.Steps.{first_of, keeps_locks}
use Rattle.rss_model.specs.Tables.{LinkDef, Tables}
use Rattle.rss_session.specs.Calls.{GoesOn, KeepsTables}
use Rattle.rss_session.specs.Looks.{LooksOn}
use Rattle.rss_session.specs.Sessions.{SessionView}
use Rattle.rss_session.specs.Shown.{Shows}
use Rattle.rss_rsi.specs.Imaging.{Searches}
use Rattle.rss_rsi.specs.Views.{RssParts, IsIn}
use Rattle.rss_rsi.specs.declared.locking.Access.{Access}
use Rattle.rss_rsi.specs.declared.locking.Access.TheVariants.{Read, Change}

-- ---- locks

-- behind these needs stand others, in each state in which the engine may be
abbrev pub ListsBehind : RssParts → (Tables → List Need) → List Need → List Need → Type 0
ListsBehind parts needs before list =
    IsTold parts.session.store.pages.disk → (state : State) → IsIn parts state
    → before ++ needs (now state) ≡ list

-- those with which a tuple of the child relation of a link is read or changed, by what is defined of the link
abbrev pub child_list : Tables → Access → Tid → Option LinkDef → List Need
child_list tables access child None = []
child_list tables Read child (Some link) = tuple_read tables link.child child
child_list tables Change child (Some link) = tuple_changed tables link.child child

-- those of a chain, and of its parent alone
abbrev pub chain_list : Tables → Name → Option Tid → Option LinkDef → List Need
chain_list tables name parent None = []
chain_list tables name parent (Some link) = chain_needs tables name link.parent parent

abbrev pub upper_list : Tables → Option Tid → Option LinkDef → List Need
upper_list tables parent None = []
upper_list tables parent (Some link) = upper_needs tables link.parent parent

-- the chain of a place
abbrev pub chain_of : Name → Membership → Item
chain_of link place = ChainItem link place.parent

-- those with which a tuple goes out of its chain, where this is its place
abbrev pub ListsPlaced : RssParts → Name → Tid → Option Membership → List Need → Type 0
ListsPlaced parts link child place list =
    IsTold parts.session.store.pages.disk → (state : State) → IsIn parts state
    → chain_with (now state).contents link child ≡ option_map (chain_of link) place
    → disconnect_needs (now state) link child (map.get (now state).definitions.links link) ≡ list

-- ---- tests that look at pages

-- on a device that tells its contents the test says this in each state in which the session may be
abbrev pub SaysFound : SessionView → (State → Option Refusal) → Option Refusal → Type 0
SaysFound view test why =
    IsTold view.store.pages.disk → (state : State) → Kept state → Shows view state → test state ≡ why

-- it refuses so, by a line that is short, and the answer rests on the locks
pub record RefusesFound (view : SessionView) (test : State → Option Refusal) (why : Refusal) : Type 0 where
  pub says : SaysFound view test (Some why)
  pub short : IsShort (Err why)
  pub keeps : keeps_locks why ≡ true

-- a look found what no state shows
pub record FindsBroken (old new : SessionView) : Type 0 where
  pub goes : GoesOn {T = Unit {0}} old new (Ok tt)
  pub moments : KeepsTables old new
  pub sound : IsTold old.store.pages.disk → (state : State) → Kept state → Shows old state → ⊥

-- by the result, and whether the engine is up then
abbrev pub TestComes : {T : Type 0} → SessionView → SessionView → Type 0 → (State → Option Refusal) → Result T CallError → Type 0
TestComes old new up test (Ok found) = up × Searches old new × SaysFound old test None
TestComes old new up test (Err (Refused why)) = up × Searches old new × RefusesFound old test why
TestComes old new up test (Err NoMemory) = up × Searches old new
TestComes old new up test (Err Device) = (up → ⊥) × LooksOn {T = Unit {0}} old new (Err DeviceFailed)
TestComes old new up test (Err (Damaged place)) = (up → ⊥) × FindsBroken old new
TestComes old new up test (Err Down) = ⊥

-- How such a test ends. Where it is passed, or refuses, or memory runs out, nothing is changed.
pub record TestEnds {T : Type 0} (old new : SessionView) (up : Type 0) (test : State → Option Refusal) (result : Result T CallError) : Type 0 where
  pub by : TestComes old new up test result

-- ---- the tests

-- one that is passed always
abbrev pub passes_all : State → Option Refusal
passes_all state = None

-- there is such a tuple of the child relation, or such a parent
abbrev pub below_test : Name → Tid → State → Option Refusal
below_test link child state = unless_child state (link_of state link) child

abbrev pub above_test : Name → Option Tid → State → Option Refusal
above_test link parent state = unless_parent state (link_of state link) parent

-- the tuple stands in a chain
abbrev pub if_placed : Name → Tid → State → Option Refusal
if_placed link child state = refused_if (is_in_chain state link child) (Connected link)

-- the tests of a call that puts a tuple into a chain, behind those of its locks
abbrev pub connect_tests : Name → Tid → Option Tid → Spot → State → Option Refusal
connect_tests link child parent spot state =
    first_of (below_test link child state ∷ above_test link parent state ∷ if_placed link child state
    ∷ unless_spot state link parent spot ∷ [])

-- what a call is refused for that takes a tuple out which stands in no chain
abbrev pub stray_tests : Name → Tid → State → Option Refusal
stray_tests link child state = first_of (below_test link child state ∷ Some (NotConnected link) ∷ [])

-- ---- identifiers that pages give

-- a record of the log can tell of the tuple
abbrev pub MayBeTold : Tid → Type 0
MayBeTold tid = HasSlot tid × HasPage tid

-- and of its place
pub record IsPlaced (child : Tid) (place : Membership) : Type 0 where
  pub child_slot : HasSlot child
  pub parent : IfSome place.parent MayBeTold
  pub left : IfSome place.left MayBeTold

-- none can, which is damage
pub record IsMisnamed (segment : ℕ) (given : Option Tid) (why : CallError) : Type 0 where
  pub tid : Tid
  pub some : given ≡ Some tid
  pub past : HasSlot tid → ⊥
  pub is : why ≡ Damaged (TuplePlace segment tid)

-- ---- locks of refused calls

-- the call is refused, and not stopped by a fault
abbrev pub IsRefused : CallError → Type 0
IsRefused (Refused why) = ⊤
IsRefused other = ⊥

abbrev pub kept_by : CallError → ℕ → List Need → Locks → Locks
kept_by (Refused why) t list locks = granted t list locks
kept_by other t list locks = locks
