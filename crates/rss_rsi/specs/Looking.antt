-- What a call finds that looks for a tuple first, and how it ends where it finds none or may not have it.
use Rattle.std.specs.Prelude.{◌≡◌, ℕ, ◌+◌, ◌*◌, ◌≤◌, true, List, Option, Some, None, IfSome, Result, Ok, All}
use Rattle.rss_base.specs.DiskRule.{IsTold}
use Rattle.rss_base.specs.LogRecords.{HasSlot}
use Rattle.rss_base.specs.Runs.{run_pages}
use Rattle.rss_base.specs.Listings.{IsNumberOf, relation_at}
use Rattle.rss_base.specs.TupleTypes.{kinds, misfit, IsStorable}
use Rattle.rss_base.specs.declared.answer.CallError.{CallError}
use Rattle.rss_base.specs.declared.answer.Reply.{Reply}
use Rattle.rss_base.specs.declared.answer.Reply.TheVariants.{Tuple as TupleReply}
use Rattle.rss_base.specs.declared.call.Call.{Call}
use Rattle.rss_base.specs.declared.item.Item.TheVariants.{Tuple as TupleItem}
use Rattle.rss_base.specs.declared.name.Name.{Name}
use Rattle.rss_base.specs.declared.need.Need.{Need}
use Rattle.rss_base.specs.declared.refusal.Kind.TheVariants.{Relation as RelationKind}
use Rattle.rss_base.specs.declared.refusal.Refusal.TheVariants.{NoTuple}
use Rattle.rss_base.specs.declared.relation.RelationEntry.{RelationEntry}
use Rattle.rss_base.specs.declared.tid.Tid.{Tid}
use Rattle.rss_base.specs.declared.value.Value.{Value}
use Rattle.rss_model.specs.Callers.{caller}
use Rattle.rss_stored.specs.Calls.{EngineView, IsCallOf}
use Rattle.rss_model.specs.Costs.{most_asks, most_writes, may_lack_memory}
use Rattle.rss_model.specs.Defining.{DefinesNames, LocksGranule}
use Rattle.rss_model.specs.Locks.{Bar, first_bar}
use Rattle.rss_model.specs.Machine.{State, now}
use Rattle.rss_model.specs.Needs.{needs}
use Rattle.rss_model.specs.Refusals.{busy}
use Rattle.rss_model.specs.ReplyText.{IsShort}
use Rattle.rss_model.specs.Steps.{HasValues, refusal}
use Rattle.rss_model.specs.Tables.{content}
use Rattle.rss_session.specs.Looks.{LooksOn}
use Rattle.rss_session.specs.Sessions.{SessionView}
use Rattle.rss_rsi.specs.Locking.{accessing, Lists, IsClaimed}
use Rattle.rss_rsi.specs.Views.{RssParts, IsIn}
use Rattle.rss_rsi.specs.declared.locking.Access.{Access}

-- ---- calls that share what they begin with

-- the engine when it had been asked for so many calls
abbrev pub asked_for : ℕ → EngineView → EngineView
asked_for calls view = record view { calls = calls }

-- each call of such calls comes to this result, where it alone was counted before
abbrev pub EndsEach : (Call → Type 0) → EngineView → EngineView → Result Reply CallError → Type 0
EndsEach Is old new result =
    (calls : ℕ) (call : Call) → old.calls ≡ calls + 1 → Is call
    → IsCallOf (asked_for calls old) new call result

-- a call that a fault of the pages or want of memory may end
pub record MayStop (call : Call) : Type 0 where
  pub names : DefinesNames call
  pub granule : LocksGranule call
  pub memory : may_lack_memory call ≡ true

-- and that may ask for two pages
pub record MayLook (call : Call) : Type 0 where
  pub stop : MayStop call
  pub asks : IfSome (most_asks call) (λ most. 2 ≤ most)
  pub writes : IfSome (most_writes call) (λ most. run_pages * 2 ≤ most)

-- ---- looks

-- A call of a transaction that goes to this tuple, and gives it such values: once it is admitted, it is refused where another holds what it needs, and else where there is no such tuple.
pub record LooksFor (parts : RssParts) (t : ℕ) (relation : Name) (tid : Tid) (access : Access) (new : List (List Value)) (call : Call) : Type 0 where
  pub may : MayLook call
  pub by : caller call ≡ Some t
  pub needs_are : (state : State) → IsIn parts state
      → needs (now state) call ≡ accessing (now state) access relation tid new
  pub busy_so : IsTold parts.session.store.pages.disk → (state : State) → IsIn parts state
      → (bar : Bar) → first_bar state.locks t (needs (now state) call) ≡ Some bar
      → refusal state call ≡ Some (busy bar)
  pub lacks : IsTold parts.session.store.pages.disk → (state : State) → IsIn parts state
      → first_bar state.locks t (needs (now state) call) ≡ None
      → content (now state).contents (TupleItem relation tid) ≡ None
      → refusal state call ≡ Some (NoTuple relation tid)

-- the two pages that a look may ask for, each of which may drive out another, with a run of pages
pub record CostsTwo (old new : SessionView) : Type 0 where
  pub asks_high : new.store.pages.asks ≤ old.store.pages.asks + 2
  pub writes_high : new.store.pages.writes ≤ old.store.pages.writes + run_pages * 2

-- what a look for a tuple passes on
pub record LooksUp {T : Type 0} (old new : SessionView) (found : T) : Type 0 where
  pub looks : LooksOn old new (Ok found)
  pub costs : CostsTwo old new

-- The tuple has these values in each state in which the engine was. They fit the relation's fields, and the line that gives them is short. The identifier may be that of a tuple.
pub record Finds (old : RssParts) (number : ℕ) (relation : Name) (tid : Tid) (values : List Value) : Type 0 where
  pub has : IsTold old.session.store.pages.disk → (state : State) → IsIn old state
      → HasValues state relation tid values
  pub fit : (entry : RelationEntry) → relation_at old.session.store.catalog.listing number ≡ Some entry
      → misfit (kinds entry.fields) values ≡ None
  pub storable : All IsStorable values
  pub short : IsShort (Ok (TupleReply values))
  pub slot : HasSlot tid

-- none of the relation has the identifier in any of them
abbrev pub FindsNone : RssParts → Name → Tid → Type 0
FindsNone old relation tid =
    IsTold old.session.store.pages.disk → (state : State) → IsIn old state
    → content (now state).contents (TupleItem relation tid) ≡ None

-- what was found of a relation that has this number
abbrev pub FindsAny : RssParts → ℕ → Tid → Option (List Value) → Type 0
FindsAny old number tid (Some values) =
    (relation : Name) → IsNumberOf RelationKind old.session.store.catalog.listing relation number
    → Finds old number relation tid values
FindsAny old number tid None =
    (relation : Name) → IsNumberOf RelationKind old.session.store.catalog.listing relation number
    → FindsNone old relation tid

-- A tuple with these values was found, and the locks of the call that goes to it are claimed.
pub record FindsHeld (old new : RssParts) (t number : ℕ) (relation : Name) (tid : Tid) (access : Access) (given : List (List Value)) (values : List Value) (list : List Need) : Type 0 where
  pub looked : LooksUp old.session new.session values
  pub finds : Finds old number relation tid values
  pub lists : Lists old (λ tables. accessing tables access relation tid given) list
  pub claimed : IsClaimed old.locks new.locks t list
