-- What a call that makes an image, or takes one away, has done before it is committed; and how a search for its entries ends.
use Rattle.std.specs.Prelude.{◌≡◌, ℕ, ◌+◌, ◌<◌, true, Some, None, Result, Ok, Err}
use Rattle.std.specs.FinMap.{empty}
use Rattle.rss_base.specs.DiskRule.{IsTold}
use Rattle.rss_base.specs.Steps.{PagesView}
use Rattle.rss_base.specs.declared.answer.CallError.{CallError}
use Rattle.rss_base.specs.declared.answer.CallError.TheVariants.{Refused, Damaged, Device, NoMemory, Down}
use Rattle.rss_base.specs.declared.call.Call.{Call}
use Rattle.rss_base.specs.declared.fault.PageFault.TheVariants.{Device as DeviceFailed, Damaged as PageDamaged}
use Rattle.rss_stored.specs.Calls.{calls_most}
use Rattle.rss_model.specs.Callers.{caller}
use Rattle.rss_model.specs.Costs.{most_asks, most_writes, may_save}
use Rattle.rss_model.specs.Defining.{defined, DefinesNames}
use Rattle.rss_model.specs.Kept.{Kept}
use Rattle.rss_model.specs.Machine.{State}
use Rattle.rss_model.specs.Steps.{refusal}
use Rattle.rss_model.specs.Tables.{Tables}
use Rattle.rss_lock.specs.Locks.{LocksView}
use Rattle.rss_scan.specs.Scans.{OpenScans}
use Rattle.rss_session.specs.Calls.{GoesOn, IsRedefined, KeepsTables}
use Rattle.rss_session.specs.Looks.{LooksOn}
use Rattle.rss_session.specs.Parts.{view as session_view}
use Rattle.rss_session.specs.Sessions.{SessionView, CanSave}
use Rattle.rss_session.specs.Shown.{Shows}
use Rattle.rss_session.specs.declared.session.Session.{Session}
use Rattle.rss_rsi.specs.Definitions.{Definition, parts_before}
use Rattle.rss_rsi.specs.Views.{IsReady}

-- The call isn't refused in this state, and what it defines may be committed.
pub record MayRedefine (state : State) (call : Call) (session : SessionView) : Type 0 where
  pub next : Tables
  pub passed : refusal state call ≡ None
  pub so : defined call state.base ≡ Some next
  pub redefines : IsRedefined session state next

-- From a session in which nothing was open to one that lists what the call defines. A stop leaves the committed tables.
pub record IsRelisted (call : Call) (old new : SessionView) : Type 0 where
  pub closed : old.opened.transactions ≡ empty
  pub opened : new.opened ≡ old.opened
  pub log : new.store.log ≡ old.store.log
  pub saves : CanSave new
  pub goes : GoesOn {T = Unit {0}} old new (Ok tt)
  pub moments : KeepsTables old new
  pub redefines : IsTold old.store.pages.disk → (state : State) → Kept state → Shows old state
      → MayRedefine state call new

-- No bound is claimed of what the call costs. It is no transaction's, and may take a checkpoint.
pub record CostsAny (call : Call) : Type 0 where
  pub of_none : caller call ≡ None
  pub asks : most_asks call ≡ None
  pub writes : most_writes call ≡ None
  pub saves : may_save call ≡ true

-- The call is counted, and its session lists what it defines. Locks and scans are as they were.
pub record IsListed {S : Type 0} (pages_view : S → PagesView) (to : Definition S) (session : Session S) (locks : LocksView) (scans : OpenScans) (calls : ℕ) : Type 0 where
  pub names : DefinesNames to.call
  pub costs : CostsAny to.call
  pub lists : IsRelisted to.call (session_view pages_view to.session) (session_view pages_view session)
  pub ready : IsReady (parts_before pages_view to) to.calls
  pub locked : locks ≡ to.locks
  pub scanned : scans ≡ to.scans
  pub few : to.calls < calls_most
  pub counted : calls ≡ to.calls + 1

-- ---- a search

-- what it passes on, where it is no fault
abbrev pub Searches : SessionView → SessionView → Type 0
Searches old new = LooksOn {T = Unit {0}} old new (Ok tt)

-- How it ends, by the result, and whether the engine is up then. Where memory runs out, nothing is changed.
abbrev pub SearchEnds : {T : Type 0} → SessionView → SessionView → Type 0 → Result T CallError → Type 0
SearchEnds old new up (Ok found) = up × Searches old new
SearchEnds old new up (Err NoMemory) = up × Searches old new
SearchEnds old new up (Err Device) = (up → ⊥) × LooksOn {T = Unit {0}} old new (Err DeviceFailed)
SearchEnds old new up (Err (Damaged place)) =
    (up → ⊥) × LooksOn {T = Unit {0}} old new (Err (PageDamaged place))
SearchEnds old new up (Err (Refused why)) = ⊥
SearchEnds old new up (Err Down) = ⊥
