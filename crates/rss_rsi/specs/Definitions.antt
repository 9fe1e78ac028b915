-- What a call that defines gives the session, and what the session makes of it.
use Rattle.std.specs.Prelude.{◌≡◌, ℕ, ◌+◌, ◌<◌, false, [], Result}
use Rattle.rss_base.specs.Steps.{PagesView}
use Rattle.rss_base.specs.declared.call.Call.{Call}
use Rattle.rss_base.specs.declared.refusal.Refusal.{Refusal}
use Rattle.rss_stored.specs.Calls.{EngineView, calls_most}
use Rattle.rss_model.specs.Defining.{DefinesNames}
use Rattle.rss_model.specs.Needs.{needs}
use Rattle.rss_model.specs.Tables.{Tables}
use Rattle.rss_lock.specs.Locks.{LocksView}
use Rattle.rss_scan.specs.Scans.{OpenScans}
use Rattle.rss_session.specs.Definitions.{Defining}
use Rattle.rss_session.specs.Parts.{view as session_view}
use Rattle.rss_session.specs.declared.session.Session.{Session}
use Rattle.rss_rsi.specs.Views.{RssParts, engine_view, IsReady}

-- A call that defines, and the engine to which it came: its session, locks and scans, and how many calls it was asked for before.
pub record Definition (S : Type 0) : Type 0 where
  pub call : Call
  pub session : Session S
  pub locks : LocksView
  pub scans : OpenScans
  pub calls : ℕ

-- what the engine was, and what there was to see of it, which was up
abbrev pub parts_before : {S : Type 0} → (S → PagesView) → Definition S → RssParts
parts_before pages_view to = record { session = session_view pages_view to.session; locks = to.locks; scans = to.scans }

abbrev pub view_of : {S : Type 0} → (S → PagesView) → Definition S → EngineView
view_of pages_view to = engine_view (parts_before pages_view to) to.calls (false ≡ false)

-- The call is counted, and the session has defined what it says, or refused it. It needs no locks, and locks and scans are as they were.
pub record IsDefining {S : Type 0} (pages_view : S → PagesView) (to : Definition S) (session : Session S) (locks : LocksView) (scans : OpenScans) (calls : ℕ) (made : Result (Unit {0}) Refusal) : Type 0 where
  pub names : DefinesNames to.call
  pub bare : (tables : Tables) → needs tables to.call ≡ []
  pub defining : Defining pages_view to.session session to.call made
  pub ready : IsReady (parts_before pages_view to) to.calls
  pub locked : locks ≡ to.locks
  pub scanned : scans ≡ to.scans
  pub few : to.calls < calls_most
  pub counted : calls ≡ to.calls + 1
