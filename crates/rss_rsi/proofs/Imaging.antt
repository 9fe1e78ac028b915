-- The ways in which a call ends that makes an image or takes one away.
use Rattle.std.proofs.Common.{◌≡◌, inl, ℕ, ◌+◌, ◌<◌, Option, Some, None, refl, sym, ◌∙◌, ap, subst, arith}
use Rattle.std.specs.Prelude.{Result, Ok, Err, IsOk, IsErrAnd, IfNone, IfSome}
use Rattle.std.specs.FinMap.{empty, get}
use Rattle.std.proofs.lemmas.Bool.{true≢false}
use Rattle.std.proofs.lemmas.Option.{same_Some}
use Rattle.rss_base.specs.Answers.{page_error}
use Rattle.rss_base.specs.DiskRule.{IsTold, Passes}
use Rattle.rss_base.specs.Sizes.{largest_checkpoint}
use Rattle.rss_base.specs.Steps.{PagesView}
use Rattle.rss_base.specs.declared.answer.CallError.{CallError}
use Rattle.rss_base.specs.declared.answer.CallError.TheVariants.{Refused}
use Rattle.rss_base.specs.declared.answer.Reply.{Reply}
use Rattle.rss_base.specs.declared.answer.Reply.TheVariants.{Ok as Done}
use Rattle.rss_base.specs.declared.call.Call.{Call}
use Rattle.rss_base.specs.declared.call.Call.TheVariants.{DropImage}
use Rattle.rss_base.specs.declared.fault.PageFault.{PageFault}
use Rattle.rss_base.specs.declared.fault.PageFault.TheVariants.{Damaged as PageDamaged}
use Rattle.rss_base.specs.declared.name.Name.{Name}
use Rattle.rss_base.specs.declared.place.Place.{Place}
use Rattle.rss_base.specs.declared.refusal.Refusal.{Refusal}
use Rattle.rss_base.specs.declared.root.Root.{Root}
use Rattle.rss_base.proofs.Moments.{then, widened}
use Rattle.rss_stored.specs.Calls.{TakesNone, GoesOn, IsCallOf, calls_most}
use Rattle.rss_model.specs.Defining.{defined, DefinesNames}
use Rattle.rss_model.specs.Machine.{State}
use Rattle.rss_model.specs.ReplyText.{IsShort}
use Rattle.rss_model.specs.Steps.{refusal, redefined, left_by}
use Rattle.rss_model.specs.Steps.StepBy.{defines, refuses}
use Rattle.rss_stored.specs.Store.{OpensToEither}
use Rattle.rss_model.specs.Tables.{Tables}
use Rattle.rss_stored.specs.Turns.{IsStopped}
use Rattle.rss_stored.proofs.Endings.{comes_to, none_no_end, IsDefined, defined_by}
use Rattle.rss_model.proofs.StepKeeping.{steps_keep}
use Rattle.rss_stored.proofs.Totals.{definition_stops}
use Rattle.rss_lock.specs.Locks.{LocksView}
use Rattle.rss_lock.specs.declared.locks.Locks.{Locks as LockTable}
use Rattle.rss_log.specs.Logs.{LogView}
use Rattle.rss_scan.specs.Scans.{OpenScans}
use Rattle.rss_trans.specs.Transactions.{OpenView}
use Rattle.rss_session.specs.Admissions.{Says}
use Rattle.rss_session.specs.Calls.{IsRedefined, KeepsTables, RedefinesTables, Appends}
use Rattle.rss_session.specs.Calls.{GoesOn as SessionGoesOn}
use Rattle.rss_session.specs.Calls.{GoesOnIf, TakesNoCheckpoint, ChecksOn}
use Rattle.rss_session.specs.Parts.{view as session_view}
use Rattle.rss_session.specs.Sessions.{SessionView, IsEarly}
use Rattle.rss_session.specs.Sessions.{IsReady as IsSessionReady}
use Rattle.rss_session.specs.Shown.{Shows}
use Rattle.rss_session.specs.Taking.{TakesImage, without_image}
use Rattle.rss_session.specs.declared.session.Session.{Session}
use Rattle.rss_session.proofs.Passing.{goes_if, goes_then}
use Rattle.rss_rsi.specs.Definitions.{Definition, parts_before, view_of}
use Rattle.rss_rsi.specs.Imaging.{CostsAny, IsListed, IsRelisted, MayRedefine}
use Rattle.rss_rsi.specs.Views.{RssParts, IsIn, engine_view, IsReady}
use Rattle.rss_rsi.proofs.Defining.{none_open_in}
use Rattle.rss_rsi.proofs.Spelled.{none_open, none_scanning, still_scans, vacant}
use Rattle.rss_rsi.proofs.Ways.{MayStep, ScanTable, rises_any, goes_bounded, none_taken, failed_within, ready_then, refused_test, rss_parts, opened_stay, holders_stay}

-- no bound is claimed
pub goes_any : {T : Type 0} {still : Type 0} {old new : RssParts} {n m : ℕ} {up up_now : Type 0} {call : Call} {result : Result T PageFault} → CostsAny call → GoesOnIf still old.session new.session result → m ≡ n + 1
    → (TakesNone (engine_view old n up) (engine_view new m up_now) call → still) → GoesOn (engine_view old n up) (engine_view new m up_now) call
goes_any {old = old} {new = new} {call = call} {result = result} costs on calls is =
    goes_bounded result (none_no_end call costs.of_none) on calls (rises_any old.session.store.pages.asks new.session.store.pages.asks costs.asks)
    (rises_any old.session.store.pages.writes new.session.store.pages.writes costs.writes) is

-- a call that defines may make a step: it is refused, or it defines
pub may_define : (state : State) (call : Call) {next : Tables} → DefinesNames call → defined call state.base ≡ Some next → MayStep state call
may_define state call {next = next} names so = by (refusal state call) refl
  where
    by : (why : Option Refusal) → refusal state call ≡ why → MayStep state call
    by None is = record { answer = Ok Done; next = redefined next state; step = defines call next is names so }
    by (Some why) is = record { answer = Err why; next = left_by state call why; step = refuses call why is }

module _ {S : Type 0} (pages_view : S → PagesView) {to : Definition S} {now : Session S} {locks : LocksView} {scans : OpenScans} {calls : ℕ} (is : IsListed pages_view to now locks scans calls) where
  abbrev before : RssParts
  before = parts_before pages_view to

  abbrev between : SessionView
  between = session_view pages_view now

  -- the engine with this session has the locks and the scans that it had
  abbrev with_held : SessionView → RssParts
  with_held session = record { session = session; locks = locks; scans = scans }

  pub image_closed : between.opened.transactions ≡ empty
  image_closed = ap (λ (o : OpenView). o.transactions) is.lists.opened ∙ is.lists.closed

  pub image_early : IsEarly between largest_checkpoint
  image_early = omega (arith, is.ready.paced, is.few, ap (λ (l : LogView). l.end) is.lists.log)

  -- ---- and it is committed

  module _ {new : SessionView} {result : Result (Unit {0}) PageFault} (on : ChecksOn between new result) (moments : RedefinesTables between new) where
    on_before : ChecksOn before.session new result
    on_before = goes_if {still = TakesNoCheckpoint between new result} (λ still. (still.0, still.1 ∙ sym (ap (λ (r : Root). r.checkpoint) (is.lists.goes.unsaved tt).root))) (goes_then (goes_if (λ still. tt) is.lists.goes) on)

    goes_listed : {up_now : Type 0} → (up_now → IsOk result) → GoesOn (view_of pages_view to) (engine_view (with_held new) calls up_now) to.call
    goes_listed {up_now = up_now} is_ok = goes_any is.costs on_before (omega (arith, is.counted)) (none_taken before.session new to.call up_now result is.costs.saves is_ok)

    module _ (told : IsTold before.session.store.pages.disk) (state : State) (is_in : IsIn before state) where
      may : MayRedefine state to.call between
      may = is.lists.redefines told state is_in.kept is_in.shows

      either : Passes before.session.store.pages.disk new.store.pages.disk (OpensToEither state.size state.base may.next)
      either = then (widened (is.lists.moments told state is_in.kept is_in.shows) (λ image opens. inl opens))
          (moments (is.lists.goes.told.0 told) state may.next may.redefines) (λ image opens. opens)

      may_stop : IsStopped before.session.store.pages.disk new.store.pages.disk state to.call
      may_stop = definition_stops state to.call may.next is.names may.passed may.so either

      is_defined : {up : Type 0} → (IsTold between.store.pages.disk → (state : State) (next : Tables) → IsRedefined between state next → Shows new (redefined next state))
          → IsDefined (view_of pages_view to) (engine_view (with_held new) calls up) state to.call
      is_defined shows = record {
        next = may.next;
        passed = may.passed;
        so = may.so;
        shows = record {
          shows = shows (is.lists.goes.told.0 told) state may.next may.redefines;
          locked = is_in.locked ∙ ap (λ (l : LocksView). l.locks) (sym is.locked);
          scanned =
              let none = none_scanning is_in.kept may.redefines.none_open in
              still_scans is.scanned refl (none_open may.next.definitions state.scans to.scans none (vacant is_in.scanned none));
          kept = steps_keep state (redefined may.next state) to.call (Ok Done) (defines to.call may.next may.passed is.names may.so) is_in.kept;
        };
        moments = either;
      }

    pub image_done : {up : Type 0} → IsOk result → up → (IsTold between.store.pages.disk → (state : State) (next : Tables) → IsRedefined between state next → Shows new (redefined next state))
        → IsCallOf (view_of pages_view to) (engine_view (with_held new) calls up) to.call (Ok Done)
    image_done is_ok is_up shows = comes_to refl (goes_listed (λ up. is_ok)) (defined_by is.names is_up (λ told state is_in. is_defined told state is_in shows))

    pub image_ready : IsSessionReady new → Appends largest_checkpoint between new → new.opened.transactions ≡ between.opened.transactions → IsReady (with_held new) calls
    image_ready ready appends transactions = ready_then {appended = largest_checkpoint} is.ready is.counted (omega arith) ready
        (omega (arith, appends, ap (λ (l : LogView). l.end) is.lists.log))
        (λ t. omega (arith, on_before.saves t))
        (holders_stay before (with_held new) is.ready.holders (opened_stay before.session new (transactions ∙ ap (λ (o : OpenView). o.transactions) is.lists.opened)) (ap (λ (l : LocksView). l.locks) is.locked))
        (λ number scan has. absurd (true≢false (sym (is.ready.scans number scan (ap (λ (s : OpenScans). get s number) (sym is.scanned) ∙ has)).owner ∙ none_open_in before.session is.lists.closed scan.owner)))

  -- the device failed, or shows damage, which none does that tells its contents
  pub image_fails : {new : SessionView} {fault : PageFault} {up_now : Type 0} (answer : Result Reply CallError) → IsErrAnd answer (λ why. why ≡ page_error fault) → (up_now → ⊥)
      → ChecksOn {T = Unit {0}} between new (Err fault) → RedefinesTables between new
      → ((place : Place) → ◌≡◌ {A = Result (Unit {0}) PageFault} (Err fault) (Err (PageDamaged place)) → IsTold between.store.pages.disk → (state : State) (next : Tables) → IsRedefined between state next → ⊥) → IsCallOf (view_of pages_view to) (engine_view (with_held new) calls up_now) to.call answer
  image_fails answer answered down on moments sound =
      failed_within answer answered refl down (on_before on moments) (goes_listed on moments (λ up. absurd (down up)))
      (λ place same told state is_in. let so = may on moments told state is_in in sound place same (is.lists.goes.told.0 told) state so.next so.redefines)
      (may_stop on moments)

-- ---- what is listed

-- how a session goes on doesn't hang on what was answered
pub goes_plain : {T : Type 0} {value : T} {old new : SessionView} → SessionGoesOn old new (Ok value) → SessionGoesOn {T = Unit {0}} old new (Ok tt)
goes_plain on = record {
  told = on.told;
  history = on.history;
  later = on.later;
  failed = λ is. absurd (cc (is));
  memory = λ is. absurd (cc (is));
  slots = on.slots;
  log_pages = on.log_pages;
  frames = on.frames;
  saves = on.saves;
  unsaved = on.unsaved;
}

module _ {S : Type 0} (pages_view : S → PagesView) where
  -- the session that counted the call was told to list what it defines
  pub is_listed : (to : Definition S) {asked now : Session S} {locks : LocksView} {scans : OpenScans} {calls : ℕ} → asked ≡ to.session → IsRelisted to.call (session_view pages_view asked) (session_view pages_view now) → DefinesNames to.call → CostsAny to.call
      → IsReady (parts_before pages_view to) to.calls → locks ≡ to.locks → scans ≡ to.scans → to.calls < calls_most → calls ≡ to.calls + 1 → IsListed pages_view to now locks scans calls
  is_listed to {now = now} same lists names costs ready locked scanned few counted = record {
    names = names;
    costs = costs;
    lists = subst (λ (s : Session S). IsRelisted to.call (session_view pages_view s) (session_view pages_view now)) same lists;
    ready = ready;
    locked = locked;
    scanned = scanned;
    few = few;
    counted = counted;
  }

-- an image was taken away
pub drop_listed : {old new : SessionView} {name : Name} (refused : Option Refusal) → refused ≡ None → IfNone refused (TakesImage name old new) → Says old (λ state. refusal state (DropImage name)) refused → KeepsTables old new
    → SessionGoesOn old new (Ok refused) → IsRelisted (DropImage name) old new
drop_listed (Some why) is takes says moments goes = absurd (cc (is))
drop_listed {name = name} None is takes says moments goes = record {
  closed = takes.closed;
  opened = takes.touches.opened;
  log = takes.touches.log;
  saves = takes.saves;
  goes = goes_plain goes;
  moments = moments;
  redefines = λ told state kept shows. record {
    next = without_image state.base name;
    passed = says told state shows;
    so = refl;
    redefines = takes.redefines told state kept shows;
  };
}

-- it is refused, and nothing has changed
pub drop_refused : {S : Type 0} (pages_view : S → PagesView) (old now : Session S) {name : Name} (locks : LockTable) (scans : ScanTable) (refused : Option Refusal) {why : Refusal} → refused ≡ Some why → IfSome refused (λ why. now ≡ old) → IfSome refused (λ why. IsShort (Err why))
    → Says (session_view pages_view old) (λ state. refusal state (DropImage name)) refused → {n m : ℕ} {up up_now : Type 0} → up → up_now → m ≡ n + 1
    → IsCallOf (engine_view (rss_parts pages_view old locks scans) n up) (engine_view (rss_parts pages_view now locks scans) m up_now) (DropImage name) (Err (Refused why))
drop_refused pages_view old now locks scans None is same short says was_up is_up calls = absurd (cc (is))
drop_refused {S = S} pages_view old now {name = name} locks scans (Some other) {why = why} is same short says {n = n} {m = m} {up = up} {up_now = up_now} was_up is_up calls =
    let so : other ≡ why = same_Some _ _ is in
    subst (λ (s : Session S). IsCallOf (engine_view (rss_parts pages_view old locks scans) n up) (engine_view (rss_parts pages_view s locks scans) m up_now) (DropImage name) (Err (Refused why))) (sym same)
    (refused_test {why = other} (Err (Refused why)) (ap Refused (sym so)) was_up is_up calls short (λ tables. refl) says)
