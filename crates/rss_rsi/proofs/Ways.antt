-- The ways in which a call of an engine over a session ends.
use Rattle.std.proofs.Common.{◌≡◌, ◌⊎◌, inl, inr, List, [], ℕ, ◌+◌, ◌^◌, ◌≤◌, length, Option, Some, None, arith, refl, sym, ◌∙◌, ap, subst}
use Rattle.std.specs.Prelude.{Bool, true, false, if◌then◌else◌, Result, Err, is_some, IsOk, IsErrAnd, IsErrOf}
use Rattle.std.specs.FinMap.{FinMap, get}
use Rattle.std.specs.Ordering.{nat_cmp}
use Rattle.std.proofs.lemmas.Bool.{cond-false, true≢false}
use Rattle.std.proofs.lemmas.Result.{err_from_is_err_and}
use Rattle.rss_base.specs.DiskRule.{IsTold, Passes, Continues}
use Rattle.rss_base.specs.Devices.{DrivesOut}
use Rattle.rss_base.specs.Steps.{PagesView, driven}
use Rattle.rss_base.specs.Answers.{page_error}
use Rattle.rss_base.specs.declared.call.Call.{Call}
use Rattle.rss_base.specs.declared.call.Call.TheVariants.{End}
use Rattle.rss_base.specs.declared.answer.Reply.{Reply}
use Rattle.rss_base.specs.declared.answer.CallError.{CallError}
use Rattle.rss_base.specs.declared.answer.CallError.TheVariants.{Refused, NoMemory}
use Rattle.rss_base.specs.declared.fault.PageFault.{PageFault}
use Rattle.rss_base.specs.declared.fault.PageFault.TheVariants.{Device as PageDevice, Damaged as PageDamaged, NoMemory as PageNoMemory}
use Rattle.rss_base.specs.declared.item.Item.{Item}
use Rattle.rss_base.specs.declared.need.Mode.{Mode}
use Rattle.rss_base.specs.declared.need.Need.{Need}
use Rattle.rss_base.specs.declared.place.Place.{Place}
use Rattle.rss_base.specs.declared.refusal.Refusal.{Refusal}
use Rattle.rss_base.specs.declared.root.Root.{Root}
use Rattle.rss_base.proofs.Moments.{started, widened, drives_nothing}
use Rattle.rss_lock.specs.Table.{told}
use Rattle.rss_lock.specs.declared.locks.Locks.{Locks as LockTable}
use Rattle.rss_stored.specs.Calls.{EngineView, TakesNone, MayWrite, GoesOn, GetsPlace, IsAnswer, IsCallOf}
use Rattle.rss_model.specs.Costs.{RisesAtMost, most_asks, most_writes, may_save, may_lack_memory}
use Rattle.rss_model.specs.Locks.{Locks, held, granted, released}
use Rattle.rss_model.specs.Machine.{State, now}
use Rattle.rss_model.specs.Needs.{needs}
use Rattle.rss_model.specs.ReplyText.{IsShort}
use Rattle.rss_model.specs.Scans.{Scans}
use Rattle.rss_model.specs.Steps.{Answer, Step, refusal, left_by, locked, locked_by, keeps_locks}
use Rattle.rss_model.specs.Callers.{caller}
use Rattle.rss_stored.specs.Store.{OpensToEither}
use Rattle.rss_model.specs.Tables.{Definitions, Tables}
use Rattle.rss_stored.specs.Turns.{IsStopped}
use Rattle.rss_stored.proofs.Endings.{within_most, none_within, writes_no_more, writes_bound, refused_by, comes_to, failed}
use Rattle.rss_model.proofs.Committing.{left_base}
use Rattle.rss_model.proofs.Locking.{released_was}
use Rattle.rss_model.proofs.OpenKeeping.{keeps_refused}
use Rattle.rss_model.proofs.StepKeeping.{steps_keep}
use Rattle.rss_scan.specs.Scans.{OpenScans, closed_for}
use Rattle.rss_scan.specs.Scans.{told as scans_told}
use Rattle.rss_scan.specs.declared.cursor.Scan.{Scan}
use Rattle.rss_trans.specs.Transactions.{Transaction, is_open, transaction_in}
use Rattle.rss_session.specs.Parts.{view as session_view}
use Rattle.rss_session.specs.declared.session.Session.{Session}
use Rattle.rss_session.specs.Sessions.{SessionView}
use Rattle.rss_session.specs.Sessions.{IsReady as IsSessionReady}
use Rattle.rss_session.specs.Calls.{Appends, KeepsTables, NoMoreSaves, StayOpen, StaysListed, OthersStayOpen}
use Rattle.rss_session.specs.Calls.{GoesOnIf, TakesNoCheckpoint}
use Rattle.rss_session.specs.Shown.{Shows}
use Rattle.rss_store.specs.Stores.{StoreView}
use Rattle.rss_store.specs.Shown.{HoldsTables}
use Rattle.rss_session.proofs.Steady.{shows_same}
use Rattle.rss_rsi.specs.Views.{RssParts, AreScans, IsIn, engine_view, AllMayGoOn, IsReady}
use Rattle.rss_rsi.proofs.Long.{closed_left, long_still}
use Rattle.rss_rsi.proofs.Spelled.{still_scans}

-- ---- states that are shown

-- the session shows a state with other locks and scans all the same
shows_with : {view : SessionView} {state : State} (locks : Locks) (scans : Scans) → Shows view state → Shows view (record state { locks = locks; scans = scans })
shows_with {state = state} locks scans shows =
    let counted = shows.counted in
    let metered = counted.rooms.metered in record {
      store = shows_same state.marks locks scans shows.store;
      listed = shows.listed;
      list = shows.list;
      told = shows.told;
      counted = record {
        since = record { all = counted.since.all; each = counted.since.each; fewer = counted.since.fewer };
        each = counted.each;
        heap = counted.heap;
        surviving = counted.surviving;
        rooms = record {
          metered = record { makers = metered.makers; positions = metered.positions; heap = metered.heap; tuples = metered.tuples; room = metered.room };
          log = counted.rooms.log;
        };
      };
      rested = shows.rested;
    }

pub shows_locked : {view : SessionView} {state : State} (locks : Locks) → Shows view state → Shows view (record state { locks = locks })
shows_locked {state = state} locks shows = shows_with locks state.scans shows

pub shows_scanned : {view : SessionView} {state : State} (scans : Scans) → Shows view state → Shows view (record state { scans = scans })
shows_scanned {state = state} scans shows = shows_with state.locks scans shows

-- ---- what is held

-- the transactions hold the locks that they held, and their scans are as they were
pub record SameHeld (old new : RssParts) : Type 0 where
  pub locks : new.locks.locks ≡ old.locks.locks
  pub scans : new.scans ≡ old.scans

-- the engine is in the same state where all that is held is as it was
pub in_held : {old new : RssParts} {state : State} → SameHeld old new → Shows new.session state → IsIn old state → IsIn new state
in_held held shows is_in = record { shows = shows; locked = is_in.locked ∙ sym held.locks; scanned = still_scans held.scans refl is_in.scanned; kept = is_in.kept }

-- a refusal leaves the scans
left_scans : (state : State) (call : Call) (why : Refusal) → (left_by state call why).scans ≡ state.scans
left_scans state call why = by (keeps_locks why) (caller call)
  where
    by : (keeps : Bool) (by : Option ℕ) → (if keeps then locked_by by call state else state).scans ≡ state.scans
    by false c = refl
    by true None = refl
    by true (Some t) = refl

pub in_left : {old new : RssParts} {state : State} (call : Call) {why : Refusal} → IsIn old state → refusal state call ≡ Some why → Shows new.session state → (left_by state call why).locks ≡ new.locks.locks → new.scans ≡ old.scans → IsIn new (left_by state call why)
in_left {new = new} {state = state} call {why = why} is_in is shows locked scans = record {
  shows = by (keeps_locks why) (caller call);
  locked = locked;
  scanned = subst (λ (tables : Tables). AreScans tables.definitions (left_by state call why).scans new.scans) (sym (left_base state call why)) (still_scans scans (left_scans state call why) is_in.scanned);
  kept = keeps_refused is_in.kept call why is;
}
  where
    by : (keeps : Bool) (by : Option ℕ) → Shows new.session (if keeps then locked_by by call state else state)
    by false c = shows
    by true None = shows
    by true (Some t) = shows_locked _ shows

-- a refusal that keeps no locks leaves those that there were
pub left_same : {old : RssParts} {state : State} (call : Call) (why : Refusal) → keeps_locks why ≡ false → IsIn old state → (left_by state call why).locks ≡ old.locks.locks
left_same {state = state} call why none is_in = ap (λ (left : State). left.locks) (cond-false (keeps_locks why) (locked call state) state none) ∙ is_in.locked

-- the call needs no locks
abbrev pub NeedsNone : Call → Type 0
NeedsNone call = (tables : Tables) → needs tables call ≡ []

-- and so does a call that needs none
pub left_bare : {old : RssParts} {state : State} (call : Call) (why : Refusal) → needs (now state) call ≡ [] → IsIn old state → (left_by state call why).locks ≡ old.locks.locks
left_bare {state = state} call why none is_in = so (keeps_locks why) (caller call) ∙ is_in.locked
  where
    so : (keeps : Bool) (by : Option ℕ) → (if keeps then locked_by by call state else state).locks ≡ state.locks
    so false by = refl
    so true None = refl
    so true (Some t) = ap (λ (list : List Need). granted t list state.locks) none

-- ---- what goes on

-- where no bound is claimed
pub rises_any : {most : Option ℕ} (before now : ℕ) → most ≡ None → RisesAtMost most before now
rises_any before now none = subst (λ (most : Option ℕ). RisesAtMost most before now) (sym none) tt

-- with what the call costs
pub goes : {T : Type 0} {still : Type 0} {old new : RssParts} {n m : ℕ} {up up_now : Type 0} {call : Call} (result : Result T PageFault) → GoesOnIf still old.session new.session result → m ≡ n + 1
    → RisesAtMost (most_asks call) old.session.store.pages.asks new.session.store.pages.asks → MayWrite (engine_view old n up) (engine_view new m up_now) call
    → (may_save call ≡ false → new.session.store.root.checkpoint ≡ old.session.store.root.checkpoint) → GoesOn (engine_view old n up) (engine_view new m up_now) call
goes result on calls asks writes saves = record {
  asks = asks;
  writes = writes;
  saves = saves;
  calls = omega (arith, calls);
  counted = λ was. calls;
  slots = on.slots;
  told = on.told.0;
  history = on.history;
  later = on.later;
}

-- with what a call costs that is no end, and that saves nothing if it takes no checkpoint
pub goes_bounded : {T : Type 0} {still : Type 0} {old new : RssParts} {n m : ℕ} {up up_now : Type 0} {call : Call} (result : Result T PageFault) → ((t : ℕ) → call ≡ End t → ⊥) → GoesOnIf still old.session new.session result → m ≡ n + 1
    → RisesAtMost (most_asks call) old.session.store.pages.asks new.session.store.pages.asks → RisesAtMost (most_writes call) old.session.store.pages.writes new.session.store.pages.writes
    → (TakesNone (engine_view old n up) (engine_view new m up_now) call → still) → GoesOn (engine_view old n up) (engine_view new m up_now) call
goes_bounded {old = old} {new = new} {n = n} {m = m} {up = up} {up_now = up_now} {call = call} result other on calls asks writes is =
    goes result on calls asks (writes_bound (engine_view old n up) (engine_view new m up_now) call other (record { most = writes; drives = λ none. (on.unsaved (is none)).drives }))
    (λ never. ap (λ (r : Root). r.checkpoint) (on.unsaved (is (inl never))).root)

-- A call that may take a checkpoint takes none only if the call of the session came to its end, and the last checkpoint is the one before it.
pub none_taken : {T : Type 0} (old new : SessionView) (call : Call) (up_now : Type 0) (result : Result T PageFault) → may_save call ≡ true → (up_now → IsOk result)
    → (may_save call ≡ false) ⊎ (up_now × (new.store.root.checkpoint ≡ old.store.root.checkpoint)) → TakesNoCheckpoint old new result
none_taken old new call up_now result may is_ok (inl never) = absurd (true≢false (sym may ∙ never))
none_taken old new call up_now result may is_ok (inr none) = (is_ok none.0, none.1)

-- of the store nothing has changed
pub goes_nowhere : {old new : RssParts} {n m : ℕ} {up up_now : Type 0} (call : Call) → new.session.store ≡ old.session.store → m ≡ n + 1 → GoesOn (engine_view old n up) (engine_view new m up_now) call
goes_nowhere {old = old} {new = new} {n = n} {m = m} {up = up} {up_now = up_now} call same calls = record {
  asks = within_most (most_asks call) 0 old.session.store.pages.asks _ (none_within (most_asks call)) (omega (arith, ap (λ (s : StoreView). s.pages.asks) same));
  writes = writes_no_more (engine_view old n up) (engine_view new m up_now) call (ap (λ (s : StoreView). s.pages.disk) same) (ap (λ (s : StoreView). s.pages.writes) same)
      (subst (λ (s : StoreView). DrivesOut (driven old.session.store.pages) (driven s.pages)) (sym same) (drives_nothing (driven old.session.store.pages)));
  saves = λ never. ap (λ (s : StoreView). s.root.checkpoint) same;
  calls = omega (arith, calls);
  counted = λ was. calls;
  slots = ap (λ (s : StoreView). s.root.slots) same;
  told = λ told. subst (λ (s : StoreView). IsTold s.pages.disk) (sym same) told;
  history = λ told. subst (λ (s : StoreView). Continues old.session.store.pages.disk s.pages.disk) (sym same) (started old.session.store.pages.disk _);
  later = omega (arith, ap (λ (s : StoreView). s.pages.faults) same);
}

-- ---- answers

-- from a state a step leads to one that is shown
pub record Leads (old new : RssParts) (state : State) (call : Call) (answer : Answer) : Type 0 where
  pub next : State
  pub step : Step state call answer next
  pub shows : Shows new.session next
  pub locked : next.locks ≡ new.locks.locks
  pub scanned : AreScans next.base.definitions next.scans new.scans
  pub moments : Passes old.session.store.pages.disk new.session.store.pages.disk (OpensToEither state.size state.base next.base)

abbrev pub LeadsAll : RssParts → RssParts → Call → Answer → Type 0
LeadsAll old new call answer = IsTold old.session.store.pages.disk → (state : State) → IsIn old state → Leads old new state call answer

pub leads_in : {old new : RssParts} {state : State} {call : Call} {answer : Answer} → IsIn old state → (leads : Leads old new state call answer) → IsIn new leads.next
leads_in {state = state} {call = call} {answer = answer} is_in leads = record { shows = leads.shows; locked = leads.locked; scanned = leads.scanned; kept = steps_keep state leads.next call answer leads.step is_in.kept }

pub answers : {old new : RssParts} {n m : ℕ} {up up_now : Type 0} {call : Call} {answer : Answer} → up_now → IsShort answer → (IsTold old.session.store.pages.disk → (state : State) → IsIn old state → GetsPlace (engine_view old n up) state call answer) → LeadsAll old new call answer → IsAnswer (engine_view old n up) (engine_view new m up_now) call answer
answers is_up short placed leads = record {
  answered = λ told state is_in.
      let to = leads told state is_in in
      record { next = to.next; shows = leads_in is_in to; answered = record { step = to.step; moments = to.moments } };
  placed = placed;
  up = is_up;
  short = short;
}

-- ---- steps that leave the committed tables

-- a step may be made from a state
pub record MayStep (state : State) (call : Call) : Type 0 where
  pub answer : Answer
  pub next : State
  pub step : Step state call answer next

-- a call that stops on its way to such a step has left the committed tables at each moment
pub stopped_by : {old : RssParts} (new : RssParts) {state : State} {call : Call} → KeepsTables old.session new.session → IsTold old.session.store.pages.disk → IsIn old state → MayStep state call → IsStopped old.session.store.pages.disk new.session.store.pages.disk state call
stopped_by new {state = state} keeps told is_in may = record {
  answer = may.answer;
  next = may.next;
  answered = record { step = may.step; moments = widened (keeps told state is_in.kept is_in.shows) (λ image opens. inl opens) };
}

-- and one that made the step leads there
pub leads_by : {old new : RssParts} {state : State} {call : Call} {answer : Answer} (next : State) → KeepsTables old.session new.session → IsTold old.session.store.pages.disk → IsIn old state → Step state call answer next → Shows new.session next → next.locks ≡ new.locks.locks → AreScans next.base.definitions next.scans new.scans → Leads old new state call answer
leads_by {state = state} next keeps told is_in step shows locked scanned = record {
  next = next;
  step = step;
  shows = shows;
  locked = locked;
  scanned = scanned;
  moments = widened (keeps told state is_in.kept is_in.shows) (λ image opens. inl opens);
}

-- by a step that leaves all that is held
pub leads_held : {old new : RssParts} {state : State} {call : Call} {answer : Answer} (next : State) → KeepsTables old.session new.session → IsTold old.session.store.pages.disk → IsIn old state → Step state call answer next → Shows new.session next → SameHeld old new → next.locks ≡ state.locks → next.scans ≡ state.scans → next.base.definitions ≡ state.base.definitions → Leads old new state call answer
leads_held {new = new} next keeps told is_in step shows held locks scans same = leads_by next keeps told is_in step shows (locks ∙ is_in.locked ∙ sym held.locks)
    (subst (λ (definitions : Definitions). AreScans definitions next.scans new.scans) (sym same) (still_scans held.scans scans is_in.scanned))

-- where the store is as it was
pub keeps_same : (old new : SessionView) → new.store ≡ old.store → KeepsTables old new
keeps_same old new same told state kept shows =
    subst (λ (s : StoreView). Passes old.store.pages.disk s.pages.disk (HoldsTables state.size state.base)) (sym same) (started old.store.pages.disk _)

-- ---- calls are counted

pub ready_counted : {parts : RssParts} {calls more : ℕ} → calls ≤ more → IsReady parts calls → IsReady parts more
ready_counted fewer ready = record {
  session = ready.session;
  paced = omega (arith, ready.paced, fewer);
  saves = λ t. omega (arith, ready.saves t, fewer);
  scans = ready.scans;
  holders = ready.holders;
}

-- who holds an item now is open now
abbrev pub HoldersOpen : RssParts → Type 0
HoldersOpen parts = (t : ℕ) (item : Item) (mode : Mode) → held parts.locks.locks t item ≡ Some mode → is_open parts.session.opened t ≡ true

-- who was open still is, and the locks are those that there were
pub holders_stay : (old new : RssParts) → HoldersOpen old → StayOpen old.session new.session → new.locks.locks ≡ old.locks.locks → HoldersOpen new
holders_stay old new holders stay same t item mode has = stay t (holders t item mode (ap (λ (locks : Locks). held locks t item) (sym same) ∙ has))

-- the same transactions are open
pub opened_stay : (old new : SessionView) → new.opened.transactions ≡ old.opened.transactions → StayOpen old new
opened_stay old new same t opened = ap (λ (m : FinMap nat_cmp Transaction). is_some (get m t)) same ∙ opened

-- a transaction is gone with its locks
pub holders_gone : (old new : RssParts) (t : ℕ) → HoldersOpen old → OthersStayOpen t old.session new.session → new.locks.locks ≡ released t old.locks.locks → HoldersOpen new
holders_gone old new t holders others same u item mode has =
    let was = released_was t u old.locks.locks item mode (ap (λ (locks : Locks). held locks u item) (sym same) ∙ has) in
    others u was.0 (holders u item mode was.1)

-- who was open still is, the same is defined, and the scans are those that there were
pub scans_stay : (old new : RssParts) → AllMayGoOn old.session.store.catalog.listing old.session.opened old.scans → StayOpen old.session new.session → StaysListed old.session new.session → new.scans ≡ old.scans
    → AllMayGoOn new.session.store.catalog.listing new.session.opened new.scans
scans_stay old new may stay listed same number scan has =
    let was = may number scan (ap (λ (s : OpenScans). get s number) (sym same) ∙ has) in
    record { owner = stay scan.owner was.owner; long = long_still listed scan.cursor.path scan.cursor.last was.long }

-- a transaction is gone with its scans
pub scans_gone : (old new : RssParts) (t : ℕ) → AllMayGoOn old.session.store.catalog.listing old.session.opened old.scans → OthersStayOpen t old.session new.session → StaysListed old.session new.session → new.scans ≡ closed_for t old.scans
    → AllMayGoOn new.session.store.catalog.listing new.session.opened new.scans
scans_gone old new t may others listed closed number scan has =
    let left = closed_left t old.scans number scan (ap (λ (s : OpenScans). get s number) (sym closed) ∙ has) in
    let was = may number scan left.0 in
    record { owner = others scan.owner left.1 was.owner; long = long_still listed scan.cursor.path scan.cursor.last was.long }

-- from before the call on, the log has so many bytes more, and no transaction more than one save point more
pub ready_then : {old new : RssParts} {calls more appended : ℕ} → IsReady old calls → more ≡ calls + 1 → appended ≤ 2 ^ 13 → IsSessionReady new.session → Appends appended old.session new.session
    → ((t : ℕ) → length (transaction_in new.session.opened t).saves ≤ length (transaction_in old.session.opened t).saves + 1) → HoldersOpen new → AllMayGoOn new.session.store.catalog.listing new.session.opened new.scans → IsReady new more
ready_then ready counted few session appends saves holders scans = record {
  session = session;
  paced = omega (arith, ready.paced, appends, few, counted);
  saves = λ t. omega (arith, ready.saves t, saves t, counted);
  scans = scans;
  holders = holders;
}

-- who was open still is, and all that is held is as it was
pub ready_stay : {old new : RssParts} {calls more appended : ℕ} → IsReady old calls → more ≡ calls + 1 → appended ≤ 2 ^ 13 → IsSessionReady new.session → Appends appended old.session new.session
    → ((t : ℕ) → length (transaction_in new.session.opened t).saves ≤ length (transaction_in old.session.opened t).saves + 1) → StayOpen old.session new.session → StaysListed old.session new.session → SameHeld old new → IsReady new more
ready_stay {old = old} {new = new} ready counted few session appends saves stay listed held =
    ready_then ready counted few session appends saves (holders_stay old new ready.holders stay held.locks) (scans_stay old new ready.scans stay listed held.scans)

-- a transaction is gone
pub ready_gone : {old new : RssParts} {calls more appended : ℕ} (t : ℕ) → IsReady old calls → more ≡ calls + 1 → appended ≤ 2 ^ 13 → IsSessionReady new.session → Appends appended old.session new.session → NoMoreSaves old.session new.session
    → OthersStayOpen t old.session new.session → StaysListed old.session new.session → new.locks.locks ≡ released t old.locks.locks → new.scans ≡ closed_for t old.scans → IsReady new more
ready_gone {old = old} {new = new} t ready counted few session appends saves others listed gone closed =
    ready_then ready counted few session appends (λ u. omega (arith, saves u)) (holders_gone old new t ready.holders others gone)
    (scans_gone old new t ready.scans others listed closed)

-- ---- whole calls

-- Refused at once by a test of the session, with the locks that the refusal leaves.
pub refused_alike : {parts : RssParts} {n m : ℕ} {up up_now : Type 0} {call : Call} {why : Refusal} (result : Result Reply CallError) → IsErrAnd result (λ e. e ≡ Refused why) → up → up_now → m ≡ n + 1 → IsShort (Err why)
    → (IsTold parts.session.store.pages.disk → (state : State) → IsIn parts state → (refusal state call ≡ Some why) × ((left_by state call why).locks ≡ parts.locks.locks)) → IsCallOf (engine_view parts n up) (engine_view parts m up_now) call result
refused_alike {parts = parts} {n = n} {m = m} {up = up} {up_now = up_now} {call = call} {why = why} result is was_up is_up calls short refused =
    let so = err_from_is_err_and result is in
    subst (IsCallOf (engine_view parts n up) (engine_view parts m up_now) call) (sym (so.1 ∙ ap Err so.2))
    (comes_to was_up (goes_nowhere call refl calls) (refused_by is_up short (λ told state is_in. let so = refused told state is_in in (so.0, in_left call is_in so.0 is_in.shows so.1 refl, started _ _))))

-- The call needs no locks.
pub refused_test : {parts : RssParts} {n m : ℕ} {up up_now : Type 0} {call : Call} {why : Refusal} (result : Result Reply CallError) → IsErrAnd result (λ e. e ≡ Refused why) → up → up_now → m ≡ n + 1 → IsShort (Err why) → NeedsNone call
    → (IsTold parts.session.store.pages.disk → (state : State) → Shows parts.session state → refusal state call ≡ Some why) → IsCallOf (engine_view parts n up) (engine_view parts m up_now) call result
refused_test {call = call} {why = why} result is was_up is_up calls short none refused =
    refused_alike result is was_up is_up calls short (λ told state is_in. (refused told state is_in.shows, left_bare call why (none (now state)) is_in))

-- Or the refusal keeps none.
pub refused_early : {parts : RssParts} {n m : ℕ} {up up_now : Type 0} {call : Call} {why : Refusal} (result : Result Reply CallError) → IsErrAnd result (λ e. e ≡ Refused why) → up → up_now → m ≡ n + 1 → IsShort (Err why)
    → (IsTold parts.session.store.pages.disk → (state : State) → Shows parts.session state → (refusal state call ≡ Some why) × (keeps_locks why ≡ false)) → IsCallOf (engine_view parts n up) (engine_view parts m up_now) call result
refused_early {call = call} {why = why} result is was_up is_up calls short refused =
    refused_alike result is was_up is_up calls short (λ told state is_in. let so = refused told state is_in.shows in (so.0, left_same call why so.1 is_in))

-- the table of the scans
abbrev pub ScanTable : Type 0
ScanTable = List (Option Scan)

-- an engine's parts, by what it has
abbrev pub rss_parts : {S : Type 0} → (S → PagesView) → Session S → LockTable → ScanTable → RssParts
rss_parts pages_view session locks scans = record { session = session_view pages_view session; locks = told locks; scans = scans_told scans }

-- the call was counted, and goes on from the session, the locks and the scans as they were
pub asked : {S : Type 0} (pages_view : S → PagesView) {old mid : Session S} {locks now : LockTable} {scans scans_now : ScanTable} {n : ℕ} {up : Type 0} {new : EngineView} {call : Call} {result : Result Reply CallError} → mid ≡ old → now ≡ locks → scans_now ≡ scans
    → IsCallOf (engine_view (rss_parts pages_view mid now scans_now) n up) new call result → IsCallOf (engine_view (rss_parts pages_view old locks scans) n up) new call result
asked pages_view {n = n} {up = up} {new = new} {call = call} {result = result} same same_locks same_scans =
    subst (λ (parts : RssParts). IsCallOf (engine_view parts n up) new call result) (λ i. rss_parts pages_view (same i) (same_locks i) (same_scans i))

-- Refused behind calls of the session that left the committed tables and its states, with the locks that the refusal leaves. No scan has changed.
pub refused_behind : {old new : RssParts} {n m : ℕ} {up up_now : Type 0} {call : Call} {why : Refusal} (result : Result Reply CallError) → IsErrAnd result (λ e. e ≡ Refused why) → up → up_now → IsShort (Err why)
    → GoesOn (engine_view old n up) (engine_view new m up_now) call → KeepsTables old.session new.session → new.scans ≡ old.scans
    → (IsTold old.session.store.pages.disk → (state : State) → IsIn old state → (refusal state call ≡ Some why) × Shows new.session state × ((left_by state call why).locks ≡ new.locks.locks)) → IsCallOf (engine_view old n up) (engine_view new m up_now) call result
refused_behind {old = old} {new = new} {n = n} {m = m} {up = up} {up_now = up_now} {call = call} result is was_up is_up short goes keeps scans refused =
    let why = err_from_is_err_and result is in
    subst (IsCallOf (engine_view old n up) (engine_view new m up_now) call) (sym (why.1 ∙ ap Err why.2))
    (comes_to was_up goes (refused_by is_up short (λ told state is_in.
    let so = refused told state is_in in
    (so.0, in_left call is_in so.0 so.1 so.2 scans, keeps told state is_in.kept is_in.shows))))

-- Memory ran out behind calls of the session that left the committed tables and its states; no lock has changed, and no scan.
pub lacks_behind : {old new : RssParts} {n m : ℕ} {up up_now : Type 0} {call : Call} → may_lack_memory call ≡ true → up → up_now
    → GoesOn (engine_view old n up) (engine_view new m up_now) call → KeepsTables old.session new.session
    → (IsTold old.session.store.pages.disk → (state : State) → Shows old.session state → Shows new.session state) → SameHeld old new → IsCallOf (engine_view old n up) (engine_view new m up_now) call (Err NoMemory)
lacks_behind may was_up is_up goes keeps shows held = comes_to was_up goes (record {
  may = may;
  unmade = λ told state is_in. keeps told state is_in.kept is_in.shows;
  up = is_up;
  same = λ told state is_in. in_held held (shows told state is_in.shows) is_in;
})

-- It ran out before the store was touched.
pub lacks_memory : {old new : RssParts} {n m : ℕ} {up up_now : Type 0} (call : Call) → may_lack_memory call ≡ true → up → up_now → new.session.store ≡ old.session.store → m ≡ n + 1
    → ((state : State) → Shows old.session state → Shows new.session state) → SameHeld old new → IsCallOf (engine_view old n up) (engine_view new m up_now) call (Err NoMemory)
lacks_memory {old = old} {new = new} call may was_up is_up same calls shows held = lacks_behind may was_up is_up (goes_nowhere call same calls) (keeps_same old.session new.session same) (λ told. shows) held

-- By a fault of a call of the session, within a step that was on its way.
pub failed_within : {T : Type 0} {still : Type 0} {old new : RssParts} {n m : ℕ} {up up_now : Type 0} {call : Call} {fault : PageFault} (result : Result Reply CallError) → IsErrAnd result (λ e. e ≡ page_error fault) → up → (up_now → ⊥)
    → GoesOnIf {T = T} still old.session new.session (Err fault) → GoesOn (engine_view old n up) (engine_view new m up_now) call
    → ((place : Place) → ◌≡◌ {A = Result T PageFault} (Err fault) (Err (PageDamaged place)) → IsTold old.session.store.pages.disk → (state : State) → IsIn old state → ⊥)
    → (IsTold old.session.store.pages.disk → (state : State) → IsIn old state → IsStopped old.session.store.pages.disk new.session.store.pages.disk state call)
    → IsCallOf (engine_view old n up) (engine_view new m up_now) call result
failed_within result is was_up down on goes sound stopped = failed result is was_up goes down (record {
  memory = λ same. on.memory (ap Err same);
  sound = λ place same. sound place (ap Err same);
  cause = λ same. on.failed (ap Err same);
  stopped = λ same. stopped;
})

-- such a fault is none of memory
pub fault_of_memory : {T : Type 0} {still : Type 0} {old new : SessionView} {fault : PageFault} (result : Result Reply CallError) → IsErrAnd result (λ e. e ≡ page_error fault) → GoesOnIf {T = T} still old new (Err fault) → IsErrOf result NoMemory → ⊥
fault_of_memory {T = T} {still = still} {old = old} {new = new} {fault = fault} result is on of =
    let why = err_from_is_err_and result is in
    by fault on (sym (why.1 ∙ ap Err why.2) ∙ of)
  where
    by : (fault : PageFault) → GoesOnIf {T = T} still old new (Err fault) → ◌≡◌ {A = Result Reply CallError} (Err (page_error fault)) (Err NoMemory) → ⊥
    by PageDevice on same = absurd (cc (same))
    by (PageDamaged place) on same = absurd (cc (same))
    by PageNoMemory on same = on.memory refl
