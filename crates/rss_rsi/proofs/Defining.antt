-- The ways in which a call that defines ends.
use Rattle.std.proofs.Common.{◌≡◌, ℕ, ◌+◌, ◌<◌, Bool, true, false, refl, sym, ◌∙◌, ap, subst, arith}
use Rattle.std.specs.Prelude.{Option, Some, None, is_some, Result, Ok, Err, IsOk, IsErrAnd}
use Rattle.std.specs.FinMap.{FinMap, contains_key, empty, get, get-empty}
use Rattle.std.specs.Ordering.{nat_cmp}
use Rattle.std.proofs.lemmas.Bool.{true≢false}
use Rattle.rss_base.specs.Answers.{page_error}
use Rattle.rss_base.specs.DiskRule.{IsTold, Passes}
use Rattle.rss_base.specs.Listings.{Listing}
use Rattle.rss_base.specs.Sizes.{largest_checkpoint}
use Rattle.rss_base.specs.Steps.{PagesView}
use Rattle.rss_base.specs.declared.answer.CallError.{CallError}
use Rattle.rss_base.specs.declared.answer.CallError.TheVariants.{Refused}
use Rattle.rss_base.specs.declared.answer.Reply.{Reply}
use Rattle.rss_base.specs.declared.answer.Reply.TheVariants.{Ok as Done}
use Rattle.rss_base.specs.declared.call.Call.{Call}
use Rattle.rss_base.specs.declared.fault.PageFault.{PageFault}
use Rattle.rss_base.specs.declared.fault.PageFault.TheVariants.{Damaged as PageDamaged}
use Rattle.rss_base.specs.declared.place.Place.{Place}
use Rattle.rss_base.specs.declared.refusal.Refusal.{Refusal}
use Rattle.rss_stored.specs.Calls.{EngineView, GoesOn, IsCallOf, calls_most}
use Rattle.rss_model.specs.Callers.{caller}
use Rattle.rss_model.specs.Costs.{RisesAtMost, most_asks, most_writes, may_save}
use Rattle.rss_model.specs.Defining.{defined, DefinesNames}
use Rattle.rss_model.specs.Machine.{State}
use Rattle.rss_model.specs.Steps.{Step, refusal, redefined}
use Rattle.rss_model.specs.Steps.StepBy.{defines}
use Rattle.rss_stored.specs.Store.{OpensToEither}
use Rattle.rss_model.specs.Tables.{Tables}
use Rattle.rss_stored.specs.Turns.{IsStopped}
use Rattle.rss_stored.proofs.Endings.{comes_to, none_no_end, IsDefined, defined_by}
use Rattle.rss_model.proofs.StepKeeping.{steps_keep}
use Rattle.rss_catalog.specs.Catalogs.{CatalogView}
use Rattle.rss_lock.specs.Locks.{LocksView}
use Rattle.rss_scan.specs.Scans.{OpenScans}
use Rattle.rss_trans.specs.Tables.{told}
use Rattle.rss_trans.specs.Transactions.{Transaction, is_open}
use Rattle.rss_session.specs.Admissions.{Says}
use Rattle.rss_session.specs.Calls.{IsRedefined, RedefinesTables, Appends}
use Rattle.rss_session.specs.Calls.{ChecksOn}
use Rattle.rss_session.specs.Definitions.{Relists, Redefines, Defining}
use Rattle.rss_session.specs.Definitions.Relists.{segment, relation, drop_segment, drop_relation, link, drop_link}
use Rattle.rss_session.specs.Parts.{view as session_view}
use Rattle.rss_session.specs.Sessions.{SessionView, CanSave, IsEarly}
use Rattle.rss_session.specs.Sessions.{IsReady as IsSessionReady}
use Rattle.rss_session.specs.Shown.{Shows}
use Rattle.rss_session.specs.declared.session.Session.{Session}
use Rattle.rss_session.proofs.Relisting.{with_catalog, but_catalog, saves_redefined, closed_redefined, early_redefined, is_redefined, defines_some}
use Rattle.rss_rsi.specs.Definitions.{Definition, IsDefining, parts_before, view_of}
use Rattle.rss_rsi.specs.Views.{RssParts, IsIn, engine_view, IsReady}
use Rattle.rss_rsi.proofs.Spelled.{none_open, none_scanning, still_scans, vacant}
use Rattle.rss_rsi.proofs.Ways.{NeedsNone, rises_any, goes_bounded, none_taken, failed_within, refused_test, ready_counted, ready_then, opened_stay, holders_stay}

-- a call that defines asks for no page
no_asks : {old new : Listing} {call : Call} (before now : ℕ) → now ≡ before → Relists old call new → RisesAtMost (most_asks call) before now
no_asks before now same (segment name number fresh least) = omega (arith, same)
no_asks before now same (relation name in_segment fields at number within fresh least) = omega (arith, same)
no_asks before now same (drop_segment name number at none) = omega (arith, same)
no_asks before now same (drop_relation number entry at unused none) = omega (arith, same)
no_asks before now same (link name parent child number entry at fresh least empty) = omega (arith, same)
no_asks before now same (drop_link number entry at empty) = omega (arith, same)

-- It is no transaction's, and may take a checkpoint. Of its writes no bound is claimed.
saves_any : {old new : Listing} {call : Call} → Relists old call new → (caller call ≡ None) × (may_save call ≡ true) × (most_writes call ≡ None)
saves_any (segment name number fresh least) = (refl, refl, refl)
saves_any (relation name in_segment fields at number within fresh least) = (refl, refl, refl)
saves_any (drop_segment name number at none) = (refl, refl, refl)
saves_any (drop_relation number entry at unused none) = (refl, refl, refl)
saves_any (link name parent child number entry at fresh least empty) = (refl, refl, refl)
saves_any (drop_link number entry at empty) = (refl, refl, refl)

-- what goes on doesn't hang on the catalog
but_listed : {T : Type 0} {before new : SessionView} {result : Result T PageFault} (catalog : CatalogView) → ChecksOn (with_catalog catalog before) new result → ChecksOn before new result
but_listed catalog on = record {
  told = on.told;
  history = on.history;
  later = on.later;
  failed = on.failed;
  memory = on.memory;
  slots = on.slots;
  log_pages = on.log_pages;
  frames = on.frames;
  saves = on.saves;
  unsaved = λ still. let saves = on.unsaved still in record { root = saves.root; drives = saves.drives };
}

-- no transaction is open
pub none_open_in : (session : SessionView) → session.opened.transactions ≡ empty → (t : ℕ) → is_open session.opened t ≡ false
none_open_in session none t = ap (λ (m : FinMap nat_cmp Transaction). contains_key m t) none ∙ ap (λ (o : Option Transaction). is_some o) (get-empty {X = Transaction} nat_cmp t)

-- what was made is a definition, where it is no refusal
pub made_ok : (made : Result (Unit {0}) Refusal) → ((why : Refusal) → made ≡ Err why → ⊥) → made ≡ Ok tt
made_ok (Ok done) not = refl
made_ok (Err why) not = absurd (not why refl)

module _ {S : Type 0} (pages_view : S → PagesView) {to : Definition S} {now : Session S} {locks : LocksView} {scans : OpenScans} {calls : ℕ} {made : Result (Unit {0}) Refusal} (is : IsDefining pages_view to now locks scans calls made) where
  abbrev before : RssParts
  before = parts_before pages_view to

  abbrev between : SessionView
  between = session_view pages_view now

  -- the engine with this session has the locks and the scans that it had
  abbrev with_held : SessionView → RssParts
  with_held session = record { session = session; locks = locks; scans = scans }

  -- ---- it was refused

  module _ (why : Refusal) (so : made ≡ Err why) where
    refuses : Defining pages_view to.session now to.call (Err why)
    refuses = subst (Defining pages_view to.session now to.call) so is.defining

    same : with_held between ≡ before
    same i = record { session = session_view pages_view (refuses.same i); locks = is.locked i; scans = is.scanned i }

    pub refused_define : {up : Type 0} → up → IsCallOf (view_of pages_view to) (engine_view (with_held between) calls up) to.call (Err (Refused why))
    refused_define {up = up} is_up = subst (λ (parts : RssParts). IsCallOf (view_of pages_view to) (engine_view parts calls up) to.call (Err (Refused why))) (sym same)
        (refused_test (Err (Refused why)) refl refl is_up (omega (arith, is.counted)) refuses.tests.1 is.bare refuses.tests.0)

    pub refused_ready : IsReady (with_held between) calls
    refused_ready = subst (λ (parts : RssParts). IsReady parts calls) (sym same) (ready_counted (omega (arith, is.counted)) is.ready)

  -- ---- it is listed

  module _ (so : made ≡ Ok tt) where
    listed : Defining pages_view to.session now to.call (Ok tt)
    listed = subst (Defining pages_view to.session now to.call) so is.defining

    redefines : Redefines to.call to.session now
    redefines = listed.redefines

    passed : Says before.session (λ state. refusal state to.call) None
    passed = listed.tests

    pub listed_saves : CanSave between
    listed_saves = saves_redefined pages_view redefines is.ready.session

    pub listed_closed : between.opened.transactions ≡ empty
    listed_closed = closed_redefined pages_view redefines

    pub listed_early : IsEarly between largest_checkpoint
    listed_early = early_redefined pages_view redefines largest_checkpoint (omega (arith, is.ready.paced, is.few))

    pages_same : between.store.pages ≡ before.session.store.pages
    pages_same = ap (λ tuples. pages_view tuples.pages) redefines.rest.tuples

    told_then : IsTold before.session.store.pages.disk → IsTold between.store.pages.disk
    told_then told = subst (λ (p : PagesView). IsTold p.disk) (sym pages_same) told

    -- in each state there are tables to which the call leads
    leads : IsTold before.session.store.pages.disk → (state : State) → IsIn before state → (next : Tables) × (defined to.call state.base ≡ Some next)
    leads told state is_in = defines_some pages_view redefines is.ready.session is_in.kept is_in.shows (passed told state is_in.shows) is.names

    -- ---- and committed

    module _ {new : SessionView} {result : Result (Unit {0}) PageFault} (on : ChecksOn between new result) (moments : RedefinesTables between new) (asks : new.store.pages.asks ≡ between.store.pages.asks) where
      on_before : ChecksOn before.session new result
      on_before = but_listed now.store.catalog (subst (λ (v : SessionView). ChecksOn v new result) (sym (but_catalog pages_view redefines)) on)

      pub goes_redefining : {up_now : Type 0} → (up_now → IsOk result) → GoesOn (view_of pages_view to) (engine_view (with_held new) calls up_now) to.call
      goes_redefining {up_now = up_now} is_ok = goes_bounded result (none_no_end to.call (saves_any redefines.relists).0) on_before (omega (arith, is.counted))
          (no_asks before.session.store.pages.asks new.store.pages.asks (asks ∙ ap (λ (p : PagesView). p.asks) pages_same) redefines.relists)
          (rises_any before.session.store.pages.writes new.store.pages.writes (saves_any redefines.relists).2)
          (none_taken before.session new to.call up_now result (saves_any redefines.relists).1 is_ok)

      module _ (told : IsTold before.session.store.pages.disk) (state : State) (is_in : IsIn before state) where
        abbrev next : Tables
        next = (leads told state is_in).0

        so_defined : defined to.call state.base ≡ Some next
        so_defined = (leads told state is_in).1

        not_refused : refusal state to.call ≡ None
        not_refused = passed told state is_in.shows

        redefining : IsRedefined between state next
        redefining = is_redefined pages_view redefines is.ready.session is_in.kept is_in.shows not_refused is.names next so_defined

        step : Step state to.call (Ok Done) (redefined next state)
        step = defines to.call next not_refused is.names so_defined

        either : Passes before.session.store.pages.disk new.store.pages.disk (OpensToEither state.size state.base next)
        either = subst (λ (p : PagesView). Passes p.disk new.store.pages.disk (OpensToEither state.size state.base next)) pages_same
            (moments (told_then told) state next redefining)

        may_stop : IsStopped before.session.store.pages.disk new.store.pages.disk state to.call
        may_stop = record { answer = Ok Done; next = redefined next state; answered = record { step = step; moments = either } }

        is_defined : {up : Type 0} → (IsTold between.store.pages.disk → (state : State) (next : Tables) → IsRedefined between state next → Shows new (redefined next state))
            → IsDefined (view_of pages_view to) (engine_view (with_held new) calls up) state to.call
        is_defined shows = record {
          next = next;
          passed = not_refused;
          so = so_defined;
          shows = record {
            shows = shows (told_then told) state next redefining;
            locked = is_in.locked ∙ ap (λ (l : LocksView). l.locks) (sym is.locked);
            scanned =
                let none = none_scanning is_in.kept redefining.none_open in
                still_scans is.scanned refl (none_open next.definitions state.scans to.scans none (vacant is_in.scanned none));
            kept = steps_keep state (redefined next state) to.call (Ok Done) step is_in.kept;
          };
          moments = either;
        }

      pub redefined_done : {up : Type 0} → IsOk result → up → (IsTold between.store.pages.disk → (state : State) (next : Tables) → IsRedefined between state next → Shows new (redefined next state))
          → IsCallOf (view_of pages_view to) (engine_view (with_held new) calls up) to.call (Ok Done)
      redefined_done is_ok is_up shows = comes_to refl (goes_redefining (λ up. is_ok)) (defined_by is.names is_up (λ told state is_in. is_defined told state is_in shows))

      -- nothing was begun or ended
      opened_same : new.opened.transactions ≡ between.opened.transactions → new.opened.transactions ≡ before.session.opened.transactions
      opened_same as_between = as_between ∙ ap (λ opened. (told opened).transactions) redefines.rest.opened

      pub redefined_ready : IsSessionReady new → Appends largest_checkpoint between new → new.opened.transactions ≡ between.opened.transactions → IsReady (with_held new) calls
      redefined_ready ready appends transactions = ready_then is.ready is.counted (omega arith) ready
          (subst (λ (v : SessionView). Appends largest_checkpoint v new) (sym (but_catalog pages_view redefines)) appends)
          (λ t. omega (arith, on_before.saves t))
          (holders_stay before (with_held new) is.ready.holders (opened_stay before.session new (opened_same transactions)) (ap (λ (l : LocksView). l.locks) is.locked))
          (λ number scan has. absurd (true≢false (sym (is.ready.scans number scan (ap (λ (s : OpenScans). get s number) (sym is.scanned) ∙ has)).owner ∙ none_open_in before.session redefines.closed scan.owner)))

    -- the device failed, or shows damage, which none does that tells its contents, where what is listed may be committed
    pub redefining_fails : {new : SessionView} {fault : PageFault} {up_now : Type 0} (answer : Result Reply CallError) → IsErrAnd answer (λ why. why ≡ page_error fault) → (up_now → ⊥)
        → ChecksOn {T = Unit {0}} between new (Err fault) → RedefinesTables between new → new.store.pages.asks ≡ between.store.pages.asks
        → ((place : Place) → ◌≡◌ {A = Result (Unit {0}) PageFault} (Err fault) (Err (PageDamaged place)) → IsTold between.store.pages.disk → (state : State) (next : Tables) → IsRedefined between state next → ⊥) → IsCallOf (view_of pages_view to) (engine_view (with_held new) calls up_now) to.call answer
    redefining_fails answer answered down on moments asks sound =
        failed_within answer answered refl down (on_before on moments asks) (goes_redefining on moments asks (λ up. absurd (down up))) (λ place same told state is_in. sound place same (told_then told) state (next on moments asks told state is_in) (redefining on moments asks told state is_in)) (may_stop on moments asks)

-- ---- calls that define

module _ {S : Type 0} (pages_view : S → PagesView) where
  -- what came to an engine of this session, with these locks and scans
  abbrev pub asks_for : Call → Session S → LocksView → OpenScans → ℕ → Definition S
  asks_for call session locks scans calls = record { call = call; session = session; locks = locks; scans = scans; calls = calls }

  -- the session that counted the call was told to define
  pub is_defining : (to : Definition S) {asked now : Session S} {locks : LocksView} {scans : OpenScans} {calls : ℕ} {made : Result (Unit {0}) Refusal} → asked ≡ to.session → Defining pages_view asked now to.call made → DefinesNames to.call → NeedsNone to.call
      → IsReady (parts_before pages_view to) to.calls → locks ≡ to.locks → scans ≡ to.scans → to.calls < calls_most → calls ≡ to.calls + 1 → IsDefining pages_view to now locks scans calls made
  is_defining to {now = now} {made = made} same defining names bare ready locked scanned few counted = record {
    names = names;
    bare = bare;
    defining = subst (λ (s : Session S). Defining pages_view s now to.call made) same defining;
    ready = ready;
    locked = locked;
    scanned = scanned;
    few = few;
    counted = counted;
  }

  -- an engine that is known to have been up
  pub as_up : (to : Definition S) {new : EngineView} {result : Result Reply CallError} (down : Bool) → down ≡ false → IsCallOf (view_of pages_view to) new to.call result → IsCallOf (engine_view (parts_before pages_view to) to.calls (down ≡ false)) new to.call result
  as_up to {new = new} {result = result} down up is = subst (λ (d : Bool). IsCallOf (engine_view (parts_before pages_view to) to.calls (d ≡ false)) new to.call result) (sym up) is
