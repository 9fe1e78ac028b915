-- A change of a tuple: what comes of it, and how a call ends of which it is the last step.
use Rattle.std.proofs.Common.{◌≡◌, inl, ⊎_elim, ℕ, ◌+◌, Bool, true, false, Option, Some, None, arith, refl, sym, ◌∙◌, ap, subst}
use Rattle.std.specs.Prelude.{Result, Ok, Err, IsOk, IsErrAnd, ⊤}
use Rattle.std.proofs.lemmas.Bool.{true≢false}
use Rattle.std.proofs.lemmas.Option.{same_Some}
use Rattle.std.proofs.lemmas.Result.{err_from_is_err_and}
use Rattle.rss_base.specs.DiskRule.{IsTold, Passes}
use Rattle.rss_base.specs.Answers.{page_error}
use Rattle.rss_base.specs.LogRecords.{record_size}
use Rattle.rss_base.specs.Steps.{PagesView}
use Rattle.rss_base.specs.declared.answer.CallError.{CallError}
use Rattle.rss_base.specs.declared.answer.CallError.TheVariants.{Refused, Damaged, Device, NoMemory, Down}
use Rattle.rss_base.specs.declared.answer.Reply.{Reply}
use Rattle.rss_base.specs.declared.call.Call.{Call}
use Rattle.rss_base.specs.declared.change.Change as told
use Rattle.rss_base.specs.declared.fault.PageFault.{PageFault}
use Rattle.rss_base.specs.declared.fault.PageFault.TheVariants.{Device as PageDevice, Damaged as PageDamaged, NoMemory as PageNoMemory}
use Rattle.rss_base.specs.declared.log_record.LogRecord.TheVariants as records
use Rattle.rss_base.specs.declared.place.Place.{Place}
use Rattle.rss_base.specs.declared.refusal.Refusal.{Refusal}
use Rattle.rss_base.specs.declared.root.Root.{Root}
use Rattle.rss_base.proofs.Moments.{started, then, widened, rises_since}
use Rattle.rss_stored.specs.Calls.{GoesOn, GetsPlace, IsOutcome, IsCallOf}
use Rattle.rss_model.specs.Changes.{Change}
use Rattle.rss_model.specs.Costs.{RisesAtMost, may_save}
use Rattle.rss_stored.specs.LogLaws.{IsToldBy}
use Rattle.rss_model.specs.Locks.{Locks}
use Rattle.rss_model.specs.Machine.{State}
use Rattle.rss_model.specs.Meter.{change_size}
use Rattle.rss_model.specs.ReplyText.{IsShort}
use Rattle.rss_model.specs.Ruled.{ruled}
use Rattle.rss_model.specs.Rules.{Verdict, GoesOn as GoesOnAsIs, SavesFirst, NoRoom, NoLogRoom, ruling, refusal_by, if_no_room}
use Rattle.rss_model.specs.Steps.{IsOver, Step, keeps_locks, refusal}
use Rattle.rss_stored.proofs.Endings.{refused_by, comes_to, lacks_no_end}
use Rattle.rss_stored.proofs.Listed.{fields_listed}
use Rattle.rss_stored.proofs.LogCounting.{change_told_size}
use Rattle.rss_stored.proofs.Totals.{stops}
use Rattle.rss_store.specs.Changing.{MayMake}
use Rattle.rss_store.specs.Shown.{HoldsTables}
use Rattle.rss_store.specs.Stores.{StoreView}
use Rattle.rss_catalog.specs.Catalogs.{CatalogView}
use Rattle.rss_session.specs.Calls.{KeepsTables, Makes, MayNotMake, NoMoreSaves}
use Rattle.rss_session.specs.Calls.{GoesOnIf, TakesNoCheckpoint, ChecksOn}
use Rattle.rss_session.specs.Looks.{LooksOn}
use Rattle.rss_session.specs.Parts.{view as session_view}
use Rattle.rss_session.specs.Sessions.{SessionView}
use Rattle.rss_session.specs.declared.session.Session.{Session}
use Rattle.rss_session.specs.Changes.{relation_told}
use Rattle.rss_session.specs.Weighing.{outcome, RulesSo}
use Rattle.rss_session.proofs.Changed.{numbered_told}
use Rattle.rss_session.proofs.Passing.{goes_if, goes_then, goes_still, goes_opened}
use Rattle.rss_rsi.specs.Changing.{RulesSay, StillShows, ChangeEnds, IsChangeOf}
use Rattle.rss_rsi.specs.Placing.{MayCost}
use Rattle.rss_rsi.specs.Views.{RssParts, IsIn, engine_view}
use Rattle.rss_rsi.proofs.Spelled.{still_scans}
use Rattle.rss_rsi.proofs.Ways.{SameHeld, shows_locked, in_held, in_left, left_same, goes_bounded, LeadsAll, answers, keeps_same}

-- ---- what was weighed

-- why a change is refused, by what was weighed
abbrev pub refused_in : Result Bool Refusal → Option Refusal
refused_in (Ok saves_first) = None
refused_in (Err why) = Some why

refused_so : (verdict : Verdict) → refusal_by verdict ≡ refused_in (outcome verdict)
refused_so GoesOnAsIs = refl
refused_so SavesFirst = refl
refused_so (NoRoom slots needed) = refl
refused_so (NoLogRoom free needed) = refl

pub rules_say : {view : SessionView} {t : ℕ} {told_change : told.Change} {result : Result Bool Refusal} → RulesSo view t (relation_told told_change) (record_size (records.Change t told_change)) result → RulesSay view t told_change (refused_in result)
rules_say {view = view} {t = t} {told_change = told_change} {result = result} rules told state change by is_told shows =
    let size : change_size state.base.definitions change ≡ record_size (records.Change t told_change) =
    sym (change_told_size view.store.catalog.listing state.base.definitions (fields_listed shows.store.spells.listed shows.store.spells.defines) change.by told_change change is_told.tells is_told.means) ∙ ap (λ (u : ℕ). record_size (records.Change u told_change)) by in
    let its = numbered_told view.store.catalog.listing change.by change told_change is_told.tells is_told.means in
    refused_so (ruling state change) ∙ ap refused_in (rules told state change by its size shows)

-- ---- what comes of a change

-- nothing was done
goes_nothing : {still : Type 0} (session : SessionView) → GoesOnIf {T = ⊤} still session session (Ok tt)
goes_nothing session = goes_opened {opened = session.opened} tt (λ t. omega arith)

-- whatever came of it
pub goes_anyhow : {T : Type 0} {still : Type 0} {old new : SessionView} {made : Result T PageFault} → GoesOnIf still old new made → GoesOnIf {T = ⊤} still old new (Ok tt)
goes_anyhow on = goes_still tt on refl refl (λ t. omega arith)

pub change_refused : {T : Type 0} {session : SessionView} {up : Type 0} {t : ℕ} {told_change : told.Change} {why : Refusal} (result : Result T CallError) → IsErrAnd result (λ e. e ≡ Refused why) → up
    → RulesSo session t (relation_told told_change) (record_size (records.Change t told_change)) (Err why) → IsShort (Err why) → IsChangeOf session session up t told_change result
change_refused {session = session} {up = up} {t = t} {told_change = told_change} result is is_up rules short =
    let so = err_from_is_err_and result is in
    subst (IsChangeOf session session up t told_change) (sym (so.1 ∙ ap Err so.2)) (record {
      ends = (is_up, record { refuses = rules_say rules; short = short; still = λ state shows. shows });
      moments = λ told state kept shows. started _ _;
      goes = goes_nothing session;
    })

-- there was no memory for it
pub change_lacks : {old mid : SessionView} {U : Type 0} {up : Type 0} {t : ℕ} {told_change : told.Change} → mid.store ≡ old.store → StillShows old mid → NoMoreSaves old mid → up → IsChangeOf {T = U} old mid up t told_change (Err NoMemory)
change_lacks {old = old} {mid = mid} same still saves is_up = record {
  ends = (is_up, still);
  moments = keeps_same old mid same;
  goes = goes_still tt (goes_nothing old) (ap (λ (s : StoreView). s.pages) same) (ap (λ (s : StoreView). s.root) same) saves;
}

-- behind memory that was taken, by which nothing of the store has changed
module _ {old mid new : SessionView} (same : mid.store ≡ old.store) (still : StillShows old mid) (saves : NoMoreSaves old mid) {T : Type 0} {made : Result T PageFault} (on : ChecksOn mid new made) where
  told_mid : IsTold old.store.pages.disk → IsTold mid.store.pages.disk
  told_mid told = subst (λ (s : StoreView). IsTold s.pages.disk) (sym same) told

  may_mid : {state : State} {told_change : told.Change} {change : Change} → MayMake old.store state told_change change → MayMake mid.store state told_change change
  may_mid {state = state} {told_change = told_change} {change = change} may = subst (λ (s : StoreView). MayMake s state told_change change) (sym same) may

  keeps_mid : KeepsTables mid new → KeepsTables old new
  keeps_mid keeps told state kept shows =
      subst (λ (s : StoreView). Passes s.pages.disk new.store.pages.disk (HoldsTables state.size state.base)) same (keeps (told_mid told) state kept (still state shows))

  goes_mid : GoesOnIf (TakesNoCheckpoint mid new made) old new made
  goes_mid = goes_then (goes_still {U = ⊤} tt (goes_nothing old) (ap (λ (s : StoreView). s.pages) same) (ap (λ (s : StoreView). s.root) same) saves) on

  pub change_made : {U : Type 0} {up : Type 0} {t : ℕ} {told_change : told.Change} {saves_first : Bool} (done : U) → up → IsOk made → RulesSo old t (relation_told told_change) (record_size (records.Change t told_change)) (Ok saves_first)
      → (IsTold mid.store.pages.disk → Makes mid new t told_change) → KeepsTables mid new → IsChangeOf old new up t told_change (Ok done)
  change_made done is_up is_ok rules makes keeps = record {
    ends = (
      is_up,
      record {
        passes = rules_say rules;
        makes = λ told state change by kept shows may. makes (told_mid told) state change by kept (still state shows) (may_mid may);
      },
    );
    moments = keeps_mid keeps;
    goes = goes_if {still = TakesNoCheckpoint mid new made} (λ still. (is_ok, still.1 ∙ sym (ap (λ (s : StoreView). s.root.checkpoint) same))) (goes_anyhow goes_mid);
  }

  pub change_failed : {U : Type 0} {up : Type 0} {t : ℕ} {told_change : told.Change} {saves_first : Bool} {fault : PageFault} (result : Result U CallError) → IsErrAnd result (λ e. e ≡ page_error fault) → made ≡ Err fault → (up → ⊥)
      → RulesSo old t (relation_told told_change) (record_size (records.Change t told_change)) (Ok saves_first)
      → ((place : Place) → made ≡ Err (PageDamaged place) → IsTold mid.store.pages.disk → MayNotMake mid t told_change) → KeepsTables mid new → IsChangeOf old new up t told_change result
  change_failed {U = U} {up = up} {t = t} {told_change = told_change} {fault = fault} result is was down rules sound keeps =
      let so = err_from_is_err_and result is in
      subst (IsChangeOf old new up t told_change) (sym (so.1 ∙ ap Err so.2)) (record { ends = by fault was; moments = keeps_mid keeps; goes = goes_if (λ still. absurd (down still.0)) (goes_anyhow goes_mid) })
    where
      by : (fault : PageFault) → made ≡ Err fault → ChangeEnds {T = U} old new up t told_change (Err (page_error fault))
      by PageDevice was = (down, goes_mid.failed was)
      by (PageDamaged place) was = (
        down,
        record {
          passes = rules_say rules;
          sound = λ told state change by kept shows may. sound place was (told_mid told) state change by kept (still state shows) (may_mid may);
        },
      )
      by PageNoMemory was = absurd (goes_mid.memory was)

-- and the session with which it was made is there still
pub still_made : {S T : Type 0} (pages_view : S → PagesView) {old : SessionView} {made now : Session S} {down down_now : Bool} {t : ℕ} {told_change : told.Change} {result : Result T CallError} → now ≡ made → down_now ≡ down
    → IsChangeOf old (session_view pages_view made) (down ≡ false) t told_change result → IsChangeOf old (session_view pages_view now) (down_now ≡ false) t told_change result
still_made pages_view {old = old} {made = made} {now = now} {down = down} {t = t} {told_change = told_change} {result = result} same same_down change =
    subst (λ (d : Bool). IsChangeOf old (session_view pages_view now) (d ≡ false) t told_change result) (sym same_down)
    (subst (λ (session : Session _). IsChangeOf old (session_view pages_view session) (down ≡ false) t told_change result) (sym same) change)

-- ---- calls

-- the rules refuse for want of room alone, and keep no locks
keeps_none : (verdict : Verdict) {why : Refusal} → refusal_by verdict ≡ Some why → keeps_locks why ≡ false
keeps_none GoesOnAsIs is = absurd (cc (is))
keeps_none SavesFirst is = absurd (cc (is))
keeps_none (NoRoom slots needed) is = ap keeps_locks (sym (same_Some _ _ is))
keeps_none (NoLogRoom free needed) is = ap keeps_locks (sym (same_Some _ _ is))

-- In a state a change is the last step of a call, which gets this reply: the record tells it, the rules alone refuse it, and where they let it through it may be made, and leads to the state after the call, with these locks.
pub record IsLast (session : SessionView) (after : Locks) (t : ℕ) (told_change : told.Change) (call : Call) (reply : Reply) (state : State) : Type 0 where
  pub change : Change
  pub by : change.by ≡ t
  pub is_told : IsToldBy session.store.catalog.listing told_change change
  pub refuses : refusal state call ≡ if_no_room state change
  pub may : if_no_room state change ≡ None → MayMake session.store state told_change change
  pub steps : if_no_room state change ≡ None → (over : ℕ) → IsOver state change over → Step state call (Ok reply) (record (ruled change over state) { locks = after })

-- What is known of a call that looks first, and then makes a change: of no such call it is said what it may cost, and each may take a checkpoint.
pub record EndsByChange (parts : RssParts) (after : Locks) (t : ℕ) (told_change : told.Change) (call : Call) (reply : Reply) : Type 0 where
  pub last : IsTold parts.session.store.pages.disk → (state : State) → IsIn parts state → IsLast parts.session after t told_change call reply state
  pub short : IsShort (Ok reply)
  pub may : MayCost call
  pub saves : may_save call ≡ true

module _ {first : RssParts} {mid : SessionView} {after : Locks} {t : ℕ} {told_change : told.Change} {call : Call} {reply : Reply} {T : Type 0} {looked : Result T PageFault} (looks : LooksOn first.session mid looked) (by_change : EndsByChange first after t told_change call reply) where
  -- what the record tells hangs on the listing alone
  is_told_looked : {change : Change} → IsToldBy first.session.store.catalog.listing told_change change → IsToldBy mid.store.catalog.listing told_change change
  is_told_looked {change = change} is_told = subst (λ (c : CatalogView). IsToldBy c.listing told_change change) (sym looks.catalog) is_told

  may_looked : {state : State} {change : Change} → MayMake first.session.store state told_change change → MayMake mid.store state told_change change
  may_looked may = record { told = is_told_looked may.told; finds = may.finds; alone = may.alone; mixed = may.mixed }

  -- what the rules say of the last step
  said : {why : Option Refusal} {state : State} → RulesSay mid t told_change why → (told : IsTold first.session.store.pages.disk) (is_in : IsIn first state) → if_no_room state (by_change.last told state is_in).change ≡ why
  said {state = state} say told is_in =
      let last = by_change.last told state is_in in
      say (looks.goes.told.0 told) state last.change last.by (is_told_looked last.is_told) (looks.shows told state is_in.shows)

  module _ (new : RssParts) {U : Type 0} {up_now : Type 0} {made : Result U CallError} (change : IsChangeOf mid new.session up_now t told_change made) where
    goes_all : {n m : ℕ} {up : Type 0} → m ≡ n + 1 → GoesOn (engine_view first n up) (engine_view new m up_now) call
    goes_all calls = goes_bounded (Ok tt) (lacks_no_end call by_change.may.stop.memory) (goes_then (goes_if (λ still. tt) looks.goes) change.goes) calls
        (subst (λ (most : Option ℕ). RisesAtMost most first.session.store.pages.asks new.session.store.pages.asks) (sym by_change.may.asks) tt)
        (subst (λ (most : Option ℕ). RisesAtMost most first.session.store.pages.writes new.session.store.pages.writes) (sym by_change.may.writes) tt)
        (λ none. ⊎_elim (λ never. absurd (true≢false (sym by_change.saves ∙ never))) (λ so. (so.0, so.1 ∙ sym (ap (λ (r : Root). r.checkpoint) (looks.goes.unsaved tt).root))) none)

    keeps_all : KeepsTables first.session new.session
    keeps_all told state kept shows =
        then (looks.moments told state kept shows) (change.moments (looks.goes.told.0 told) state kept (looks.shows told state shows)) (λ image holds. holds)

  -- the same states are shown where nothing was changed
  in_still : {new : RssParts} {state : State} → StillShows mid new.session → SameHeld first new → IsTold first.session.store.pages.disk → IsIn first state → IsIn new state
  in_still {state = state} still held told is_in = in_held held (still state (looks.shows told state is_in.shows)) is_in

  module _ {new : RssParts} {U : Type 0} {up_now : Type 0} where
    -- the step was made
    leads_made : {done : U} → new.locks.locks ≡ after → new.scans ≡ first.scans → IsChangeOf mid new.session up_now t told_change (Ok done) → LeadsAll first new call (Ok reply)
    leads_made locked scans change told state is_in =
        let last = by_change.last told state is_in in
        let made = change.ends.1 in
        let passes = said made.passes told is_in in
        let one = made.makes (looks.goes.told.0 told) state last.change last.by is_in.kept (looks.shows told state is_in.shows) (may_looked (last.may passes)) in
        record {
          next = record (ruled last.change one.over state) { locks = after };
          step = last.steps passes one.over one.allowed;
          shows = shows_locked after one.shows;
          locked = sym locked;
          scanned = still_scans scans refl is_in.scanned;
          moments = widened (keeps_all new change told state is_in.kept is_in.shows) (λ image opens. inl opens);
        }

    pub ends_made : {n m : ℕ} {up : Type 0} {done : U} → new.locks.locks ≡ after → new.scans ≡ first.scans → up → m ≡ n + 1 → (IsTold first.session.store.pages.disk → (state : State) → IsIn first state → GetsPlace (engine_view first n up) state call (Ok reply)) → IsChangeOf mid new.session up_now t told_change (Ok done)
        → IsCallOf (engine_view first n up) (engine_view new m up_now) call (Ok reply)
    ends_made locked scans was_up calls placed change = comes_to was_up (goes_all new change calls) (answers change.ends.0 by_change.short placed (leads_made locked scans change))

    pub ends_short : {n m : ℕ} {up : Type 0} {why : CallError} (result : Result Reply CallError) → IsErrAnd result (λ e. e ≡ why) → SameHeld first new → up → m ≡ n + 1 → IsChangeOf {T = U} mid new.session up_now t told_change (Err why)
        → IsCallOf (engine_view first n up) (engine_view new m up_now) call result
    ends_short {n = n} {m = m} {up = up} {why = why} result is held was_up calls change =
        let so = err_from_is_err_and result is in
        subst (IsCallOf (engine_view first n up) (engine_view new m up_now) call) (sym (so.1 ∙ ap Err so.2)) (comes_to was_up (goes_all new change calls) (by why change))
      where
        by : (why : CallError) → IsChangeOf {T = U} mid new.session up_now t told_change (Err why) → IsOutcome (engine_view first n up) (engine_view new m up_now) call (Err why)
        by (Refused why) change = refused_by change.ends.0 change.ends.1.short (λ told state is_in.
            let last = by_change.last told state is_in in
            let no_room = said change.ends.1.refuses told is_in in
            let refused = last.refuses ∙ no_room in
            let none = keeps_none (ruling state last.change) no_room in (
              refused,
              in_left call is_in refused (change.ends.1.still state (looks.shows told state is_in.shows)) (left_same call why none is_in ∙ sym held.locks) held.scans,
              keeps_all new change told state is_in.kept is_in.shows,
            ))
        by Device change = record {
          stopped = λ told state is_in. stops is_in.kept call by_change.may.stop.names by_change.may.stop.granule (keeps_all new change told state is_in.kept is_in.shows);
          down = change.ends.0;
          cause = rises_since looks.goes.later change.ends.1;
        }
        by (Damaged place) change = record {
          sound = λ told state is_in.
              let last = by_change.last told state is_in in
              change.ends.1.sound (looks.goes.told.0 told) state last.change last.by is_in.kept (looks.shows told state is_in.shows) (may_looked (last.may (said change.ends.1.passes told is_in)));
          down = change.ends.0;
        }
        by NoMemory change = record {
          may = by_change.may.stop.memory;
          unmade = λ told state is_in. keeps_all new change told state is_in.kept is_in.shows;
          up = change.ends.0;
          same = λ told state is_in. in_still change.ends.1 held told is_in;
        }
        by Down change = absurd change.ends
