-- How the calls end that look at links: by their locks, by what they find, or by what comes of it.
use Rattle.std.proofs.Common.{◌≡◌, ℕ, ◌+◌, Bool, true, false, List, refl, sym, ◌∙◌, ap, subst}
use Rattle.std.specs.Prelude.{Option, Some, None, Result, Ok, Err, IsErrAnd, IfSome, is_some}
use Rattle.std.proofs.lemmas.Option.{none-some}
use Rattle.std.proofs.lemmas.Result.{err_from_is_err_and}
use Rattle.rss_base.specs.Answers.{page_error}
use Rattle.rss_base.specs.DiskRule.{IsTold}
use Rattle.rss_base.specs.LogRecords.{HasSlot}
use Rattle.rss_base.specs.Steps.{PagesView}
use Rattle.rss_base.specs.declared.answer.CallError.{CallError}
use Rattle.rss_base.specs.declared.answer.CallError.TheVariants.{Refused, Damaged, Device, NoMemory, Down}
use Rattle.rss_base.specs.declared.call.Call.{Call}
use Rattle.rss_base.specs.declared.fault.PageFault.{PageFault}
use Rattle.rss_base.specs.declared.fault.PageFault.TheVariants.{Device as PageDevice, Damaged as PageDamaged, NoMemory as PageNoMemory}
use Rattle.rss_base.specs.declared.need.Need.{Need}
use Rattle.rss_base.specs.declared.item.Item.TheVariants.{Tuple as TupleItem}
use Rattle.rss_base.specs.declared.name.Name.{Name}
use Rattle.rss_base.specs.declared.refusal.Refusal.{Refusal}
use Rattle.rss_base.specs.declared.refusal.Refusal.TheVariants.{NoTuple}
use Rattle.rss_base.specs.declared.tid.Tid.{Tid}
use Rattle.rss_lock.specs.Locks.{LocksView}
use Rattle.rss_base.proofs.Moments.{then}
use Rattle.rss_model.specs.Callers.{caller}
use Rattle.rss_stored.specs.Calls.{GoesOn, IsCallOf}
use Rattle.rss_model.specs.Costs.{RisesAtMost}
use Rattle.rss_model.specs.Items.{Content}
use Rattle.rss_model.specs.Kept.{Kept}
use Rattle.rss_model.specs.Machine.{State, now}
use Rattle.rss_model.specs.Needs.{needs}
use Rattle.rss_model.specs.ReplyText.{IsShort}
use Rattle.rss_model.specs.Steps.{keeps_locks, refusal, unless_live}
use Rattle.rss_model.specs.Tables.{content}
use Rattle.rss_stored.proofs.Endings.{comes_to, lacks_no_end}
use Rattle.rss_model.proofs.StepKeeping.{kept_fit}
use Rattle.rss_model.proofs.Tests.{refuses_unless}
use Rattle.rss_session.specs.Calls.{GoesOn as SessionGoesOn}
use Rattle.rss_session.specs.Looks.{LooksOn}
use Rattle.rss_session.specs.Parts.{view as session_view}
use Rattle.rss_session.specs.Sessions.{SessionView}
use Rattle.rss_session.specs.Shown.{Shows}
use Rattle.rss_session.specs.declared.session.Session.{Session}
use Rattle.rss_session.proofs.Behind.{looks_as, looks_failed, looks_then}
use Rattle.rss_session.proofs.Passing.{goes_then}
use Rattle.rss_rsi.specs.Imaging.{Searches}
use Rattle.rss_rsi.specs.Linking.{FindsBroken, IsMisnamed, IsRefused, SaysFound, TestEnds, kept_by, passes_all}
use Rattle.rss_rsi.specs.Locking.{ClaimEnds}
use Rattle.rss_rsi.specs.Placing.{MayCost}
use Rattle.rss_rsi.specs.Views.{RssParts, IsIn, engine_view}
use Rattle.rss_rsi.proofs.Changes.{goes_anyhow}
use Rattle.rss_rsi.proofs.Claims.{bars_as, claim_fails}
use Rattle.rss_rsi.proofs.KeyLocks.{refused_keeping}
use Rattle.rss_rsi.proofs.LinkTests.{IsLinked, linked_busy}
use Rattle.rss_rsi.proofs.Looks.{costly_fails, goes_costly, lacks_costly}
use Rattle.rss_rsi.proofs.Ways.{SameHeld, goes_bounded}

-- ---- tests that look at pages

-- what was said behind a look was so before
pub says_before : {old mid : SessionView} → Searches old mid → (test : State → Option Refusal) (why : Option Refusal) → SaysFound mid test why → SaysFound old test why
says_before looks test why says told state kept shows = says (looks.goes.told.0 told) state kept (looks.shows told state shows)

broken_before : {old mid new : SessionView} → Searches old mid → FindsBroken mid new → FindsBroken old new
broken_before looks broken = record {
  goes = goes_then looks.goes broken.goes;
  moments = λ told state kept shows. then (looks.moments told state kept shows) (broken.moments (looks.goes.told.0 told) state kept (looks.shows told state shows)) (λ image holds. holds);
  sound = λ told state kept shows. broken.sound (looks.goes.told.0 told) state kept (looks.shows told state shows);
}

-- by a test that says more, where those before it were passed
module _ {old mid new : SessionView} {up : Type 0} (looks : Searches old mid) (front back all : State → Option Refusal) (passed : SaysFound old front None) (same : (state : State) → front state ≡ None → all state ≡ back state) {T : Type 0} where
  pub test_behind : (result : Result T CallError) → TestEnds mid new up back result → TestEnds old new up all result
  test_behind (Ok found) ends = record { by = (ends.by.0, looks_then looks ends.by.1, λ told state kept shows. same state (passed told state kept shows) ∙ says_before looks back None ends.by.2 told state kept shows) }
  test_behind (Err (Refused why)) ends = record {
    by = (
      ends.by.0,
      looks_then looks ends.by.1,
      record { says = λ told state kept shows. same state (passed told state kept shows) ∙ says_before looks back (Some why) ends.by.2.says told state kept shows; short = ends.by.2.short; keeps = ends.by.2.keeps },
    );
  }
  test_behind (Err NoMemory) ends = record { by = (ends.by.0, looks_then looks ends.by.1) }
  test_behind (Err Device) ends = record { by = (ends.by.0, looks_then looks ends.by.1) }
  test_behind (Err (Damaged place)) ends = record { by = (ends.by.0, broken_before looks ends.by.1) }
  test_behind (Err Down) ends = absurd ends.by

-- a refusal of the first of some tests is one of them all
module _ {old new : SessionView} {up : Type 0} (front all : State → Option Refusal) (stops : (state : State) (why : Refusal) → front state ≡ Some why → all state ≡ Some why) {T : Type 0} (U : Type 0) where
  pub test_stops : (why : CallError) → TestEnds {T = T} old new up front (Err why) → TestEnds {T = U} old new up all (Err why)
  test_stops (Refused why) ends = record { by = (ends.by.0, ends.by.1, record { says = λ told state kept shows. stops state why (ends.by.2.says told state kept shows); short = ends.by.2.short; keeps = ends.by.2.keeps }) }
  test_stops NoMemory ends = record { by = ends.by }
  test_stops Device ends = record { by = ends.by }
  test_stops (Damaged place) ends = record { by = ends.by }
  test_stops Down ends = absurd ends.by

-- a test that says the same in each state
module _ {old new : SessionView} {up : Type 0} (back all : State → Option Refusal) (same : IsTold old.store.pages.disk → (state : State) → Kept state → Shows old state → all state ≡ back state) {T : Type 0} where
  pub test_as : (result : Result T CallError) → TestEnds old new up back result → TestEnds old new up all result
  test_as (Ok found) ends = record { by = (ends.by.0, ends.by.1, λ told state kept shows. same told state kept shows ∙ ends.by.2 told state kept shows) }
  test_as (Err (Refused why)) ends = record { by = (ends.by.0, ends.by.1, record { says = λ told state kept shows. same told state kept shows ∙ ends.by.2.says told state kept shows; short = ends.by.2.short; keeps = ends.by.2.keeps }) }
  test_as (Err NoMemory) ends = record { by = ends.by }
  test_as (Err Device) ends = record { by = ends.by }
  test_as (Err (Damaged place)) ends = record { by = ends.by }
  test_as (Err Down) ends = absurd ends.by

-- by the error that is passed on
pub passed_test : {old new : SessionView} {up : Type 0} {test : State → Option Refusal} {U : Type 0} {why : CallError} (result : Result U CallError) → IsErrAnd result (λ e. e ≡ why) → TestEnds {T = U} old new up test (Err why) → TestEnds old new up test result
passed_test {old = old} {new = new} {up = up} {test = test} result is ends =
    let so = err_from_is_err_and result is in
    subst (TestEnds old new up test) (sym (so.1 ∙ ap Err so.2)) ends

-- the look fails
pub test_fails : {old new : SessionView} {up : Type 0} {T U : Type 0} (test : State → Option Refusal) (fault : PageFault) → LooksOn {T = T} old new (Err fault) → (up → ⊥) → TestEnds {T = U} old new up test (Err (page_error fault))
test_fails test PageDevice looks down = record { by = (down, looks_failed (Err PageDevice) refl looks) }
test_fails test (PageDamaged place) looks down = record { by = (down, record { goes = goes_anyhow looks.goes; moments = looks.moments; sound = λ told state kept shows. looks.sound place refl told }) }
test_fails test PageNoMemory looks down = absurd (looks.goes.memory refl)

-- what a page gives is damaged
pub test_damaged : {old new : SessionView} {up : Type 0} {T U : Type 0} {found : T} (test : State → Option Refusal) {segment : ℕ} {given : Option Tid} {why : CallError} → LooksOn old new (Ok found) → (up → ⊥) → IsMisnamed segment given why
    → (IsTold old.store.pages.disk → (state : State) → Kept state → Shows old state → IfSome given HasSlot) → TestEnds {T = U} old new up test (Err why)
test_damaged {old = old} {new = new} {up = up} {U = U} test {given = given} looks down bad slots =
    subst (λ (e : CallError). TestEnds {T = U} old new up test (Err e)) (sym bad.is)
    (record { by = (down, record { goes = goes_anyhow looks.goes; moments = looks.moments; sound = λ told state kept shows. bad.past (subst (λ (g : Option Tid). IfSome g HasSlot) bad.some (slots told state kept shows)) }) })

-- it is passed, or refuses
pub test_passes : {old new : SessionView} {up : Type 0} {T U : Type 0} {found : T} (test : State → Option Refusal) (value : U) → LooksOn old new (Ok found) → up → SaysFound old test None → TestEnds old new up test (Ok value)
test_passes test value looks is_up says = record { by = (is_up, looks_as (tt {0}) looks, says) }

pub test_refuses : {old new : SessionView} {up : Type 0} {T U : Type 0} {found : T} (test : State → Option Refusal) (why : Refusal) → LooksOn old new (Ok found) → up → SaysFound old test (Some why) → IsShort (Err why) → keeps_locks why ≡ true → TestEnds {T = U} old new up test (Err (Refused why))
test_refuses test why looks is_up says short keeps = record { by = (is_up, looks_as (tt {0}) looks, record { says = says; short = short; keeps = keeps }) }

-- by the refusal that a function answers
pub test_refused : {old new : SessionView} {up : Type 0} {T U : Type 0} {found : T} (test : State → Option Refusal) (error : CallError) {why : Refusal} → error ≡ Refused why → LooksOn old new (Ok found) → up → SaysFound old test (Some why) → IsShort (Err why) → keeps_locks why ≡ true → TestEnds {T = U} old new up test (Err error)
test_refused {old = old} {new = new} {up = up} {U = U} test error {why = why} is looks is_up says short keeps = subst (λ (e : CallError). TestEnds {T = U} old new up test (Err e)) (sym is) (test_refuses test why looks is_up says short keeps)

-- what fails a test that is passed always, fails any
pub test_stops_any : {old new : SessionView} {up : Type 0} (test : State → Option Refusal) {T U : Type 0} (why : CallError) → TestEnds {T = T} old new up passes_all (Err why) → TestEnds {T = U} old new up test (Err why)
test_stops_any test {U = U} why ends = test_stops passes_all test (λ state other is. absurd (none-some other is)) U why ends

-- where it refuses, the engine is up, and nothing is changed
pub refused_so : {old new : SessionView} {up : Type 0} {test : State → Option Refusal} {T : Type 0} (why : CallError) → TestEnds {T = T} old new up test (Err why) → IsRefused why → up × Searches old new
refused_so (Refused why) ends is = (ends.by.0, ends.by.1)
refused_so NoMemory ends is = absurd is
refused_so Device ends is = absurd is
refused_so (Damaged place) ends is = absurd is
refused_so Down ends is = absurd is

-- no tuple can have the identifier
pub absent_past : {state : State} → Kept state → (relation : Name) (tid : Tid) → (HasSlot tid → ⊥) → content (now state).contents (TupleItem relation tid) ≡ None
absent_past {state = state} kept relation tid past = by (content (now state).contents (TupleItem relation tid)) refl
  where
    by : (held : Option Content) → content (now state).contents (TupleItem relation tid) ≡ held → held ≡ None
    by None so = refl
    by (Some held) so = absurd (past ((kept_fit state kept).1.tids relation tid (ap is_some so)).slot)

-- there is no such tuple
pub test_lacks : {old new : SessionView} {up : Type 0} {T U : Type 0} {found : T} (relation name : Name) (tid : Tid) (why : CallError) → why ≡ Refused (NoTuple name tid) → IsShort (Err (NoTuple name tid)) → name ≡ relation → LooksOn old new (Ok found) → up
    → (IsTold old.store.pages.disk → (state : State) → Kept state → Shows old state → content (now state).contents (TupleItem relation tid) ≡ None) → TestEnds {T = U} old new up (λ state. unless_live state relation tid) (Err why)
test_lacks {old = old} {new = new} {up = up} {U = U} relation name tid why is short same looks is_up none =
    subst (λ (e : CallError). TestEnds {T = U} old new up (λ state. unless_live state relation tid) (Err e)) (sym (is ∙ ap (λ (n : Name). Refused (NoTuple n tid)) same))
    (test_refuses (λ state. unless_live state relation tid) (NoTuple relation tid) looks is_up (λ told state kept shows. refuses_unless (NoTuple relation tid) (ap is_some (none told state kept shows)))
    (subst (λ (n : Name). IsShort (Err (NoTuple n tid))) same short) refl)

-- ---- calls

module _ (first new : RssParts) {mid : SessionView} {S : Type 0} {found : S} (looks : LooksOn first.session mid (Ok found)) {n m : ℕ} (calls : m ≡ n + 1) {up up_now : Type 0} (was_up : up) {call : Call} (may : MayCost call) {t : ℕ} (by : caller call ≡ Some t) where
  goes_broken : SessionGoesOn {T = Unit {0}} mid new.session (Ok tt) → GoesOn (engine_view first n up) (engine_view new m up_now) call
  goes_broken on = goes_bounded (Ok tt) (lacks_no_end call may.stop.memory) (goes_then looks.goes on) calls
      (subst (λ (most : Option ℕ). RisesAtMost most first.session.store.pages.asks new.session.store.pages.asks) (sym may.asks) tt)
      (subst (λ (most : Option ℕ). RisesAtMost most first.session.store.pages.writes new.session.store.pages.writes) (sym may.writes) tt)
      (λ none. tt)

  -- The call ends by a test of what it has found: it is refused, and keeps its locks, or the look fails.
  pub tested_fails : {test : State → Option Refusal} {T : Type 0} (why : CallError) → TestEnds {T = T} mid new.session up_now test (Err why) → {list : List Need} → new.locks.locks ≡ kept_by why t list first.locks.locks → new.scans ≡ first.scans
      → (IsTold first.session.store.pages.disk → (state : State) → IsIn first state → (other : Refusal) → test state ≡ Some other → (needs (now state) call ≡ list) × (refusal state call ≡ Some other))
      → IsCallOf (engine_view first n up) (engine_view new m up_now) call (Err why)
  tested_fails (Refused why) ends taken scans so =
      refused_keeping first new (looks_then looks ends.by.1) calls was_up ends.by.0 may by ends.by.2.short ends.by.2.keeps taken scans
      (λ told state is_in. so told state is_in why (ends.by.2.says (looks.goes.told.0 told) state is_in.kept (looks.shows told state is_in.shows)))
  tested_fails NoMemory ends taken scans so = lacks_costly first new (looks_then looks ends.by.1) calls may was_up ends.by.0 (record { locks = taken; scans = scans })
  tested_fails Device ends taken scans so =
      costly_fails first new (record { fault = PageDevice; is = refl; looks = looks_then looks ends.by.1 }) m m refl was_up ends.by.0 n call calls may
  tested_fails (Damaged place) ends taken scans so = comes_to was_up (goes_broken ends.by.1.goes) (record {
    sound = λ told state is_in. ends.by.1.sound (looks.goes.told.0 told) state is_in.kept (looks.shows told state is_in.shows);
    down = ends.by.0;
  })
  tested_fails Down ends taken scans so = absurd ends.by

  -- another transaction holds one of its locks, or memory runs out
  pub unclaimed : {front behind last : State → Option Refusal} → IsLinked t front behind last call → new.session ≡ mid → up_now → {list : List Need}
      → (IsTold first.session.store.pages.disk → (state : State) → IsIn first state → (front state ≡ None) × (needs (now state) call ≡ list))
      → (why : CallError) (T : Type 0) (before after : LocksView) → before.locks ≡ first.locks.locks → SameHeld first new → ClaimEnds {T = T} before after t list (Err why) → IsCallOf (engine_view first n up) (engine_view new m up_now) call (Err why)
  unclaimed linked same is_up {list = list} admitted why T before after were held ends =
      let still : LooksOn first.session new.session (Ok found) = subst (λ (session : SessionView). LooksOn first.session session (Ok found)) (sym same) looks in
      claim_fails may.stop.memory was_up is_up (goes_costly first new still calls may) still.moments still.shows held T before after t list were (λ told state is_in bar is.
      let its = admitted told state is_in in
      linked_busy linked state its.0 bar (bars_as is_in call its.1 t ∙ is)) ends

-- what was tested is so of the session that is there still
pub still_tested : {S T : Type 0} (pages_view : S → PagesView) {old : SessionView} {tested now : Session S} {down down_now : Bool} {test : State → Option Refusal} {result : Result T CallError} → now ≡ tested → down_now ≡ down
    → TestEnds old (session_view pages_view tested) (down ≡ false) test result → TestEnds old (session_view pages_view now) (down_now ≡ false) test result
still_tested pages_view {old = old} {tested = tested} {now = now} {down = down} {test = test} {result = result} same same_down ends =
    subst (λ (d : Bool). TestEnds old (session_view pages_view now) (d ≡ false) test result) (sym same_down)
    (subst (λ (session : Session _). TestEnds old (session_view pages_view session) (down ≡ false) test result) (sym same) ends)
