-- The calls of scans: what they are refused for, and the steps that they make.
use Rattle.std.proofs.Common.{◌≡◌, ℕ, ◌+◌, false, true, List, [], ◌∷◌, drop, refl, sym, ◌∙◌, ap, subst, arith}
use Rattle.std.specs.Prelude.{Option, Some, None, is_some, option_map, option_and_then, Ok, Err, Result, IsErrAnd}
use Rattle.std.specs.FinMap as map
use Rattle.std.proofs.lemmas.Option.{same_Some}
use Rattle.rss_base.specs.DiskRule.{IsTold}
use Rattle.rss_base.specs.TupleTypes.{misfit}
use Rattle.rss_base.specs.declared.answer.CallError.{CallError}
use Rattle.rss_base.specs.declared.answer.CallError.TheVariants.{Refused}
use Rattle.rss_base.specs.declared.answer.Reply.{Reply}
use Rattle.rss_base.specs.declared.answer.Reply.TheVariants.{Ok as Done, Number, Row, End}
use Rattle.rss_base.specs.declared.call.Call.{Call}
use Rattle.rss_base.specs.declared.call.Call.TheVariants.{Insert, OpenRelation, OpenImage, Next, CloseScan}
use Rattle.rss_base.specs.declared.name.Name.{Name}
use Rattle.rss_base.specs.declared.need.Need.{Need}
use Rattle.rss_base.specs.declared.refusal.Kind.TheVariants.{Scan as ScanKind, Image as ImageKind}
use Rattle.rss_base.specs.declared.refusal.LimitKind.TheVariants.{Scans as ScanLimit}
use Rattle.rss_base.specs.declared.refusal.Refusal.{Refusal}
use Rattle.rss_base.specs.declared.refusal.Refusal.TheVariants.{NoTransaction, NoSuch, Limit, BadTuple}
use Rattle.rss_base.specs.declared.tid.Tid.{Tid}
use Rattle.rss_base.specs.declared.value.Value.{Value}
use Rattle.rss_lock.specs.Locks.{LocksView}
use Rattle.rss_model.specs.Callers.{caller}
use Rattle.rss_stored.specs.Calls.{EngineView, GetsPlace, IsCallOf}
use Rattle.rss_model.specs.Costs.{may_lack_memory}
use Rattle.rss_model.specs.Defining.{fields_now, refused_unless}
use Rattle.rss_model.specs.Images.{entry, key_kinds}
use Rattle.rss_model.specs.Locks.{Bar, first_bar, granted}
use Rattle.rss_model.specs.Machine.{State, now, is_open}
use Rattle.rss_model.specs.Needs.{needs}
use Rattle.rss_model.specs.Refusals.{busy, if_busy, if_busy_for, if_scans_used_up, image_of, unless_in_chain, unless_key_fits, unless_lost, unless_scan}
use Rattle.rss_model.specs.Scans.{RelationPath, ImagePath, scans_most, scan_of, new_scan}
use Rattle.rss_model.specs.Scans.{Path as MachinePath, Scan as MachineScan}
use Rattle.rss_model.specs.Steps.{Step, admission, first_of, keeps_locks, locked_by, path_of, refusal, tests, unless_defined, unless_open, with_given, with_scan}
use Rattle.rss_model.specs.Steps.StepBy.{opens, gives, stops, closes}
use Rattle.rss_model.specs.Tables.{ImageDef}
use Rattle.rss_stored.proofs.Endings.{comes_to}
use Rattle.rss_model.proofs.ScanKeeping.{its_scan}
use Rattle.rss_model.proofs.Tests.{goes_on, passes_unless, refuses_at, refuses_unless}
use Rattle.rss_scan.specs.Scans.{IsLeastFree, begun, cursor_of, given}
use Rattle.rss_scan.specs.Ties.{spelled}
use Rattle.rss_scan.specs.declared.cursor.Cursor.{Cursor}
use Rattle.rss_scan.specs.declared.cursor.Path.{Path}
use Rattle.rss_scan.specs.declared.cursor.Scan.{Scan}
use Rattle.rss_session.specs.Admissions.{Says, Refuses, image_admission}
use Rattle.rss_session.specs.Looks.{LooksOn}
use Rattle.rss_session.specs.Shown.{Shows}
use Rattle.rss_session.specs.Sessions.{SessionView}
use Rattle.rss_session.proofs.First.{first_passes, first_stops}
use Rattle.rss_rsi.specs.Locking.{Lists, IsClaimed, ClaimEnds}
use Rattle.rss_rsi.specs.Placing.{MayCost}
use Rattle.rss_rsi.specs.Scanning.{FindsNext, FindsNextRow, IsScanIn}
use Rattle.rss_rsi.specs.Views.{RssParts, IsIn, AreScans, HasKeys, spelling, engine_view}
use Rattle.rss_rsi.proofs.Claims.{bars_as, free_as, grants_as, claim_fails}
use Rattle.rss_rsi.proofs.LockCalls.{store_same, unless_keeps}
use Rattle.rss_rsi.proofs.Looks.{goes_costly, passed_call}
use Rattle.rss_rsi.proofs.Scans.{has_scan, not_scanned, scans_full, scans_left, unused}
use Rattle.rss_rsi.proofs.Spelled.{added_scans, given_scans, removed_scans, still_scans}
use Rattle.rss_rsi.proofs.TransactionSteps.{number_line}
use Rattle.rss_rsi.proofs.TupleTests.{admission_keeps, last_test}
use Rattle.rss_rsi.proofs.Ways.{SameHeld, answers, goes_nowhere, keeps_same, left_bare, left_same, leads_by, refused_alike, refused_early, shows_locked, shows_scanned}

-- ---- the tests

module _ (state : State) (t number : ℕ) (opened : unless_open state t ≡ None) (rest : List (Option Refusal)) where
  scan_lacks : scan_of state.scans t number ≡ None → first_of (unless_open state t ∷ unless_scan state t number ∷ rest) ≡ Some (NoSuch ScanKind)
  scan_lacks none = goes_on _ opened ∙ refuses_at rest (refuses_unless (NoSuch ScanKind) (ap is_some none))

  scan_passes : (scan : MachineScan) → scan_of state.scans t number ≡ Some scan → first_of (unless_open state t ∷ unless_scan state t number ∷ rest) ≡ first_of rest
  scan_passes scan there = goes_on _ opened ∙ goes_on rest (passes_unless (NoSuch ScanKind) (ap is_some there))

-- what it gave last may be gone from its chain
pub next_comes : {parts : RssParts} {t number : ℕ} {state : State} {scan : MachineScan} → unless_open state t ≡ None → IsScanIn parts t number state scan → refusal state (Next t number) ≡ unless_in_chain state scan.path scan.last
next_comes {t = t} {number = number} {state = state} {scan = scan} opened in_it =
    scan_passes state t number opened (unless_lost state t number ∷ []) scan in_it.there
    ∙ last_test (unless_lost state t number)
    ∙ ap (option_and_then (λ (s : MachineScan). unless_in_chain state s.path s.last)) in_it.there

pub next_may : (t number : ℕ) → MayCost (Next t number)
next_may t number = record { stop = record { names = tt; granule = tt; memory = refl }; asks = refl; writes = refl }

-- what is answered by a number has no place
pub number_placed : (view : EngineView) (state : State) (call : Call) (number : ℕ) → GetsPlace view state call (Ok (Number number))
number_placed view state (Insert t relation values) number = tt
number_placed view state call number = tt

-- ---- calls that open a scan

-- A call of a transaction opens a scan along this path: behind the tests that it begins with, it is refused where as many are open as may be, and then where another transaction holds one of its locks.
pub record IsOpening (t : ℕ) (front : State → Option Refusal) (along : MachinePath) (call : Call) : Type 0 where
  pub by : caller call ≡ Some t
  pub path : path_of call ≡ Some along
  pub memory : may_lack_memory call ≡ true
  pub unfit : (state : State) (why : Refusal) → front state ≡ Some why → (refusal state call ≡ Some why) × (keeps_locks why ≡ false)
  pub used_up : (state : State) (why : Refusal) → front state ≡ None → if_scans_used_up state ≡ Some why → refusal state call ≡ Some why
  pub comes : (state : State) → front state ≡ None → if_scans_used_up state ≡ None → refusal state call ≡ first_of (if_busy state call ∷ [])

-- of a relation
pub relation_opening : (t : ℕ) (relation : Name) → IsOpening t (λ state. admission state t relation) (RelationPath relation) (OpenRelation t relation)
relation_opening t relation = record {
  by = refl;
  path = refl;
  memory = refl;
  unfit = λ state why bad. (first_stops (unless_open state t) (unless_defined state relation) (drop 2 (tests state (OpenRelation t relation))) bad, admission_keeps state t relation bad);
  used_up = λ state why admitted full.
      first_passes (unless_open state t) (unless_defined state relation) (drop 2 (tests state (OpenRelation t relation))) admitted
      ∙ refuses_at (drop 3 (tests state (OpenRelation t relation))) full;
  comes = λ state admitted room.
      first_passes (unless_open state t) (unless_defined state relation) (drop 2 (tests state (OpenRelation t relation))) admitted
      ∙ goes_on (drop 3 (tests state (OpenRelation t relation))) room;
}

-- three tests that come first
three_stop : (a b c : Option Refusal) (rest : List (Option Refusal)) {why : Refusal} → first_of (a ∷ b ∷ c ∷ []) ≡ Some why → first_of (a ∷ b ∷ c ∷ rest) ≡ Some why
three_stop (Some x) b c rest is = is
three_stop None (Some x) c rest is = is
three_stop None None (Some x) rest is = is
three_stop None None None rest is = absurd (cc (is))

three_pass : (a b c : Option Refusal) (rest : List (Option Refusal)) → first_of (a ∷ b ∷ c ∷ []) ≡ None → first_of (a ∷ b ∷ c ∷ rest) ≡ first_of rest
three_pass (Some x) b c rest is = absurd (cc (is))
three_pass None (Some x) c rest is = absurd (cc (is))
three_pass None None (Some x) rest is = absurd (cc (is))
three_pass None None None rest is = refl

-- each of which keeps no locks
three_keep : (a b c : Option Refusal) → ((why : Refusal) → a ≡ Some why → keeps_locks why ≡ false) → ((why : Refusal) → b ≡ Some why → keeps_locks why ≡ false) → ((why : Refusal) → c ≡ Some why → keeps_locks why ≡ false)
    → (why : Refusal) → first_of (a ∷ b ∷ c ∷ []) ≡ Some why → keeps_locks why ≡ false
three_keep (Some x) b c one two three why is = one why is
three_keep None (Some x) c one two three why is = two why is
three_keep None None (Some x) one two three why is = three why is
three_keep None None None one two three why is = absurd (cc (is))

key_keeps : (state : State) (image : Option ImageDef) (from : Option (List Value)) (why : Refusal) → unless_key_fits state image from ≡ Some why → keeps_locks why ≡ false
key_keeps state None from why is = absurd (cc (is))
key_keeps state (Some image) None why is = absurd (cc (is))
key_keeps state (Some image) (Some key) why is = by (misfit (key_kinds (fields_now state image.relation) image.fields) key) is
  where
    by : (o : Option ℕ) → option_map BadTuple o ≡ Some why → keeps_locks why ≡ false
    by None is = absurd (cc (is))
    by (Some field) is = ap keeps_locks (sym (same_Some _ _ is))

-- of an image
pub image_opening : (t : ℕ) (image : Name) (from : Option (List Value)) → IsOpening t (λ state. image_admission state t image from) (ImagePath image from) (OpenImage t image from)
image_opening t image from = record {
  by = refl;
  path = refl;
  memory = refl;
  unfit = λ state why bad. (
    three_stop (unless_open state t) (unless_image state) (unless_key_fits state (image_of state image) from) (drop 3 (tests state (OpenImage t image from))) bad,
    three_keep (unless_open state t) (unless_image state) (unless_key_fits state (image_of state image) from)
        (λ other is. unless_keeps (is_open state t) NoTransaction refl is) (λ other is. unless_keeps (is_some (image_of state image)) (NoSuch ImageKind) refl is) (key_keeps state (image_of state image) from) why bad,
  );
  used_up = λ state why admitted full.
      three_pass (unless_open state t) (unless_image state) (unless_key_fits state (image_of state image) from) (drop 3 (tests state (OpenImage t image from))) admitted
      ∙ refuses_at (drop 4 (tests state (OpenImage t image from))) full;
  comes = λ state admitted room.
      three_pass (unless_open state t) (unless_image state) (unless_key_fits state (image_of state image) from) (drop 3 (tests state (OpenImage t image from))) admitted
      ∙ goes_on (drop 4 (tests state (OpenImage t image from))) room;
}
  where
    unless_image : State → Option Refusal
    unless_image state = refused_unless (is_some (image_of state image)) (NoSuch ImageKind)

-- another transaction holds what it needs, or none does
pub busy_is : {t : ℕ} (call : Call) → caller call ≡ Some t → (state : State) (bar : Option Bar) → first_bar state.locks t (needs (now state) call) ≡ bar → if_busy state call ≡ option_map busy bar
busy_is call by state bar is = ap (option_and_then (λ u. if_busy_for state u call)) by ∙ ap (option_map busy) is

module _ {parts : RssParts} {t : ℕ} {front : State → Option Refusal} {along : MachinePath} {call : Call} (opening : IsOpening t front along call) {n m : ℕ} {up up_now : Type 0} (was_up : up) (is_up : up_now) (calls : m ≡ n + 1) where
  -- it is refused by the tests that it begins with
  pub opens_unfit : {why : Refusal} (result : Result Reply CallError) → IsErrAnd result (λ e. e ≡ Refused why) → Refuses parts.session front why → IsCallOf (engine_view parts n up) (engine_view parts m up_now) call result
  opens_unfit {why = why} result is bad = refused_early result is was_up is_up calls bad.1 (λ told state shows. opening.unfit state why (bad.0 told state shows))

  module _ (admitted : Says parts.session front None) where
    -- as many scans are open as may be
    pub opens_full : map.len parts.scans ≡ scans_most → IsCallOf (engine_view parts n up) (engine_view parts m up_now) call (Err (Refused (Limit ScanLimit)))
    opens_full full = refused_alike (Err (Refused (Limit ScanLimit))) refl was_up is_up calls (omega arith) (λ told state is_in. (
      opening.used_up state (Limit ScanLimit) (admitted told state is_in.shows) (scans_full is_in full),
      left_same call (Limit ScanLimit) refl is_in,
    ))

    module _ (room : map.len parts.scans ≡ scans_most → ⊥) {list : List Need} (listed : Lists parts (λ tables. needs tables call) list) {new : RssParts} (same : new.session ≡ parts.session) where
      -- another transaction holds one of its locks, or memory runs out
      pub opens_unclaimed : (why : CallError) (result : Result Reply CallError) → IsErrAnd result (λ e. e ≡ why) → (T : Type 0) (before after : LocksView) → before.locks ≡ parts.locks.locks → SameHeld parts new → ClaimEnds {T = T} before after t list (Err why)
          → IsCallOf (engine_view parts n up) (engine_view new m up_now) call result
      opens_unclaimed why result is T before after were held ends =
          passed_call result is
          (claim_fails opening.memory was_up is_up (goes_nowhere call (store_same parts new same) calls) (keeps_same parts.session new.session (store_same parts new same)) (λ told state. subst (λ (session : SessionView). Shows session state) (sym same)) held
          T before after t list were (λ told state is_in bar barred.
          opening.comes state (admitted told state is_in.shows) (scans_left is_in room)
          ∙ refuses_at [] (busy_is call opening.by state (Some bar) (bars_as is_in call (listed told state is_in) t ∙ barred)))
          ends)

      -- or it holds all of them, and the scan is open
      pub opens_scan : (claimed : LocksView) → IsClaimed parts.locks claimed t list → new.locks.locks ≡ granted t list claimed.locks → (number : ℕ) (path : Path) → IsLeastFree parts.scans number → new.scans ≡ map.insert parts.scans number (begun t path)
          → (IsTold parts.session.store.pages.disk → (state : State) → IsIn parts state → (spelling state.base.definitions along None ≡ (begun t path).cursor) × HasKeys state.base.definitions along None)
          → IsCallOf (engine_view parts n up) (engine_view new m up_now) call (Ok (Number number))
      opens_scan claimed free taken number path least added spells = comes_to was_up (goes_nowhere call (store_same parts new same) calls) (answers is_up (number_line number (omega (arith, least.within))) (λ told state is_in. number_placed (engine_view parts n up) state call number) (λ told state is_in.
          let list_is = listed told state is_in in
          let its = spells told state is_in in
          leads_by (with_scan number (new_scan t along) (locked_by (Some t) call state)) (keeps_same parts.session new.session (store_same parts new same)) told is_in
          (subst (λ (by : Option ℕ). Step state call (Ok (Number number)) (with_scan number (new_scan t along) (locked_by by call state))) opening.by
          (opens call t number along
          (opening.comes state (admitted told state is_in.shows) (scans_left is_in room) ∙ goes_on [] (busy_is call opening.by state None (free_as is_in call list_is free)))
          opening.by opening.path (omega (arith, least.within)) (unused is_in number least.free)))
          (shows_scanned _ (shows_locked _ (subst (λ (session : SessionView). Shows session state) (sym same) is_in.shows)))
          (grants_as is_in call list_is t ∙ ap (granted t list) (sym free.same) ∙ sym taken)
          (subst (AreScans state.base.definitions (map.insert state.scans number (new_scan t along))) (sym added)
          (added_scans t number along path is_in.scanned its.0 its.1))))

-- ---- a scan that is open

module _ {parts : RssParts} (t number : ℕ) (opened : Says parts.session (λ state. unless_open state t) None) {n m : ℕ} {up up_now : Type 0} (was_up : up) (is_up : up_now) (calls : m ≡ n + 1) where
  -- there is none
  module _ (none : cursor_of parts.scans t number ≡ None) (why : CallError) (is : why ≡ Refused (NoSuch ScanKind)) where
    pub next_lacks : IsCallOf (engine_view parts n up) (engine_view parts m up_now) (Next t number) (Err why)
    next_lacks = refused_alike (Err why) is was_up is_up calls (omega arith) (λ told state is_in. (
      scan_lacks state t number (opened told state is_in.shows) (unless_lost state t number ∷ []) (not_scanned is_in t number none),
      left_bare (Next t number) (NoSuch ScanKind) refl is_in,
    ))

    pub close_lacks : IsCallOf (engine_view parts n up) (engine_view parts m up_now) (CloseScan t number) (Err why)
    close_lacks = refused_alike (Err why) is was_up is_up calls (omega arith) (λ told state is_in. (
      scan_lacks state t number (opened told state is_in.shows) [] (not_scanned is_in t number none),
      left_bare (CloseScan t number) (NoSuch ScanKind) refl is_in,
    ))

  module _ {cursor : Cursor} (has : cursor_of parts.scans t number ≡ Some cursor) where
    -- it is closed
    pub closes_scan : {new : RssParts} → new.session ≡ parts.session → new.locks.locks ≡ parts.locks.locks → new.scans ≡ map.remove parts.scans number
        → IsCallOf (engine_view parts n up) (engine_view new m up_now) (CloseScan t number) (Ok Done)
    closes_scan {new = new} same locks closed = comes_to was_up (goes_nowhere (CloseScan t number) (store_same parts new same) calls) (answers is_up (omega arith) (λ told state is_in. tt) (λ told state is_in.
        let of = has_scan is_in t number cursor has in
        leads_by (record state { scans = map.remove state.scans number }) (keeps_same parts.session new.session (store_same parts new same)) told is_in
        (closes t number (scan_passes state t number (opened told state is_in.shows) [] of.scan of.there))
        (shows_scanned _ (subst (λ (session : SessionView). Shows session state) (sym same) is_in.shows))
        (is_in.locked ∙ sym locks)
        (still_scans closed refl (removed_scans number is_in.scanned))))

    -- ---- it goes on, and pages were looked at

    module _ {T : Type 0} {found : T} {new : RssParts} (looks : LooksOn parts.session new.session (Ok found)) (locks : new.locks.locks ≡ parts.locks.locks) where
      -- nothing comes next
      pub next_stops : FindsNext parts t number None → new.scans ≡ parts.scans → IsCallOf (engine_view parts n up) (engine_view new m up_now) (Next t number) (Ok End)
      next_stops none scans = comes_to was_up (goes_costly parts new looks calls (next_may t number)) (answers is_up (omega arith) (λ told state is_in. tt) (λ told state is_in.
          let of = has_scan is_in t number cursor has in
          let in_it : IsScanIn parts t number state of.scan = record { told = told; is_in = is_in; there = of.there } in
          leads_by state looks.moments told is_in
          (stops t number of.scan (next_comes (opened told state is_in.shows) in_it ∙ (none state of.scan in_it).0) of.there (none state of.scan in_it).1)
          (looks.shows told state is_in.shows) (is_in.locked ∙ sym locks) (still_scans scans refl is_in.scanned)))

      -- or a tuple does
      pub next_gives : (key : List ℕ) (tid : Tid) (values : List Value) → FindsNextRow parts t number key tid values
          → ((was : Scan) → map.get parts.scans number ≡ Some was → new.scans ≡ map.insert parts.scans number (given key tid was)) → IsCallOf (engine_view parts n up) (engine_view new m up_now) (Next t number) (Ok (Row tid values))
      next_gives key tid values row gave = comes_to was_up (goes_costly parts new looks calls (next_may t number)) (answers is_up row.short (λ told state is_in. tt) (λ told state is_in.
          let of = has_scan is_in t number cursor has in
          let in_it : IsScanIn parts t number state of.scan = record { told = told; is_in = is_in; there = of.there } in
          let its = row.gives state of.scan in_it in
          let next = entry its.given tid in
          let was = is_in.scanned.spelled number ∙ ap (option_map (spelled (spelling state.base.definitions))) (its_scan state.scans t number of.scan of.there).0 in
          leads_by (with_scan number (with_given of.scan next) state) looks.moments told is_in
          (gives t number of.scan next values (next_comes (opened told state is_in.shows) in_it ∙ its.stays) of.there (record { next = its.next; relation = its.relation; along = its.along; has = its.has }))
          (shows_scanned _ (looks.shows told state is_in.shows)) (is_in.locked ∙ sym locks)
          (subst (AreScans state.base.definitions (map.insert state.scans number (with_given of.scan next))) (sym (gave (spelled (spelling state.base.definitions) of.scan) was))
          (given_scans number of.scan next key tid is_in.scanned its.spelled its.keys))))
