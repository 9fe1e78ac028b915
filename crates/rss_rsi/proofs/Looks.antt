-- How calls end that look for a tuple first.
use Rattle.std.proofs.Common.{◌≡◌, ℕ, ◌+◌, ◌*◌, ◌≤◌, List, length, true, false, refl, sym, ◌∙◌, ap, subst, arith}
use Rattle.std.specs.Prelude.{is_some, Bool, Option, Some, None, IfErr, Result, Ok, Err, IsErrAnd}
use Rattle.std.proofs.lemmas.List.{length-map}
use Rattle.std.proofs.lemmas.Option.{none-some, same_Some}
use Rattle.std.proofs.lemmas.Result.{err_from_is_err_and}
use Rattle.rss_base.specs.Answers.{page_error}
use Rattle.rss_base.specs.DiskRule.{IsTold}
use Rattle.rss_base.specs.Listings.{Listing, relation_at, IsNumberOf}
use Rattle.rss_base.specs.LogRecords.{HasSlot}
use Rattle.rss_base.specs.Runs.{run_pages}
use Rattle.rss_base.specs.Steps.{PagesView}
use Rattle.rss_base.specs.TupleTypes.{form_of, kinds, misfit, most_fields}
use Rattle.rss_base.specs.declared.answer.CallError.{CallError}
use Rattle.rss_base.specs.declared.answer.CallError.TheVariants.{Refused, Damaged, NoMemory}
use Rattle.rss_base.specs.declared.answer.Reply.{Reply}
use Rattle.rss_base.specs.declared.call.Call.{Call}
use Rattle.rss_base.specs.declared.fault.PageFault.{PageFault}
use Rattle.rss_base.specs.declared.field.FieldDef.{FieldDef}
use Rattle.rss_base.specs.declared.item.Item.TheVariants.{Tuple as TupleItem}
use Rattle.rss_base.specs.declared.name.Name.{Name}
use Rattle.rss_base.specs.declared.need.Need.{Need}
use Rattle.rss_base.specs.declared.place.Place.{Place}
use Rattle.rss_base.specs.declared.refusal.Kind.TheVariants.{Relation as RelationKind}
use Rattle.rss_base.specs.declared.refusal.Refusal.TheVariants.{NoTuple}
use Rattle.rss_base.specs.declared.relation.RelationEntry.{RelationEntry}
use Rattle.rss_base.specs.declared.tid.Tid.{Tid}
use Rattle.rss_base.specs.declared.value.FieldForm.{FieldForm}
use Rattle.rss_base.specs.declared.value.Value.{Value}
use Rattle.rss_stored.specs.Calls.{EngineView, GoesOn, IsCallOf}
use Rattle.rss_model.specs.Costs.{RisesAtMost, most_asks, most_writes}
use Rattle.rss_model.specs.Items.{Content}
use Rattle.rss_model.specs.Locks.{first_bar, granted}
use Rattle.rss_model.specs.Machine.{State, now}
use Rattle.rss_model.specs.Needs.{needs}
use Rattle.rss_model.specs.ReplyText.{IsShort}
use Rattle.rss_model.specs.Steps.{HasValues}
use Rattle.rss_model.specs.Tables.{Tables, content}
use Rattle.rss_stored.proofs.Endings.{comes_to, within_most, lacks_no_end}
use Rattle.rss_model.proofs.StepKeeping.{kept_fit}
use Rattle.rss_stored.proofs.Totals.{stops}
use Rattle.rss_access.specs.Bodies.{IsBodyOf}
use Rattle.rss_access.proofs.Numbered.{name_of}
use Rattle.rss_catalog.specs.Catalogs.{CatalogView, IsSafe}
use Rattle.rss_session.specs.Looks.{LooksOn, FindsTuple}
use Rattle.rss_lock.specs.Locks.{LocksView}
use Rattle.rss_lock.specs.declared.locks.Locks.{Locks as LockTable}
use Rattle.rss_log.specs.Logs.{LogView}
use Rattle.rss_trans.specs.Transactions.{OpenView, is_open, transaction_in}
use Rattle.rss_session.specs.Parts.{view as session_view}
use Rattle.rss_session.specs.Sessions.{SessionView}
use Rattle.rss_session.specs.declared.session.Session.{Session}
use Rattle.rss_session.specs.Sessions.{IsReady as IsSessionReady}
use Rattle.rss_session.proofs.Behind.{looks_itself}
use Rattle.rss_rsi.specs.Changing.{IsAsked}
use Rattle.rss_rsi.specs.Views.{RssParts, IsIn, IsReady, engine_view}
use Rattle.rss_rsi.specs.Locking.{accessing, Lists, ClaimEnds}
use Rattle.rss_rsi.specs.Looking.{EndsEach, MayLook, LooksFor, CostsTwo, LooksUp, FindsNone}
use Rattle.rss_rsi.specs.Placing.{FailsToLook, MayCost}
use Rattle.rss_rsi.specs.declared.locking.Access.{Access}
use Rattle.rss_rsi.proofs.Claims.{bars_as, locked_as, claim_fails}
use Rattle.rss_session.proofs.StaysOpen.{same_listed}
use Rattle.rss_rsi.proofs.Ways.{SameHeld, ScanTable, asked, failed_within, goes_bounded, holders_stay, in_held, lacks_behind, refused_behind, rss_parts, scans_stay}

-- ---- what a look passes on

-- nothing was looked at
pub looks_nothing : {T : Type 0} {session : SessionView} (found : T) → IsSessionReady session → LooksUp session session found
looks_nothing {session = session} found ready = record {
  looks = looks_itself found ready;
  costs = record { asks_high = omega arith; writes_high = omega arith };
}

-- what was looked at is there still
pub still_looked : {S T : Type 0} (pages_view : S → PagesView) (old : SessionView) {mid new : Session S} {found : T} → new ≡ mid → LooksUp old (session_view pages_view mid) found → LooksUp old (session_view pages_view new) found
still_looked pages_view old {found = found} same = subst (λ (session : Session _). LooksUp old (session_view pages_view session) found) (sym same)

-- the needs are the same before the look
pub lists_before : (old mid : RssParts) {T : Type 0} {found : Result T PageFault} (wanted : Tables → List Need) {list : List Need} → LooksOn old.session mid.session found → SameHeld old mid → Lists mid wanted list → Lists old wanted list
lists_before old mid wanted looks held lists told state is_in =
    lists (looks.goes.told.0 told) state (in_held held (looks.shows told state is_in.shows) is_in)

-- ---- calls that may be made of what was looked at

module _ {T : Type 0} {old new : RssParts} {result : Result T PageFault} (looks : LooksOn old.session new.session result) (costs : CostsTwo old.session new.session) {call : Call} (may : MayLook call) {n m : ℕ} (calls : m ≡ n + 1) where
  pub goes_looked : {up up_now : Type 0} → GoesOn (engine_view old n up) (engine_view new m up_now) call
  goes_looked = goes_bounded result (lacks_no_end call may.stop.memory) looks.goes calls
      (within_most (most_asks call) 2 old.session.store.pages.asks new.session.store.pages.asks may.asks costs.asks_high)
      (within_most (most_writes call) (run_pages * 2) old.session.store.pages.writes new.session.store.pages.writes may.writes costs.writes_high)
      (λ none. tt)

  -- memory runs out behind the look
  pub lacks_looked : {up up_now : Type 0} → up → up_now → SameHeld old new → IsCallOf (engine_view old n up) (engine_view new m up_now) call (Err NoMemory)
  lacks_looked was_up is_up held = lacks_behind may.stop.memory was_up is_up goes_looked looks.moments looks.shows held

-- ---- calls of which it isn't said what they may cost

module _ (old new : RssParts) {T : Type 0} {result : Result T PageFault} (looks : LooksOn old.session new.session result) {n m : ℕ} (calls : m ≡ n + 1) {up up_now : Type 0} {call : Call} (may : MayCost call) where
  pub goes_costly : GoesOn (engine_view old n up) (engine_view new m up_now) call
  goes_costly = goes_bounded result (lacks_no_end call may.stop.memory) looks.goes calls
      (subst (λ (most : Option ℕ). RisesAtMost most old.session.store.pages.asks new.session.store.pages.asks) (sym may.asks) tt)
      (subst (λ (most : Option ℕ). RisesAtMost most old.session.store.pages.writes new.session.store.pages.writes) (sym may.writes) tt)
      (λ none. tt)

  -- memory runs out behind the look
  pub lacks_costly : up → up_now → SameHeld old new → IsCallOf (engine_view old n up) (engine_view new m up_now) call (Err NoMemory)
  lacks_costly was_up is_up held = lacks_behind may.stop.memory was_up is_up goes_costly looks.moments looks.shows held

-- the look fails
pub costly_fails : {T : Type 0} (old new : RssParts) {why : CallError} → FailsToLook T old.session new.session why → (n m : ℕ) → m ≡ n → {up up_now : Type 0} → up → (up_now → ⊥) → EndsEach MayCost (engine_view old n up) (engine_view new m up_now) (Err why)
costly_fails old new {why = why} fails n m same was_up is_down = λ calls call counted may.
    failed_within (Err why) fails.is was_up is_down fails.looks.goes (goes_costly old new fails.looks (omega (arith, counted, same)) may)
    (λ place damaged told state is_in. fails.looks.sound place damaged told)
    (λ told state is_in. stops is_in.kept call may.stop.names may.stop.granule (fails.looks.moments told state is_in.kept is_in.shows))

-- what is there is no tuple
pub costly_damaged : {T : Type 0} (old new : RssParts) {found : T} → LooksOn old.session new.session (Ok found) → (n m : ℕ) → m ≡ n → {up up_now : Type 0} → up → (up_now → ⊥) → {why : CallError} (place : Place) → why ≡ Damaged place
    → (IsTold old.session.store.pages.disk → (state : State) → IsIn old state → ⊥) → EndsEach MayCost (engine_view old n up) (engine_view new m up_now) (Err why)
costly_damaged old new looks n m same {up = up} {up_now = up_now} was_up is_down place damaged sound = λ calls call counted may.
    subst (λ (e : CallError). IsCallOf (engine_view old calls up) (engine_view new m up_now) call (Err e)) (sym damaged)
    (comes_to was_up (goes_costly old new looks (omega (arith, counted, same)) may) (record { sound = sound; down = is_down }))

-- ---- what a look finds

-- no tuple of any relation can have the identifier
pub none_past : {parts : RssParts} (relation : Name) (tid : Tid) → (HasSlot tid → ⊥) → FindsNone parts relation tid
none_past relation tid past told state is_in = by (content (now state).contents (TupleItem relation tid)) refl
  where
    by : (held : Option Content) → content (now state).contents (TupleItem relation tid) ≡ held → held ≡ None
    by None so = refl
    by (Some held) so = absurd (past ((kept_fit state is_in.kept).1.tids relation tid (ap is_some so)).slot)

-- each call ends by the error that is passed on
pub passed_on : {U : Type 0} {Is : Call → Type 0} {old new : EngineView} {why : CallError} (result : Result U CallError) → IsErrAnd result (λ e. e ≡ why) → EndsEach Is old new (Err why) → IfErr result (λ e. EndsEach Is old new (Err e))
passed_on {U = U} {Is = Is} {old = old} {new = new} result is ends =
    let so = err_from_is_err_and result is in
    subst (λ (r : Result U CallError). IfErr r (λ e. EndsEach Is old new (Err e))) (sym (so.1 ∙ ap Err so.2)) ends

-- the look itself fails
pub look_fails : {T U : Type 0} (old new : RssParts) {fault : PageFault} → LooksOn {T = T} old.session new.session (Err fault) → CostsTwo old.session new.session → (n : ℕ) {up up_now : Type 0} (result : Result U CallError) → IsErrAnd result (λ why. why ≡ page_error fault) → up → (up_now → ⊥)
    → IfErr result (λ why. EndsEach MayLook (engine_view old n up) (engine_view new n up_now) (Err why))
look_fails old new {fault = fault} looks costs n result is was_up is_down =
    passed_on result is (λ calls call counted may. failed_within (Err (page_error fault)) refl was_up is_down looks.goes (goes_looked looks costs may counted)
    (λ place same told state is_in. looks.sound place same told)
    (λ told state is_in. stops is_in.kept call may.stop.names may.stop.granule (looks.moments told state is_in.kept is_in.shows)))

-- what is there is no tuple
pub reads_none : {T U : Type 0} (old new : RssParts) {found : Result T PageFault} → LooksOn old.session new.session found → CostsTwo old.session new.session → (n : ℕ) {up up_now : Type 0} (result : Result U CallError) {why : CallError} (place : Place) → IsErrAnd result (λ e. e ≡ why) → why ≡ Damaged place → up → (up_now → ⊥)
    → (IsTold old.session.store.pages.disk → (state : State) → IsIn old state → ⊥) → IfErr result (λ why. EndsEach MayLook (engine_view old n up) (engine_view new n up_now) (Err why))
reads_none old new looks costs n {up = up} {up_now = up_now} result place is damaged was_up is_down sound =
    passed_on result is (λ calls call counted may.
    subst (λ (e : CallError). IsCallOf (engine_view old calls up) (engine_view new n up_now) call (Err e)) (sym damaged)
    (comes_to was_up (goes_looked looks costs may counted) (record { sound = sound; down = is_down })))

-- ---- calls that look for a tuple

-- what ends each call that looks, ends each that looks for this tuple
pub each_looks : {parts : RssParts} {t : ℕ} {relation : Name} {tid : Tid} {access : Access} {given : List (List Value)} {old new : EngineView} {why : CallError} → EndsEach MayLook old new (Err why) → EndsEach (LooksFor parts t relation tid access given) old new (Err why)
each_looks ends calls call counted first = ends calls call counted first.may

module _ {old : RssParts} {t : ℕ} {relation : Name} {tid : Tid} {access : Access} {given : List (List Value)} {call : Call} (first : LooksFor old t relation tid access given call) {list : List Need} (lists : Lists old (λ tables. accessing tables access relation tid given) list) where
  -- these are the needs of the call
  pub its_needs : IsTold old.session.store.pages.disk → (state : State) → IsIn old state → needs (now state) call ≡ list
  its_needs told state is_in = first.needs_are state is_in ∙ lists told state is_in

  module _ {T : Type 0} (new : RssParts) {found : T} (looked : LooksUp old.session new.session found) {n m : ℕ} (calls : m ≡ n + 1) {up up_now : Type 0} (was_up : up) (is_up : up_now) where
    -- its claim fails
    pub claim_lost : (U : Type 0) (before after : LocksView) {why : CallError} → SameHeld old new → before.locks ≡ old.locks.locks → ClaimEnds {T = U} before after t list (Err why) → IsCallOf (engine_view old n up) (engine_view new m up_now) call (Err why)
    claim_lost U before after held were ends =
        claim_fails first.may.stop.memory was_up is_up (goes_looked looked.looks looked.costs first.may calls) looked.looks.moments looked.looks.shows held U before after t list were
        (λ told state is_in bar is. first.busy_so told state is_in bar (bars_as is_in call (its_needs told state is_in) t ∙ is)) ends

    -- there is no such tuple, and the locks are kept
    pub lacks_tuple : (why : CallError) → why ≡ Refused (NoTuple relation tid) → IsShort (Err (NoTuple relation tid)) → FindsNone old relation tid
        → first_bar old.locks.locks t list ≡ None → new.locks.locks ≡ granted t list old.locks.locks → new.scans ≡ old.scans → IsCallOf (engine_view old n up) (engine_view new m up_now) call (Err why)
    lacks_tuple why is short none free taken scans = refused_behind (Err why) is was_up is_up short (goes_looked looked.looks looked.costs first.may calls) looked.looks.moments scans (λ told state is_in.
        let listed = its_needs told state is_in in (
          first.lacks told state is_in (bars_as is_in call listed t ∙ free) (none told state is_in),
          looked.looks.shows told state is_in.shows,
          locked_as is_in call listed t first.by ∙ sym taken,
        ))

-- ---- what is found

module _ (parts : RssParts) (relation : Name) (number : ℕ) (known : IsNumberOf RelationKind parts.session.store.catalog.listing relation number) {entry : RelationEntry} (at : relation_at parts.session.store.catalog.listing number ≡ Some entry) {tid : Tid} {there : Bool} {body : List ℕ} (finds : IsTold parts.session.store.pages.disk → FindsTuple parts.session entry.segment number tid there body) where
  named : entry.name ≡ relation
  named = name_of parts.session.store.catalog.listing relation number entry known at

  -- there is none of this relation
  pub none_there : there ≡ false → FindsNone parts relation tid
  none_there is told state is_in =
      subst (λ (name : Name). content (now state).contents (TupleItem name tid) ≡ None) named
      ((finds told).none is state entry is_in.kept is_in.shows (record { at = at; within = refl }))

  module _ (found : Option (List Value)) (exact : (values : List Value) → IsBodyOf parts.session.store.catalog.listing number (kinds entry.fields) values body → found ≡ Some values) (is : there ≡ true) (told : IsTold parts.session.store.pages.disk) (state : State) (is_in : IsIn parts state) where
    -- it has the values that its body is of
    pub some_there : (values : List Value) → found ≡ Some values → HasValues state relation tid values
    some_there values so =
        let has = (finds told).some is state entry is_in.kept is_in.shows (record { at = at; within = refl }) in
        subst (λ (name : Name). HasValues state name tid values) named
        (subst (λ (v : List Value). HasValues state entry.name tid v) (same_Some _ _ (sym (exact has.values has.spelled) ∙ so)) has.holds)

-- what is there has values, which its body spells
pub none_spelled : (parts : RssParts) {number : ℕ} {entry : RelationEntry} → relation_at parts.session.store.catalog.listing number ≡ Some entry → {tid : Tid} {there : Bool} {body : List ℕ} → (IsTold parts.session.store.pages.disk → FindsTuple parts.session entry.segment number tid there body)
    → (found : Option (List Value)) → ((values : List Value) → IsBodyOf parts.session.store.catalog.listing number (kinds entry.fields) values body → found ≡ Some values) → there ≡ true → IsTold parts.session.store.pages.disk → (state : State) → IsIn parts state → found ≡ None → ⊥
none_spelled parts {entry = entry} at finds found exact is told state is_in none =
    let has = (finds told).some is state entry is_in.kept is_in.shows (record { at = at; within = refl }) in
    none-some has.values (sym none ∙ exact has.values has.spelled)

-- the relation of a number is listed still
pub still_at : {old new : CatalogView} (number : ℕ) {entry : RelationEntry} → new ≡ old → relation_at old.listing number ≡ Some entry → relation_at new.listing number ≡ Some entry
still_at number catalog at = ap (λ (c : CatalogView). relation_at c.listing number) catalog ∙ at

-- the same body of a relation that is listed still, as slices give it
pub body_as : {old new : CatalogView} {number : ℕ} {entry : RelationEntry} {body bytes : List ℕ} {read : Option (List Value)} → new ≡ old → relation_at old.listing number ≡ Some entry → bytes ≡ body
    → ((relation : RelationEntry) → relation_at new.listing number ≡ Some relation → (values : List Value) → IsBodyOf new.listing number (kinds relation.fields) values bytes → read ≡ Some values)
    → (values : List Value) → IsBodyOf old.listing number (kinds entry.fields) values body → read ≡ Some values
body_as {old = old} {number = number} {entry = entry} {bytes = bytes} catalog at is_bytes exact values spelled =
    exact entry (still_at number catalog at) values
    (subst (λ (c : CatalogView). IsBodyOf c.listing number (kinds entry.fields) values bytes) (sym catalog)
    (subst (λ (b : List ℕ). IsBodyOf old.listing number (kinds entry.fields) values b) (sym is_bytes) spelled))

-- which fits its fields
pub body_fits : (listing : Listing) {listing_now : Listing} {number : ℕ} {known : RelationEntry} → relation_at listing number ≡ Some known → {values : List Value} {bytes : List ℕ} → IsBodyOf listing_now number (kinds known.fields) values bytes
    → (entry : RelationEntry) → relation_at listing number ≡ Some entry → misfit (kinds entry.fields) values ≡ None
body_fits listing at {values = values} spelled entry there =
    ap (λ (r : RelationEntry). misfit (kinds r.fields) values) (same_Some _ _ (sym there ∙ at)) ∙ spelled.spelled.fit

-- a relation that may be listed has no more fields than a line has room for
pub few_fields : {relation : RelationEntry} → IsSafe relation → length (kinds relation.fields) ≤ most_fields
few_fields {relation = relation} safe = omega (arith, safe.few, length-map {A = FieldDef} {B = FieldForm} relation.fields form_of)

-- ---- ends

-- a call ends so, once it was counted
pub ends_so : {S : Type 0} (pages_view : S → PagesView) {old mid : Session S} {locks now : LockTable} {scans scans_now : ScanTable} {down down_now : Bool} {n : ℕ} {new : EngineView} {call : Call} {why : CallError} (result : Result Reply CallError) → IsErrAnd result (λ e. e ≡ why) → mid ≡ old → now ≡ locks → scans_now ≡ scans → down_now ≡ down
    → IsCallOf (engine_view (rss_parts pages_view mid now scans_now) n (down_now ≡ false)) new call (Err why)
    → IsCallOf (engine_view (rss_parts pages_view old locks scans) n (down ≡ false)) new call result
ends_so pages_view {old = old} {mid = mid} {locks = locks} {now = now} {scans = scans} {scans_now = scans_now} {down = down} {n = n} {new = new} {call = call} {why = why} result is same same_locks same_scans same_down ends =
    let so = err_from_is_err_and result is in
    subst (IsCallOf (engine_view (rss_parts pages_view old locks scans) n (down ≡ false)) new call) (sym (so.1 ∙ ap Err so.2))
    (asked pages_view same same_locks same_scans (subst (λ (b : Bool). IsCallOf (engine_view (rss_parts pages_view mid now scans_now) n (b ≡ false)) new call (Err why)) same_down ends))

-- by the error that is passed on
pub passed_call : {old new : EngineView} {call : Call} {why : CallError} (result : Result Reply CallError) → IsErrAnd result (λ e. e ≡ why) → IsCallOf old new call (Err why) → IsCallOf old new call result
passed_call {old = old} {new = new} {call = call} result is ends =
    let so = err_from_is_err_and result is in
    subst (IsCallOf old new call) (sym (so.1 ∙ ap Err so.2)) ends

-- ---- what may follow

-- another call may be made still
pub ready_looked : {T : Type 0} (old new : RssParts) {found : T} {calls : ℕ} → IsReady old calls → LooksOn old.session new.session (Ok found) → SameHeld old new → IsReady new calls
ready_looked old new ready looks held = record {
  session = looks.ready;
  paced = omega (arith, ready.paced, ap (λ (l : LogView). l.end) looks.log);
  saves = λ t. omega (arith, ready.saves t, ap (λ (o : OpenView). length (transaction_in o t).saves) looks.opened);
  scans = scans_stay old new ready.scans (λ t opened. ap (λ (o : OpenView). is_open o t) looks.opened ∙ opened) (same_listed (ap (λ (c : CatalogView). c.listing) looks.catalog)) held.scans;
  holders = holders_stay old new ready.holders (λ t opened. ap (λ (o : OpenView). is_open o t) looks.opened ∙ opened) held.locks;
}

-- and could have been before this one was counted
pub asked_looked : {T : Type 0} (old new : RssParts) {found : T} {before calls : ℕ} → IsReady old before → LooksOn old.session new.session (Ok found) → SameHeld old new → calls ≡ before + 1 → IsAsked new calls
asked_looked old new {before = before} ready looks held counted = record { before = before; ready = ready_looked old new ready looks held; counted = counted }
