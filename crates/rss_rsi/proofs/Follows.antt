-- The calls on links that change nothing: what the step of each comes to, and how a scan goes along a chain.
use Rattle.std.proofs.Common.{◌≡◌, ℕ, ◌+◌, List, [], refl, sym, ◌∙◌, ap, subst, arith}
use Rattle.std.specs.Prelude.{Option, Some, None, Result, Ok, Err, IsErrAnd, IfErr, IfSome, option_map}
use Rattle.std.proofs.lemmas.Option.{same_Some}
use Rattle.rss_base.specs.DiskRule.{IsTold}
use Rattle.rss_base.specs.declared.answer.CallError.{CallError}
use Rattle.rss_base.specs.declared.answer.CallError.TheVariants.{Refused, Damaged, Device, NoMemory, Down}
use Rattle.rss_base.specs.declared.answer.Reply.{Reply}
use Rattle.rss_base.specs.declared.call.Call.{Call}
use Rattle.rss_base.specs.declared.name.Name.{Name}
use Rattle.rss_base.specs.declared.refusal.Refusal.{Refusal}
use Rattle.rss_base.specs.declared.tid.Tid.{Tid}
use Rattle.rss_base.specs.declared.value.Value.{Value}
use Rattle.rss_stored.specs.Calls.{EngineView, IsCallOf}
use Rattle.rss_model.specs.Images.{Entry, entry}
use Rattle.rss_model.specs.Locks.{Locks}
use Rattle.rss_model.specs.Machine.{State, now}
use Rattle.rss_model.specs.Refusals.{unless_in_chain}
use Rattle.rss_model.specs.Scans.{RelationPath, ImagePath, LinkPath, next_along, next_of_scan, path_relation}
use Rattle.rss_model.specs.Scans.{Path as MachinePath, Scan as MachineScan}
use Rattle.rss_model.specs.Tables.{Definitions}
use Rattle.rss_scan.specs.Scans.{cursor_of}
use Rattle.rss_scan.specs.declared.cursor.Cursor.{Cursor}
use Rattle.rss_scan.specs.declared.cursor.Path.{Path}
use Rattle.rss_scan.specs.declared.cursor.Path.TheVariants.{Relation, Image, Link}
use Rattle.rss_session.specs.Admissions.{Refuses}
use Rattle.rss_session.specs.Sessions.{IsReady}
use Rattle.rss_session.proofs.Behind.{looks_itself}
use Rattle.rss_rsi.specs.Linking.{SaysFound, TestEnds, kept_by}
use Rattle.rss_rsi.specs.Looking.{EndsEach}
use Rattle.rss_rsi.specs.Placing.{MayCost}
use Rattle.rss_rsi.specs.Scanning.{FindsMember, FindsMemberRow, FindsNext, FindsNextRow, IsNextOf, IsScanIn, lost_test}
use Rattle.rss_rsi.specs.Views.{RssParts, AreLong, HasChain, HasKeys, IsIn, IsReady as IsEngineReady, engine_view, pair_spelled, spelling}
use Rattle.rss_rsi.proofs.LinkEnds.{tested_fails}
use Rattle.rss_rsi.proofs.LinkTests.{IsLinked, linked_unfit}
use Rattle.rss_rsi.proofs.ScanCalls.{next_comes, next_may}
use Rattle.rss_rsi.proofs.Scans.{cursor_long, has_scan, keys_in, spelled_in, last_of}
use Rattle.rss_rsi.proofs.Ways.{refused_early}

-- ---- refusals at once

-- a call that looks at links is refused by what it begins with
pub linked_early : {parts : RssParts} {t : ℕ} {front behind last : State → Option Refusal} {call : Call} (linked : IsLinked t front behind last call) (part : State → Option Refusal) → ((state : State) (why : Refusal) → part state ≡ Some why → front state ≡ Some why)
    → {n m : ℕ} {up up_now : Type 0} → up → up_now → m ≡ n + 1 → {why : Refusal} (result : Result Reply CallError) → IsErrAnd result (λ e. e ≡ Refused why) → Refuses parts.session part why → IsCallOf (engine_view parts n up) (engine_view parts m up_now) call result
linked_early linked part first was_up is_up calls {why = why} result is bad = refused_early result is was_up is_up calls bad.1 (λ told state shows.
    let so = first state why (bad.0 told state shows) in (linked_unfit linked state so, linked.bare state why so))

-- ---- it goes on

-- what gives the cursor along a chain goes along it, and gave this last
pub record GoesAlongChain (path : MachinePath) (last : Option Entry) (link : Name) (parent after : Option Tid) : Type 0 where
  pub along : path ≡ LinkPath link parent
  pub gave : last ≡ option_map (entry []) after

goes_chain : (definitions : Definitions) (path : MachinePath) (last : Option Entry) {cursor : Cursor} (link : Name) (parent : Option Tid) → spelling definitions path last ≡ cursor → HasKeys definitions path last → cursor.path ≡ Link link parent → GoesAlongChain path last link parent (last_of cursor)
goes_chain definitions (LinkPath name above) last {cursor = cursor} link parent is keys at =
    let same : Link name above ≡ Link link parent = ap (λ (c : Cursor). c.path) is ∙ at in
    let one : name ≡ link = cc (same) in
    let two : above ≡ parent = cc (same) in
    record { along = (λ i. LinkPath (one i) (two i)); gave = by last keys ∙ ap (λ (c : Cursor). option_map (entry []) (last_of c)) is }
  where
    by : (last : Option Entry) → IfSome last (λ e. e.key ≡ []) → last ≡ option_map (entry []) (option_map (λ (given : List ℕ × Tid). given.1) (option_map (pair_spelled []) last))
    by None keys = refl
    by (Some e) keys = ap (λ (key : List Value). Some (entry key e.tid)) keys
goes_chain definitions (ImagePath image start) last link parent is keys at =
    let same : Image image _ ≡ Link link parent = ap (λ (c : Cursor). c.path) is ∙ at in absurd (cc (same))
goes_chain definitions (RelationPath relation) last link parent is keys at =
    let same : Relation relation ≡ Link link parent = ap (λ (c : Cursor). c.path) is ∙ at in absurd (cc (same))

pub kept_none : (why : CallError) (t : ℕ) (locks : Locks) → kept_by why t [] locks ≡ locks
kept_none (Refused why) t locks = refl
kept_none NoMemory t locks = refl
kept_none Device t locks = refl
kept_none (Damaged place) t locks = refl
kept_none Down t locks = refl

module _ {parts : RssParts} {t number : ℕ} {cursor : Cursor} (has : cursor_of parts.scans t number ≡ Some cursor) (link : Name) (parent : Option Tid) (at : cursor.path ≡ Link link parent) (after : Option Tid) (last : after ≡ last_of cursor) where
  its_way : {state : State} {scan : MachineScan} → IsScanIn parts t number state scan → GoesAlongChain scan.path scan.last link parent after
  its_way {state = state} {scan = scan} in_it = subst (GoesAlongChain scan.path scan.last link parent) (sym last) (goes_chain state.base.definitions scan.path scan.last link parent (spelled_in in_it has) (keys_in in_it) at)

  lost_is : {state : State} {scan : MachineScan} → IsScanIn parts t number state scan → unless_in_chain state scan.path scan.last ≡ lost_test link parent after state
  lost_is {state = state} in_it = let way = its_way in_it in λ i. unless_in_chain state (way.along i) (way.gave i)

  next_is : {state : State} {scan : MachineScan} → IsScanIn parts t number state scan → next_of_scan (now state) scan ≡ next_along (now state) (LinkPath link parent) (option_map (entry []) after)
  next_is {state = state} in_it = let way = its_way in_it in λ i. next_along (now state) (way.along i) (way.gave i)

  module _ (passed : SaysFound parts.session (lost_test link parent after) None) where
    -- nothing comes next
    pub chain_ends : FindsMember parts.session link parent after None → FindsNext parts t number None
    chain_ends none state scan in_it = (
      lost_is in_it ∙ passed in_it.told state in_it.is_in.kept in_it.is_in.shows,
      next_is in_it ∙ none in_it.told state in_it.is_in.kept in_it.is_in.shows,
    )

    -- or a tuple does
    pub chain_gives : (key : List ℕ) → key ≡ [] → AreLong parts.session.store.catalog.listing cursor.path cursor.last → (tid : Tid) (values : List Value) → FindsMemberRow parts.session link parent after tid values → FindsNextRow parts t number key tid values
    chain_gives key keyless long tid values row = record {
      gives = λ state scan in_it.
          let way = its_way in_it in
          let its = row.has in_it.told state in_it.is_in.kept in_it.is_in.shows in record {
            given = [];
            stays = lost_is in_it ∙ passed in_it.told state in_it.is_in.kept in_it.is_in.shows;
            next = next_is in_it ∙ row.next in_it.told state in_it.is_in.kept in_it.is_in.shows;
            spelled = subst (λ (path : MachinePath). spelling state.base.definitions path (Some (entry [] tid)) ≡ record (spelling state.base.definitions path scan.last) { last = Some (key, tid) }) (sym way.along)
                (λ i. record { path = Link link parent; last = Some (sym keyless i, tid) });
            keys = subst (λ (path : MachinePath). HasKeys state.base.definitions path (Some (entry [] tid))) (sym way.along) refl;
            relation = its.relation;
            along = ap (path_relation state.base) way.along ∙ its.along;
            has = its.has;
          };
      long = λ other there.
          let same : other ≡ cursor = same_Some _ _ (sym there ∙ has) in
          subst (λ (path : Path). AreLong parts.session.store.catalog.listing path (Some (key, tid))) (sym (ap (λ (c : Cursor). c.path) same ∙ at))
          (subst (λ (path : Path). AreLong parts.session.store.catalog.listing path cursor.last) at long);
      short = row.short;
    }

  -- the call is refused, where what was given last is in the chain no more, or a look fails
  pub chain_fails : {new : RssParts} (ready : IsReady parts.session) → (n m : ℕ) → m ≡ n → {up up_now : Type 0} → up → {T : Type 0} (why : CallError) → TestEnds {T = T} parts.session new.session up_now (lost_test link parent after) (Err why) → new.locks.locks ≡ parts.locks.locks → new.scans ≡ parts.scans
      → EndsEach (IsNextOf parts t number) (engine_view parts n up) (engine_view new m up_now) (Err why)
  chain_fails {new = new} ready n m same {up = up} {up_now = up_now} was_up why ends locks scans = λ calls call counted next.
      subst (λ (c : Call). IsCallOf (engine_view parts calls up) (engine_view new m up_now) c (Err why)) (sym next.is)
      (tested_fails parts new (looks_itself (tt {0}) ready) (omega (arith, counted, same)) was_up (next_may t number) refl why ends (locks ∙ sym (kept_none why t parts.locks.locks)) scans (λ told state is_in other is. (
        refl,
        next_comes (next.opened told state is_in.shows) (its_scan_in told state is_in) ∙ lost_is (its_scan_in told state is_in) ∙ is,
      )))
    where
      its_scan_in : (told : IsTold parts.session.store.pages.disk) (state : State) (is_in : IsIn parts state) → IsScanIn parts t number state (has_scan is_in t number cursor has).scan
      its_scan_in told state is_in = record { told = told; is_in = is_in; there = (has_scan is_in t number cursor has).there }

-- what ends each call that may cost anything, ends the one that goes on along a scan
pub next_ends : {parts : RssParts} {t number : ℕ} {old new : EngineView} {result : Result Reply CallError} → EndsEach MayCost old new result → EndsEach (IsNextOf parts t number) old new result
next_ends {t = t} {number = number} ends = λ calls call counted next. ends calls call counted (subst MayCost (sym next.is) (next_may t number))

pub next_fails : (parts : RssParts) (t number : ℕ) (old new : EngineView) {U : Type 0} (result : Result U CallError) → IfErr result (λ why. EndsEach MayCost old new (Err why)) → IfErr result (λ why. EndsEach (IsNextOf parts t number) old new (Err why))
next_fails parts t number old new (Ok given) fails = fails
next_fails parts t number old new (Err why) fails = next_ends fails

-- an open scan of a link goes along a chain that there may be
pub chain_long : (parts : RssParts) {calls : ℕ} → IsEngineReady parts calls → (t number : ℕ) {cursor : Cursor} → cursor_of parts.scans t number ≡ Some cursor → {link : Name} {parent : Option Tid} → cursor.path ≡ Link link parent → HasChain parts.session.store.catalog.listing link parent
chain_long parts ready t number {cursor = cursor} has at =
    subst (λ (path : Path). AreLong parts.session.store.catalog.listing path cursor.last) at (cursor_long parts.session.store.catalog.listing parts.session.opened parts.scans t number ready.scans has)
