-- A call that makes an image, by its tests and by what its search found.
use Rattle.std.proofs.Common.{◌≡◌, ℕ, ◌+◌, Bool, List, [], ◌∷◌, ◌++◌, refl, sym, ◌∙◌, ap, subst}
use Rattle.std.specs.Prelude.{Option, Some, None, true, Result, Ok, Err, IsErrAnd}
use Rattle.std.specs.FinMap.{empty}
use Rattle.rss_base.specs.Answers.{page_error}
use Rattle.rss_base.specs.DiskRule.{IsTold}
use Rattle.rss_base.specs.declared.answer.CallError.{CallError}
use Rattle.rss_base.specs.declared.answer.CallError.TheVariants.{Refused, Damaged, Device, NoMemory, Down}
use Rattle.rss_base.specs.declared.answer.Reply.{Reply}
use Rattle.rss_base.specs.declared.call.Call.{Call}
use Rattle.rss_base.specs.declared.call.Call.TheVariants.{MakeImage}
use Rattle.rss_base.specs.declared.fault.PageFault.{PageFault}
use Rattle.rss_base.specs.declared.fault.PageFault.TheVariants.{Device as DeviceFailed, Damaged as PageDamaged}
use Rattle.rss_base.specs.declared.image.ImageEntry.{ImageEntry}
use Rattle.rss_base.specs.declared.name.Name.{Name}
use Rattle.rss_base.specs.declared.place.Place.{Place}
use Rattle.rss_base.specs.declared.refusal.Refusal.{Refusal}
use Rattle.rss_base.proofs.Moments.{then}
use Rattle.rss_catalog.specs.Catalogs.{CatalogView}
use Rattle.rss_stored.specs.Calls.{IsCallOf}
use Rattle.rss_model.specs.Costs.{may_lack_memory}
use Rattle.rss_model.specs.Defining.{DefinesNames, defined, if_repeated, image_def, with_definitions, with_image}
use Rattle.rss_model.specs.Kept.{Kept}
use Rattle.rss_model.specs.Machine.{State, now}
use Rattle.rss_model.specs.ReplyText.{IsShort}
use Rattle.rss_model.specs.Rules.{if_no_room_for}
use Rattle.rss_model.specs.Steps.{first_of, refusal}
use Rattle.rss_model.specs.Tables.{Tables}
use Rattle.rss_model.proofs.Tests.{goes_on, refuses_at}
use Rattle.rss_session.specs.Admissions.{Says}
use Rattle.rss_session.specs.Calls.{GoesOn, KeepsTables, ShowsNone}
use Rattle.rss_session.specs.Filling.{IsPlanned, TestsRoom, TestsKeys, MakesImage}
use Rattle.rss_session.specs.Looks.{LooksOn}
use Rattle.rss_session.specs.Planning.{plan_tests, PlansImage}
use Rattle.rss_session.specs.Sessions.{SessionView}
use Rattle.rss_session.specs.Shown.{Shows}
use Rattle.rss_session.proofs.Passing.{goes_then}
use Rattle.rss_rsi.specs.Imaging.{CostsAny, IsRelisted, Searches, SearchEnds}
use Rattle.rss_rsi.specs.Views.{RssParts, engine_view}
use Rattle.rss_rsi.proofs.Imaging.{goes_any, goes_plain, may_define}
use Rattle.rss_rsi.proofs.Ways.{SameHeld, NeedsNone, failed_within, lacks_behind, left_bare, refused_behind, stopped_by}

-- ---- how a search ends

-- a call that defines, of which no bound is claimed, and which may lack memory
pub record DefinesAny (call : Call) : Type 0 where
  pub costs : CostsAny call
  pub bare : NeedsNone call
  pub memory : may_lack_memory call ≡ true
  pub so : (state : State) → (next : Tables) × (defined call state.base ≡ Some next)

pub any_image : {name relation : Name} {is_unique : Bool} {fields : List Name} → DefinesAny (MakeImage name relation is_unique fields)
any_image {name = name} {relation = relation} {is_unique = is_unique} {fields = fields} = record {
  costs = record { of_none = refl; asks = refl; writes = refl; saves = refl };
  bare = λ tables. refl;
  memory = refl;
  so = λ state. (with_definitions (with_image state.base.definitions name (image_def relation is_unique fields)) state.base, refl);
}

module _ (old new : RssParts) {n m : ℕ} {up up_now : Type 0} {call : Call} (any : DefinesAny call) (names : DefinesNames call) (held : SameHeld old new) (was_up : up) (calls : m ≡ n + 1) where
  fails_by : {fault : PageFault} (result : Result Reply CallError) → IsErrAnd result (λ why. why ≡ page_error fault) → (up_now → ⊥) → LooksOn {T = Unit {0}} old.session new.session (Err fault) → IsCallOf (engine_view old n up) (engine_view new m up_now) call result
  fails_by result is down looks = failed_within result is was_up down looks.goes (goes_any any.costs looks.goes calls (λ none. tt))
      (λ place same told state is_in. looks.sound place same told)
      (λ told state is_in. stopped_by new looks.moments told is_in (may_define state call names (any.so state).1))

  -- so the call ends
  pub search_fails : (why : CallError) → SearchEnds {T = Unit {0}} old.session new.session up_now (Err why) → IsCallOf (engine_view old n up) (engine_view new m up_now) call (Err why)
  search_fails NoMemory ends = lacks_behind any.memory was_up ends.0 (goes_any any.costs ends.1.goes calls (λ none. tt)) ends.1.moments ends.1.shows held
  search_fails Device ends = fails_by {fault = DeviceFailed} (Err Device) refl ends.0 ends.1
  search_fails (Damaged place) ends = fails_by {fault = PageDamaged place} (Err (Damaged place)) refl ends.0 ends.1
  search_fails (Refused why) ends = absurd ends
  search_fails Down ends = absurd ends

  module _ (looks : Searches old.session new.session) where
    -- it is refused behind the search
    pub refused_searched : {why : Refusal} (result : Result Reply CallError) → IsErrAnd result (λ e. e ≡ Refused why) → up_now → IsShort (Err why)
        → (IsTold old.session.store.pages.disk → (state : State) → Kept state → Shows old.session state → refusal state call ≡ Some why) → IsCallOf (engine_view old n up) (engine_view new m up_now) call result
    refused_searched {why = why} result is is_up short refused =
        refused_behind result is was_up is_up short (goes_any any.costs looks.goes calls (λ none. tt)) looks.moments held.scans (λ told state is_in. (
          refused told state is_in.kept is_in.shows,
          looks.shows told state is_in.shows,
          left_bare call why (any.bare (now state)) is_in ∙ sym held.locks,
        ))

-- a stop leaves the committed tables where it does so behind the search
keeps_then : {old mid : SessionView} (new : SessionView) → Searches old mid → KeepsTables mid new → KeepsTables old new
keeps_then new looks moments told state kept shows =
    then (looks.moments told state kept shows) (moments (looks.goes.told.0 told) state kept (looks.shows told state shows)) (λ image holds. holds)

-- what follows the search fails
pub fill_fails : (old new : RssParts) {mid : SessionView} {n m : ℕ} {up up_now : Type 0} {call : Call} {fault : PageFault} → DefinesAny call → DefinesNames call → Searches old.session mid → up → m ≡ n + 1 → (result : Result Reply CallError) → IsErrAnd result (λ why. why ≡ page_error fault) → (up_now → ⊥)
    → GoesOn {T = Unit {0}} mid new.session (Err fault) → KeepsTables mid new.session → ((place : Place) → ◌≡◌ {A = Result (Unit {0}) PageFault} (Err fault) (Err (PageDamaged place)) → IsTold mid.store.pages.disk → ShowsNone mid) → IsCallOf (engine_view old n up) (engine_view new m up_now) call result
fill_fails old new {call = call} any names looks was_up calls result is down on moments sound =
    let on_before = goes_then looks.goes on in
    failed_within result is was_up down on_before (goes_any any.costs on_before calls (λ none. tt))
    (λ place same told state is_in. sound place same (looks.goes.told.0 told) state is_in.kept (looks.shows told state is_in.shows))
    (λ told state is_in. stopped_by new (keeps_then new.session looks moments) told is_in (may_define state call names (any.so state).1))

-- ---- the tests

first_in_front : (front rest : List (Option Refusal)) {why : Refusal} → first_of front ≡ Some why → first_of (front ++ rest) ≡ Some why
first_in_front [] rest is = absurd (cc (is))
first_in_front (None ∷ front) rest is = first_in_front front rest is
first_in_front (Some other ∷ front) rest is = is

first_behind : (front rest : List (Option Refusal)) → first_of front ≡ None → first_of (front ++ rest) ≡ first_of rest
first_behind [] rest is = refl
first_behind (None ∷ front) rest is = first_behind front rest is
first_behind (Some other ∷ front) rest is = absurd (cc (is))

module _ (state : State) (name relation : Name) (is_unique : Bool) (fields : List Name) where
  -- those behind the plan
  abbrev behind : List (Option Refusal)
  behind =
      if_repeated state name is_unique (image_def relation is_unique fields)
      ∷ if_no_room_for state (with_image state.base.definitions name (image_def relation is_unique fields))
      ∷ []

  pub image_unplanned : {why : Refusal} → first_of (plan_tests state name relation fields) ≡ Some why → refusal state (MakeImage name relation is_unique fields) ≡ Some why
  image_unplanned is = first_in_front (plan_tests state name relation fields) behind is

  module _ (planned : first_of (plan_tests state name relation fields) ≡ None) where
    image_planned : refusal state (MakeImage name relation is_unique fields) ≡ first_of behind
    image_planned = first_behind (plan_tests state name relation fields) behind planned

    image_repeated : {why : Refusal} → if_repeated state name is_unique (image_def relation is_unique fields) ≡ Some why → refusal state (MakeImage name relation is_unique fields) ≡ Some why
    image_repeated is = image_planned ∙ refuses_at _ is

    -- no two keys are equal
    image_once : if_repeated state name is_unique (image_def relation is_unique fields) ≡ None → {why : Option Refusal} → if_no_room_for state (with_image state.base.definitions name (image_def relation is_unique fields)) ≡ why
        → refusal state (MakeImage name relation is_unique fields) ≡ first_of (why ∷ [])
    image_once once is = image_planned ∙ goes_on _ once ∙ ap (λ (o : Option Refusal). first_of (o ∷ [])) is

-- ---- behind the search

module _ (old mid : SessionView) {name relation : Name} {is_unique : Bool} {fields : List Name} {image : ImageEntry} (plans : PlansImage old.store.catalog.listing name relation is_unique fields image) (looks : Searches old mid) where
  plans_still : PlansImage mid.store.catalog.listing name relation is_unique fields image
  plans_still = subst (λ (catalog : CatalogView). PlansImage catalog.listing name relation is_unique fields image) (sym looks.catalog) plans

  pub planned_still : IsPlanned mid.store.catalog.listing image
  planned_still = record { name = name; relation = relation; is_unique = is_unique; fields = fields; plans = plans_still }

  module _ (planned : Says old (λ state. first_of (plan_tests state name relation fields)) None) where
    -- two tuples have one key
    pub repeated_refuses : {why : Refusal} → TestsKeys {T = Unit {0}} mid image (Err why) → IsTold old.store.pages.disk → (state : State) → Kept state → Shows old state → refusal state (MakeImage name relation is_unique fields) ≡ Some why
    repeated_refuses keys told state kept shows =
        image_repeated state name relation is_unique fields (planned told state shows) (keys name relation is_unique fields plans_still (looks.goes.told.0 told) state kept (looks.shows told state shows))

    module _ (keys : TestsKeys {T = Unit {0}} mid image (Ok tt)) where
      by_room : {why : Option Refusal} → Says mid (λ state. if_no_room_for state (with_image state.base.definitions name (image_def relation is_unique fields))) why
          → IsTold old.store.pages.disk → (state : State) → Kept state → Shows old state → refusal state (MakeImage name relation is_unique fields) ≡ first_of (why ∷ [])
      by_room room told state kept shows =
          let told_then = looks.goes.told.0 told in
          let shows_then = looks.shows told state shows in
          image_once state name relation is_unique fields (planned told state shows) (keys name relation is_unique fields plans_still told_then state kept shows_then) (room told_then state shows_then)

      -- there is no room for it
      pub roomless_refuses : {why : Refusal} → TestsRoom {T = Unit {0}} mid image (Err why) → (IsTold old.store.pages.disk → (state : State) → Kept state → Shows old state → refusal state (MakeImage name relation is_unique fields) ≡ Some why) × IsShort (Err why)
      roomless_refuses room = let so = room name relation is_unique fields plans_still in (by_room so.0, so.1)

      -- it is made
      module _ {new : SessionView} (closed : old.opened.transactions ≡ empty) (room : TestsRoom {T = Unit {0}} mid image (Ok tt)) (makes : MakesImage image mid new) (moments : KeepsTables mid new) (on : GoesOn {T = Unit {0}} mid new (Ok tt)) where
        pub make_listed : IsRelisted (MakeImage name relation is_unique fields) old new
        make_listed = record {
          closed = closed;
          opened = makes.touches.opened ∙ looks.opened;
          log = makes.touches.log ∙ looks.log;
          saves = makes.saves;
          goes = goes_plain (goes_then looks.goes on);
          moments = keeps_then new looks moments;
          redefines = λ told state kept shows.
              let passed_all = by_room (room name relation is_unique fields plans_still) told state kept shows in
              record {
                next = with_definitions (with_image state.base.definitions name (image_def relation is_unique fields)) state.base;
                passed = passed_all;
                so = refl;
                redefines = makes.fills (looks.goes.told.0 told) state kept (looks.shows told state shows)
                    (record { name = name; relation = relation; is_unique = is_unique; fields = fields; plans = plans_still; passed = passed_all });
              };
        }
