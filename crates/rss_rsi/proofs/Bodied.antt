-- How calls end that read the body of a tuple which a look found.
use Rattle.std.proofs.Common.{◌≡◌, ℕ, Bool, true, false, List, [], refl, sym, ◌∙◌, ap, subst, arith}
use Rattle.std.specs.Prelude.{Some, None, Result, Ok, Err, IsErrAnd}
use Rattle.std.proofs.lemmas.Bool.{true≢false}
use Rattle.std.proofs.lemmas.Result.{err_from_is_err_and}
use Rattle.rss_base.specs.Answers.{page_error}
use Rattle.rss_base.specs.DiskRule.{IsTold}
use Rattle.rss_base.specs.Listings.{Listing}
use Rattle.rss_base.specs.Steps.{PagesView}
use Rattle.rss_base.specs.TupleTypes.{kinds, Spells}
use Rattle.rss_base.specs.declared.answer.CallError.{CallError}
use Rattle.rss_base.specs.declared.answer.CallError.TheVariants.{Refused, Damaged, Device, NoMemory, Down}
use Rattle.rss_base.specs.declared.fault.PageFault.{PageFault}
use Rattle.rss_base.specs.declared.fault.PageFault.TheVariants.{Device as PageDevice, Damaged as PageDamaged, NoMemory as PageNoMemory}
use Rattle.rss_base.specs.declared.place.Place.{Place}
use Rattle.rss_base.specs.declared.place.Place.TheVariants.{Tuple as TuplePlace}
use Rattle.rss_base.specs.declared.relation.RelationEntry.{RelationEntry}
use Rattle.rss_base.specs.declared.tid.Tid.{Tid}
use Rattle.rss_base.specs.declared.value.FieldForm.{FieldForm}
use Rattle.rss_base.specs.declared.value.Value.{Value}
use Rattle.rss_stored.proofs.Endings.{comes_to}
use Rattle.rss_tuple.specs.Located.{StandsAt}
use Rattle.rss_tuple.specs.declared.body_at.BodyAt.{BodyAt}
use Rattle.rss_tuple.proofs.Located.{said_of}
use Rattle.rss_model.specs.Machine.{State}
use Rattle.rss_access.specs.Bodies.{IsBodyOf, IsSpelledIn}
use Rattle.rss_access.proofs.Bodied.{one_bytes}
use Rattle.rss_catalog.specs.Catalogs.{CatalogView}
use Rattle.rss_session.specs.Looks.{CostsNothing, FindsTuple, LooksOn}
use Rattle.rss_session.specs.Parts.{view as session_view}
use Rattle.rss_session.specs.Sessions.{SessionView}
use Rattle.rss_session.specs.declared.session.Session.{Session}
use Rattle.rss_session.proofs.Behind.{looks_then}
use Rattle.rss_rsi.specs.Bodies.{FailsThere, below, lost, StandsThere, IsReadOf, IsOfSome, ComesOf, IsDownBy, TupleComes}
use Rattle.rss_rsi.specs.Looking.{EndsEach, MayLook, CostsTwo}
use Rattle.rss_rsi.specs.Placing.{MayCost}
use Rattle.rss_rsi.specs.Views.{RssParts, IsIn, engine_view}
use Rattle.rss_rsi.proofs.Looks.{costly_damaged, costly_fails, goes_looked, lacks_costly, lacks_looked}
use Rattle.rss_rsi.proofs.Ways.{SameHeld}

-- what was looked at is there still
pub still_looks : {S : Type 0} {T : Type 0} (pages_view : S → PagesView) (old : SessionView) {mid new : Session S} {result : Result T PageFault} → new ≡ mid → LooksOn old (session_view pages_view mid) result → LooksOn old (session_view pages_view new) result
still_looks pages_view old {result = result} same = subst (λ (session : Session _). LooksOn old (session_view pages_view session) result) (sym same)

pub idle_still : {S : Type 0} (pages_view : S → PagesView) (old : SessionView) {mid new : Session S} → new ≡ mid → CostsNothing old (session_view pages_view mid) → CostsNothing old (session_view pages_view new)
idle_still pages_view old same = subst (λ (session : Session _). CostsNothing old (session_view pages_view session)) (sym same)

pub costs_still : {S : Type 0} (pages_view : S → PagesView) (old : SessionView) {mid new : Session S} → new ≡ mid → CostsTwo old (session_view pages_view mid) → CostsTwo old (session_view pages_view new)
costs_still pages_view old same = subst (λ (session : Session _). CostsTwo old (session_view pages_view session)) (sym same)

-- ---- what comes of a body

-- by the catalog before the look
pub comes_before : {mid : SessionView} {catalog : CatalogView} {number : ℕ} {relation : RelationEntry} {place : Place} {at : BodyAt} {result : Result (List Value) CallError} → mid.store.catalog ≡ catalog → (comes : TupleComes mid number relation place at result) → ComesOf catalog.listing number (kinds relation.fields) place comes.body result
comes_before {number = number} {relation = relation} {place = place} {result = result} same comes =
    subst (λ (c : CatalogView). ComesOf c.listing number (kinds relation.fields) place comes.body result) same comes.comes

-- what a look says of the body that stands there, it says of the one that was lent
pub lent_there : {A : Type 0} {mid : SessionView} {says : List ℕ → Type 0} {number : ℕ} {relation : RelationEntry} {place : Place} {at : BodyAt} {result : Result (List Value) CallError} → (A → StandsAt mid.store.pages.held says at) → (A → IsTold mid.store.pages.disk) → (comes : TupleComes mid number relation place at result) → A → says comes.body
lent_there stands told comes a = said_of (stands a) (comes.lent (told a))

-- the values of a body that was read
pub read_only : {listing : Listing} {number : ℕ} {fields : List FieldForm} {body : List ℕ} {values : List Value} → IsReadOf listing number fields body values → (others : List Value) → IsBodyOf listing number fields others body → Some values ≡ Some others
read_only read others is = ap Some (sym (read.only others is))

-- a body of no values
pub read_never : {listing : Listing} {number : ℕ} {fields : List FieldForm} {body : List ℕ} → (IsOfSome listing number fields body → ⊥) → (values : List Value) → IsBodyOf listing number fields values body → None ≡ Some values
read_never none values is = absurd (none (record { values = values; is = is }))

-- ---- how calls end where a tuple isn't read

module _ (old new : RssParts) (n m : ℕ) (same : m ≡ n) {up : Type 0} (was_up : up) (held : SameHeld old new) (down : Bool) (place : Place) {listing : Listing} {number : ℕ} {fields : List FieldForm} {body : List ℕ}
    (sound : (IsOfSome listing number fields body → ⊥) → IsTold old.session.store.pages.disk → (state : State) → IsIn old state → ⊥) where
  is_down : down ≡ true → down ≡ false → ⊥
  is_down is not = true≢false (sym is ∙ not)

  -- one that may ask for two pages
  pub look_comes : {T : Type 0} {found : Result T PageFault} → LooksOn old.session new.session found → CostsTwo old.session new.session → (why : CallError) → ComesOf listing number fields place body (Err why) → IsDownBy {T = List Value} (Err why) down
      → EndsEach MayLook (engine_view old n up) (engine_view new m (down ≡ false)) (Err why)
  look_comes looks costs NoMemory comes ends = λ calls call counted may. lacks_looked looks costs may (omega (arith, counted, same)) was_up ends held
  look_comes looks costs (Damaged at) comes ends = λ calls call counted may.
      comes_to was_up (goes_looked looks costs may (omega (arith, counted, same))) (record { sound = sound comes.1; down = is_down ends })
  look_comes looks costs (Refused why) comes ends = absurd comes
  look_comes looks costs Device comes ends = absurd comes
  look_comes looks costs Down comes ends = absurd comes

  -- one of which it isn't said what it may cost
  pub costly_comes : {T : Type 0} {found : T} → LooksOn old.session new.session (Ok found) → (why : CallError) → ComesOf listing number fields place body (Err why) → IsDownBy {T = List Value} (Err why) down
      → EndsEach MayCost (engine_view old n up) (engine_view new m (down ≡ false)) (Err why)
  costly_comes looks NoMemory comes ends = λ calls call counted may. lacks_costly old new looks (omega (arith, counted, same)) may was_up ends held
  costly_comes looks (Damaged at) comes ends = costly_damaged old new looks n m same was_up (is_down ends) at refl (sound comes.1)
  costly_comes looks (Refused why) comes ends = absurd comes
  costly_comes looks Device comes ends = absurd comes
  costly_comes looks Down comes ends = absurd comes

-- no tuple stands where one is to stand
pub costly_there : (old new : RssParts) {mid : SessionView} {T : Type 0} {found : T} → LooksOn old.session mid (Ok found) → (n m : ℕ) → m ≡ n → {up up_now : Type 0} → up → (up_now → ⊥) → {segment number : ℕ} {tid : Tid} {why : CallError}
    → ((IsTold mid.store.pages.disk → FindsTuple mid segment number tid false []) → IsTold old.session.store.pages.disk → (state : State) → IsIn old state → ⊥)
    → FailsThere mid new.session segment number tid why → EndsEach MayCost (engine_view old n up) (engine_view new m up_now) (Err why)
costly_there old new looks n m same was_up is_down sound (below fails) = costly_fails old new (record { fault = fails.fault; is = fails.is; looks = looks_then looks fails.looks }) n m same was_up is_down
costly_there old new looks n m same was_up is_down {segment = segment} {tid = tid} sound (lost is its finds) = costly_damaged old new (looks_then looks its) n m same was_up is_down (TuplePlace segment tid) is (sound finds)

-- ---- the look itself

pub fails_there : {old new : SessionView} {up : Type 0} {segment number : ℕ} {tid : Tid} {why : CallError} (result : Result BodyAt CallError) → IsErrAnd result (λ e. e ≡ why) → (up → ⊥) → FailsThere old new segment number tid why → StandsThere old new up segment number tid result
fails_there {old = old} {new = new} {up = up} {segment = segment} {number = number} {tid = tid} result is down fails =
    let so = err_from_is_err_and result is in
    subst (StandsThere old new up segment number tid) (sym (so.1 ∙ ap Err so.2)) (record { by = (down, fails) })

-- it never lacks memory
pub never_lacks : {T U : Type 0} {old new : SessionView} {fault : PageFault} (result : Result U CallError) → IsErrAnd result (λ e. e ≡ page_error fault) → LooksOn {T = T} old new (Err fault) → result ≡ Err NoMemory → ⊥
never_lacks {U = U} {fault = fault} result is looks lacks =
    let so = err_from_is_err_and result is in
    let same : ◌≡◌ {A = Result U CallError} (Err so.0) (Err NoMemory) = sym so.1 ∙ lacks in
    let whole : so.0 ≡ NoMemory = cc in
    looks.goes.memory (ap Err (lacking fault (sym so.2 ∙ whole)))
  where
    lacking : (fault : PageFault) → page_error fault ≡ NoMemory → fault ≡ PageNoMemory
    lacking PageDevice is = absurd (cc)
    lacking (PageDamaged place) is = absurd (cc)
    lacking PageNoMemory is = refl

-- ---- the body itself

-- the values that its bytes spell
pub read_of : {listing : Listing} {number : ℕ} {fields : List FieldForm} {body bytes : List ℕ} {values : List Value} → IsSpelledIn listing number fields body bytes → Spells fields bytes values → ((others : List Value) → Spells fields bytes others → others ≡ values) → IsReadOf listing number fields body values
read_of {fields = fields} {bytes = bytes} stands spells only = record {
  is = record { bytes = bytes; holds = stands.holds; spelled = spells };
  only = λ others is. only others (subst (λ (b : List ℕ). Spells fields b others) (one_bytes is.holds stands.holds) is.spelled);
}

pub of_some : {listing : Listing} {number : ℕ} {fields : List FieldForm} {body bytes : List ℕ} → IsSpelledIn listing number fields body bytes → IsOfSome listing number fields body
of_some {bytes = bytes} stands = let spelled = stands.spelled in record { values = spelled.0; is = record { bytes = bytes; holds = stands.holds; spelled = spelled.1 } }

pub of_none : {listing : Listing} {number : ℕ} {fields : List FieldForm} {body : List ℕ} → ((bytes : List ℕ) → IsSpelledIn listing number fields body bytes → ⊥) → IsOfSome listing number fields body → ⊥
of_none none some = none some.is.bytes (record { holds = some.is.holds; spelled = (some.values, some.is.spelled) })
