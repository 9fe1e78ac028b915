-- The identifier of a new tuple: it is free where none holds it that was asked for, and how calls end that find none.
use Rattle.std.proofs.Common.{◌≡◌, ◌↔◌, ℕ, ◌+◌, Bool, true, false, ◌||◌, List, [], ◌∷◌, Option, Some, None, refl, sym, ◌∙◌, ap, subst, arith, Contains}
use Rattle.std.specs.Prelude.{is_some, IfErr, Result, Ok, Err, IsErrAnd}
use Rattle.std.specs.List.{list_any}
use Rattle.std.proofs.lemmas.Bool.{true≢false}
use Rattle.std.proofs.lemmas.Option.{same_Some}
use Rattle.rss_base.specs.Listings.{relation_at}
use Rattle.rss_base.specs.declared.answer.CallError.{CallError}
use Rattle.rss_base.specs.declared.answer.CallError.TheVariants.{Refused, NoMemory}
use Rattle.rss_base.specs.declared.call.Call.{Call}
use Rattle.rss_base.specs.declared.fault.PageFault.{PageFault}
use Rattle.rss_base.specs.declared.item.Item.{Item}
use Rattle.rss_base.specs.declared.item.Item.TheVariants.{Tuple}
use Rattle.rss_base.specs.declared.name.Name.{Name}
use Rattle.rss_base.specs.declared.need.Mode.{Mode}
use Rattle.rss_base.specs.declared.refusal.LimitKind.TheVariants.{Identifiers}
use Rattle.rss_base.specs.declared.refusal.Refusal.TheVariants.{Limit}
use Rattle.rss_base.specs.declared.relation.RelationEntry.{RelationEntry}
use Rattle.rss_base.specs.declared.tid.Tid.{Tid}
use Rattle.rss_catalog.specs.Catalogs.{CatalogView, IsNamedIn}
use Rattle.rss_lock.specs.Locks.{HoldsAlone, is_barred}
use Rattle.rss_lock.proofs.Firsts.{barred_iff_told, held_by_another}
use Rattle.rss_tuple.specs.Placing.{IsChosen}
use Rattle.rss_tuple.proofs.Barred.{chosen_barred}
use Rattle.rss_stored.specs.Calls.{AreBarred, IsCallOf}
use Rattle.rss_model.specs.Locks.{Locks, held, is_held_by_another}
use Rattle.rss_model.specs.Machine.{State}
use Rattle.rss_model.specs.Steps.{IsFree, relations_beside}
use Rattle.rss_session.specs.Looks.{LooksOn, IsAloneAt, IsPlace, HasNoPlace}
use Rattle.rss_session.specs.Sessions.{SessionView}
use Rattle.rss_rsi.specs.Looking.{EndsEach}
use Rattle.rss_rsi.specs.Placing.{FailsToLook, IsRelationIn, IsPlaceFor, PlacesTuple}
use Rattle.rss_rsi.specs.Views.{RssParts, IsIn, engine_view}
use Rattle.rss_rsi.proofs.Beside.{any_beside, listed_stands, stands_listed}
use Rattle.rss_rsi.proofs.Looks.{costly_fails, goes_costly, lacks_costly, passed_on}
use Rattle.rss_session.proofs.Behind.{looks_then}
use Rattle.rss_rsi.proofs.Ways.{SameHeld, left_same, refused_behind}

-- ---- what others hold

-- what was asked of the same locks and the same names
pub barred_same : {locks now : Locks} {names read : List Name} (t : ℕ) (tid : Tid) → now ≡ locks → read ≡ names → is_barred now t read tid ≡ is_barred locks t names tid
barred_same t tid same_locks same_names i = is_barred (same_locks i) t (same_names i) tid

-- and gathered
pub exact_same : {locks now : Locks} {names read : List Name} {into barred : List Tid} (t : ℕ) → now ≡ locks → read ≡ names → barred ≡ into → ((tid : Tid) → Contains into tid ↔ (is_barred now t read tid ≡ true))
    → (tid : Tid) → Contains barred tid ↔ (is_barred locks t names tid ≡ true)
exact_same t same_locks same_names same_list exact tid =
    let same = barred_same t tid same_locks same_names in (
      λ has. sym same ∙ (exact tid).0 (subst (λ (list : List Tid). Contains list tid) same_list has),
      λ held. subst (λ (list : List Tid). Contains list tid) (sym same_list) ((exact tid).1 (same ∙ held)),
    )

-- names that were gathered of the same catalog
pub named_same : {old new : CatalogView} (names : List Name) (segment : ℕ) → new ≡ old → ((name : Name) → Contains names name ↔ IsNamedIn new.listing segment name) → (name : Name) → Contains names name ↔ IsNamedIn old.listing segment name
named_same names segment same each = subst (λ (catalog : CatalogView). (name : Name) → Contains names name ↔ IsNamedIn catalog.listing segment name) same each

any_none : {A : Type 0} (test : A → Bool) (list : List A) → ((a : A) → test a ≡ false) → list_any test list ≡ false
any_none test [] none = refl
any_none test (a ∷ list) none = ap (λ (b : Bool). b || list_any test list) (none a) ∙ any_none test list none

module _ (parts : RssParts) (t number : ℕ) {entry : RelationEntry} (at : relation_at parts.session.store.catalog.listing number ≡ Some entry) where
  its_entry : {relation : RelationEntry} {state : State} → IsRelationIn parts number relation state → entry ≡ relation
  its_entry in_it = same_Some _ _ (sym at ∙ in_it.at)

  -- another transaction holds the identifier in a relation of the segment
  abbrev held_beside : State → Tid → Bool
  held_beside state tid = list_any (λ other. is_held_by_another state.locks t (Tuple other tid)) (relations_beside state entry.name)

  -- what was found is a place, where no other transaction holds it and they hold all that was barred
  unheld_place : {length : ℕ} {barred : List Tid} {tid : Tid} → IsPlace parts.session entry.segment length barred tid
      → ((state : State) → IsIn parts state → IsAloneAt state t entry.name tid)
      → ((state : State) → IsIn parts state → held_beside state tid ≡ false)
      → ((state : State) → IsIn parts state → (other : Tid) → Contains barred other → held_beside state other ≡ true)
      → IsPlaceFor parts t number length tid
  unheld_place {length = length} {tid = tid} place alone unheld all_held = record {
    named = record { within = place.named.within; low = place.named.low; allowed = λ has. absurd (omega (arith, has.1)) };
    free = λ relation state in_it.
        subst (λ (r : RelationEntry). IsFree state t r.name tid) (its_entry in_it)
        (place.free in_it.told state number entry in_it.is_in.kept in_it.is_in.shows (record { at = at; within = refl }) t (alone state in_it.is_in));
    chosen = λ relation state in_it more are.
        let same = its_entry in_it in
        let are_here = subst (λ (r : RelationEntry). AreBarred state t r.name more) (sym same) are in
        subst (λ (r : RelationEntry). IsChosen parts.session.store.pages r.segment length more tid) same
        (chosen_barred (place.chosen in_it.told) (λ other has. (are_here other).1 (all_held state in_it.is_in other has)) (λ has. true≢false (sym ((are_here tid).0 has) ∙ unheld state in_it.is_in)));
  }

  -- where none was found, what is free was barred
  free_barred : (barred : List Tid) → HasNoPlace parts.session entry.segment barred → (relation : RelationEntry) (state : State) → IsRelationIn parts number relation state → (tid : Tid) → IsFree state t relation.name tid → Contains barred tid
  free_barred barred none relation state in_it tid free =
      none in_it.told state number entry in_it.is_in.kept in_it.is_in.shows (record { at = at; within = refl }) t tid
      (subst (λ (r : RelationEntry). IsFree state t r.name tid) (sym (its_entry in_it)) free)

  -- where none was found and nothing was barred, none is free
  pub none_at_all : HasNoPlace parts.session entry.segment [] → (relation : RelationEntry) (state : State) → IsRelationIn parts number relation state → (tid : Tid) → IsFree state t relation.name tid → ⊥
  none_at_all none relation state in_it tid free = let has = free_barred [] none relation state in_it tid free in omega (arith, has.1)

  -- where no other transaction holds anything, what was found is a place
  module _ (single : HoldsAlone parts.locks.locks t) where
    none_held : (state : State) → IsIn parts state → (item : Item) → is_held_by_another state.locks t item ≡ false
    none_held state is_in item = ap (λ (locks : Locks). is_held_by_another locks t item) is_in.locked ∙ single item

    single_at : (state : State) → IsIn parts state → (tid : Tid) → IsAloneAt state t entry.name tid
    single_at state is_in tid other u same apart = by (held state.locks u (Tuple other tid)) refl
      where
        by : (found : Option Mode) → held state.locks u (Tuple other tid) ≡ found → found ≡ None
        by None is = refl
        by (Some mode) is = absurd (true≢false (
            sym ((held_by_another state.locks (held state.locks) (λ u i. refl) t (Tuple other tid)).1 (record { other = u; another = apart; holds = ap is_some is }))
            ∙ none_held state is_in (Tuple other tid)))

    pub single_place : {length : ℕ} {tid : Tid} → IsPlace parts.session entry.segment length [] tid → IsPlaceFor parts t number length tid
    single_place {tid = tid} place = unheld_place place (λ state is_in. single_at state is_in tid)
        (λ state is_in. any_none (λ other. is_held_by_another state.locks t (Tuple other tid)) (relations_beside state entry.name) (λ other. none_held state is_in (Tuple other tid)))
        (λ state is_in other has. absurd (omega (arith, has.1)))

  module _ (names : List Name) (each : (name : Name) → Contains names name ↔ IsNamedIn parts.session.store.catalog.listing entry.segment name) where
    -- what is asked of the locks is what the machine asks of them
    barred_as : (state : State) → IsIn parts state → (tid : Tid) → is_barred parts.locks.locks t names tid ≡ held_beside state tid
    barred_as state is_in tid =
        ap (λ (locks : Locks). is_barred locks t names tid) (sym is_in.locked)
        ∙ any_beside is_in.shows number at names each (λ other. is_held_by_another state.locks t (Tuple other tid))

    alone_at : (state : State) → IsIn parts state → (tid : Tid) → is_barred parts.locks.locks t names tid ≡ false → IsAloneAt state t entry.name tid
    alone_at state is_in tid unheld other u same apart = by (held state.locks u (Tuple other tid)) refl
      where
        by : (found : Option Mode) → held state.locks u (Tuple other tid) ≡ found → found ≡ None
        by None is = refl
        by (Some mode) is = absurd (true≢false (
            sym ((barred_iff_told state.locks (held state.locks) (λ u i. refl) t tid names).1 (record { relation = other; listed = (each other).1 (stands_listed is_in.shows number at other same); other = u; another = apart; holds = ap is_some is }))
            ∙ ap (λ (locks : Locks). is_barred locks t names tid) is_in.locked ∙ unheld))

    module _ (barred : List Tid) (within : (other : Tid) → Contains barred other → is_barred parts.locks.locks t names other ≡ true) where
      -- where none holds what was found, it is a place
      pub is_place_for : {length : ℕ} {tid : Tid} → IsPlace parts.session entry.segment length barred tid → is_barred parts.locks.locks t names tid ≡ false → IsPlaceFor parts t number length tid
      is_place_for {tid = tid} place unheld = unheld_place place (λ state is_in. alone_at state is_in tid unheld)
          (λ state is_in. sym (barred_as state is_in tid) ∙ unheld)
          (λ state is_in other has. sym (barred_as state is_in other) ∙ within other has)

      -- where none was found, none is free
      pub none_is_free : HasNoPlace parts.session entry.segment barred → (relation : RelationEntry) (state : State) → IsRelationIn parts number relation state → (tid : Tid) → IsFree state t relation.name tid → ⊥
      none_is_free none relation state in_it tid free_there =
          let has = free_barred barred none relation state in_it tid free_there in
          let free = subst (λ (r : RelationEntry). IsFree state t r.name tid) (sym (its_entry in_it)) free_there in
          let held_so = (barred_iff_told state.locks (held state.locks) (λ u i. refl) t tid names).0 (ap (λ (locks : Locks). is_barred locks t names tid) in_it.is_in.locked ∙ within tid has) in
          let stands = listed_stands in_it.is_in.shows number at held_so.relation ((each held_so.relation).0 held_so.listed) in
          true≢false (sym held_so.holds ∙ ap is_some (free.alone held_so.relation held_so.other stands held_so.another))

-- ---- ends

module _ (old new : RssParts) {T : Type 0} {result : Result T PageFault} (looks : LooksOn old.session new.session result) {n m : ℕ} (calls : m ≡ n + 1) {up up_now : Type 0} (held_same : SameHeld old new) {t number : ℕ} {call : Call} (places : PlacesTuple old t number call) (was_up : up) (is_up : up_now) where
  -- no identifier is free
  pub none_placed : {entry : RelationEntry} → relation_at old.session.store.catalog.listing number ≡ Some entry → (why : CallError) → why ≡ Refused (Limit Identifiers)
      → ((relation : RelationEntry) (state : State) → IsRelationIn old number relation state → (tid : Tid) → IsFree state t relation.name tid → ⊥)
      → IsCallOf (engine_view old n up) (engine_view new m up_now) call (Err why)
  none_placed {entry = entry} at why is none = refused_behind (Err why) is was_up is_up (omega arith) (goes_costly old new looks calls places.may) looks.moments held_same.scans (λ told state is_in.
      let in_it : IsRelationIn old number entry state = record { told = told; is_in = is_in; at = at } in (
        places.lacks entry state in_it (none entry state in_it),
        looks.shows told state is_in.shows,
        left_same call (Limit Identifiers) refl is_in ∙ sym held_same.locks,
      ))

  -- memory runs out behind a look
  pub lacks_placing : IsCallOf (engine_view old n up) (engine_view new m up_now) call (Err NoMemory)
  lacks_placing = lacks_costly old new looks calls places.may was_up is_up held_same

-- a look fails
pub placing_fails : {T U : Type 0} (old new : RssParts) {why : CallError} → FailsToLook T old.session new.session why → (t number n m : ℕ) → m ≡ n → {up up_now : Type 0} (result : Result U CallError) → IsErrAnd result (λ e. e ≡ why) → up → (up_now → ⊥)
    → IfErr result (λ e. EndsEach (PlacesTuple old t number) (engine_view old n up) (engine_view new m up_now) (Err e))
placing_fails old new fails t number n m same result is was_up is_down =
    passed_on result is (λ calls call counted places. costly_fails old new fails n m same was_up is_down calls call counted places.may)

-- the second look fails behind the first
pub fails_then : {S T : Type 0} {old mid new : SessionView} {found : S} {why : CallError} → LooksOn old mid (Ok found) → FailsToLook T mid new why → FailsToLook T old new why
fails_then one two = record { fault = two.fault; is = two.is; looks = looks_then one two.looks }
