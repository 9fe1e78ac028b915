-- An insert, by its tests and by what was found for it.
use Rattle.std.proofs.Common.{◌≡◌, ℕ, ◌+◌, ◌^◌, ◌<◌, List, [], ◌∷◌, ◌++◌, length, drop, refl, sym, ◌∙◌, ap, subst, arith, length-append}
use Rattle.std.specs.Prelude.{Some, None, is_some, option_map, Ok, Err}
use Rattle.std.proofs.lemmas.Bool.{false_from_ne_true}
use Rattle.std.proofs.lemmas.Option.{same_Some}
use Rattle.rss_base.specs.DiskRule.{IsTold}
use Rattle.rss_base.specs.Listings.{ListingFits, relation_at, IsNumberOf}
use Rattle.rss_base.specs.LogRecords.{IsShort}
use Rattle.rss_base.specs.TupleTypes.{kinds, tuple_bytes, Spells}
use Rattle.rss_base.specs.declared.answer.CallError.{CallError}
use Rattle.rss_base.specs.declared.answer.CallError.TheVariants.{NoMemory}
use Rattle.rss_base.specs.declared.answer.Reply.TheVariants.{Tid as Identifier}
use Rattle.rss_base.specs.declared.call.Call.TheVariants.{Insert}
use Rattle.rss_base.specs.declared.change.Change.TheVariants.{Insert as InsertRecord}
use Rattle.rss_base.specs.declared.item.Item.TheVariants.{Tuple as TupleItem}
use Rattle.rss_base.specs.declared.name.Name.{Name}
use Rattle.rss_base.specs.declared.need.Mode.TheVariants.{X}
use Rattle.rss_base.specs.declared.need.Need.{Need}
use Rattle.rss_base.specs.declared.refusal.Kind.TheVariants.{Relation as RelationKind}
use Rattle.rss_base.specs.declared.refusal.LimitKind.TheVariants.{Identifiers as IdentifierLimit}
use Rattle.rss_base.specs.declared.refusal.Refusal.{Refusal}
use Rattle.rss_base.specs.declared.refusal.Refusal.TheVariants.{Limit}
use Rattle.rss_base.specs.declared.relation.RelationEntry.{RelationEntry}
use Rattle.rss_base.specs.declared.tid.Tid.{Tid}
use Rattle.rss_base.specs.declared.value.Value.{Value}
use Rattle.rss_tuple.specs.Placing.{IsChosen}
use Rattle.rss_lock.specs.Locks.{LocksView}
use Rattle.rss_stored.specs.Calls.{GoesOn, IsCallOf, AreBarred}
use Rattle.rss_stored.specs.LogLaws.{IsToldBy}
use Rattle.rss_model.specs.Locks.{Bar, Locks, first_bar, granted}
use Rattle.rss_model.specs.Machine.{State, now}
use Rattle.rss_model.specs.Needs.{need, needs}
use Rattle.rss_model.specs.Refusals.{busy, if_duplicate}
use Rattle.rss_model.specs.Ruled.{ruled}
use Rattle.rss_model.specs.Rules.{if_no_room}
use Rattle.rss_model.specs.Steps.{Step, first_of, tests, misfit_of, unless_open, unless_defined, value_admission, if_used_up, if_full, refusal, insertion, locked, holding, IsFree}
use Rattle.rss_model.specs.Steps.StepBy.{inserts}
use Rattle.rss_model.specs.Tables.{fields_of}
use Rattle.rss_model.proofs.Codes.{split_alike}
use Rattle.rss_model.proofs.Frees.{some_free_is, free_there}
use Rattle.rss_model.proofs.Lengths.{identifier_line}
use Rattle.rss_model.proofs.Testing.{all_none, holds}
use Rattle.rss_model.proofs.Tests.{goes_on, refuses_at, passes_unless, refuses_unless}
use Rattle.rss_model.proofs.Transfer.{over_same}
use Rattle.rss_access.proofs.Numbered.{name_of}
use Rattle.rss_session.specs.Admissions.{Says}
use Rattle.rss_session.specs.Looks.{LooksOn}
use Rattle.rss_session.specs.Sessions.{SessionView}
use Rattle.rss_rsi.specs.Locking.{putting, Lists, IsClaimed, ClaimEnds}
use Rattle.rss_rsi.specs.Placing.{IsPlaceFor, IsRelationIn, MayCost, PlacesTuple}
use Rattle.rss_rsi.specs.Views.{RssParts, IsIn, MayStandAt, body_length, engine_view}
use Rattle.rss_rsi.proofs.Changes.{IsLast, EndsByChange}
use Rattle.rss_rsi.proofs.Claims.{first_bar_behind, granted_behind, none_bars, claim_fails}
use Rattle.rss_rsi.proofs.Telling.{tells_insert, may_make}
use Rattle.rss_rsi.proofs.TupleTests.{three_stop, three_pass, last_test}
use Rattle.rss_rsi.proofs.Ways.{SameHeld, goes_bounded, lacks_behind}

-- what stands before the last of two lists
front_same : {A : Type 0} (one other : List A) (a b : A) → one ++ a ∷ [] ≡ other ++ b ∷ [] → one ≡ other
front_same one other a b same = (split_alike one other (a ∷ []) (b ∷ []) (omega (arith, ap length same, length-append one (a ∷ []), length-append other (b ∷ []))) same).0

-- ---- the tests

module _ (state : State) (t : ℕ) (relation : Name) (values : List Value) where
  pub insert_unfit : {why : Refusal} → value_admission state t relation values ≡ Some why → refusal state (Insert t relation values) ≡ Some why
  insert_unfit bad = three_stop (unless_open state t) (unless_defined state relation) (misfit_of (fields_of state.base relation) values) (drop 3 (tests state (Insert t relation values))) bad

  module _ (admitted : value_admission state t relation values ≡ None) where
    insert_comes : refusal state (Insert t relation values) ≡ first_of (drop 3 (tests state (Insert t relation values)))
    insert_comes = three_pass (unless_open state t) (unless_defined state relation) (misfit_of (fields_of state.base relation) values) (drop 3 (tests state (Insert t relation values))) admitted

    pub insert_used_up : {why : Refusal} → if_used_up state relation ≡ Some why → refusal state (Insert t relation values) ≡ Some why
    insert_used_up many = insert_comes ∙ refuses_at (drop 4 (tests state (Insert t relation values))) many

    module _ (few : if_used_up state relation ≡ None) where
      -- no identifier is free
      pub insert_lacks : ((tid : Tid) → IsFree state t relation tid → ⊥) → refusal state (Insert t relation values) ≡ Some (Limit IdentifierLimit)
      insert_lacks none =
          let defined = holds (is_some (fields_of state.base relation)) _ (all_none (unless_open state t ∷ unless_defined state relation ∷ misfit_of (fields_of state.base relation) values ∷ []) admitted 1 None (omega arith)) in
          insert_comes ∙ goes_on (drop 4 (tests state (Insert t relation values))) few
          ∙ refuses_at (drop 5 (tests state (Insert t relation values))) (refuses_unless (Limit IdentifierLimit) (false_from_ne_true _ (λ some. let free = free_there state t relation defined some in none free.0 free.1)))

      module _ (tid : Tid) (free : IsFree state t relation tid) where
        insert_free : refusal state (Insert t relation values) ≡ first_of (drop 5 (tests state (Insert t relation values)))
        insert_free =
            insert_comes ∙ goes_on (drop 4 (tests state (Insert t relation values))) few
            ∙ goes_on (drop 5 (tests state (Insert t relation values))) (passes_unless (Limit IdentifierLimit) (some_free_is state t relation tid free))

        -- one is, and another transaction holds what is needed
        pub insert_busy : (bar : Bar) → first_bar state.locks t (needs (now state) (Insert t relation values)) ≡ Some bar → refusal state (Insert t relation values) ≡ Some (busy bar)
        insert_busy bar is = insert_free ∙ refuses_at (drop 6 (tests state (Insert t relation values))) (ap (option_map busy) is)

        module _ (none : first_bar state.locks t (needs (now state) (Insert t relation values)) ≡ None) where
          insert_unbarred : refusal state (Insert t relation values) ≡ first_of (drop 6 (tests state (Insert t relation values)))
          insert_unbarred = insert_free ∙ goes_on (drop 6 (tests state (Insert t relation values))) (ap (option_map busy) none)

          -- none does, and another tuple has a key
          pub insert_duplicate : {why : Refusal} → if_duplicate state relation None values ≡ Some why → refusal state (Insert t relation values) ≡ Some why
          insert_duplicate is = insert_unbarred ∙ refuses_at (drop 7 (tests state (Insert t relation values))) is

          -- or what is left are the rules
          pub insert_there : if_duplicate state relation None values ≡ None → refusal state (Insert t relation values) ≡ if_full state (Insert t relation values)
          insert_there unowned =
              insert_unbarred ∙ goes_on (drop 7 (tests state (Insert t relation values))) unowned
              ∙ last_test (if_full state (Insert t relation values))

-- ---- the call

-- It passed the tests that look at no page: its transaction is open, the relation has this number, the values fit, and it may have one tuple more.
pub record IsAdmitted (session : SessionView) (t : ℕ) (relation : Name) (values : List Value) (number : ℕ) (entry : RelationEntry) : Type 0 where
  pub known : IsNumberOf RelationKind session.store.catalog.listing relation number
  pub at : relation_at session.store.catalog.listing number ≡ Some entry
  pub fits : Says session (λ state. value_admission state t relation values) None
  pub few : Says session (λ state. if_used_up state entry.name) None

pub is_admitted : {session : SessionView} {t : ℕ} {relation : Name} {values : List Value} {number : ℕ} {entry : RelationEntry} → IsNumberOf RelationKind session.store.catalog.listing relation number → relation_at session.store.catalog.listing number ≡ Some entry
    → Says session (λ state. value_admission state t relation values) None → Says session (λ state. if_used_up state entry.name) None → IsAdmitted session t relation values number entry
is_admitted known at fits few = record { known = known; at = at; fits = fits; few = few }

module _ (parts : RssParts) {t : ℕ} {relation : Name} {values : List Value} {number : ℕ} {entry : RelationEntry} (admitted : IsAdmitted parts.session t relation values number entry) where
  named : entry.name ≡ relation
  named = name_of parts.session.store.catalog.listing relation number entry admitted.known admitted.at

  few_so : (state : State) → if_used_up state entry.name ≡ None → if_used_up state relation ≡ None
  few_so state is = ap (if_used_up state) (sym named) ∙ is

  pub may_insert : MayCost (Insert t relation values)
  may_insert = record { stop = record { names = tt; granule = tt; memory = refl }; asks = refl; writes = refl }

  -- it looks for an identifier
  pub insert_places : PlacesTuple parts t number (Insert t relation values)
  insert_places = record {
    may = may_insert;
    lacks = λ other state has none.
        let same : other ≡ entry = same_Some _ _ (sym has.at ∙ admitted.at) in
        let shows = has.is_in.shows in
        insert_lacks state t relation values (admitted.fits has.told state shows) (few_so state (admitted.few has.told state shows))
        (λ tid free. none tid (subst (λ (name : Name). IsFree state t name tid) (sym (ap (λ (e : RelationEntry). e.name) same ∙ named)) free));
  }

  -- ---- behind the look

  module _ {mid : SessionView} {tid : Tid} (looks : LooksOn parts.session mid (Ok tid)) where
    looks_new : (new : RssParts) → new.session ≡ mid → LooksOn parts.session new.session (Ok tid)
    looks_new new same = subst (λ (session : SessionView). LooksOn parts.session session (Ok tid)) (sym same) looks

    goes_placed : (new : RssParts) {n m : ℕ} {up up_now : Type 0} → new.session ≡ mid → m ≡ n + 1 → GoesOn (engine_view parts n up) (engine_view new m up_now) (Insert t relation values)
    goes_placed new same calls = goes_bounded (Ok tid) (λ u is. absurd (cc (is))) (looks_new new same).goes calls tt tt (λ none. tt)

    -- memory runs out for the needs
    pub insert_no_needs : (new : RssParts) {n m : ℕ} {up up_now : Type 0} → new.session ≡ mid → SameHeld parts new → up → up_now → m ≡ n + 1 → IsCallOf (engine_view parts n up) (engine_view new m up_now) (Insert t relation values) (Err NoMemory)
    insert_no_needs new same held was_up is_up calls = lacks_behind refl was_up is_up (goes_placed new same calls) (looks_new new same).moments (looks_new new same).shows held

  -- ---- by what was found

  module _ {mid : SessionView} {tid : Tid} {length_of : ℕ} (looks : LooksOn parts.session mid (Ok tid)) (place : IsPlaceFor parts t number length_of tid) {list : List Need} (lists : Lists parts (λ tables. putting tables relation tid values) list) where
    its_relation : {state : State} → IsTold parts.session.store.pages.disk → IsIn parts state → IsRelationIn parts number entry state
    its_relation told is_in = record { told = told; is_in = is_in; at = admitted.at }

    its_free : (state : State) → IsTold parts.session.store.pages.disk → IsIn parts state → IsFree state t relation tid
    its_free state told is_in = subst (λ (name : Name). IsFree state t name tid) named (place.free entry state (its_relation told is_in))

    -- the new tuple is locked behind all that the call needs, and nobody bars it from that
    bars_too : (state : State) → IsTold parts.session.store.pages.disk → IsIn parts state → first_bar state.locks t (needs (now state) (Insert t relation values)) ≡ first_bar parts.locks.locks t list
    bars_too state told is_in =
        sym (first_bar_behind state.locks t (needs (now state) (Insert t relation values)) (need (TupleItem relation tid) X) (none_bars state.locks t (TupleItem relation tid) X (λ u apart. (its_free state told is_in).alone relation u refl apart)))
        ∙ (λ i. first_bar (is_in.locked i) t (lists told state is_in i))

    locks_too : (state : State) → IsTold parts.session.store.pages.disk → IsIn parts state → (holding t (TupleItem relation tid) (locked (Insert t relation values) state)).locks ≡ granted t list parts.locks.locks
    locks_too state told is_in =
        sym (granted_behind t (needs (now state) (Insert t relation values)) (need (TupleItem relation tid) X) state.locks)
        ∙ (λ i. granted t (lists told state is_in i) (is_in.locked i))

    -- the claim fails
    pub insert_lost : (new : RssParts) (U : Type 0) (before after : LocksView) {n m : ℕ} {up up_now : Type 0} {why : CallError} → new.session ≡ mid → SameHeld parts new → before.locks ≡ parts.locks.locks → up → up_now → m ≡ n + 1
        → ClaimEnds {T = U} before after t list (Err why) → IsCallOf (engine_view parts n up) (engine_view new m up_now) (Insert t relation values) (Err why)
    insert_lost new U before after same held were was_up is_up calls =
        claim_fails refl was_up is_up (goes_placed looks new same calls) (looks_new looks new same).moments (looks_new looks new same).shows held U before after t list were
        (λ told state is_in bar is.
        insert_busy state t relation values (admitted.fits told state is_in.shows) (few_so state (admitted.few told state is_in.shows)) tid (its_free state told is_in) bar (bars_too state told is_in ∙ is))

    -- ---- the change

    module _ {claimed : LocksView} (claims : IsClaimed parts.locks claimed t list) where
      -- another tuple has a key, and only the locks of the call's list are kept
      pub insert_owned : (kept : List Need) (last : Need) → list ≡ kept ++ last ∷ [] → {why : Refusal} → (IsTold parts.session.store.pages.disk → (state : State) → IsIn parts state → if_duplicate state relation None values ≡ Some why)
          → IsTold parts.session.store.pages.disk → (state : State) → IsIn parts state → (needs (now state) (Insert t relation values) ≡ kept) × (refusal state (Insert t relation values) ≡ Some why)
      insert_owned kept last is owned told state is_in = (
        front_same (needs (now state) (Insert t relation values)) kept (need (TupleItem relation tid) X) last (lists told state is_in ∙ is),
        insert_duplicate state t relation values (admitted.fits told state is_in.shows) (few_so state (admitted.few told state is_in.shows)) tid (its_free state told is_in) (bars_too state told is_in ∙ claims.free) (owned told state is_in),
      )

      -- the identifier is one of those that the pages have for the tuple
      pub gets_place : (ListingFits parts.session.store.catalog.listing → length_of ≡ body_length parts.session.store.catalog.listing number (length (tuple_bytes (kinds entry.fields) values))) → IsTold parts.session.store.pages.disk → (state : State) → IsIn parts state → (barred : List Tid) → AreBarred state t relation barred
          → MayStandAt parts.session.store.pages parts.session.store.catalog.listing relation values barred tid
      gets_place same told state is_in barred exact = record {
        number = number;
        entry = entry;
        at = admitted.at;
        named = named;
        chosen = subst (λ (k : ℕ). IsChosen parts.session.store.pages entry.segment k barred tid) (same is_in.shows.store.spells.listed)
            (place.chosen entry state (its_relation told is_in) barred (subst (λ (name : Name). AreBarred state t name barred) (sym named) exact));
      }

      -- the record tells the change
      module _ {bytes : List ℕ} (spelled : Spells (kinds entry.fields) bytes values) (short : IsShort bytes) (small : t < 2 ^ 32) (page : tid.page < 2 ^ 32) (slot : tid.slot < 2 ^ 32) (unowned : IsTold parts.session.store.pages.disk → (state : State) → IsIn parts state → if_duplicate state relation None values ≡ None) where
        is_told : IsToldBy parts.session.store.catalog.listing (InsertRecord number tid bytes) (insertion t relation tid values)
        is_told = tells_insert admitted.known admitted.at t small tid page spelled (place.named.low, short)

        -- which the rules alone refuse, where no other tuple has a key
        last_of : IsTold parts.session.store.pages.disk → (state : State) → IsIn parts state → IsLast parts.session (granted t list parts.locks.locks) t (InsertRecord number tid bytes) (Insert t relation values) (Identifier tid) state
        last_of told state is_in =
            let fits = admitted.fits told state is_in.shows in
            let free = its_free state told is_in in
            let refuses : refusal state (Insert t relation values) ≡ if_no_room state (insertion t relation tid values) =
            insert_there state t relation values fits (few_so state (admitted.few told state is_in.shows)) tid free (bars_too state told is_in ∙ claims.free) (unowned told state is_in) in
            record {
              change = insertion t relation tid values;
              by = refl;
              is_told = is_told;
              refuses = refuses;
              may = λ passes. may_make parts.session (holding t (TupleItem relation tid) (locked (Insert t relation values) state)).locks is_in.kept is_told (sym (free.absent relation refl))
                  (inserts t relation values tid state.meter.over (refuses ∙ passes) free (over_same state (insertion t relation tid values)));
              steps = λ passes over allowed. subst (λ (locks : Locks). Step state (Insert t relation values) (Ok (Identifier tid)) (record (ruled (insertion t relation tid values) over state) { locks = locks })) (locks_too state told is_in)
                  (inserts t relation values tid over (refuses ∙ passes) free allowed);
            }

        pub insert_ends : EndsByChange parts (granted t list parts.locks.locks) t (InsertRecord number tid bytes) (Insert t relation values) (Identifier tid)
        insert_ends = record { last = last_of; short = identifier_line tid page slot; may = may_insert; saves = refl }
