-- What the calls on a tuple that is there are refused for, by the first of their tests that fails.
use Rattle.std.proofs.Common.{◌≡◌, ℕ, true, List, [], ◌∷◌, drop, refl, ◌∙◌, ap, subst}
use Rattle.std.specs.Prelude.{Bool, false, Option, Some, None, is_some, option_map, ⊤}
use Rattle.std.specs.List.{AllByRecursion}
use Rattle.rss_base.specs.declared.call.Call.{Call}
use Rattle.rss_base.specs.declared.call.Call.TheVariants.{Fetch, Update, Delete}
use Rattle.rss_base.specs.declared.item.Item.TheVariants.{Tuple as TupleItem}
use Rattle.rss_base.specs.declared.name.Name.{Name}
use Rattle.rss_base.specs.declared.refusal.Refusal.{Refusal}
use Rattle.rss_base.specs.declared.refusal.Kind.TheVariants.{Relation as RelationKind}
use Rattle.rss_base.specs.declared.refusal.LimitKind.TheVariants.{Tuples as TupleLimit}
use Rattle.rss_base.specs.declared.refusal.Refusal.TheVariants.{NoTransaction, NoSuch, NoTuple, BadTuple, Limit}
use Rattle.rss_base.specs.declared.tid.Tid.{Tid}
use Rattle.rss_base.specs.declared.value.FieldForm.{FieldForm}
use Rattle.rss_base.specs.declared.value.Value.{Value}
use Rattle.rss_base.specs.TupleTypes.{misfit}
use Rattle.rss_model.specs.Defining.{refused_unless, refused_if}
use Rattle.rss_model.specs.Locks.{Bar, first_bar}
use Rattle.rss_model.specs.Machine.{State, now}
use Rattle.rss_model.specs.Needs.{needs}
use Rattle.rss_model.specs.Refusals.{busy, if_busy_for, if_connected, if_duplicate}
use Rattle.rss_model.specs.Steps.{first_of, tests, is_open, if_used_up, keeps_locks, misfit_of, unless_open, unless_defined, unless_live, admission, value_admission, if_full, refusal}
use Rattle.rss_model.specs.Tables.{content, fields_of}
use Rattle.rss_model.proofs.Tests.{goes_on, refuses_at, passes_unless, refuses_unless}
use Rattle.rss_session.proofs.First.{first_stops, first_passes}

-- ---- three tests that come first

pub three_stop : (a b c : Option Refusal) (rest : List (Option Refusal)) {why : Refusal} → first_of (a ∷ b ∷ c ∷ []) ≡ Some why → first_of (a ∷ b ∷ c ∷ rest) ≡ Some why
three_stop (Some x) b c rest is = is
three_stop None (Some x) c rest is = is
three_stop None None (Some x) rest is = is
three_stop None None None rest is = absurd (cc)

pub three_pass : (a b c : Option Refusal) (rest : List (Option Refusal)) → first_of (a ∷ b ∷ c ∷ []) ≡ None → first_of (a ∷ b ∷ c ∷ rest) ≡ first_of rest
three_pass (Some x) b c rest is = absurd (cc)
three_pass None (Some x) c rest is = absurd (cc)
three_pass None None (Some x) rest is = absurd (cc)
three_pass None None None rest is = refl

-- the last test
pub last_test : (o : Option Refusal) → first_of (o ∷ []) ≡ o
last_test None = refl
last_test (Some why) = refl

-- ---- refusals that keep no locks

abbrev pub KeepsNone : Option Refusal → Type 0
KeepsNone None = ⊤
KeepsNone (Some why) = keeps_locks why ≡ false

pub unless_keeps : (holds : Bool) (why : Refusal) → keeps_locks why ≡ false → KeepsNone (refused_unless holds why)
unless_keeps true why none = tt
unless_keeps false why none = none

pub if_keeps : (holds : Bool) (why : Refusal) → keeps_locks why ≡ false → KeepsNone (refused_if holds why)
if_keeps true why none = none
if_keeps false why none = tt

pub first_keeps : (all : List (Option Refusal)) → AllByRecursion KeepsNone all → KeepsNone (first_of all)
first_keeps [] each = tt
first_keeps (None ∷ rest) each = first_keeps rest each.1
first_keeps (Some why ∷ rest) each = each.0

misfit_keeps : (fields : Option (List FieldForm)) (values : List Value) → KeepsNone (misfit_of fields values)
misfit_keeps None values = tt
misfit_keeps (Some fields) values = by (misfit fields values)
  where
    by : (field : Option ℕ) → KeepsNone (option_map BadTuple field)
    by None = tt
    by (Some field) = refl

-- who isn't admitted, or finds no room for one tuple more, keeps none
pub admission_keeps : (state : State) (t : ℕ) (relation : Name) {why : Refusal} → admission state t relation ≡ Some why → keeps_locks why ≡ false
admission_keeps state t relation is = subst KeepsNone is (first_keeps (unless_open state t ∷ unless_defined state relation ∷ []) (unless_keeps (is_open state t) NoTransaction refl, (unless_keeps _ (NoSuch RelationKind) refl, tt)))

pub values_keep : (state : State) (t : ℕ) (relation : Name) (values : List Value) {why : Refusal} → value_admission state t relation values ≡ Some why → keeps_locks why ≡ false
values_keep state t relation values is =
    subst KeepsNone is (first_keeps (unless_open state t ∷ unless_defined state relation ∷ misfit_of (fields_of state.base relation) values ∷ [])
    (unless_keeps (is_open state t) NoTransaction refl, (unless_keeps _ (NoSuch RelationKind) refl, (misfit_keeps (fields_of state.base relation) values, tt))))

pub used_up_keeps : (state : State) (relation : Name) {why : Refusal} → if_used_up state relation ≡ Some why → keeps_locks why ≡ false
used_up_keeps state relation is = subst KeepsNone is (if_keeps _ (Limit TupleLimit) refl)

module _ (state : State) (t : ℕ) (relation : Name) where
  -- ---- who isn't, is refused so

  module _ (tid : Tid) {why : Refusal} where
    pub fetch_unfit : admission state t relation ≡ Some why → refusal state (Fetch t relation tid) ≡ Some why
    fetch_unfit bad = first_stops (unless_open state t) (unless_defined state relation) (drop 2 (tests state (Fetch t relation tid))) bad

    pub delete_unfit : admission state t relation ≡ Some why → refusal state (Delete t relation tid) ≡ Some why
    delete_unfit bad = first_stops (unless_open state t) (unless_defined state relation) (drop 2 (tests state (Delete t relation tid))) bad

    pub update_unfit : (values : List Value) → value_admission state t relation values ≡ Some why → refusal state (Update t relation tid values) ≡ Some why
    update_unfit values bad = three_stop (unless_open state t) (unless_defined state relation) (misfit_of (fields_of state.base relation) values) (drop 3 (tests state (Update t relation tid values))) bad

  -- ---- behind the admission another may hold what is needed, and then the tuple is looked for

  module _ (tid : Tid) where
    abbrev IsThere : Type 0
    IsThere = is_some (content (now state).contents (TupleItem relation tid)) ≡ true

    abbrev IsAbsent : Type 0
    IsAbsent = content (now state).contents (TupleItem relation tid) ≡ None

    live : IsThere → unless_live state relation tid ≡ None
    live there = passes_unless (NoTuple relation tid) there

    absent : IsAbsent → unless_live state relation tid ≡ Some (NoTuple relation tid)
    absent none = refuses_unless (NoTuple relation tid) (ap is_some none)

    -- what comes of the needs of a call
    abbrev Bars : Call → Option Bar → Type 0
    Bars call found = first_bar state.locks t (needs (now state) call) ≡ found

    busy_for : (call : Call) (bar : Bar) → Bars call (Some bar) → if_busy_for state t call ≡ Some (busy bar)
    busy_for call bar is = ap (option_map busy) is

    free_for : (call : Call) → Bars call None → if_busy_for state t call ≡ None
    free_for call is = ap (option_map busy) is

    module _ (admitted : admission state t relation ≡ None) where
      -- ---- a fetch

      fetch_admitted : refusal state (Fetch t relation tid) ≡ first_of (drop 2 (tests state (Fetch t relation tid)))
      fetch_admitted = first_passes (unless_open state t) (unless_defined state relation) (drop 2 (tests state (Fetch t relation tid))) admitted

      pub fetch_busy : (bar : Bar) → Bars (Fetch t relation tid) (Some bar) → refusal state (Fetch t relation tid) ≡ Some (busy bar)
      fetch_busy bar is = fetch_admitted ∙ refuses_at (drop 3 (tests state (Fetch t relation tid))) (busy_for (Fetch t relation tid) bar is)

      module _ (free : Bars (Fetch t relation tid) None) where
        fetch_comes : refusal state (Fetch t relation tid) ≡ first_of (drop 3 (tests state (Fetch t relation tid)))
        fetch_comes = fetch_admitted ∙ goes_on (drop 3 (tests state (Fetch t relation tid))) (free_for (Fetch t relation tid) free)

        pub fetch_lacks : IsAbsent → refusal state (Fetch t relation tid) ≡ Some (NoTuple relation tid)
        fetch_lacks none = fetch_comes ∙ refuses_at [] (absent none)

        pub fetch_passes : IsThere → refusal state (Fetch t relation tid) ≡ None
        fetch_passes there = fetch_comes ∙ goes_on [] (live there)

      -- ---- a delete

      delete_admitted : refusal state (Delete t relation tid) ≡ first_of (drop 2 (tests state (Delete t relation tid)))
      delete_admitted = first_passes (unless_open state t) (unless_defined state relation) (drop 2 (tests state (Delete t relation tid))) admitted

      pub delete_busy : (bar : Bar) → Bars (Delete t relation tid) (Some bar) → refusal state (Delete t relation tid) ≡ Some (busy bar)
      delete_busy bar is = delete_admitted ∙ refuses_at (drop 3 (tests state (Delete t relation tid))) (busy_for (Delete t relation tid) bar is)

      module _ (free : Bars (Delete t relation tid) None) where
        delete_comes : refusal state (Delete t relation tid) ≡ first_of (drop 3 (tests state (Delete t relation tid)))
        delete_comes = delete_admitted ∙ goes_on (drop 3 (tests state (Delete t relation tid))) (free_for (Delete t relation tid) free)

        pub delete_lacks : IsAbsent → refusal state (Delete t relation tid) ≡ Some (NoTuple relation tid)
        delete_lacks none = delete_comes ∙ refuses_at (drop 4 (tests state (Delete t relation tid))) (absent none)

        -- what is left are the rules
        pub delete_there : if_connected state relation tid ≡ None → IsThere → refusal state (Delete t relation tid) ≡ if_full state (Delete t relation tid)
        delete_there alone there =
            delete_comes ∙ goes_on (drop 4 (tests state (Delete t relation tid))) (live there)
            ∙ goes_on (drop 5 (tests state (Delete t relation tid))) alone
            ∙ last_test (if_full state (Delete t relation tid))

    -- ---- an update

    module _ (values : List Value) (admitted : value_admission state t relation values ≡ None) where
      update_admitted : refusal state (Update t relation tid values) ≡ first_of (drop 3 (tests state (Update t relation tid values)))
      update_admitted = three_pass (unless_open state t) (unless_defined state relation) (misfit_of (fields_of state.base relation) values) (drop 3 (tests state (Update t relation tid values))) admitted

      pub update_busy : (bar : Bar) → Bars (Update t relation tid values) (Some bar) → refusal state (Update t relation tid values) ≡ Some (busy bar)
      update_busy bar is = update_admitted ∙ refuses_at (drop 4 (tests state (Update t relation tid values))) (busy_for (Update t relation tid values) bar is)

      module _ (free : Bars (Update t relation tid values) None) where
        update_comes : refusal state (Update t relation tid values) ≡ first_of (drop 4 (tests state (Update t relation tid values)))
        update_comes = update_admitted ∙ goes_on (drop 4 (tests state (Update t relation tid values))) (free_for (Update t relation tid values) free)

        pub update_lacks : IsAbsent → refusal state (Update t relation tid values) ≡ Some (NoTuple relation tid)
        update_lacks none = update_comes ∙ refuses_at (drop 5 (tests state (Update t relation tid values))) (absent none)

        module _ (there : IsThere) where
          update_live : refusal state (Update t relation tid values) ≡ first_of (drop 5 (tests state (Update t relation tid values)))
          update_live = update_comes ∙ goes_on (drop 5 (tests state (Update t relation tid values))) (live there)

          -- another tuple may have a key
          pub update_duplicate : {why : Refusal} → if_duplicate state relation (Some tid) values ≡ Some why → refusal state (Update t relation tid values) ≡ Some why
          update_duplicate is = update_live ∙ refuses_at (drop 6 (tests state (Update t relation tid values))) is

          pub update_there : if_duplicate state relation (Some tid) values ≡ None → refusal state (Update t relation tid values) ≡ if_full state (Update t relation tid values)
          update_there none =
              update_live ∙ goes_on (drop 6 (tests state (Update t relation tid values))) none
              ∙ last_test (if_full state (Update t relation tid values))
