-- What a call is refused for in the states in which a session may be.
use Rattle.std.proofs.Common.{◌≡◌, ℕ, ◌+◌, ◌<◌, ◌≤◌, false, List, [], ◌∷◌, length, refl, sym, ◌∙◌, ap, arith}
use Rattle.std.specs.Prelude.{Option, Some, None, is_some, option_map, count_by, slice_get}
use Rattle.std.specs.Ordering.{nat_cmp}
use Rattle.std.specs.FinMap as map
use Rattle.std.specs.FinMap.{FinMap, len-entries, empty_of_len}
use Rattle.std.proofs.lemmas.Bool.{le-leb, lt-leb}
use Rattle.std.proofs.lemmas.List.{length-map}
use Rattle.rss_base.specs.TupleTypes.{kinds, misfit}
use Rattle.rss_base.specs.Listings.{relation_at, IsNumberOf}
use Rattle.rss_base.specs.declared.name.Name.{Name}
use Rattle.rss_base.specs.declared.value.Value.{Value}
use Rattle.rss_base.specs.declared.value.FieldForm.{FieldForm}
use Rattle.rss_base.specs.declared.relation.RelationEntry.{RelationEntry}
use Rattle.rss_base.specs.declared.call.Call.TheVariants.{Begin}
use Rattle.rss_base.specs.declared.refusal.Kind.TheVariants.{Relation as RelationKind}
use Rattle.rss_base.specs.declared.refusal.LimitKind.TheVariants.{Tuples as TupleLimit}
use Rattle.rss_base.specs.declared.refusal.Refusal.TheVariants.{AlreadyOpen, TooMany, NoSuch, Limit, BadTuple, TransactionsOpen}
use Rattle.rss_model.specs.Changes.{Change, is_delete_of}
use Rattle.rss_model.specs.Defining.{if_any_open, least_open}
use Rattle.rss_model.specs.Fits.{tuple_limit}
use Rattle.rss_model.specs.Machine.{State, now}
use Rattle.rss_model.specs.Machine as machine
use Rattle.rss_model.specs.Steps.{first_of, misfit_of, unless_open, unless_defined, admission, value_admission, used_tuples, if_used_up, refusal}
use Rattle.rss_stored.specs.Store.{SpellsTables}
use Rattle.rss_model.specs.Tables.{RelationDef, fields_of}
use Rattle.rss_stored.proofs.ByNumber.{relation_named}
use Rattle.rss_stored.proofs.Relisted.{number_of}
use Rattle.rss_model.proofs.Tests.{goes_on, refuses_at, refuses_if, passes_if, passes_unless}
use Rattle.rss_trans.specs.declared.sums.Sums.{Sums}
use Rattle.rss_trans.specs.Transactions.{is_open, of_relation, sums_of}
use Rattle.rss_trans.proofs.Asked.{open_told, keys_told, count_told}
use Rattle.rss_trans.proofs.Summing.{deletes_told}
use Rattle.rss_access.proofs.Numbered.{name_of, fields_listed}
use Rattle.rss_session.specs.Sessions.{SessionView}
use Rattle.rss_session.specs.Shown.{Shows}
use Rattle.rss_session.proofs.First.{first_passes}

-- ---- without a least key

no_keys : (keys : List ℕ) → None ≡ slice_get keys 0 → length keys ≡ 0
no_keys [] is = refl
no_keys (key ∷ keys) is = absurd (cc (is))

pub none_least : {X : Type 0} (m : FinMap nat_cmp X) → None ≡ slice_get (map.keys m) 0 → m ≡ map.empty
none_least m is = empty_of_len m (omega (arith, no_keys (map.keys m) is, len-entries m, length-map (map.entries m) (λ e. e.0)))

-- ---- what is asked of a map of definitions

same_some : (found : Option RelationDef) → is_some (option_map (λ (r : RelationDef). kinds r.fields) found) ≡ is_some found
same_some None = refl
same_some (Some relation) = refl

module _ {view : SessionView} {state : State} (shows : Shows view state) where
  spells : SpellsTables view.store.pages.held view.store.catalog.listing (now state)
  spells = shows.store.spells

  -- ---- the open transactions

  closed_here : (t : ℕ) → is_open view.opened t ≡ false → machine.is_open state t ≡ false
  closed_here t is = sym (open_told view.store.catalog.listing view.opened state.marks shows.listed shows.told t) ∙ is

  pub least_same : slice_get (map.keys view.opened.transactions) 0 ≡ least_open state
  least_same = ap (λ (keys : List ℕ). slice_get keys 0) (keys_told view.store.catalog.listing view.opened state.marks shows.listed shows.told)

  count_same : map.len view.opened.transactions ≡ map.len state.marks
  count_same = count_told view.store.catalog.listing view.opened state.marks shows.listed shows.told

  pub any_open : (t : ℕ) → Some t ≡ slice_get (map.keys view.opened.transactions) 0 → if_any_open state ≡ Some (TransactionsOpen t)
  any_open t is = ap (option_map TransactionsOpen) (sym (is ∙ least_same))

  pub none_is_open : None ≡ slice_get (map.keys view.opened.transactions) 0 → if_any_open state ≡ None
  none_is_open is = ap (option_map TransactionsOpen) (sym (is ∙ least_same))

  -- ---- begin

  pub too_many : (t : ℕ) → is_open view.opened t ≡ false → 32 ≤ map.len view.opened.transactions → refusal state (Begin t) ≡ Some TooMany
  too_many t closed many =
      goes_on _ (passes_if AlreadyOpen (closed_here t closed))
      ∙ refuses_at [] (refuses_if TooMany (le-leb 32 (map.len state.marks) (omega (arith, many, count_same))))

  pub may_begin : (t : ℕ) → is_open view.opened t ≡ false → map.len view.opened.transactions < 32 → refusal state (Begin t) ≡ None
  may_begin t closed few =
      goes_on _ (passes_if AlreadyOpen (closed_here t closed))
      ∙ goes_on [] (passes_if TooMany (lt-leb 32 (map.len state.marks) (omega (arith, few, count_same))))

  -- ---- the calls on a relation

  module _ (t : ℕ) (relation : Name) where
    module _ (number : ℕ) (known : IsNumberOf RelationKind view.store.catalog.listing relation number) where
      pub admits : unless_open state t ≡ None → admission state t relation ≡ None
      admits passes =
          goes_on _ passes
          ∙ goes_on [] (passes_unless (NoSuch RelationKind) (same_some (map.get state.base.definitions.relations relation) ∙ relation_named spells.listed spells.defines relation number known))

      -- its fields are those that the listing has
      pub fields_here : (entry : RelationEntry) → relation_at view.store.catalog.listing number ≡ Some entry → fields_of state.base relation ≡ Some (kinds entry.fields)
      fields_here entry at =
          ap (fields_of state.base) (sym (name_of view.store.catalog.listing relation number entry known at))
          ∙ fields_listed state.base spells.listed spells.defines number entry at

    module _ (fields : List FieldForm) (are : fields_of state.base relation ≡ Some fields) (admitted : admission state t relation ≡ None) (values : List Value) where
      value_tested : value_admission state t relation values ≡ first_of (misfit_of (Some fields) values ∷ [])
      value_tested =
          first_passes (unless_open state t) (unless_defined state relation) (misfit_of (fields_of state.base relation) values ∷ []) admitted
          ∙ ap (λ (o : Option (List FieldForm)). first_of (misfit_of o values ∷ [])) are

      pub value_misfit : (field : ℕ) → misfit fields values ≡ Some field → value_admission state t relation values ≡ Some (BadTuple field)
      value_misfit field bad = value_tested ∙ refuses_at [] (ap (option_map BadTuple) bad)

      pub value_admits : misfit fields values ≡ None → value_admission state t relation values ≡ None
      value_admits fit = value_tested ∙ goes_on [] (ap (option_map BadTuple) fit)

  -- ---- the limit of a relation

  module _ (number : ℕ) (entry : RelationEntry) (at : relation_at view.store.catalog.listing number ≡ Some entry) where
    module _ (sums : Sums) (are : sums ≡ sums_of (of_relation number) (view.opened.since_of number) (map.values view.opened.transactions)) where
      used_same : used_tuples state entry.name ≡ entry.live + sums.d
      used_same = omega (
        arith,
        spells.counts number entry at,
        ap (λ (s : Sums). s.d) are,
        deletes_told view.store.catalog.listing view.opened state.marks shows.listed (view.opened.since_of number) number entry.name shows.told spells.listed.relations_once (number_of view.store.catalog.listing number entry at),
        ap (λ (cs : List Change). count_by (is_delete_of entry.name) cs) shows.list.changes_are,
      )

      pub used_up : tuple_limit ≤ entry.live + sums.d → if_used_up state entry.name ≡ Some (Limit TupleLimit)
      used_up many = refuses_if (Limit TupleLimit) (le-leb tuple_limit (used_tuples state entry.name) (omega (arith, many, used_same)))

      pub some_left : entry.live + sums.d < tuple_limit → if_used_up state entry.name ≡ None
      some_left few = passes_if (Limit TupleLimit) (lt-leb tuple_limit (used_tuples state entry.name) (omega (arith, few, used_same)))
