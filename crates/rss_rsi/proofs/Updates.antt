-- An update, by what was found and what its change comes to.
use Rattle.std.proofs.Common.{◌≡◌, ℕ, ◌^◌, ◌<◌, List, [], ◌∷◌, refl, sym, ◌∙◌, ap, subst, arith}
use Rattle.std.specs.Prelude.{Option, Some, None, Ok, is_some, option_map, option_and_then}
use Rattle.rss_base.specs.DiskRule.{IsTold}
use Rattle.rss_base.specs.Listings.{relation_at, IsNumberOf}
use Rattle.rss_base.specs.LogRecords.{IsShort}
use Rattle.rss_base.specs.TupleTypes.{kinds, Spells}
use Rattle.rss_base.specs.declared.answer.Reply.TheVariants.{Ok as Done}
use Rattle.rss_base.specs.declared.call.Call.TheVariants.{Update}
use Rattle.rss_base.specs.declared.change.Change.TheVariants.{Update as UpdateRecord}
use Rattle.rss_base.specs.declared.name.Name.{Name}
use Rattle.rss_base.specs.declared.need.Need.{Need}
use Rattle.rss_base.specs.declared.refusal.Kind.TheVariants.{Relation as RelationKind}
use Rattle.rss_base.specs.declared.refusal.Refusal.{Refusal}
use Rattle.rss_base.specs.declared.relation.RelationEntry.{RelationEntry}
use Rattle.rss_base.specs.declared.tid.Tid.{Tid}
use Rattle.rss_base.specs.declared.value.Value.{Value}
use Rattle.rss_model.specs.Items.{Content}
use Rattle.rss_stored.specs.LogLaws.{IsToldBy}
use Rattle.rss_model.specs.Locks.{Locks, granted}
use Rattle.rss_model.specs.Machine.{State, now}
use Rattle.rss_model.specs.Needs.{needs}
use Rattle.rss_model.specs.Refusals.{if_duplicate, replacement, values_in}
use Rattle.rss_model.specs.Ruled.{ruled}
use Rattle.rss_model.specs.Rules.{if_no_room}
use Rattle.rss_model.specs.Steps.{Step, if_full, locked, refusal, value_admission}
use Rattle.rss_model.specs.Steps.StepBy.{updates}
use Rattle.rss_model.proofs.Transfer.{over_same}
use Rattle.rss_session.specs.Admissions.{Says}
use Rattle.rss_rsi.specs.Views.{RssParts, IsIn}
use Rattle.rss_rsi.specs.Looking.{LooksFor, FindsHeld}
use Rattle.rss_rsi.specs.Placing.{MayCost}
use Rattle.rss_rsi.specs.declared.locking.Access.TheVariants.{Change}
use Rattle.rss_rsi.proofs.Claims.{free_as, locked_as}
use Rattle.rss_rsi.proofs.Changes.{IsLast, EndsByChange}
use Rattle.rss_rsi.proofs.Telling.{tells_update, may_make}
use Rattle.rss_rsi.proofs.TupleTests.{update_busy, update_lacks, update_duplicate, update_there}

module _ (parts : RssParts) (t : ℕ) (relation : Name) (tid : Tid) (values : List Value) (admitted : Says parts.session (λ state. value_admission state t relation values) None) where
  -- it looks for its tuple first
  pub update_looks : LooksFor parts t relation tid Change (values ∷ []) (Update t relation tid values)
  update_looks = record {
    may = record { stop = record { names = tt; granule = tt; memory = refl }; asks = tt; writes = tt };
    by = refl;
    needs_are = λ state is_in. refl;
    busy_so = λ told state is_in bar. update_busy state t relation tid values (admitted told state is_in.shows) bar;
    lacks = λ told state is_in. update_lacks state t relation tid values (admitted told state is_in.shows);
  }

  pub may_update : MayCost (Update t relation tid values)
  may_update = record { stop = update_looks.may.stop; asks = refl; writes = refl }

  -- another tuple has a key of what was found
  pub update_owned : {mid : RssParts} {number : ℕ} {was : List Value} {list : List Need} → FindsHeld parts mid t number relation tid Change (values ∷ []) was list → {why : Refusal}
      → (IsTold parts.session.store.pages.disk → (state : State) → IsIn parts state → if_duplicate state relation (Some tid) values ≡ Some why)
      → IsTold parts.session.store.pages.disk → (state : State) → IsIn parts state → (needs (now state) (Update t relation tid values) ≡ list) × (refusal state (Update t relation tid values) ≡ Some why)
  update_owned found owned told state is_in =
      let listed = found.lists told state is_in in (
        listed,
        update_duplicate state t relation tid values (admitted told state is_in.shows) (free_as is_in (Update t relation tid values) listed found.claimed) (ap is_some (found.finds.has told state is_in)) (owned told state is_in),
      )

  -- of what was found, by a record of its values and of those that it is given
  module _ {mid : RssParts} {number : ℕ} {entry : RelationEntry} {was : List Value} {list : List Need} (found : FindsHeld parts mid t number relation tid Change (values ∷ []) was list) (known : IsNumberOf RelationKind parts.session.store.catalog.listing relation number) (at : relation_at parts.session.store.catalog.listing number ≡ Some entry)
      (small : t < 2 ^ 32) (page : tid.page < 2 ^ 32) {from to : List ℕ} (from_so : Spells (kinds entry.fields) from was) (to_so : Spells (kinds entry.fields) to values) (from_short : IsShort from) (to_short : IsShort to)
      (unowned : IsTold parts.session.store.pages.disk → (state : State) → IsIn parts state → if_duplicate state relation (Some tid) values ≡ None) where
    is_told : IsToldBy parts.session.store.catalog.listing (UpdateRecord number tid from to) (replacement t relation tid was values)
    is_told = tells_update known at t small tid page from_so to_so (found.finds.slot, from_short, to_short)

    -- it makes one change, which the rules alone refuse, where no other tuple has a key
    last_of : IsTold parts.session.store.pages.disk → (state : State) → IsIn parts state → IsLast parts.session (granted t list parts.locks.locks) t (UpdateRecord number tid from to) (Update t relation tid values) Done state
    last_of told state is_in =
        let change = replacement t relation tid was values in
        let there = found.finds.has told state is_in in
        let fit = admitted told state is_in.shows in
        let listed : needs (now state) (Update t relation tid values) ≡ list = found.lists told state is_in in
        let rules : if_full state (Update t relation tid values) ≡ if_no_room state change = ap (λ (held : Option Content). option_and_then (if_no_room state) (option_map (λ (w : List Value). replacement t relation tid w values) (values_in held))) there in
        let refuses : refusal state (Update t relation tid values) ≡ if_no_room state change = update_there state t relation tid values fit (free_as is_in (Update t relation tid values) listed found.claimed) (ap is_some there) (unowned told state is_in) ∙ rules in
        record {
          change = change;
          by = refl;
          is_told = is_told;
          refuses = refuses;
          may = λ passes. may_make parts.session (locked (Update t relation tid values) state).locks is_in.kept is_told (sym there)
              (updates t relation tid was values state.meter.over (refuses ∙ passes) there (over_same state change));
          steps = λ passes over allowed. subst (λ (locks : Locks). Step state (Update t relation tid values) (Ok Done) (record (ruled change over state) { locks = locks })) (locked_as is_in (Update t relation tid values) listed t refl)
              (updates t relation tid was values over (refuses ∙ passes) there allowed);
        }

    pub update_ends : EndsByChange parts (granted t list parts.locks.locks) t (UpdateRecord number tid from to) (Update t relation tid values) Done
    update_ends = record { last = last_of; short = omega arith; may = may_update; saves = refl }
