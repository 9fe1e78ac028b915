-- A delete, by what was found and what its change comes to.
use Rattle.std.proofs.Common.{◌≡◌, ℕ, ◌^◌, ◌<◌, List, [], ◌∷◌, refl, sym, ◌∙◌, ap, subst, arith}
use Rattle.std.specs.Prelude.{Option, Some, None, Ok, is_some, option_map, option_and_then}
use Rattle.rss_base.specs.DiskRule.{IsTold}
use Rattle.rss_base.specs.Listings.{relation_at, IsNumberOf}
use Rattle.rss_base.specs.LogRecords.{IsShort}
use Rattle.rss_base.specs.TupleTypes.{kinds, Spells}
use Rattle.rss_base.specs.declared.answer.Reply.TheVariants.{Ok as Done}
use Rattle.rss_base.specs.declared.call.Call.TheVariants.{Delete}
use Rattle.rss_base.specs.declared.change.Change.TheVariants.{Delete as DeleteRecord}
use Rattle.rss_base.specs.declared.field.FieldDef.{FieldDef}
use Rattle.rss_base.specs.declared.name.Name.{Name}
use Rattle.rss_base.specs.declared.need.Need.{Need}
use Rattle.rss_base.specs.declared.refusal.Kind.TheVariants.{Relation as RelationKind}
use Rattle.rss_base.specs.declared.refusal.Refusal.{Refusal}
use Rattle.rss_base.specs.declared.refusal.Refusal.TheVariants.{NoTuple}
use Rattle.rss_base.specs.declared.relation.RelationEntry.{RelationEntry}
use Rattle.rss_base.specs.declared.tid.Tid.{Tid}
use Rattle.rss_base.specs.declared.value.Value.{Value}
use Rattle.rss_model.specs.Items.{Content}
use Rattle.rss_stored.specs.LogLaws.{IsToldBy}
use Rattle.rss_model.specs.Locks.{Locks, granted}
use Rattle.rss_model.specs.Machine.{State, now}
use Rattle.rss_model.specs.Needs.{needs}
use Rattle.rss_model.specs.Refusals.{deletion, if_connected, values_in}
use Rattle.rss_model.specs.Ruled.{ruled}
use Rattle.rss_model.specs.Rules.{if_no_room}
use Rattle.rss_model.specs.Steps.{Step, if_full, locked, refusal, admission}
use Rattle.rss_model.specs.Steps.StepBy.{deletes}
use Rattle.rss_model.proofs.Tests.{goes_on, passes_unless, refuses_at}
use Rattle.rss_model.proofs.Transfer.{over_same}
use Rattle.rss_access.proofs.Numbered.{entry_at}
use Rattle.rss_catalog.specs.Catalogs.{CatalogView}
use Rattle.rss_session.specs.Admissions.{Says}
use Rattle.rss_rsi.specs.Views.{RssParts, IsIn}
use Rattle.rss_rsi.specs.Linking.{SaysFound}
use Rattle.rss_rsi.specs.Looking.{LooksFor, FindsHeld}
use Rattle.rss_rsi.specs.declared.locking.Access.TheVariants.{Change}
use Rattle.rss_rsi.proofs.Claims.{free_as, locked_as}
use Rattle.rss_rsi.proofs.Changes.{IsLast, EndsByChange}
use Rattle.rss_rsi.proofs.LinkTests.{delete_linked, linked_refused}
use Rattle.rss_rsi.proofs.Telling.{tells_delete, may_make}
use Rattle.rss_rsi.proofs.TupleTests.{delete_busy, delete_lacks, delete_there}

-- the relation is listed still where its tuple was found
pub listed_found : {parts mid : RssParts} {t number : ℕ} {relation : Name} {tid : Tid} {given : List (List Value)} {was : List Value} {list : List Need} → FindsHeld parts mid t number relation tid Change given was list → (known : IsNumberOf RelationKind parts.session.store.catalog.listing relation number)
    → relation_at mid.session.store.catalog.listing number ≡ Some (entry_at parts.session.store.catalog.listing relation number known).entry
listed_found {parts = parts} {number = number} {relation = relation} found known =
    ap (λ (c : CatalogView). relation_at c.listing number) found.looked.looks.catalog ∙ (entry_at parts.session.store.catalog.listing relation number known).at

-- what was said of it then is so of its name
pub alone_found : (parts : RssParts) {mid : RssParts} {t number : ℕ} {relation : Name} {tid : Tid} {given : List (List Value)} {was : List Value} {list : List Need} → FindsHeld parts mid t number relation tid Change given was list → (known : IsNumberOf RelationKind parts.session.store.catalog.listing relation number)
    → SaysFound mid.session (λ state. if_connected state (entry_at parts.session.store.catalog.listing relation number known).entry.name tid) None → IsTold parts.session.store.pages.disk → (state : State) → IsIn parts state → if_connected state relation tid ≡ None
alone_found parts {number = number} {relation = relation} {tid = tid} found known says told state is_in =
    subst (λ (name : Name). if_connected state name tid ≡ None) (entry_at parts.session.store.catalog.listing relation number known).named
    (says (found.looked.looks.goes.told.0 told) state is_in.kept (found.looked.looks.shows told state is_in.shows))

module _ (parts : RssParts) (t : ℕ) (relation : Name) (tid : Tid) (admitted : Says parts.session (λ state. admission state t relation) None) where
  -- it looks for its tuple first
  pub delete_looks : LooksFor parts t relation tid Change [] (Delete t relation tid)
  delete_looks = record {
    may = record { stop = record { names = tt; granule = tt; memory = refl }; asks = tt; writes = tt };
    by = refl;
    needs_are = λ state is_in. refl;
    busy_so = λ told state is_in bar. delete_busy state t relation tid (admitted told state is_in.shows) bar;
    lacks = λ told state is_in. delete_lacks state t relation tid (admitted told state is_in.shows);
  }

  -- the tuple that was found stands in a chain, or has one
  pub delete_connected : {mid : RssParts} {number : ℕ} {was : List Value} {list : List Need} → FindsHeld parts mid t number relation tid Change [] was list → IsTold parts.session.store.pages.disk → (state : State) → IsIn parts state → (why : Refusal) → if_connected state relation tid ≡ Some why
      → (needs (now state) (Delete t relation tid) ≡ list) × (refusal state (Delete t relation tid) ≡ Some why)
  delete_connected found told state is_in why is =
      let listed = found.lists told state is_in in (
        listed,
        linked_refused (delete_linked t relation tid) state (admitted told state is_in.shows) (free_as is_in (Delete t relation tid) listed found.claimed)
            (goes_on (if_connected state relation tid ∷ []) (passes_unless (NoTuple relation tid) (ap is_some (found.finds.has told state is_in))) ∙ refuses_at [] is),
      )

  -- of what was found, by a record of its values
  module _ {mid : RssParts} {number : ℕ} {entry : RelationEntry} {was : List Value} {list : List Need} (found : FindsHeld parts mid t number relation tid Change [] was list) (known : IsNumberOf RelationKind parts.session.store.catalog.listing relation number) (at_mid : relation_at mid.session.store.catalog.listing number ≡ Some entry)
      (small : t < 2 ^ 32) (page : tid.page < 2 ^ 32) {fields : List FieldDef} {bytes : List ℕ} (is_fields : fields ≡ entry.fields) (spelled : Spells (kinds fields) bytes was) (short : IsShort bytes)
      (alone : IsTold parts.session.store.pages.disk → (state : State) → IsIn parts state → if_connected state relation tid ≡ None) where
    is_told : IsToldBy parts.session.store.catalog.listing (DeleteRecord number tid bytes) (deletion t relation tid was)
    is_told =
        let at = ap (λ (c : CatalogView). relation_at c.listing number) (sym found.looked.looks.catalog) ∙ at_mid in
        tells_delete known at t small tid page (subst (λ (f : List FieldDef). Spells (kinds f) bytes was) is_fields spelled) (found.finds.slot, short)

    -- it makes one change, which the rules alone refuse, where the tuple stands in no chain and has none
    last_of : IsTold parts.session.store.pages.disk → (state : State) → IsIn parts state → IsLast parts.session (granted t list parts.locks.locks) t (DeleteRecord number tid bytes) (Delete t relation tid) Done state
    last_of told state is_in =
        let change = deletion t relation tid was in
        let there = found.finds.has told state is_in in
        let fit = admitted told state is_in.shows in
        let listed : needs (now state) (Delete t relation tid) ≡ list = found.lists told state is_in in
        let rules : if_full state (Delete t relation tid) ≡ if_no_room state change = ap (λ (held : Option Content). option_and_then (if_no_room state) (option_map (deletion t relation tid) (values_in held))) there in
        let refuses : refusal state (Delete t relation tid) ≡ if_no_room state change = delete_there state t relation tid fit (free_as is_in (Delete t relation tid) listed found.claimed) (alone told state is_in) (ap is_some there) ∙ rules in
        record {
          change = change;
          by = refl;
          is_told = is_told;
          refuses = refuses;
          may = λ passes. may_make parts.session (locked (Delete t relation tid) state).locks is_in.kept is_told (sym there)
              (deletes t relation tid was state.meter.over (refuses ∙ passes) there (over_same state change));
          steps = λ passes over allowed. subst (λ (locks : Locks). Step state (Delete t relation tid) (Ok Done) (record (ruled change over state) { locks = locks })) (locked_as is_in (Delete t relation tid) listed t refl)
              (deletes t relation tid was over (refuses ∙ passes) there allowed);
        }

    pub delete_ends : EndsByChange parts (granted t list parts.locks.locks) t (DeleteRecord number tid bytes) (Delete t relation tid) Done
    delete_ends = record { last = last_of; short = omega arith; may = record { stop = delete_looks.may.stop; asks = refl; writes = refl }; saves = refl }
