-- The machine's change of a tuple, and the record that tells it.
use Rattle.std.proofs.Common.{◌≡◌, ℕ, ◌^◌, ◌<◌, List, refl, sym, ap}
use Rattle.std.specs.Prelude.{Option, Some, unwrap_or}
use Rattle.rss_base.specs.Listings.{Listing, relation_at, IsNumberOf}
use Rattle.rss_base.specs.LogRecords.{IsChangeBounded}
use Rattle.rss_base.specs.TupleTypes.{kinds, Spells}
use Rattle.rss_base.specs.declared.change.Change as told
use Rattle.rss_base.specs.declared.change.Change.TheVariants.{Insert, Delete, Update}
use Rattle.rss_base.specs.declared.item.Item.TheVariants.{Tuple as TupleItem}
use Rattle.rss_base.specs.declared.name.Name.{Name}
use Rattle.rss_base.specs.declared.refusal.Kind.TheVariants.{Relation as RelationKind}
use Rattle.rss_base.specs.declared.relation.RelationEntry.{RelationEntry}
use Rattle.rss_base.specs.declared.tid.Tid.{Tid}
use Rattle.rss_base.specs.declared.value.Value.{Value}
use Rattle.rss_base.specs.declared.call.Call.{Call}
use Rattle.rss_model.specs.Changes.{Change}
use Rattle.rss_model.specs.Locks.{Locks}
use Rattle.rss_model.specs.Ruled.{ruled}
use Rattle.rss_model.specs.Steps.{Answer, Step}
use Rattle.rss_model.specs.Tables.{content}
use Rattle.rss_model.proofs.StepKeeping.{steps_keep, only_its_own}
use Rattle.rss_store.specs.Changing.{MayMake}
use Rattle.rss_session.specs.Sessions.{SessionView}
use Rattle.rss_model.specs.Items.{Values}
use Rattle.rss_model.specs.Kept.{Kept}
use Rattle.rss_stored.specs.LogLaws.{IsToldBy}
use Rattle.rss_model.specs.Machine.{State, now}
use Rattle.rss_model.specs.Meanings.{nameless, name_at, TellsValues}
use Rattle.rss_model.specs.Refusals.{insertion, deletion, replacement}

-- ---- changes that may be made

-- a change of what is there may be made, where some step makes it with as many overflow pages as there are
pub may_make : (view : SessionView) {state : State} {told_change : told.Change} {change : Change} {call : Call} {answer : Answer} (locks : Locks) → Kept state → IsToldBy view.store.catalog.listing told_change change → change.old ≡ content (now state).contents change.item
    → Step state call answer (record (ruled change state.meter.over state) { locks = locks }) → MayMake view.store state told_change change
may_make view {state = state} {change = change} locks kept is_told finds step =
    let after = steps_keep state _ _ _ step kept in
    record {
      told = is_told;
      finds = finds;
      alone = only_its_own after change state.changes refl;
      mixed = after.fit;
    }

-- ---- records

-- the relation of a number goes by its name
pub named_so : (listing : Listing) {relation : Name} (number : ℕ) → IsNumberOf RelationKind listing relation number → (tid : Tid) → TupleItem relation tid ≡ TupleItem (name_at RelationKind listing number) tid
named_so listing number known tid = ap (λ (name : Name). TupleItem name tid) (sym (ap (λ (o : Option Name). unwrap_or o (nameless number)) known))

-- bytes tell the values that they spell
pub tells_values : {listing : Listing} {number : ℕ} {entry : RelationEntry} → relation_at listing number ≡ Some entry → {bytes : List ℕ} {values : List Value} → Spells (kinds entry.fields) bytes values → TellsValues listing number bytes (Some (Values values))
tells_values {entry = entry} at {values = values} spelled = record { relation = entry; values = values; at = at; spells = spelled; is = refl }

-- the record of an update
pub tells_update : {listing : Listing} {relation : Name} {number : ℕ} {entry : RelationEntry} → IsNumberOf RelationKind listing relation number → relation_at listing number ≡ Some entry → (t : ℕ) → t < 2 ^ 32 → (tid : Tid) → tid.page < 2 ^ 32
    → {from to : List ℕ} {was values : List Value} → Spells (kinds entry.fields) from was → Spells (kinds entry.fields) to values → IsChangeBounded (Update number tid from to) → IsToldBy listing (Update number tid from to) (replacement t relation tid was values)
tells_update {listing = listing} {number = number} known at t small tid page from_so to_so bounded = record {
  tells = record { maker = refl; item = named_so listing number known tid };
  means = (tells_values at from_so, tells_values at to_so);
  spellable = record { bounded = bounded; fits = (small, page) };
}

-- that of a delete
pub tells_delete : {listing : Listing} {relation : Name} {number : ℕ} {entry : RelationEntry} → IsNumberOf RelationKind listing relation number → relation_at listing number ≡ Some entry → (t : ℕ) → t < 2 ^ 32 → (tid : Tid) → tid.page < 2 ^ 32
    → {bytes : List ℕ} {was : List Value} → Spells (kinds entry.fields) bytes was → IsChangeBounded (Delete number tid bytes) → IsToldBy listing (Delete number tid bytes) (deletion t relation tid was)
tells_delete {listing = listing} {number = number} known at t small tid page spelled bounded = record {
  tells = record { maker = refl; item = named_so listing number known tid };
  means = (tells_values at spelled, refl);
  spellable = record { bounded = bounded; fits = (small, page) };
}

-- and that of an insert
pub tells_insert : {listing : Listing} {relation : Name} {number : ℕ} {entry : RelationEntry} → IsNumberOf RelationKind listing relation number → relation_at listing number ≡ Some entry → (t : ℕ) → t < 2 ^ 32 → (tid : Tid) → tid.page < 2 ^ 32
    → {bytes : List ℕ} {values : List Value} → Spells (kinds entry.fields) bytes values → IsChangeBounded (Insert number tid bytes) → IsToldBy listing (Insert number tid bytes) (insertion t relation tid values)
tells_insert {listing = listing} {number = number} known at t small tid page spelled bounded = record {
  tells = record { maker = refl; item = named_so listing number known tid };
  means = (refl, tells_values at spelled);
  spellable = record { bounded = bounded; fits = (small, page) };
}
