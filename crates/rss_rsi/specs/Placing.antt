-- The identifier that a new tuple gets.
use Rattle.std.specs.Prelude.{◌≡◌, ℕ, List, [], Some, None, Result, Ok, Err}
use Rattle.rss_base.specs.Answers.{page_error}
use Rattle.rss_base.specs.DiskRule.{IsTold}
use Rattle.rss_base.specs.Listings.{relation_at}
use Rattle.rss_base.specs.declared.answer.CallError.{CallError}
use Rattle.rss_base.specs.declared.call.Call.{Call}
use Rattle.rss_base.specs.declared.fault.PageFault.{PageFault}
use Rattle.rss_base.specs.declared.refusal.LimitKind.TheVariants.{Identifiers}
use Rattle.rss_base.specs.declared.refusal.Refusal.TheVariants.{Limit}
use Rattle.rss_base.specs.declared.relation.RelationEntry.{RelationEntry}
use Rattle.rss_base.specs.declared.tid.Tid.{Tid}
use Rattle.rss_tuple.specs.Placing.{IsChosen, IsNameable}
use Rattle.rss_stored.specs.Calls.{AreBarred}
use Rattle.rss_model.specs.Costs.{most_asks, most_writes}
use Rattle.rss_model.specs.Machine.{State}
use Rattle.rss_model.specs.Steps.{IsFree, refusal}
use Rattle.rss_session.specs.Looks.{LooksOn}
use Rattle.rss_session.specs.Sessions.{SessionView}
use Rattle.rss_rsi.specs.Looking.{MayStop}
use Rattle.rss_rsi.specs.Views.{RssParts, IsIn}

-- a look for an identifier, by the result
pub record FailsToLook (T : Type 0) (old new : SessionView) (why : CallError) : Type 0 where
  pub fault : PageFault
  pub is : why ≡ page_error fault
  pub looks : LooksOn {T = T} old new (Err fault)

abbrev pub LooksAnyhow : {T : Type 0} → SessionView → SessionView → Result T CallError → Type 0
LooksAnyhow old new (Ok found) = LooksOn old new (Ok found)
LooksAnyhow {T = T} old new (Err why) = FailsToLook T old new why

-- the relation of this number is listed, and the engine is in this state
pub record IsRelationIn (parts : RssParts) (number : ℕ) (relation : RelationEntry) (state : State) : Type 0 where
  pub told : IsTold parts.session.store.pages.disk
  pub is_in : IsIn parts state
  pub at : relation_at parts.session.store.catalog.listing number ≡ Some relation

-- It is free for a new tuple of a transaction in the relation of this number, and it is the one that the placing rule names for a body of this length, where those are barred that others hold.
pub record IsPlaceFor (parts : RssParts) (t number length : ℕ) (tid : Tid) : Type 0 where
  pub named : IsNameable parts.session.store.pages.slots [] tid
  pub free : (relation : RelationEntry) (state : State) → IsRelationIn parts number relation state
      → IsFree state t relation.name tid
  pub chosen : (relation : RelationEntry) (state : State) → IsRelationIn parts number relation state
      → (barred : List Tid) → AreBarred state t relation.name barred
      → IsChosen parts.session.store.pages relation.segment length barred tid

-- a call of which it isn't said what it may cost
pub record MayCost (call : Call) : Type 0 where
  pub stop : MayStop call
  pub asks : most_asks call ≡ None
  pub writes : most_writes call ≡ None

-- a call that puts a new tuple of the relation: once it is admitted, it is refused where no identifier is free
pub record PlacesTuple (parts : RssParts) (t number : ℕ) (call : Call) : Type 0 where
  pub may : MayCost call
  pub lacks : (relation : RelationEntry) (state : State) → IsRelationIn parts number relation state
      → ((tid : Tid) → IsFree state t relation.name tid → ⊥) → refusal state call ≡ Some (Limit Identifiers)
