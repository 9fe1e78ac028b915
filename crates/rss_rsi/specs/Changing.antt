-- What comes of a change of a tuple: by the rules on room and on the log, and by the device.
use Rattle.std.specs.Prelude.{◌≡◌, ℕ, ◌+◌, Option, Some, None, Result, Ok, Err, ⊤}
use Rattle.rss_base.specs.DiskRule.{IsTold}
use Rattle.rss_base.specs.Faults.{Rises}
use Rattle.rss_base.specs.declared.answer.CallError.{CallError}
use Rattle.rss_base.specs.declared.answer.CallError.TheVariants.{Refused, Damaged, Device, NoMemory, Down}
use Rattle.rss_base.specs.declared.change.Change as told
use Rattle.rss_base.specs.declared.refusal.Refusal.{Refusal}
use Rattle.rss_model.specs.Changes.{Change}
use Rattle.rss_stored.specs.LogLaws.{IsToldBy}
use Rattle.rss_model.specs.Machine.{State}
use Rattle.rss_model.specs.ReplyText.{IsShort}
use Rattle.rss_model.specs.Rules.{if_no_room}
use Rattle.rss_session.specs.Sessions.{SessionView}
use Rattle.rss_session.specs.Shown.{Shows}
use Rattle.rss_session.specs.Calls.{GoesOnIf, KeepsTables, Makes, MayNotMake}
use Rattle.rss_rsi.specs.Views.{RssParts, IsReady}

-- A call is being made, the one of this number: before it another call could be made.
pub record IsAsked (parts : RssParts) (calls : ℕ) : Type 0 where
  pub before : ℕ
  pub ready : IsReady parts before
  pub counted : calls ≡ before + 1

-- On a device that tells its contents the rules say this of each change of a transaction that this record tells, in each state in which the session may be.
abbrev pub RulesSay : SessionView → ℕ → told.Change → Option Refusal → Type 0
RulesSay view t told_change why =
    IsTold view.store.pages.disk → (state : State) (change : Change) → change.by ≡ t
    → IsToldBy view.store.catalog.listing told_change change → Shows view state
    → if_no_room state change ≡ why

-- The rules let it through, and it is made from each state in which it may be.
pub record IsMade (old new : SessionView) (t : ℕ) (told_change : told.Change) : Type 0 where
  pub passes : RulesSay old t told_change None
  pub makes : IsTold old.store.pages.disk → Makes old new t told_change

-- each state that was shown still is
abbrev pub StillShows : SessionView → SessionView → Type 0
StillShows old new = (state : State) → Shows old state → Shows new state

-- The rules refuse it so, by a line that is short, and nothing is changed.
pub record IsRefused (old new : SessionView) (t : ℕ) (told_change : told.Change) (why : Refusal) : Type 0 where
  pub refuses : RulesSay old t told_change (Some why)
  pub short : IsShort (Err why)
  pub still : StillShows old new

-- The rules let it through, and there is damage, which no state shows in which it may be made.
pub record FindsDamage (old : SessionView) (t : ℕ) (told_change : told.Change) : Type 0 where
  pub passes : RulesSay old t told_change None
  pub sound : IsTold old.store.pages.disk → MayNotMake old t told_change

-- How a change ends, by the result, and whether the engine is up then. Where memory runs out, nothing is changed.
abbrev pub ChangeEnds : {T : Type 0} → SessionView → SessionView → Type 0 → ℕ → told.Change → Result T CallError → Type 0
ChangeEnds old new up t told_change (Ok done) = up × IsMade old new t told_change
ChangeEnds old new up t told_change (Err (Refused why)) = up × IsRefused old new t told_change why
ChangeEnds old new up t told_change (Err Device) =
    (up → ⊥) × Rises old.store.pages.faults new.store.pages.faults
ChangeEnds old new up t told_change (Err (Damaged place)) =
    (up → ⊥) × FindsDamage old t told_change
ChangeEnds old new up t told_change (Err NoMemory) = up × StillShows old new
ChangeEnds old new up t told_change (Err Down) = ⊥

-- A change, by its result. Whatever came of it, a stop leaves the committed tables at each moment. Where the engine is up and no checkpoint was taken nothing is saved.
pub record IsChangeOf {T : Type 0} (old new : SessionView) (up : Type 0) (t : ℕ) (told_change : told.Change) (result : Result T CallError) : Type 0 where
  pub ends : ChangeEnds old new up t told_change result
  pub moments : KeepsTables old new
  pub goes : GoesOnIf {T = ⊤} (up × (new.store.root.checkpoint ≡ old.store.root.checkpoint)) old new (Ok tt)
