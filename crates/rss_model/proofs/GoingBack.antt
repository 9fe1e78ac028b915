-- How the calls are answered that take a transaction back or end it, and how a checkpoint is.
use Rattle.std.proofs.Common.{◌≡◌, ◌⊎◌, inl, inr, Bool, true, false, [], ◌∷◌, refl, sym, ◌∙◌, ap}
use Rattle.std.specs.Prelude.{nat_le, nat_lt, if◌then◌else◌, Some, None, Ok, Err}
use Rattle.std.proofs.lemmas.Bool.{le-leb}
use Rattle.std.proofs.lemmas.Option.{same_Some}
use Rattle.rss_base.specs.declared.call.Call.{Call}
use Rattle.rss_base.specs.declared.call.Call.TheVariants.{Restore, End, Abort, Checkpoint}
use Rattle.rss_base.specs.declared.answer.Reply.TheVariants.{Ok as Done}
use Rattle.rss_base.specs.declared.refusal.Refusal.{Refusal}
use Rattle.rss_base.specs.declared.refusal.Refusal.TheVariants.{NoTransaction, NoSave, LogFull}
use Rattle.rss_model.specs.Meter.{owed, log_room}
use Rattle.rss_model.specs.Machine.{State}
use Rattle.rss_model.specs.Rules.{saved_now}
use Rattle.rss_model.specs.Scans.{Path}
use Rattle.rss_model.specs.Defining.{refused_unless}
use Rattle.rss_model.specs.Refusals.{Answer, first_of, saves_of, refusal}
use Rattle.rss_model.specs.Steps.{Step, path_of}
use Rattle.rss_model.specs.Steps.StepBy.{refuses, begins, saves, restores, ends, aborts, inserts, fetches, updates, deletes, connects, disconnects, finds, finds_none, opens, gives, stops, closes, locks, checkpoints, defines}
use Rattle.rss_model.specs.WaysBack.{IsWayBack, LacksLog, WaysBackSucceed, CheckpointsSucceed}
use Rattle.rss_model.proofs.LogLists.{none_some}

-- a call whose one reply is that it was done
IsPlain : Call → Type 0
IsPlain (Restore t save) = Unit {0}
IsPlain (End t) = Unit {0}
IsPlain (Abort t) = Unit {0}
IsPlain Checkpoint = Unit {0}
IsPlain call = ⊥

opens_none : (call : Call) (path : Path) → path_of call ≡ Some path → IsPlain call → ⊥
unfolding IsPlain
opens_none (Restore t save) path along plain = none_some along
opens_none (End t) path along plain = none_some along
opens_none (Abort t) path along plain = none_some along
opens_none Checkpoint path along plain = none_some along
opens_none call path along plain = plain

-- it was done, or refused
IsDone : State → Call → Answer → Type 0
IsDone state call answer =
    (answer ≡ Ok Done) ⊎ ((why : Refusal) × (answer ≡ Err why) × (refusal state call ≡ Some why))

done : (old : State) (call : Call) (answer : Answer) (new : State) → Step old call answer new → IsPlain call → IsDone old call answer
unfolding IsPlain IsDone
done old _ _ _ (refuses call why is) plain = inr (why, refl, is)
done old _ _ _ (begins t is) plain = inl refl
done old _ _ _ (saves t marks is has) plain = absurd plain
done old _ _ _ (restores t save marks over is has undo) plain = inl refl
done old _ _ _ (ends t is) plain = inl refl
done old _ _ _ (aborts t over is undo) plain = inl refl
done old _ _ _ (inserts t relation values tid over is free counted) plain = absurd plain
done old _ _ _ (fetches t relation tid values is found) plain = absurd plain
done old _ _ _ (updates t relation tid was values over is found counted) plain = inl refl
done old _ _ _ (deletes t relation tid was over is found counted) plain = inl refl
done old _ _ _ (connects t link child parent spot over is counted) plain = inl refl
done old _ _ _ (disconnects t link child item over is found counted) plain = inl refl
done old _ _ _ (finds t link child parent item is has under) plain = absurd plain
done old _ _ _ (finds_none t link child is none) plain = absurd plain
done old _ _ _ (opens call t number path is by along low free) plain = absurd (opens_none call path along plain)
done old _ _ _ (gives t number scan given values is has next) plain = absurd plain
done old _ _ _ (stops t number scan is has next) plain = absurd plain
done old _ _ _ (closes t number is) plain = inl refl
done old _ _ _ (locks t item exclusive is granule) plain = inl refl
done old _ _ _ (checkpoints is) plain = inl refl
done old _ _ _ (defines call tables is names so) plain = inl refl

-- ---- ways back

-- such a call passes its tests
IsPassed : State → Call → Type 0
IsPassed state call = IsPlain call × (refusal state call ≡ None)

passes : (state : State) (call : Call) → IsWayBack state call → IsPassed state call
unfolding IsPlain IsPassed
passes state (End t) back = (tt, ap (λ (b : Bool). first_of (refused_unless b NoTransaction ∷ [])) back)
passes state (Abort t) back = (tt, ap (λ (b : Bool). first_of (refused_unless b NoTransaction ∷ [])) back)
passes state (Restore t save) back = (
  tt,
  ap (λ (b : Bool). first_of (refused_unless b NoTransaction ∷ refused_unless (nat_le save (saves_of state t)) NoSave ∷ [])) back.0
      ∙ ap (λ (b : Bool). first_of (refused_unless b NoSave ∷ [])) (le-leb _ _ back.1),
)
passes state call back = absurd back

succeeds : (state : State) (call : Call) (answer : Answer) → refusal state call ≡ None → IsDone state call answer → answer ≡ Ok Done
unfolding IsDone
succeeds state call answer passed (inl is) = is
succeeds state call answer passed (inr refused) = none_some (sym passed ∙ refused.2)

pub ways_back_succeed : WaysBackSucceed
unfolding IsPassed
ways_back_succeed old new call answer step back =
    let passed = passes old call back in
    succeeds old call answer passed.1 (done old call answer new step passed.0)

-- ---- a checkpoint

lacks : (lacking : Bool) (need why : Refusal) → first_of ((if lacking then Some need else None) ∷ []) ≡ Some why → why ≡ need
lacks true need why is = sym (same_Some _ _ is)
lacks false need why is = none_some is

saved : (state : State) (answer : Answer) → IsDone state Checkpoint answer → (answer ≡ Ok Done) ⊎ LacksLog state answer
unfolding IsDone
saved state answer (inl is) = inl is
saved state answer (inr refused) =
    let free = log_room state.size.log_pages (saved_now state) in
    let need = owed state.meter.stamps in
    inr (refused.1 ∙ ap Err (lacks (nat_lt free need) (LogFull free need) refused.0 refused.2))

pub checkpoints_succeed : CheckpointsSucceed
unfolding IsPlain
checkpoints_succeed old new answer step = saved old answer (done old Checkpoint answer new step tt)
