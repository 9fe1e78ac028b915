use Rattle.std.proofs.Common.{◌≡◌, ◌∙◌, ◌++◌, [], ◌∷◌, List, length, refl, sym, arith, subst}
use Rattle.std.specs.Prelude.{All}
use Rattle.std.proofs.lemmas.List.{get_or_append_left, length-append}
use Rattle.std.proofs.Math.Seq.{get_or-append_seam}
use Rattle.rss_model.specs.Machine.{State}
use Rattle.rss_model.specs.Steps.{Step}
use Rattle.rss_model.specs.Steps.StepBy.{refuses, begins, saves, restores, ends, aborts, inserts, fetches, updates, deletes, connects, disconnects, finds, finds_none, opens, gives, stops, closes, locks, checkpoints, defines}
use Rattle.rss_model.specs.Callers.{caller}
use Rattle.rss_model.specs.Runs.{Turn, Run}
use Rattle.rss_model.specs.Runs.Run.{stays, turns}
use Rattle.rss_model.specs.Commits.{CommitsOnly, CommitsNothing}
use Rattle.rss_model.proofs.Committing.{refused_commits, defined_commits, defines_may, opened_commits, locked_base, left_base}
use Rattle.rss_model.proofs.laws.what_commits.Goals as goal

commits_so : CommitsOnly
commits_so old _ _ _ (refuses call why is) = left_base old call why ∙ sym (refused_commits old call why)
commits_so old _ _ _ (begins t is) = refl
commits_so old _ _ _ (saves t marks is has) = refl
commits_so old _ _ _ (restores t save marks over is has undo) = refl
commits_so old _ _ _ (ends t is) = refl
commits_so old _ _ _ (aborts t over is undo) = refl
commits_so old _ _ _ (inserts t relation values tid over is free counted) = refl
commits_so old _ _ _ (fetches t relation tid values is found) = refl
commits_so old _ _ _ (updates t relation tid was values over is found counted) = refl
commits_so old _ _ _ (deletes t relation tid was over is found counted) = refl
commits_so old _ _ _ (connects t link child parent spot over is counted) = refl
commits_so old _ _ _ (disconnects t link child item over is found counted) = refl
commits_so old _ _ _ (finds t link child parent item is has under) = refl
commits_so old _ _ _ (finds_none t link child is none) = refl
commits_so old _ _ _ (opens call t number path is by along low free) = locked_base (caller call) call old ∙ opened_commits old call path number along
commits_so old _ _ _ (gives t number scan given values is has next) = refl
commits_so old _ _ _ (stops t number scan is has next) = refl
commits_so old _ _ _ (closes t number is) = refl
commits_so old _ _ _ (locks t item exclusive is granule) = refl
commits_so old _ _ _ (checkpoints is) = refl
commits_so old _ _ _ (defines call definitions is names so) = defined_commits old call definitions so

pub returns-clause-commits : goal.returns-clause-commits
returns-clause-commits g = commits_so

step_keeps : {old new : State} (turn : Turn) → Step old turn.call turn.answer new → CommitsNothing turn → new.base ≡ old.base
step_keeps {old = old} turn (refuses call why is) none = left_base old call why
step_keeps turn (begins t is) none = refl
step_keeps turn (saves t marks is has) none = refl
step_keeps turn (restores t save marks over is has undo) none = refl
step_keeps turn (ends t is) none = absurd (none (tt {0}) refl)
step_keeps turn (aborts t over is undo) none = refl
step_keeps turn (inserts t relation values tid over is free counted) none = refl
step_keeps turn (fetches t relation tid values is found) none = refl
step_keeps turn (updates t relation tid was values over is found counted) none = refl
step_keeps turn (deletes t relation tid was over is found counted) none = refl
step_keeps turn (connects t link child parent spot over is counted) none = refl
step_keeps turn (disconnects t link child item over is found counted) none = refl
step_keeps turn (finds t link child parent item is has under) none = refl
step_keeps turn (finds_none t link child is off) none = refl
step_keeps {old = old} turn (opens call t number path is by along low free) none = locked_base (caller call) call old
step_keeps turn (gives t number scan given values is has next) none = refl
step_keeps turn (stops t number scan is has next) none = refl
step_keeps turn (closes t number is) none = refl
step_keeps turn (locks t item exclusive is granule) none = refl
step_keeps turn (checkpoints is) none = refl
step_keeps turn (defines call definitions is names so) none = absurd (none (defines_may call _ definitions so) refl)

module _ (made : List Turn) (turn : Turn) (all : All CommitsNothing (made ++ turn ∷ [])) where
  earlier : All CommitsNothing made
  earlier k d lt = subst CommitsNothing (get_or_append_left made (turn ∷ []) d k lt) (all k d (omega (arith, length-append made (turn ∷ []))))

  last : CommitsNothing turn
  last = subst CommitsNothing (get_or-append_seam made turn [] turn) (all (length made) turn (omega (arith, length-append made (turn ∷ []))))

run_keeps : {start new : State} {made : List Turn} → Run start made new → All CommitsNothing made → new.base ≡ start.base
run_keeps stays all = refl
run_keeps (turns {made = made} turn run step) all = step_keeps turn step (last made turn all) ∙ run_keeps run (earlier made turn all)

pub returns-clause-no_trace : goal.returns-clause-no_trace
returns-clause-no_trace g = λ start new made run all. run_keeps run all
