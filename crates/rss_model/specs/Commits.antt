-- What a run of the machine commits.
use Rattle.std.specs.Prelude.{◌≡◌, true, List, unwrap_or, Ok, All, ⊤}
use Rattle.rss_base.specs.declared.call.Call.{Call}
use Rattle.rss_base.specs.declared.call.Call.TheVariants.{End}
use Rattle.rss_base.specs.declared.answer.Reply.TheVariants.{Ok as Done}
use Rattle.rss_model.specs.Tables.{Tables}
use Rattle.rss_model.specs.Changes.{own}
use Rattle.rss_model.specs.Machine.{State, with_changes}
use Rattle.rss_model.specs.Callers.{is_definition}
use Rattle.rss_model.specs.Defining.{defined}
use Rattle.rss_model.specs.Steps.{Answer, Step}
use Rattle.rss_model.specs.Runs.{Turn, Run}

-- The committed tables after a call: where it ended a transaction, with that transaction's own changes; where it was a definition, with that; else as they were.
abbrev pub committed : State → Call → Answer → Tables
committed old (End t) (Ok Done) = with_changes old.base (own t old.changes)
committed old call (Ok Done) = unwrap_or (defined call old.base) old.base
committed old call answer = old.base

-- the calls that commit, where they are answered
abbrev pub MayCommit : Call → Type 0
MayCommit (End t) = ⊤
MayCommit call = is_definition call ≡ true

-- the turn committed nothing
abbrev pub CommitsNothing : Turn → Type 0
CommitsNothing turn = MayCommit turn.call → turn.answer ≡ Ok Done → ⊥

-- a step commits what is said above, and nothing else
abbrev pub CommitsOnly : Type 0
CommitsOnly = (old new : State) (call : Call) (answer : Answer) → Step old call answer new → new.base ≡ committed old call answer

-- turns that commit nothing leave the committed tables, whatever they changed
abbrev pub OpenLeavesNoTrace : Type 0
OpenLeavesNoTrace = (start last : State) (turns : List Turn) → Run start turns last → All CommitsNothing turns → last.base ≡ start.base
