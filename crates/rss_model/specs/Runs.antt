-- A run of the relation machine: steps, one after another.
use Rattle.std.specs.Prelude.{List, [], ◌∷◌, ◌++◌}
use Rattle.rss_base.specs.declared.call.Call.{Call}
use Rattle.rss_model.specs.Machine.{State}
use Rattle.rss_model.specs.Steps.{Answer, Step}

-- a call and its answer
pub record Turn : Type 0 where
  pub call : Call
  pub answer : Answer

pub data Run (start : State) : List Turn → State → Type 0 where
  stays : Run start [] start
  turns : {made : List Turn} {state : State} {new : State} (turn : Turn) → Run start made state → Step state turn.call turn.answer new → Run start (made ++ turn ∷ []) new
