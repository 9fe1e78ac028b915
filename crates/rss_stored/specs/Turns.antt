-- A call on an engine: a step of the machine, and what a stop at each moment of it leaves.
use Rattle.rss_base.specs.DiskRule.{Disk, Passes}
use Rattle.rss_base.specs.declared.call.Call.{Call}
use Rattle.rss_model.specs.Machine.{State}
use Rattle.rss_model.specs.Steps.{Answer, Step}
use Rattle.rss_stored.specs.Store.{OpensTo, OpensToEither}

-- The call was answered. At each moment of it the pages open to the committed tables before or after.
pub record IsAnswered (earlier later : Disk) (old : State) (call : Call) (answer : Answer) (new : State) : Type 0 where
  pub step : Step old call answer new
  pub moments : Passes earlier later (OpensToEither old.size old.base new.base)

-- The device failed within a step that the call was to make.
pub record IsStopped (earlier later : Disk) (old : State) (call : Call) : Type 0 where
  pub answer : Answer
  pub next : State
  pub answered : IsAnswered earlier later old call answer next

-- Memory ran out within the call: at each moment of it the pages open to the committed tables.
abbrev pub IsUnmade : Disk → Disk → State → Type 0
IsUnmade earlier later old = Passes earlier later (λ pages. OpensTo pages old.size old.base)
