-- What the calls do.
use Rattle.rss_base.specs.declared.call.Call.{Call}
use Rattle.rss_model.specs.Machine.{State}
use Rattle.rss_model.specs.Steps.{Answer, StepBy}
use Rattle.rss_plain.specs.Judging.{is_of_room, refusal_but}
use Rattle.rss_plain.specs.Seen.{Seen, IsSeenOf}

-- From each state that is seen so, a step with this answer leads to one that is seen as the new one.
abbrev pub Makes : Seen → Call → Answer → Seen → Type 0
Makes old call answer new =
    (state : State) → IsSeenOf old state
    → (next : State) × StepBy (refusal_but is_of_room) state call answer next × IsSeenOf new next
