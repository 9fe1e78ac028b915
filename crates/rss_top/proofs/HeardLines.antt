-- What a line gets, how it is told, and how much of it is kept.
use Rattle.std.proofs.Common.{◌≡◌, ℕ, List, Option, length, refl, subst, arith, ◌≤◌, Result, Ok, Err, ◌∙◌, ap, IsErrAnd, inl, inr, ◌+◌, take, length-take, take_all}
use Rattle.std.proofs.lemmas.Result.{err_from_is_err_and}
use Rattle.rss_base.specs.DiskRule.{IsTold}
use Rattle.rss_base.specs.declared.name.Name.{Name}
use Rattle.rss_base.specs.declared.call.Call.{Call}
use Rattle.rss_base.proofs.Moments.{started}
use Rattle.rss_base.specs.Streams.{Stream, TakesSome}
use Rattle.rss_model.specs.Machine.{State}
use Rattle.rss_model.specs.Steps.{Answer}
use Rattle.rss_model.specs.Variables.{Variable}
use Rattle.rss_model.specs.Forms.{Spells, IsBlank, IsWords}
use Rattle.rss_model.specs.Plays.{LineStep, bound, one_turn, Scene, Made}
use Rattle.rss_model.specs.Plays.LineStep.{blank, words, call}
use Rattle.rss_stored.specs.Calls.{EngineView, GoesOn, OpensShown}
use Rattle.rss_top.specs.Lines.{world, IsCallEnd, IsAsked, IsLineEnd, IsUnheard, HearsTo, Hears, View, told_over, seen, PassesOn, StepDone, LineDone, LineStopped, LineEnds, RunsLine}
use Rattle.rss_top.specs.declared.heard.Heard.{Heard}
use Rattle.rss_top.specs.declared.heard.Heard.TheVariants.{Blank, NoCall, Called}
use Rattle.rss_top.specs.declared.status.Status.{Status}
use Rattle.rss_top.specs.declared.status.Status.TheVariants.{NoMemory}
use Rattle.rss_top.proofs.Endings.{by_stop, written_some}
use Rattle.rss_base.proofs.Flows.{some_none}
use Rattle.rss_top.specs.Heard.{made_of}
use Rattle.rss_top.specs.Manners.{Line, IsEnough}
use Rattle.rss_top.specs.Tellings.{Telling, told_by, ToldMove, plainly, talking}
use Rattle.rss_top.specs.Says.{IsWritten, Writes}
use Rattle.std.proofs.lemmas.Bool.{cases_lt}
use Rattle.rss_lines.specs.Lines.{script_limit}
use Rattle.rss_model.specs.Script.{line_limit}

-- ---- no call was made

hears_idly : (engine : EngineView) (names after : List Variable) (line : List ℕ) (result : Result Heard Status) → HearsTo engine engine names after line result → Hears engine engine names after line result
hears_idly engine names after line result outcome = record { told = λ told. told; history = λ told. started _ _; later = omega arith; calls = omega arith; outcome = outcome }

-- memory ran out before one was
pub hears_nothing : (engine : EngineView) (names after : List Variable) (line : List ℕ) → Hears engine engine names after line (Err NoMemory)
hears_nothing engine names after line = hears_idly engine names after line (Err NoMemory) (λ sink. tt, λ told state shown. started _ _)

module _ (engine : EngineView) (up : engine.is_up) (names : List Variable) {line : List ℕ} where
  pub hears_blank : IsBlank line → Hears engine engine names names line (Ok Blank)
  hears_blank is = hears_idly engine names names line (Ok Blank) (up, omega arith, λ told state shown. record { next = state; shows = shown; done = record { step = blank is; moments = started _ _ } })

  pub hears_words : IsWords names line → Hears engine engine names names line (Ok NoCall)
  hears_words is = hears_idly engine names names line (Ok NoCall) (up, omega arith, λ told state shown. record { next = state; shows = shown; done = record { step = words is; moments = started _ _ } })

-- ---- a call

-- what came of a call goes on as it does
hears_by : {old new : EngineView} {made : Call} (names after : List Variable) (line : List ℕ)
    (result : Result Heard Status) → GoesOn old new made → HearsTo old new names after line result
    → Hears old new names after line result
hears_by names after line result goes outcome =
    record { told = goes.told; history = goes.history; later = goes.later; calls = goes.calls; outcome = outcome }

module _ (old new : EngineView) {names : List Variable} {variable : Option Name} (made : Call) {line : List ℕ} (spells : Spells names line variable made) where
  -- it was answered
  pub hears_answer : {after : List Variable} {answer : Answer} → after ≡ bound names variable answer → IsAsked old new made (Ok answer) → Hears old new names after line (Ok (Called made answer))
  hears_answer {after = after} {answer = answer} is asked =
      hears_by names after line (Ok (Called made answer)) asked.goes (
        asked.outcome.up,
        asked.outcome.short,
        λ told state shown.
            let turn = asked.outcome.answered told state shown in
            record {
              next = turn.next;
              shows = turn.shows;
              done = record {
                step = rw is (call spells turn.answered.step);
                moments = turn.answered.moments;
              };
            },
      )

  -- it got a status
  unanswered : (status : Status) → IsCallEnd old new made (Err status)
      → ((sink : Stream) → IsLineEnd (world old sink) (world new sink) status) × (IsTold old.disk → (state : State) → old.shows state → IsUnheard old new names state line status)
  unanswered status end = by_stop (λ s. ((sink : Stream) → IsLineEnd (world old sink) (world new sink) s) × (IsTold old.disk → (state : State) → old.shows state → IsUnheard old new names state line s)) status
      (λ fault. (
        λ sink. fault.cause,
        λ told state shown.
            let stop = fault.stopped told state shown in
            record {
              said = one_turn made stop.answer;
              next = record { state = stop.next; names = bound names variable stop.answer };
              done = record { step = call spells stop.answered.step; moments = stop.answered.moments };
            },
      ))
      (λ never. absurd never)
      (λ lacked. (λ sink. tt, λ told state shown. lacked.unmade told state shown))
      (λ place damaged. (λ sink. tt, λ told state shown. absurd (damaged.sound told state shown)))
      end

  pub hears_status : (after : List Variable) {status : Status} (result : Result Heard Status)
      → IsErrAnd result (λ why. why ≡ status) → IsAsked old new made (Err status)
      → Hears old new names after line result
  hears_status after {status = status} result is asked =
      let why = err_from_is_err_and result is in
      rw (why.1 ∙ ap Err why.2) (hears_by names after line (Err status) asked.goes (unanswered status asked.outcome))

module _ (telling : Telling) (names after : List Variable) (memory : telling.Memory) (old new : EngineView) (line : List ℕ) where
  -- what was told before, and an engine behind the line
  abbrev before : Stream → View (told_by telling)
  before sink = seen (told_over telling names memory old) sink

  abbrev behind : telling.Memory → Stream → View (told_by telling)
  behind later sink = seen (told_over telling after later new) sink

  -- what is made of a step
  abbrev told_made : Made → Made
  told_made said = record { turns = said.turns; text = telling.told memory line said }

  done_told : {state : State} {said : Made} {next : Scene} (later : telling.Memory) → later ≡ telling.after memory said → StepDone old.disk new.disk (record { state = state; names = names }) line said next
      → LineDone (told_by telling) old.disk new.disk (record { state = state; memory = record { names = names; memory = memory } }) (Line line) (told_made said) (record { state = next.state; memory = record { names = next.names; memory = later } })
  done_told {said = said} later is done = record { move = record { said = said; step = done.step; turns = refl; text = refl; memory = is }; moments = done.moments }

  passes_told : {before_sink after_sink : Stream} {result : Result Heard Status} → Hears old new names after line result → before_sink.faults ≤ after_sink.faults → TakesSome before_sink.bytes after_sink.bytes → PassesOn (world old before_sink) (world new after_sink)
  passes_told hears later said = record { told = hears.told; history = hears.history; device = hears.later; sink = later; said = said }

  -- ---- it got nothing

  stop_told : (later : telling.Memory) (sink : Stream) (state : State) (status : Status) → IsUnheard old new names state line status → LineStopped (before sink) (behind later sink) state (Line line) status
  stop_told later sink state status stop = by_stop (LineStopped (before sink) (behind later sink) state (Line line)) status
      (λ stop. record {
        made = told_made stop.said;
        next = record { state = stop.next.state; memory = record { names = stop.next.names; memory = telling.after memory stop.said } };
        done = done_told (telling.after memory stop.said) refl stop.done;
        same = refl;
      })
      (λ never. absurd never)
      (λ moments. record { moments = moments; same = refl })
      (λ place never. absurd never)
      stop

  pub line_stopped : {T : Type 0} (later : telling.Memory) (sink : Stream) (status : Status) → Hears old new names after line (Err status) → RunsLine {T = T} (before sink) (behind later sink) line (Err status)
  line_stopped later sink status hears = record {
    passes = passes_told hears (omega arith) (some_none _);
    calls = hears.calls;
    outcome = (hears.outcome.0 sink, λ told state shown. stop_told later sink state status (hears.outcome.1 told state shown));
  }

  -- ---- it got something, which was told

  module _ (later : telling.Memory) (text : List ℕ) (sink end : Stream) {heard : Heard} (hears : Hears old new names after line (Ok heard)) (opens : new.is_up → IsTold new.disk → OpensShown new)
      (told : text ≡ telling.told memory line (made_of heard)) (is : later ≡ telling.after memory (made_of heard)) where
    -- by how the writing of it ended
    ends_by : {T : Type 0} (result : Result T Status) → IsWritten (telling.told memory line (made_of heard)) sink end result → LineEnds (before sink) (behind later end) (Line line) result
    ends_by (Ok done) takes = (
      hears.outcome.0,
      λ known state shown.
          let step = hears.outcome.2 known state shown in
          record {
            made = told_made (made_of heard);
            next = step.next;
            shows = step.shows;
            done = done_told later is step.done;
            opens = opens hears.outcome.0 (hears.told known) step.next step.shows;
            takes = takes;
          },
    )
    ends_by {T = T} (Err status) written = by_stop (λ s. LineEnds {T = T} (before sink) (behind later end) (Line line) (Err s)) status
        (λ never. absurd never)
        (λ cut. (
          cut.1,
          λ known state shown.
              let step = hears.outcome.2 known state shown in
              record {
                made = told_made (made_of heard);
                next = record { state = step.next; memory = record { names = after; memory = later } };
                done = done_told later is step.done;
                opens = opens hears.outcome.0 (hears.told known) step.next step.shows;
                takes = cut.0;
              },
        ))
        (λ never. absurd never)
        (λ place never. absurd never)
        written

    pub line_told : {T : Type 0} (result : Result T Status) → Writes text sink end result → RunsLine (before sink) (behind later end) line result
    line_told {T = T} result wrote =
        let writes = rw told at wrote in
        record {
          passes = passes_told hears writes.later (written_some _ sink end result writes.outcome);
          calls = hears.calls;
          outcome = ends_by result writes.outcome;
        }

-- ---- how much of a line is kept

-- one byte more than a line may have
abbrev pub kept_limit : ℕ
kept_limit = line_limit + 1

-- a line that is too long is words
too_long : {names : List Variable} {line : List ℕ} → kept_limit ≤ length line → IsWords names line
too_long {line = line} long = record {
  some = λ blank. omega (arith, blank.short, long);
  no_call = λ variable made spells. omega (arith, spells.short, long);
}

as_words : {old new : Scene} {made : Made} {line front : List ℕ} → kept_limit ≤ length line → kept_limit ≤ length front → LineStep old front made new → LineStep old line made new
as_words long kept (blank empty) = absurd (omega (arith, empty.short, kept))
as_words long kept (words is) = words (too_long long)
as_words long kept (call spells step) = absurd (omega (arith, spells.short, kept))

-- what the kept front of a line does is what the line does
step_whole : {old new : Scene} {made : Made} (line : List ℕ) → LineStep old (take kept_limit line) made new → LineStep old line made new
step_whole {old = old} {new = new} {made = made} line step = elim (cases_lt (length line) kept_limit) [
  | inl lt ↦ subst (λ (l : List ℕ). LineStep old l made new) (take_all kept_limit line (omega arith)) step
  | inr long ↦ as_words long (omega (arith, length-take kept_limit line)) step
]

-- Where only its reply is told, so much of a line is enough.
pub plainly_enough : IsEnough (told_by plainly) kept_limit
plainly_enough = record {
  does = λ from next line made short move. record { said = move.said; step = step_whole line move.step; turns = move.turns; text = move.text; memory = move.memory };
}

-- Where it is told itself, all that a script may have.
pub talking_enough : IsEnough (told_by talking) script_limit
talking_enough = record {
  does = λ from next line made short move. subst (λ (l : List ℕ). ToldMove talking from l made next) (take_all script_limit line short) move;
}
