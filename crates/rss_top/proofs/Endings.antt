-- The ways in which moves end, and the run.
use Rattle.std.proofs.Common.{◌≡◌, ◌⊎◌, ℕ, ◌≤◌, List, length, take, sym, ap, subst, arith, inl, inr, ◌<◌, Option, Some, refl, length-append, Result, Ok, Err}
use Rattle.rss_base.specs.DiskRule.{Disk}
use Rattle.rss_base.specs.Faults.{Rises}
use Rattle.rss_base.specs.declared.place.Place.{Place}
use Rattle.rss_base.proofs.Moments.{started, continues_then, rises_since}
use Rattle.rss_base.specs.Streams.{Stream, Takes, TakesFront, TakesSome, Gives, IsAllOf}
use Rattle.rss_base.proofs.Flows.{some_none, some_then, some_last}
use Rattle.rss_model.specs.Machine.{State}
use Rattle.rss_model.specs.Plays.{Made}
use Rattle.rss_model.specs.ReplyText.{damaged_line}
use Rattle.rss_top.specs.Run.{World, ByStop, Beginning, Story, Stopped, Whole, IsTaken, Ended, IsHalt, IsStop, IsReadThrough}
use Rattle.rss_top.specs.Says.{IsWritten, Says, TellsDamage}
use Rattle.rss_top.specs.Says.IsSaid.{said, cut, unsaid}
use Rattle.rss_lines.specs.Lines.{script_limit}
use Rattle.rss_top.specs.Manners.{Manner, Stand, Line, IsEnough}
use Rattle.rss_top.specs.Lines.{View, PassesOn, IsLineEnd, LineDone, LineRan, RunsLine, LineStopped, IsScriptEnd}
use Rattle.rss_top.specs.declared.status.Status.{Status}
use Rattle.rss_top.specs.declared.status.Status.TheVariants.{Ok as Done, WriteFault, DeviceFault, NotAStore, Damaged, NoMemory, TooLong}

-- a move ends a run in four ways
pub by_stop : {device sink memory damage : Type 0} (P : Status → Type 0) (status : Status) → (device → P DeviceFault) → (sink → P WriteFault) → (memory → P NoMemory) → ((place : Place) → damage → P (Damaged place)) → ByStop device sink memory damage status → P status
by_stop P DeviceFault device sink memory damage stop = device stop
by_stop P WriteFault device sink memory damage stop = sink stop
by_stop P NoMemory device sink memory damage stop = memory stop
by_stop P (Damaged place) device sink memory damage stop = damage place stop
by_stop P status device sink memory damage stop = absurd stop

-- nothing was done
pub idles : (world : World) → PassesOn world world
idles world = record { told = λ told. told; history = λ told. started _ _; device = omega arith; sink = omega arith; said = some_none _ }

pub passes_then : {old mid new : World} → PassesOn old mid → PassesOn mid new → PassesOn old new
passes_then first second = record {
  told = λ told. second.told (first.told told);
  history = λ told. continues_then (first.history told) (second.history (first.told told));
  device = omega (arith, first.device, second.device);
  sink = omega (arith, first.sink, second.sink);
  said = some_then first.said second.said;
}

-- the cause of a status, seen from before
pub end_since : {old mid : World} (new : World) (status : Status) → PassesOn old mid → IsLineEnd mid new status → IsLineEnd old new status
end_since {old = old} new status passes cause = by_stop (IsLineEnd old new) status (λ rises. rises_since passes.device rises) (λ rises. rises_since passes.sink rises) (λ _. tt) (λ place damage. tt) cause

-- some of its line is written in any case
pub written_some : {T : Type 0} (line : List ℕ) (before after : Stream) (result : Result T Status) → IsWritten line before after result → TakesSome before.bytes after.bytes
written_some line before after (Ok done) takes = record { said = line; takes = takes }
written_some line before after (Err status) written = by_stop (λ s. TakesSome before.bytes after.bytes) status (λ never. absurd never) (λ stop. record { said = stop.0.front; takes = stop.0.takes }) (λ never. absurd never) (λ place never. absurd never) written

-- ---- the front of a line, of which so much is kept that it does what the line does

module _ {manner : Manner} {keep : ℕ} (enough : IsEnough manner keep) (line : List ℕ) (short : length line ≤ script_limit) where
  done_whole : {earlier later : Disk} {old next : Stand manner.Memory} {made : Made} → LineDone manner earlier later old (Line (take keep line)) made next → LineDone manner earlier later old (Line line) made next
  done_whole done = record { move = enough.does _ _ line _ short done.move; moments = done.moments }

  module _ (old new : View manner) (state : State) where
    ran_whole : LineRan old new state (Line (take keep line)) → LineRan old new state (Line line)
    ran_whole ran = record { made = ran.made; next = ran.next; shows = ran.shows; done = done_whole ran.done; opens = ran.opens; takes = ran.takes }

    stopped_whole : (status : Status) → LineStopped old new state (Line (take keep line)) status → LineStopped old new state (Line line) status
    stopped_whole status stop = by_stop (LineStopped old new state (Line line)) status
        (λ stop. record { made = stop.made; next = stop.next; done = done_whole stop.done; same = stop.same })
        (λ stop. record { made = stop.made; next = stop.next; done = done_whole stop.done; opens = stop.opens; takes = stop.takes })
        (λ stop. stop)
        (λ place never. absurd never)
        stop

  pub runs_whole : {T : Type 0} {old new : View manner} {front : List ℕ} (result : Result T Status) → front ≡ take keep line → RunsLine old new front result → RunsLine old new line result
  runs_whole {T = T} {old = old} {new = new} result is runs = whole result (subst (λ (l : List ℕ). RunsLine {T = T} old new l result) is runs)
    where
      whole : (result : Result T Status) → RunsLine old new (take keep line) result → RunsLine old new line result
      whole (Ok done) runs = record { passes = runs.passes; calls = runs.calls; outcome = (runs.outcome.0, λ told state shown. ran_whole old new state (runs.outcome.1 told state shown)) }
      whole (Err status) runs = record { passes = runs.passes; calls = runs.calls; outcome = (runs.outcome.0, λ told state shown. stopped_whole old new state status (runs.outcome.1 told state shown)) }

-- ---- statuses

-- a run that ended so was not run to its end, and met no damage
pub not_done : {s : Status} → IsHalt s ⊎ IsStop s → s ≡ Done → ⊥
not_done ends ok = grind arith

no_damage : {s : Status} {place : Place} → IsHalt s ⊎ IsStop s → s ≡ Damaged place → ⊥
no_damage ends damaged = grind arith

not_both : {s : Status} → IsHalt s → IsStop s → ⊥
not_both halt stop = grind arith

pub not_through : IsReadThrough TooLong → ⊥
not_through through = grind arith

-- a run that ended before all was read, and before it was too long
pub record IsCut (status : Status) : Type 0 where
  pub within : IsReadThrough status → ⊥
  pub short : status ≡ TooLong → ⊥

pub stop_is_cut : {status : Status} → IsStop status → IsCut status
stop_is_cut stop = record { within = λ through. grind arith; short = λ is. grind arith }

pub damaged_is_cut : (place : Place) → IsCut (Damaged place)
damaged_is_cut place = record { within = λ through. grind arith; short = λ is. cc }

pub layout_is_cut : (place : Place) → IsCut (NotAStore place)
layout_is_cut place = record { within = λ through. grind arith; short = λ is. cc }

-- a move ends a run so
pub line_is_cut : (old new : World) (status : Status) → IsLineEnd old new status → IsCut status
line_is_cut old new status cause = by_stop IsCut status (λ _. stop_is_cut (inr (inl refl))) (λ _. stop_is_cut (inl refl)) (λ _. stop_is_cut (inr (inr refl))) (λ place _. damaged_is_cut place) cause

-- and its cause is that of the move
pub script_end : (old new : World) (source_old source_new : Stream) (status : Status) → IsLineEnd old new status → IsScriptEnd old new source_old source_new status
script_end old new source_old source_new status cause = by_stop (IsScriptEnd old new source_old source_new) status (λ rises. rises) (λ rises. rises) (λ _. tt) (λ place _. tt) cause

-- ---- the end

-- what was taken by a run that was cut
abbrev pub taken_cut : {status : Status} {left_old left_new : Option (List ℕ)} (given : List ℕ) → Gives left_old given left_new → length given ≤ script_limit → IsCut status → IsTaken status left_old left_new
taken_cut given gives most is = record { given = given; gives = gives; most = most; short = λ through. absurd (is.within through); too_long = λ e. absurd (is.short e); all = λ ok. absurd (is.within (inl ok)) }

module _ {manner : Manner} {begin : Beginning manner} {now : World} {left : Option (List ℕ)} where
  pub ended_halted : {stand : Stand manner.Memory} {front : List ℕ} (status : Status) → IsHalt status → (taken : IsTaken status begin.left left) → Story begin now stand taken.given front → Ended status begin now left
  ended_halted {stand = stand} {front = front} status is taken story = record {
    taken = taken;
    whole = λ ok. absurd (not_done (inl is) ok);
    halted = λ halt. record { stand = stand; left = front; story = story };
    stopped = λ stop. absurd (not_both is stop);
    undamaged = λ place damaged. no_damage (inl is) damaged;
  }

  pub ended_stopped : (status : Status) (taken : IsTaken status begin.left left) → Stopped status begin now taken.given (IsAllOf begin.left taken.given) → Ended status begin now left
  ended_stopped status taken stop =
      let is : IsStop status = by_stop IsStop status (λ _. inr (inl refl)) (λ _. inl refl) (λ _. inr (inr refl))
      (λ place never. absurd never) stop.stopped in
      record {
        taken = taken;
        whole = λ ok. absurd (not_done (inr is) ok);
        halted = λ halt. absurd (not_both halt is);
        stopped = λ _. stop;
        undamaged = λ place damaged. no_damage (inr is) damaged;
      }

  pub ended_whole : (taken : IsTaken Done begin.left left) → Whole begin now taken.given → Ended Done begin now left
  ended_whole taken whole = record {
    taken = taken;
    whole = λ _. whole;
    halted = λ halt. absurd (not_done (inl halt) refl);
    stopped = λ stop. absurd (not_done (inr stop) refl);
    undamaged = λ place damaged. cc (damaged);
  }

-- a source with fewer bytes than a script may have isn't too long
pub not_too_long : {status : Status} {left_old left_new : Option (List ℕ)} (all : List ℕ) → left_old ≡ Some all → length all < script_limit → IsTaken status left_old left_new → status ≡ TooLong → ⊥
not_too_long all told short taken is =
    let moved = taken.gives.moves all told in
    absurd (omega (arith, short, taken.too_long is, ap (λ (l : List ℕ). length l) moved.2, length-append taken.given moved.0))

-- ---- the line of a refusal

-- by the status with which the run then ends
pub by_said : (P : Status → Type 0) {meant status : Status} {line : List ℕ} {old new : Stream}
    → Says meant line status old new → (Takes old.bytes line new.bytes → P meant)
    → (TakesFront old.bytes line new.bytes → Rises old.faults new.faults → P WriteFault)
    → (new ≡ old → P NoMemory) → P status
by_said P line as_meant failed lacked = elim line.how [
  | said same takes ↦ subst P (sym same) (as_meant takes)
  | cut same front rises ↦ subst P (sym same) (failed front rises)
  | unsaid same silent ↦ subst P (sym same) (lacked silent)
]

-- it ends a run before all was read
pub said_is_cut : {meant status : Status} {line : List ℕ} {old new : Stream} → IsCut meant → Says meant line status old new → IsCut status
said_is_cut is line = by_said IsCut line (λ _. is) (λ _ _. stop_is_cut (inl refl)) (λ _. stop_is_cut (inr (inr refl)))

-- it was added, or its front
pub says_some : {meant status : Status} {text : List ℕ} {old new : Stream} → Says meant text status old new → TakesSome old.bytes new.bytes
says_some {text = text} {old = old} {new = new} line = by_said (λ _. TakesSome old.bytes new.bytes) line
    (λ takes. record { said = text; takes = takes })
    (λ front rises. record { said = front.front; takes = front.takes })
    (λ silent. subst (λ (s : Stream). TakesSome old.bytes s.bytes) (sym silent) (some_none old.bytes))

-- what a look found is told as no damage
pub tells_no_damage : {place : Place} {status : Status} {text : List ℕ} {old new : Stream} → Says (NotAStore place) text status old new → TellsDamage status old new
tells_no_damage {old = old} {new = new} line = by_said (λ (s : Status). TellsDamage s old new) line
    (λ _. record { last = λ other is. absurd (cc) })
    (λ _ _. record { last = λ other is. absurd (cc) })
    (λ _. record { last = λ other is. absurd (cc) })

-- one of damage does, behind what was written before
pub tells_damage : {place : Place} {status : Status} {old mid new : Stream} → TakesSome old.bytes mid.bytes → Says (Damaged place) (damaged_line place) status mid new → TellsDamage status old new
tells_damage {place = place} {old = old} {new = new} before line = by_said (λ (s : Status). TellsDamage s old new) line
    (λ takes. record { last = λ other is. let there : other ≡ place = cc in rw there (some_last before takes) })
    (λ _ _. record { last = λ other is. absurd (cc) })
    (λ _. record { last = λ other is. absurd (cc) })
