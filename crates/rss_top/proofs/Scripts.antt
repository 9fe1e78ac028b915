-- A script, while it is read and run.
use Rattle.std.proofs.Common.{◌≡◌, inl, inr, ℕ, ◌+◌, ◌-◌, ◌*◌, ◌<◌, ◌≤◌, Bool, true, false, List, [], ◌∷◌, ◌++◌, length, max, refl, sym, ◌∙◌, ap, subst, arith, append_assoc, length-append, length-take, Result, Ok, Err, append-nil, mul-le-mul_left}
use Rattle.std.proofs.lemmas.Bool.{cases_Bool}
use Rattle.std.proofs.lemmas.List.{nil_from_length}
use Rattle.std.proofs.lemmas.Nat.{mul-add-lt}
use Rattle.rss_base.specs.DiskRule.{IsTold}
use Rattle.rss_base.specs.Streams.{Stream, Gives, IsAllOf}
use Rattle.rss_base.proofs.Flows.{gives_none, gives_then}
use Rattle.rss_base.proofs.Moments.{rises_since}
use Rattle.rss_lines.specs.Lines.{LinesView, script_limit, at_start, Advances, IsFront}
use Rattle.rss_lines.specs.Lines.Finds.{ended, last}
use Rattle.rss_lines.specs.declared.unread.Unread.{Unread}
use Rattle.rss_lines.specs.declared.unread.Unread.TheVariants.{ReadFault as Fails, NoMemory as Lacks, TooLong as Exceeds}
use Rattle.rss_lines.proofs.Streams.{all_then}
use Rattle.rss_model.specs.Machine.{State}
use Rattle.rss_model.specs.Script.{Splits}
use Rattle.rss_top.specs.Run.{Beginning, Story, Stopped, IsTaken, IsHalt, IsReadThrough, EndsLine, IsCutAt}
use Rattle.rss_top.specs.Manners.{Manner, Input, Line, Again, Over, lines_in, brought, IsSound, IsEnough}
use Rattle.rss_top.specs.Lines.{View, DriverView, seen, PassesOn, OpensBetween, FromEach, RunsMove, MovesIf, RunsScript, IsLineEnd, IsScriptEnd, unread_status, stand_in, beginning}
use Rattle.rss_top.specs.declared.status.Status.{Status}
use Rattle.rss_top.specs.declared.status.Status.TheVariants.{Ok as Done, ReadFault, NoMemory, TooLong}
use Rattle.rss_top.proofs.Endings.{idles, end_since, passes_then, runs_whole, line_is_cut, not_done, not_through, taken_cut, ended_halted, ended_stopped, ended_whole, script_end}
use Rattle.rss_top.proofs.Stories.{AreTaken, Stands, stands_start, stands_moved, all_lines, whole_ended, front_story, taken_ended, taken_last, in_line, between, stopped_in, stopped_unread}

-- ---- the run so far

-- where a run begins from a state
abbrev pub begun : {manner : Manner} → View manner → Stream → State → Beginning manner
begun {manner = manner} old source state = beginning manner (stand_in old state) old.world source

-- more bytes may bring more calls
more_bytes : (rate few many : ℕ) → few ≤ many → rate * few ≤ rate * many
more_bytes rate few many le = mul-le-mul_left rate le

-- the calls that a script may bring in all
abbrev pub budget : {manner : Manner} → ℕ → View manner → ℕ
budget rate old = old.calls + old.owed + rate * script_limit

-- These bytes were read, the lines of their front were taken, and the rest is left.
pub record Read (source_old source_now : Stream) (lines : LinesView) : Type 0 where
  pub given : List ℕ
  pub passed : List ℕ
  pub parts : given ≡ passed ++ lines.rest
  pub long : length given ≡ lines.taken
  pub most : lines.taken ≤ script_limit
  pub gives : Gives source_old.bytes given source_now.bytes
  pub later : source_old.faults ≤ source_now.faults
  pub all : lines.over ≡ true → IsAllOf source_old.bytes given
  pub none : lines.over ≡ true → lines.rest ≡ []

-- The moves were made that these bytes brought.
pub record Going {manner : Manner} (old now : View manner) (source : Stream) (passed : List ℕ) (over : Bool)
    : Type 0 where
  pub up : now.is_up
  pub passes : PassesOn old.world now.world
  pub ran : IsTold old.world.disk → FromEach old (λ state. Stands (begun old source state) now passed over)

pub record Reading {manner : Manner} (rate : ℕ) (old now : View manner) (source_old source_now : Stream)
    (lines : LinesView) : Type 0 where
  pub read : Read source_old source_now lines
  pub going : Going old now source_old read.passed lines.over
  pub enough : IsEnough manner lines.keep
  pub calls : now.calls + now.owed ≤ old.calls + old.owed + rate * length read.passed

pub reads_none : {manner : Manner} (rate : ℕ) (driver : DriverView manner) (sink source : Stream) {keep : ℕ}
    {lines : LinesView} → OpensBetween driver → driver.is_up → IsEnough manner keep → lines ≡ at_start keep
    → Reading rate (seen driver sink) (seen driver sink) source source lines
reads_none rate driver sink source opens up enough is =
    subst (Reading rate (seen driver sink) (seen driver sink) source source) (sym is) (record {
      read = record {
        given = [];
        passed = [];
        parts = refl;
        long = refl;
        most = omega arith;
        gives = gives_none source.bytes;
        later = omega arith;
        all = λ over. absurd (cc);
        none = λ over. refl;
      };
      going = record {
        up = up;
        passes = idles (seen driver sink).world;
        ran = λ told state shown. stands_start (seen driver sink) source state shown (opens up told state shown);
      };
      enough = enough;
      calls = omega arith;
    })

-- ---- the run ends within a move

-- after so many bytes
stops_with : {manner : Manner} {rate : ℕ} {old new : View manner} {source_old source_new : Stream} (status : Status)
    (given : List ℕ) → Gives source_old.bytes given source_new.bytes → length given ≤ script_limit
    → PassesOn old.world new.world → IsLineEnd old.world new.world status
    → new.calls ≤ old.calls + old.owed + rate * length given
    → (IsTold old.world.disk → FromEach old (λ state.
    Stopped status (begun old source_old state) new.world given (IsAllOf source_old.bytes given)))
    → RunsScript rate old new source_old source_new status
stops_with {old = old} {new = new} {source_old = one} {source_new = two} status given gives most passes cause calls is =
    let cut = line_is_cut old.world new.world status cause in
    let taken : IsTaken status one.bytes two.bytes = taken_cut given gives most cut in
    record {
      passes = passes;
      cause = script_end old.world new.world one two status cause;
      taken = taken;
      calls = calls;
      up = λ ok. absurd (cut.within (inl ok));
      ended = λ told state shown. ended_stopped status taken (is told state shown);
    }

-- memory ran out before anything was read
pub script_unread : {manner : Manner} → IsSound manner → (rate : ℕ) (driver : DriverView manner) (sink source : Stream)
    → OpensBetween driver → driver.is_up → RunsScript rate (seen driver sink) (seen driver sink) source source NoMemory
script_unread sound rate driver sink source opens up =
    let view = seen driver sink in
    stops_with NoMemory [] (gives_none source.bytes) (omega arith) (idles view.world) tt (omega arith)
    (λ told state shown.
    let stands = stands_start view source state shown (opens up told state shown) in
    stopped_unread sound [] [] refl stands)

module _ {manner : Manner} {old now new : View manner} {source_old : Stream} {passed : List ℕ} {over : Bool}
    (going : Going old now source_old passed over) {input : Input} where
  -- A move was made, by which these bytes were taken.
  going_to : {T : Type 0} {done : T} (to : List ℕ) (after : Bool)
      → ((taken : List (List ℕ)) → AreTaken over passed taken → AreTaken after to (taken ++ lines_in (input ∷ [])))
      → RunsMove now new input (Ok done) → Going old new source_old to after
  going_to to after takes runs = record {
    up = runs.outcome.0;
    passes = passes_then going.passes runs.passes;
    ran = λ told state shown.
        let stands = going.ran told state shown in
        let known = going.passes.told told in
        stands_moved new stands (runs.passes.history known) to after (takes (lines_in stands.inputs) stands.taken)
        (runs.outcome.1 known stands.state stands.shows);
  }

  -- or the run ended within it
  stops_within : {rate : ℕ} {source_new : Stream} {T : Type 0} (given : List ℕ)
      → Gives source_old.bytes given source_new.bytes → length given ≤ script_limit
      → (status : Status) → manner.Takes input → RunsMove {T = T} now new input (Err status)
      → new.calls ≤ old.calls + old.owed + rate * length given
      → ((taken : List (List ℕ)) → AreTaken over passed taken
      → IsCutAt status given (IsAllOf source_old.bytes given) taken input)
      → RunsScript rate old new source_old source_new status
  stops_within given gives most status may runs calls cut =
      let cause = end_since new.world status going.passes runs.outcome.0 in
      stops_with status given gives most (passes_then going.passes runs.passes) cause calls (λ told state shown.
      let stands = going.ran told state shown in
      let known = going.passes.told told in
      stopped_in new stands may status (runs.passes.history known)
      (cut (lines_in stands.inputs) stands.taken) (runs.outcome.1 known stands.state stands.shows))

-- ---- what a look for a line finds

-- The bytes up to its end, or to that of the script, with what comes behind the line.
record Found (next : LinesView) (all : Type 0) (given passed line : List ℕ) (over : Bool) : Type 0 where
  pub to : List ℕ
  pub behind : List ℕ
  pub parts : given ≡ to ++ next.rest
  pub is : given ≡ (passed ++ line) ++ behind
  pub ends : EndsLine all behind
  pub none : over ≡ true → next.rest ≡ []
  pub further : length passed + max 1 (length line) ≤ length to
  pub taken : (before : List (List ℕ)) → Splits passed before [] → AreTaken over to (before ++ line ∷ [])

module _ {manner : Manner} {rate : ℕ} {old now : View manner} {source_old source_now : Stream} {lines : LinesView}
    (reading : Reading rate old now source_old source_now lines) where
  abbrev passed : List ℕ
  passed = reading.read.passed

  -- what the bytes brought so far is among what those given may bring
  paid_so_far : (given : List ℕ) → length reading.read.given ≤ length given
      → now.calls + now.owed ≤ old.calls + old.owed + rate * length given
  paid_so_far given longer =
      let more = more_bytes rate (length passed) (length given)
      (omega (arith, ap length reading.read.parts, length-append passed lines.rest, longer)) in
      omega (arith, reading.calls, more)

  -- the engine may be asked for what is owed
  pub in_budget : now.calls + now.owed ≤ budget rate old
  in_budget =
      let low = more_bytes rate (length reading.read.given) script_limit (omega arith) in
      omega (arith, paid_so_far reading.read.given (omega arith), low)

  -- ---- a move that takes no line

  pub goes_on : {new : View manner} → RunsMove {T = Bool} now new Again (Ok true) → new.owed < now.owed
      → Reading rate old new source_old source_now lines
  goes_on runs less = record {
    read = reading.read;
    going = going_to reading.going {input = Again} passed lines.over (λ taken of. rw append-nil of) runs;
    enough = reading.enough;
    calls = omega (arith, reading.calls, runs.calls, less);
  }

  pub stops_again : {new : View manner} (status : Status) → MovesIf Again now new (Err status)
      → new.calls ≤ now.calls + now.owed → RunsScript rate old new source_old source_now status
  stops_again status (may, runs) fewer =
      let read = reading.read in
      stops_within reading.going read.given read.gives (omega (arith, read.long, read.most)) status may runs
      (omega (arith, paid_so_far read.given (omega arith), fewer))
      (λ taken of. between lines.over passed lines.rest read.parts read.none read.all of)

  module _ {source_new : Stream} {next : LinesView} where
    module _ {result : Result Bool Unread} (looked : Advances lines next source_now source_new result) where
      abbrev given : List ℕ
      given = reading.read.given ++ looked.more

      gives : Gives source_old.bytes given source_new.bytes
      gives = gives_then _ _ _ reading.read.given looked.more reading.read.gives looked.seeks.gives

      long : length given ≡ next.taken
      long = omega (arith, length-append reading.read.given looked.more, reading.read.long, looked.seeks.taken)

      most : length given ≤ script_limit
      most = omega (arith, long, looked.seeks.most)

      parts : given ≡ passed ++ (lines.rest ++ looked.more)
      parts = ap (λ (l : List ℕ). l ++ looked.more) reading.read.parts ∙ append_assoc passed lines.rest looked.more

      -- the lines that were run, and a line, or its front
      line_parts : (behind : List ℕ) → lines.rest ++ looked.more ≡ looked.line ++ behind
          → given ≡ (passed ++ looked.line) ++ behind
      line_parts behind is = parts ∙ ap (λ (l : List ℕ). passed ++ l) is ∙ sym (append_assoc passed looked.line behind)

      calls_so_far : now.calls + now.owed ≤ old.calls + old.owed + rate * length given
      calls_so_far = paid_so_far given (omega (arith, length-append reading.read.given looked.more))

      abbrev taken_by : (status : Status) → (IsReadThrough status → next.taken < script_limit)
          → (status ≡ TooLong → next.taken ≡ script_limit) → (status ≡ Done → IsAllOf source_old.bytes given)
          → IsTaken status source_old.bytes source_new.bytes
      taken_by status short too_long all = record {
        given = given;
        gives = gives;
        most = most;
        short = λ through. omega (arith, long, short through);
        too_long = λ is. omega (arith, long, too_long is);
        all = all;
      }

      -- the source was over before, or all was given
      all_read : (lines.over ≡ true → IsAllOf source_old.bytes given) → next.over ≡ true
          → IsAllOf source_old.bytes given
      all_read before over = elim (looked.over over).all [
        | inl was ↦ before was
        | inr all ↦ all_then reading.read.given looked.more reading.read.gives all
      ]

      -- a look that finds something, or fails, wasn't over before
      still_going : (result ≡ Ok false → ⊥) → lines.over ≡ false
      still_going other = elim (cases_Bool lines.over) [
        | inl over ↦ absurd (other (looked.stays_over over))
        | inr going ↦ going
      ]

    -- ---- the script is over

    module _ (sound : IsSound manner) (looked : Advances lines next source_now source_new (Ok false)) where
      all_passed : given looked ≡ passed
      all_passed = parts looked ∙ ap (λ (l : List ℕ). passed ++ l) looked.outcome.0 ∙ append-nil passed

      all_given : IsAllOf source_old.bytes (given looked)
      all_given =
          let both = length-append lines.rest looked.more in
          let none = nil_from_length looked.more (omega (arith, ap length looked.outcome.0, both)) in
          all_read looked (λ was. rw (none, append-nil) (reading.read.all was)) looked.outcome.2

      module _ (new : View manner) (fewer : new.calls ≤ now.calls) where
        over_going : (moved : Bool) → MovesIf Over now new (Ok moved) → (moved ≡ false → new ≡ now)
            → Going old new source_old passed lines.over
        over_going true runs same =
            going_to reading.going {input = Over} passed lines.over (λ taken of. rw append-nil of) runs
        over_going false runs same = rw (same refl) reading.going

        pub script_whole : (moved : Bool) → MovesIf Over now new (Ok moved) → (moved ≡ false → new ≡ now)
            → RunsScript rate old new source_old source_new Done
        script_whole moved runs same =
            let going = over_going moved runs same in
            let short = (looked.over looked.outcome.2).short in
            let taken = taken_by looked Done (λ _. short) (λ is. absurd (cc)) (λ _. all_given) in
            record {
              passes = going.passes;
              cause = tt;
              taken = taken;
              calls = omega (arith, fewer, calls_so_far looked);
              up = λ ok. going.up;
              ended = λ told state shown. ended_whole taken (rw all_passed (whole_ended sound (going.ran told state shown)));
            }

        pub stops_over : (status : Status) → MovesIf Over now new (Err status)
            → RunsScript rate old new source_old source_new status
        stops_over status (may, runs) =
            stops_within reading.going (given looked) (gives looked) (most looked) status may runs
            (omega (arith, fewer, calls_so_far looked)) (λ taken of. (rw all_passed (all_lines lines.over of), all_given))

    -- ---- the script is read no further

    module _ (why : Unread) (looked : Advances lines next source_now source_new (Err why))
        (told : IsTold old.world.disk) (state : State) (shown : old.shows state) where
      stands_unread : Stands (begun old source_old state) now passed false
      stands_unread = rw (still_going looked (λ is. cc)) at (reading.going.ran told state shown)

      front_unread : IsFront next (lines.rest ++ looked.more) looked.line
          → Story (begun old source_old state) now.world (stand_in now stands_unread.state) (given looked) looked.line
      front_unread front =
          let whole = front.whole ∙ sym (append-nil looked.line) in
          let is = line_parts looked [] whole ∙ append-nil (passed ++ looked.line) in
          rw is (front_story looked.line looked.seeks.unbroken stands_unread)

    module _ (sound : IsSound manner) where
      script_halted : (why : Unread) (looked : Advances lines next source_now source_new (Err why)) (status : Status)
          → IsHalt status → IsFront next (lines.rest ++ looked.more) looked.line
          → (IsReadThrough status → next.taken < script_limit) → (status ≡ TooLong → next.taken ≡ script_limit)
          → IsScriptEnd old.world now.world source_old source_new status
          → RunsScript rate old now source_old source_new status
      script_halted why looked status halt front short too_long cause =
          let taken = taken_by looked status short too_long (λ ok. absurd (not_done (inl halt) ok)) in
          record {
            passes = reading.going.passes;
            cause = cause;
            taken = taken;
            calls = omega (arith, calls_so_far looked);
            up = λ ok. absurd (not_done (inl halt) ok);
            ended = λ told state shown. ended_halted status halt taken (front_unread why looked told state shown front);
          }

      pub script_cut_off : (why : Unread) → Advances lines next source_now source_new (Err why)
          → RunsScript rate old now source_old source_new (unread_status why)
      script_cut_off Fails looked = script_halted Fails looked ReadFault (inl refl) looked.outcome.0
          (λ through. looked.outcome.1) (λ is. absurd (cc)) (rises_since reading.read.later (looked.cause refl))
      script_cut_off Exceeds looked = script_halted Exceeds looked TooLong (inr refl) looked.outcome.0
          (λ through. absurd (not_through through)) (λ is. looked.outcome.1) tt
      script_cut_off Lacks looked = stops_with NoMemory (given looked) (gives looked) (most looked)
          reading.going.passes tt (omega (arith, calls_so_far looked))
          (λ told state shown.
          let stands = stands_unread Lacks looked told state shown in
          stopped_unread sound passed (lines.rest ++ looked.more) (parts looked) stands)

    -- ---- a line was found

    module _ (looked : Advances lines next source_now source_new (Ok true)) where
      last_given : next.over ≡ true → IsAllOf source_old.bytes (given looked)
      last_given = all_read looked (λ was. absurd (cc (was, still_going looked (λ is. cc))))

      abbrev Finding : Bool → Type 0
      Finding = Found next (IsAllOf source_old.bytes (given looked)) (given looked) passed looked.line

      found : Finding next.over
      found =
          let line = looked.line in
          let before = length-append passed line in
          elim looked.outcome [
            | ended is going ↦
                let parts = line_parts looked (10 ∷ next.rest) is in
                subst Finding (sym going) (record {
                  to = (passed ++ line) ++ 10 ∷ [];
                  behind = 10 ∷ next.rest;
                  parts = parts ∙ sym (append_assoc (passed ++ line) (10 ∷ []) next.rest);
                  is = parts;
                  ends = refl;
                  none = λ over. absurd (cc);
                  further = omega (arith, before, length-append (passed ++ line) (10 ∷ []));
                  taken = λ before splits. taken_ended line looked.seeks.unbroken splits;
                })
            | last is some over ↦
                let none = (looked.over over).none in
                let parts = line_parts looked [] (is ∙ sym (append-nil line)) in
                subst Finding (sym over) (record {
                  to = passed ++ line;
                  behind = [];
                  parts = parts ∙ ap (λ (l : List ℕ). (passed ++ line) ++ l) (sym none);
                  is = parts;
                  ends = last_given over;
                  none = λ _. none;
                  further = omega (arith, before, some);
                  taken = λ before splits. taken_last line looked.seeks.unbroken splits some;
                })
          ]

      line_short : length looked.line ≤ script_limit
      line_short =
          let before = length-append passed looked.line in
          omega (arith, ap length found.is, length-append (passed ++ looked.line) found.behind, before, most looked)

      -- what is kept of the line is no longer than the line
      kept_short : brought rate (length next.line) ≤ brought rate (length looked.line)
      kept_short = more_bytes rate (max 1 (length next.line)) (max 1 (length looked.line))
          (omega (arith, ap length looked.seeks.kept, length-take lines.keep looked.line))

      -- the line's calls are among those that its bytes may bring
      line_paid : now.calls + now.owed + brought rate (length next.line) ≤ old.calls + old.owed + rate * length found.to
      line_paid =
          let more = more_bytes rate (length passed + max 1 (length looked.line)) (length found.to) found.further in
          omega (arith, reading.calls, kept_short, more)

      line_given : now.calls + now.owed + brought rate (length next.line)
          ≤ old.calls + old.owed + rate * length (given looked)
      line_given =
          let more = more_bytes rate (length found.to) (length (given looked))
          (omega (arith, ap length found.parts, length-append found.to next.rest)) in
          omega (arith, line_paid, more)

      pub line_in_budget : now.calls + now.owed + brought rate (length next.line) ≤ budget rate old
      line_in_budget = omega (arith, line_given, more_bytes rate (length (given looked)) script_limit (most looked))

      less_left : script_limit + length next.rest - next.taken < script_limit + length lines.rest - lines.taken
      less_left =
          let after = length-append found.to next.rest in
          let before = length-append passed lines.rest in
          omega (arith, found.further, ap length found.parts, after, long looked, ap length reading.read.parts, before)

      -- less of the script is left, whatever was owed, and is
      pub less_in_all : (owed due : ℕ) → due ≤ budget rate old
          → (script_limit + length next.rest - next.taken) * (budget rate old + 1) + due
          < (script_limit + length lines.rest - lines.taken) * (budget rate old + 1) + owed
      less_in_all owed due low =
          let after = script_limit + length next.rest - next.taken in
          let left = script_limit + length lines.rest - lines.taken in
          omega (arith, mul-add-lt after (budget rate old + 1) due left less_left (omega (arith, low)))

      line_splits : {taken : List (List ℕ)} → AreTaken lines.over passed taken → Splits passed taken []
      line_splits {taken = taken} of =
          subst (λ (over : Bool). AreTaken over passed taken) (still_going looked (λ is. cc)) of

      module _ {new : View manner} {T : Type 0} where
        pub line_read : {done : T} → new.calls + new.owed ≤ now.calls + now.owed + brought rate (length next.line)
            → RunsMove now new (Line next.line) (Ok done) → Reading rate old new source_old source_new next
        line_read {done = done} owes runs =
            let whole = runs_whole reading.enough looked.line line_short (Ok done) looked.seeks.kept runs in
            record {
              read = record {
                given = given looked;
                passed = found.to;
                parts = found.parts;
                long = long looked;
                most = looked.seeks.most;
                gives = gives looked;
                later = omega (arith, reading.read.later, looked.seeks.later);
                all = last_given;
                none = found.none;
              };
              going = going_to reading.going {input = Line looked.line} found.to next.over
                  (λ taken of. found.taken taken (line_splits of)) whole;
              enough = subst (IsEnough manner) (sym looked.seeks.same_keep) reading.enough;
              calls = omega (arith, owes, line_paid);
            }

        -- the run ends within the line
        pub stops_in_line : IsSound manner → (status : Status)
            → new.calls ≤ now.calls + now.owed + brought rate (length next.line)
            → RunsMove {T = T} now new (Line next.line) (Err status)
            → RunsScript rate old new source_old source_new status
        stops_in_line sound status fewer runs =
            let whole = runs_whole reading.enough looked.line line_short {T = T} (Err status) looked.seeks.kept runs in
            stops_within reading.going {T = T} (given looked) (gives looked) (most looked) status
            (sound.lines looked.line) whole (omega (arith, fewer, line_given))
            (λ taken of. in_line looked.line looked.seeks.unbroken (line_splits of) found.behind found.is (λ _. found.ends))

-- nothing was moved
pub reads_still : {manner : Manner} {D K : Type 0} (view : D → DriverView manner) (stream : K → Stream) {rate : ℕ}
    {old : View manner} {source_old source_now : Stream} {lines : LinesView} {driver next : D} {sink after : K}
    → next ≡ driver → after ≡ sink → Reading rate old (seen (view driver) (stream sink)) source_old source_now lines
    → Reading rate old (seen (view next) (stream after)) source_old source_now lines
reads_still view stream same silent reading = rw (same, silent) reading
