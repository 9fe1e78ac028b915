-- How a run over moves goes on.
use Rattle.std.proofs.Common.{◌≡◌, ◌≢◌, inl, ⊎_elim, ℕ, ◌<◌, ◌≤◌, Bool, true, false, List, [], ◌∷◌, ◌++◌, length, refl, sym, ◌∙◌, ap, subst, arith, append_assoc, append-nil}
use Rattle.std.proofs.lemmas.List.Elements.{All-nil, All-push}
use Rattle.rss_base.specs.DiskRule.{Disk, Pages, Passes, Continues}
use Rattle.rss_base.specs.Streams.{Stream, Takes}
use Rattle.rss_base.proofs.Flows.{takes_none, takes_then}
use Rattle.rss_base.proofs.Moments.{started, now}
use Rattle.rss_model.specs.Machine.{State}
use Rattle.rss_model.specs.Script.{joined, IsUnbroken, Splits, AreLines, last_line}
use Rattle.rss_model.specs.Plays.{Made, nothing, both_made}
use Rattle.rss_model.specs.Runs.{Run}
use Rattle.rss_top.specs.Manners.{Manner, Stand, Input, Line, lines_in, IsSound}
use Rattle.rss_top.specs.TellingLaws.{lines-append}
use Rattle.rss_top.proofs.Endings.{by_stop}
use Rattle.rss_top.specs.Run.{Point, point_now, Beginning, HoldsAt, ImagesNow, LineTurn, Played, Story, Stopped, IsStoppedBy, IsCutAt, IsInLine, IsBetween, Whole, IsLineFault, EndsLine}
use Rattle.rss_top.specs.Run.Played.{none, more}
use Rattle.rss_top.specs.Run.IsBetween.{some_taken, all_taken}
use Rattle.rss_top.specs.Lines.{View, LineDone, LineRan, LineStopped, stand_in, beginning}
use Rattle.rss_top.specs.declared.status.Status.{Status}
use Rattle.rss_top.specs.declared.status.Status.TheVariants.{NoMemory}

-- a run over moves is a play of them, and a run of the machine
module _ {manner : Manner} (sound : IsSound manner) where
  played_is_play : {disk : Disk} {first last : Point manner} {inputs : List Input} {made : Made} → Played disk first inputs made last → manner.Plays first.stand inputs made last.stand
  played_is_play none = sound.none _
  played_is_play (more run turn) = sound.more _ _ _ _ _ _ _ (played_is_play run) turn.move

  pub played_is_run : {disk : Disk} {first last : Point manner} {inputs : List Input} {made : Made} → Played disk first inputs made last → Run first.stand.state made.turns last.stand.state
  played_is_run run = sound.run _ _ _ _ (played_is_play run)

-- later calls leave the run as it was
played_later : {manner : Manner} {old new : Disk} {P : Pages → Type 0} {first : Point manner} {inputs : List Input} {made : Made} {until : Point manner} → Passes old new P → until.moment ≤ old.moment → Played old first inputs made until
    → Played new first inputs made until
played_later passes le none = none
played_later {old = old} {new = new} {P = P} {until = until} passes le (more run turn) = more (played_later {P = P} passes (omega (arith, turn.moments.later)) run) (record {
  move = turn.move;
  moments = record { later = turn.moments.later; each = λ t image lt within left. turn.moments.each t image lt within ((passes.past t image (omega arith)).0 left) };
  after = λ image left. turn.after image ((passes.past until.moment image le).0 left);
})

-- the moments of a move, seen from a later device
turn_of : {manner : Manner} {earlier later : Disk} {old new : Stand manner.Memory} {input : Input} {made : Made} → LineDone manner earlier later old input made new → ImagesNow later (HoldsAt new.state) → LineTurn later (point_now manner old earlier) input made (point_now manner new later)
turn_of done after = record {
  move = done.move;
  moments = record { later = done.moments.later; each = done.moments.each };
  after = after;
}

pub joined-append : (lines others : List (List ℕ)) → joined (lines ++ others) ≡ joined lines ++ joined others
joined-append [] others = refl
joined-append (l ∷ lines) others = ap (λ (x : List ℕ). l ++ 10 ∷ x) (joined-append lines others)
    ∙ sym (append_assoc l (10 ∷ joined lines) (joined others))

-- ---- the run so far

-- The lines of these bytes, each with its end; or all of a script, of which the last has none.
abbrev pub AreTaken : Bool → List ℕ → List (List ℕ) → Type 0
AreTaken false passed lines = Splits passed lines []
AreTaken true passed lines = AreLines passed lines

-- The lines of these bytes were taken, and the run has come to a state that is shown.
pub record Stands {manner : Manner} (begin : Beginning manner) (now : View manner) (passed : List ℕ) (over : Bool) : Type 0 where
  pub state : State
  pub shows : now.shows state
  pub inputs : List Input
  pub made : Made
  pub played : Played now.world.disk begin.point inputs made (point_now manner (stand_in now state) now.world.disk)
  pub begun : begin.point.moment ≤ now.world.disk.moment
  pub taken : AreTaken over passed (lines_in inputs)
  pub takes : Takes begin.written made.text now.world.sink.bytes
  pub opens : ImagesNow now.world.disk (HoldsAt state)

pub stands_start : {manner : Manner} (view : View manner) (source : Stream) (state : State) → view.shows state → ImagesNow view.world.disk (HoldsAt state) → Stands (beginning manner (stand_in view state) view.world source) view [] false
stands_start view source state shown opens = record {
  state = state;
  shows = shown;
  inputs = [];
  made = nothing;
  played = none;
  begun = omega arith;
  taken = record { parts = refl; whole = All-nil IsUnbroken; front = All-nil (λ (b : ℕ). b ≢ 10) };
  takes = takes_none _;
  opens = opens;
}

-- a line behind whole ones
behind_lines : {passed : List ℕ} {lines : List (List ℕ)} (line : List ℕ) → IsUnbroken line → Splits passed lines [] → Splits (passed ++ line) lines line
behind_lines {lines = lines} line unbroken splits = record {
  parts = ap (λ (l : List ℕ). l ++ line) splits.parts ∙ append_assoc (joined lines) [] line;
  whole = splits.whole;
  front = unbroken;
}

-- with the front of the next line
pub front_story : {manner : Manner} {begin : Beginning manner} {now : View manner} {passed : List ℕ} (line : List ℕ) → IsUnbroken line → (stands : Stands begin now passed false) → Story begin now.world (stand_in now stands.state) (passed ++ line) line
front_story line unbroken stands = record {
  inputs = stands.inputs;
  made = stands.made;
  played = stands.played;
  begun = stands.begun;
  splits = behind_lines line unbroken stands.taken;
  takes = stands.takes;
  opens = stands.opens;
}

-- they are all the lines, where the script is over
pub all_lines : (over : Bool) {passed : List ℕ} {lines : List (List ℕ)} → AreTaken over passed lines → AreLines passed lines
all_lines false {lines = lines} taken = record { ended = lines; left = []; splits = taken; all = sym (append-nil lines) }
all_lines true taken = taken

-- ---- one move more

module _ {manner : Manner} {begin : Beginning manner} {old : View manner} (new : View manner) {passed : List ℕ} {over : Bool} (stands : Stands begin old passed over) (history : Continues old.world.disk new.world.disk) where
  played_before : Played new.world.disk begin.point stands.inputs stands.made (point_now manner (stand_in old stands.state) old.world.disk)
  played_before = played_later {P = λ _. Unit {0}} history (omega arith) stands.played

  -- by which these bytes were taken
  pub stands_moved : {input : Input} (to : List ℕ) (after : Bool) → AreTaken after to (lines_in stands.inputs ++ lines_in (input ∷ []))
      → LineRan old new stands.state input → Stands begin new to after
  stands_moved {input = input} to after taken ran = record {
    state = ran.next;
    shows = ran.shows;
    inputs = stands.inputs ++ input ∷ [];
    made = both_made stands.made ran.made;
    played = more played_before (turn_of ran.done ran.opens);
    begun = omega (arith, stands.begun, ran.done.moments.later);
    taken = subst (AreTaken after to) (sym (lines-append stands.inputs (input ∷ []))) taken;
    takes = takes_then _ _ _ stands.made.text ran.made.text stands.takes ran.takes;
    opens = ran.opens;
  }

-- the script is over, and no move is left
pub whole_ended : {manner : Manner} {begin : Beginning manner} {now : View manner} {passed : List ℕ} {over : Bool} → IsSound manner → (stands : Stands begin now passed over) → Whole begin now.world passed
whole_ended {now = now} {over = over} sound stands = record {
  inputs = stands.inputs;
  made = stands.made;
  last = stand_in now stands.state;
  run = played_is_run sound stands.played;
  play = played_is_play sound stands.played;
  played = stands.played;
  are_lines = all_lines over stands.taken;
  takes = stands.takes;
  opens = stands.opens;
}

-- ---- one line more

pub one_line : (left : List ℕ) → 0 < length left → last_line left ≡ left ∷ []
one_line [] some = absurd (omega arith)
one_line (b ∷ bs) some = refl

module _ {passed : List ℕ} {lines : List (List ℕ)} (line : List ℕ) (unbroken : IsUnbroken line)
    (splits : Splits passed lines []) where
  pub taken_ended : AreTaken false ((passed ++ line) ++ 10 ∷ []) (lines ++ line ∷ [])
  taken_ended =
      let behind = behind_lines line unbroken splits in
      record {
        parts = ap (λ (l : List ℕ). l ++ 10 ∷ []) behind.parts ∙ append_assoc (joined lines) line (10 ∷ []) ∙ sym (joined-append lines (line ∷ [])) ∙ sym (append-nil (joined (lines ++ line ∷ [])));
        whole = All-push IsUnbroken lines line splits.whole unbroken;
        front = All-nil (λ (b : ℕ). b ≢ 10);
      }

  -- the last line, which has no end
  pub taken_last : 0 < length line → AreTaken true (passed ++ line) (lines ++ line ∷ [])
  taken_last some = record {
    ended = lines;
    left = line;
    splits = behind_lines line unbroken splits;
    all = ap (λ (l : List (List ℕ)). lines ++ l) (sym (one_line line some));
  }

  -- or a front of a line, within which the run ended
  pub in_line : {given : List ℕ} {over : Type 0} {status : Status} (rest : List ℕ) → given ≡ (passed ++ line) ++ rest
      → (IsLineFault status → EndsLine over rest) → IsInLine status given over lines line
  in_line rest is ends = record {
    rest = rest;
    parts = is ∙ ap (λ (l : List ℕ). l ++ rest) (behind_lines line unbroken splits).parts ∙ append_assoc (joined lines) line rest;
    whole = splits.whole;
    front = unbroken;
    ends = ends;
  }

-- ---- the run ends within a move

-- What was written of a move within which the run ended, and how it did.
record Said {manner : Manner} (old new : View manner) (state : State) (input : Input) (status : Status) : Type 0 where
  pub said : List ℕ
  pub takes : Takes old.world.sink.bytes said new.world.sink.bytes
  pub stopped : IsStoppedBy status new.world.disk (point_now manner (stand_in old state) old.world.disk) input said

said_by : {manner : Manner} (old new : View manner) (state : State) (input : Input) (status : Status)
    → ImagesNow old.world.disk (HoldsAt state) → LineStopped old new state input status → Said old new state input status
said_by old new state input status opens stop = by_stop (Said old new state input) status
    (λ stop. record {
      said = [];
      takes = rw stop.same (takes_none _);
      stopped = record {
        made = stop.made;
        next = stop.next;
        move = stop.done.move;
        moments = record { later = stop.done.moments.later; each = stop.done.moments.each };
        opens = λ image left. ⊎_elim (λ was. inl (opens image was).opens) (λ is. is) (now stop.done.moments image left);
        silent = refl;
      };
    })
    (λ stop. record {
      said = stop.takes.front;
      takes = stop.takes.takes;
      stopped = record {
        made = stop.made;
        next = stop.next;
        turn = turn_of stop.done stop.opens;
        unsaid = stop.takes.back;
        reply = stop.takes.parts;
      };
    })
    (λ stop. record {
      said = [];
      takes = rw stop.same (takes_none _);
      stopped = record {
        moments = record { later = stop.moments.later; each = stop.moments.each };
        opens = λ image left. ⊎_elim (λ was. (opens image was).opens) (λ within. within) (now stop.moments image left);
        silent = refl;
      };
    })
    (λ place never. absurd never)
    stop

pub stopped_in : {manner : Manner} {begin : Beginning manner} {old : View manner} (new : View manner)
    {passed given : List ℕ} {going : Bool} {over : Type 0} {input : Input} (stands : Stands begin old passed going)
    → manner.Takes input → (status : Status) → Continues old.world.disk new.world.disk
    → IsCutAt status given over (lines_in stands.inputs) input → LineStopped old new stands.state input status
    → Stopped status begin new.world given over
stopped_in {manner = manner} {old = old} new {input = input} stands may status history cut stop =
    let said = said_by old new stands.state input status stands.opens stop in
    record {
      inputs = stands.inputs;
      made = stands.made;
      from = point_now manner (stand_in old stands.state) old.world.disk;
      input = input;
      said = said.said;
      may = may;
      played = played_before new stands history;
      cut = cut;
      takes = takes_then _ _ _ stands.made.text said.said stands.takes said.takes;
      stopped = said.stopped;
    }

-- What was passed is followed by this; and by nothing, if the script is over.
pub between : (going : Bool) {given : List ℕ} (passed rest : List ℕ) {lines : List (List ℕ)} {over : Type 0}
    → given ≡ passed ++ rest → (going ≡ true → rest ≡ []) → (going ≡ true → over) → AreTaken going passed lines
    → IsBetween given over lines
between false passed rest {lines = lines} is empty all taken =
    some_taken rest (is ∙ ap (λ (l : List ℕ). l ++ rest) (taken.parts ∙ append-nil (joined lines))) taken.whole
between true passed rest {lines = lines} is empty all taken =
    all_taken (rw (is ∙ ap (λ (l : List ℕ). passed ++ l) (empty refl) ∙ append-nil passed) taken) (all refl)

-- memory ran out before a line was run
pub stopped_unread : {manner : Manner} → IsSound manner → {begin : Beginning manner} {view : View manner} {given : List ℕ}
    {over : Type 0} (passed rest : List ℕ) → given ≡ passed ++ rest → Stands begin view passed false
    → Stopped NoMemory begin view.world given over
stopped_unread sound {view = view} passed rest is stands =
    let same = is ∙ ap (λ (l : List ℕ). l ++ rest) (sym (append-nil passed)) in
    stopped_in view {input = Line []} stands (sound.lines []) NoMemory (started _ _)
    (in_line [] (All-nil (λ (b : ℕ). b ≢ 10)) stands.taken rest same (λ fault. absurd (grind arith)))
    (record { moments = started _ _; same = refl })
