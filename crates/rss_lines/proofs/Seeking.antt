-- A look for a line, one part after another.
use Rattle.std.proofs.Common.{◌≡◌, ◌≢◌, ◌⊎◌, inl, inr, ℕ, ◌<◌, ◌≤◌, Bool, true, false, List, [], ◌∷◌, ◌++◌, length, take, refl, sym, ◌∙◌, ap, subst, arith, not, nat_eq, append_assoc, length-append, length-take}
use Rattle.std.specs.Prelude.{Result, Ok, Err, IsErrAnd}
use Rattle.std.proofs.lemmas.Bool.Decides.{nat_tests}
use Rattle.std.proofs.lemmas.List.{append-nil}
use Rattle.std.proofs.lemmas.List.Elements.{All-append, All-take}
use Rattle.std.proofs.lemmas.Result.{err_from_is_err_and}
use Rattle.std.proofs.Math.Seq.{take-nil, take-append_seam}
use Rattle.rss_base.specs.Faults.{Rises}
use Rattle.rss_base.specs.Streams.{Stream, IsAllOf}
use Rattle.rss_base.proofs.Flows.{gives_none, gives_then}
use Rattle.rss_base.proofs.Moments.{rises_since}
use Rattle.rss_model.specs.Script.{IsUnbroken}
use Rattle.rss_lines.specs.Lines.{LinesView, line_end, piece_most, script_limit, MayRead, Seeks, AdvancesTo, Advances}
use Rattle.rss_lines.specs.Lines.Finds.{ended, last}
use Rattle.rss_lines.specs.Pieces.{behind, is_end, FindsEnd, Fills}
use Rattle.rss_lines.specs.declared.unread.Unread.{Unread}
use Rattle.rss_lines.specs.declared.unread.Unread.TheVariants.{ReadFault, NoMemory, TooLong}
use Rattle.rss_lines.proofs.Passing.{take-take_append}
use Rattle.rss_lines.proofs.Streams.{all_then}

-- So far: a front of the line was passed, and the source isn't over.
pub record Seeking (old now : LinesView) (before source : Stream) : Type 0 where
  pub more : List ℕ
  pub line : List ℕ
  pub seeks : Seeks old now before source more line
  pub parts : old.rest ++ more ≡ line ++ now.rest
  pub ahead : length now.rest ≤ piece_most
  pub reads : (source ≡ before) ⊎ MayRead old
  pub going : now.over ≡ false
  pub begun : old.over ≡ false
  pub some : 1 ≤ old.keep

not_over : {over : Bool} {P : Type 0} → over ≡ false → over ≡ true → P
not_over is there = absurd (cc)

pub seeks_none : (old : LinesView) (source : Stream) → old.over ≡ false → 1 ≤ old.keep → old.taken ≤ script_limit → length old.rest ≤ piece_most → Seeking old (record old { line = [] }) source source
seeks_none old source going some most ahead = record {
  more = [];
  line = [];
  seeks = record {
    gives = gives_none source.bytes;
    later = omega arith;
    taken = omega arith;
    most = most;
    unbroken = λ k d lt. absurd (omega arith);
    kept = sym (take-nil old.keep);
    same_keep = refl;
  };
  parts = append-nil old.rest;
  ahead = ahead;
  reads = inl refl;
  going = going;
  begun = going;
  some = some;
}

-- the source was over before
pub was_over : (old : LinesView) (source : Stream) (line : List ℕ) → line ≡ [] → old.over ≡ true → old.rest ≡ [] → old.taken < script_limit → Advances old (record old { line = line }) source source (Ok false)
was_over old source line empty over none short = record {
  more = [];
  line = [];
  seeks = record {
    gives = gives_none source.bytes;
    later = omega arith;
    taken = omega arith;
    most = omega arith;
    unbroken = λ k d lt. absurd (omega arith);
    kept = empty ∙ sym (take-nil old.keep);
    same_keep = refl;
  };
  outcome = (append-nil old.rest ∙ none, refl, over);
  ahead = omega (arith, ap length none);
  reads = inl refl;
  over = λ is. record { all = inl over; none = none; short = short };
  stays_over = λ is. refl;
  cause = λ is. absurd (cc);
}

-- the error that `?` passes on
pub passed_on : {old new : LinesView} {before after : Stream} {why : Unread} (result : Result Bool Unread) → IsErrAnd result (λ e. e ≡ why) → Advances old new before after (Err why) → Advances old new before after result
passed_on {old = old} {new = new} {before = before} {after = after} result is advances =
    let same = err_from_is_err_and result is in
    subst (λ (r : Result Bool Unread). Advances old new before after r) (sym (same.1 ∙ ap Err same.2)) advances

-- the script is over: what is left of it is the last line, or nothing
over_to : (new : LinesView) {bytes : List ℕ} (keep : ℕ) (line : List ℕ) (empty : Bool) → 1 ≤ keep → empty ≡ nat_eq (length (take keep line)) 0 → bytes ≡ line → new.over ≡ true → AdvancesTo new bytes line (Ok (not empty))
over_to new {bytes = bytes} keep [] empty some is whole over =
    let nothing : empty ≡ true = is ∙ ap (λ (l : List ℕ). nat_eq (length l) 0) (take-nil keep) in
    subst (λ (b : Bool). AdvancesTo new bytes [] (Ok (not b))) (sym nothing) (whole, refl, over)
over_to new {bytes = bytes} keep (x ∷ xs) empty some is whole over =
    let something : empty ≡ false = grind (arith, nat_tests, is, length-take keep (x ∷ xs)) in
    subst (λ (b : Bool). AdvancesTo new bytes (x ∷ xs) (Ok (not b))) (sym something) (last whole (omega arith) over)

module _ {old mid : LinesView} {before source : Stream} (seeking : Seeking old mid before source) where
  module _ {now : LinesView} {found : Bool} (finds : FindsEnd mid now found) where
    abbrev front : List ℕ
    front = seeking.line ++ finds.bytes

    finds_seeks : Seeks old now before source seeking.more front
    finds_seeks = record {
      gives = seeking.seeks.gives;
      later = seeking.seeks.later;
      taken = ap (λ (v : LinesView). v.taken) finds.is ∙ seeking.seeks.taken;
      most = subst (λ (v : LinesView). v.taken ≤ script_limit) (sym finds.is) seeking.seeks.most;
      unbroken = All-append (λ b. b ≢ 10) seeking.line finds.bytes seeking.seeks.unbroken finds.unbroken;
      kept = ap (λ (v : LinesView). v.line) finds.is ∙ ap (λ (k : ℕ). take k (mid.line ++ finds.bytes)) seeking.seeks.same_keep ∙ ap (λ (l : List ℕ). take old.keep (l ++ finds.bytes)) seeking.seeks.kept ∙ take-take_append old.keep seeking.line finds.bytes;
      same_keep = ap (λ (v : LinesView). v.keep) finds.is ∙ seeking.seeks.same_keep;
    }

    finds_parts : old.rest ++ seeking.more ≡ front ++ behind found now.rest
    finds_parts = seeking.parts ∙ ap (λ (l : List ℕ). seeking.line ++ l) finds.parts ∙ sym (append_assoc seeking.line finds.bytes (behind found now.rest))

    -- all that was read was looked through
    finds_whole : found ≡ false → old.rest ++ seeking.more ≡ front
    finds_whole none = finds_parts ∙ ap (λ (b : Bool). front ++ behind b now.rest) none ∙ ap (λ (l : List ℕ). front ++ l) (finds.none none) ∙ append-nil front

    -- so no line ended in what was left
    may_read : found ≡ false → MayRead old
    may_read none = record {
      unbroken = subst IsUnbroken (take-append_seam old.rest seeking.more) (All-take (λ b. b ≢ 10) (length old.rest) (old.rest ++ seeking.more) (subst IsUnbroken (sym (finds_whole none)) finds_seeks.unbroken));
      going = seeking.begun;
    }

    still : now.over ≡ false
    still = ap (λ (v : LinesView). v.over) finds.is ∙ seeking.going

  pub line_found : {now : LinesView} → FindsEnd mid now true → Advances old now before source (Ok true)
  line_found {now = now} finds = record {
    more = seeking.more;
    line = front finds;
    seeks = finds_seeks finds;
    outcome = ended (finds_parts finds) (still finds);
    ahead = omega (arith, seeking.ahead, ap length finds.parts, length-append finds.bytes (line_end ∷ now.rest));
    reads = seeking.reads;
    over = not_over (still finds);
    stays_over = not_over seeking.begun;
    cause = λ is. absurd (cc);
  }

  pub memory_lacked : Advances old mid before source (Err NoMemory)
  memory_lacked = record {
    more = seeking.more;
    line = seeking.line;
    seeks = seeking.seeks;
    outcome = seeking.parts;
    ahead = seeking.ahead;
    reads = seeking.reads;
    over = not_over seeking.going;
    stays_over = not_over seeking.begun;
    cause = λ is. absurd (cc);
  }

  module _ {now new : LinesView} {after : Stream} (finds : FindsEnd mid now false) where
    module _ {result : Result Bool Unread} (fills : Fills now new source after result) where
      abbrev more : List ℕ
      more = seeking.more ++ fills.more

      fills_seeks : Seeks old new before after more (front finds)
      fills_seeks =
          let so_far = finds_seeks finds in
          record {
            gives = gives_then _ _ _ seeking.more fills.more so_far.gives fills.gives;
            later = omega (arith, so_far.later, fills.later);
            taken = ap (λ (v : LinesView). v.taken) fills.is ∙ omega (arith, so_far.taken, length-append seeking.more fills.more);
            most = fills.most;
            unbroken = so_far.unbroken;
            kept = ap (λ (v : LinesView). v.line) fills.is ∙ so_far.kept;
            same_keep = ap (λ (v : LinesView). v.keep) fills.is ∙ so_far.same_keep;
          }

      fills_parts : old.rest ++ more ≡ front finds ++ fills.more
      fills_parts = sym (append_assoc old.rest seeking.more fills.more) ∙ ap (λ (l : List ℕ). l ++ fills.more) (finds_whole finds refl)

      rest_is : new.rest ≡ fills.more
      rest_is = ap (λ (v : LinesView). v.rest) fills.is

      fills_ahead : length new.rest ≤ piece_most
      fills_ahead = omega (arith, fills.few, ap length rest_is)

      over_is : new.over ≡ is_end result
      over_is = ap (λ (v : LinesView). v.over) fills.is

      -- nothing more was read
      fills_whole : fills.more ≡ [] → old.rest ++ more ≡ front finds
      fills_whole none = fills_parts ∙ ap (λ (l : List ℕ). front finds ++ l) none ∙ append-nil (front finds)

    pub piece_filled : Fills now new source after (Ok true) → Seeking old new before after
    piece_filled fills = record {
      more = more fills;
      line = front finds;
      seeks = fills_seeks fills;
      parts = fills_parts fills ∙ ap (λ (l : List ℕ). front finds ++ l) (sym (rest_is fills));
      ahead = fills_ahead fills;
      reads = inr (may_read finds refl);
      going = over_is fills;
      begun = seeking.begun;
      some = seeking.some;
    }

    fails_to : (why : Unread) (fills : Fills now new source after (Err why)) → AdvancesTo new (old.rest ++ more fills) (front finds) (Err why)
    fails_to ReadFault fills = (record { whole = fills_whole fills fills.outcome.0; none = rest_is fills ∙ fills.outcome.0 }, fills.outcome.1)
    fails_to TooLong fills = (record { whole = fills_whole fills fills.outcome.0; none = rest_is fills ∙ fills.outcome.0 }, fills.outcome.1)
    fails_to NoMemory fills = absurd fills.outcome

    fails_by : (why : Unread) → Fills now new source after (Err why) → why ≡ ReadFault → Rises before.faults after.faults
    fails_by ReadFault fills is = rises_since seeking.seeks.later fills.outcome.2
    fails_by TooLong fills is = absurd (cc)
    fails_by NoMemory fills is = absurd fills.outcome

    pub piece_failed : (why : Unread) → Fills now new source after (Err why) → Advances old new before after (Err why)
    piece_failed why fills = record {
      more = more fills;
      line = front finds;
      seeks = fills_seeks fills;
      outcome = fails_to why fills;
      ahead = fills_ahead fills;
      reads = inr (may_read finds refl);
      over = not_over (over_is fills);
      stays_over = not_over seeking.begun;
      cause = λ is. fails_by why fills (cc);
    }

    pub source_over : (empty : Bool) → empty ≡ nat_eq (length new.line) 0 → Fills now new source after (Ok false) → Advances old new before after (Ok (not empty))
    source_over empty is fills =
        let kept = (fills_seeks fills).kept in
        let none = fills.outcome.0 in
        record {
          more = more fills;
          line = front finds;
          seeks = fills_seeks fills;
          outcome = over_to new old.keep (front finds) empty seeking.some (is ∙ ap (λ (l : List ℕ). nat_eq (length l) 0) kept) (fills_whole fills none) (over_is fills);
          ahead = fills_ahead fills;
          reads = inr (may_read finds refl);
          over = λ is. record { all = inr (subst (λ (l : List ℕ). IsAllOf before.bytes (seeking.more ++ l)) (sym none) (all_then seeking.more [] seeking.seeks.gives fills.outcome.1)); none = rest_is fills ∙ none; short = fills.outcome.2 };
          stays_over = not_over seeking.begun;
          cause = λ is. absurd (cc);
        }
