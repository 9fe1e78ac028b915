use Rattle.std.proofs.Common.{◌≡◌, ℕ, ◌+◌, ◌-◌, ◌≤◌, List, [], ◌++◌, length, take, drop, min, Some, refl, sym, ◌∙◌, ap, arith, append_assoc, length-drop, subst}
use Rattle.std.specs.Prelude.{Result, Ok}
use Rattle.std.proofs.lemmas.List.{take-append-drop, drop-drop, length-take, take_rest}
use Rattle.std.proofs.lemmas.Option.{same_Some}
use Rattle.std.proofs.Math.Seq.{take-append_seam}
use Rattle.rss_base.specs.Streams.{Stream, ReadsBytes}
use Rattle.rss_base.specs.declared.fault.Failed.{Failed}
use Rattle.rss_model.specs.Generator.{generated}
use Rattle.rss_model.specs.Script.{joined}
use Rattle.rss_top.specs.GeneratedScript.{view_of}
use Rattle.rss_top.proofs.generated.GeneratedScriptSource.read.Goals as goal

-- what is left of a line, with the lines behind it
abbrev told : List ℕ → List ℕ → ℕ → ℕ → Stream
told line rest given faults = record { bytes = Some (drop given line ++ rest); faults = faults }

-- so many bytes of it, as many as there are and as fit
module _ (line rest into : List ℕ) (given n : ℕ) (within : given ≤ length line) (is : n ≡ min (length line - given) (length into)) where
  front_long : length (take n (drop given line)) ≡ n
  front_long = omega (arith, length-take n (drop given line), length-drop given line, is)

  parts : drop given line ++ rest ≡ take n (drop given line) ++ (drop (given + n) line ++ rest)
  parts =
      ap (λ (l : List ℕ). l ++ rest) (sym (take-append-drop n (drop given line)))
      ∙ append_assoc (take n (drop given line)) (drop n (drop given line)) rest
      ∙ ap (λ (l : List ℕ). take n (drop given line) ++ (l ++ rest)) (drop-drop n given line)

  read_back : take n (take n (drop given line) ++ drop n into) ≡ take n (drop given line)
  read_back = ap (λ (k : ℕ). take k (take n (drop given line) ++ drop n into)) (sym front_long) ∙ take-append_seam (take n (drop given line)) (drop n into)

  none_read : (result : Result ℕ Failed) → result ≡ Ok n → result ≡ Ok 0 → n ≡ 0
  none_read result is none = cc

  reads_line : (faults : ℕ) → (given ≡ length line → drop given line ++ rest ≡ []) → ReadsBytes (length into) (take n (drop given line) ++ drop n into) (told line rest given faults) (told line rest (given + n) faults) (Ok n)
  reads_line faults over = record {
    within = omega (arith, is);
    gives = record {
      moves = λ all same. (
        drop (given + n) line ++ rest,
        refl,
        sym (same_Some _ _ same) ∙ parts ∙ ap (λ (l : List ℕ). l ++ (drop (given + n) line ++ rest)) (sym read_back),
      );
    };
    end = λ none some all same. sym (same_Some _ _ same) ∙ over (omega (arith, within, is, none_read (Ok n) refl none, some));
    failed = tt;
    cause = record { later = omega arith; failed = λ err. absurd (cc) };
  }

pub returns : goal.returns
returns c =
    let mid = c.advance.new.self in
    let line : List ℕ = mid.line in
    let into = c.args.into.now in
    let n = c.min-n.result in
    let rest = joined (drop mid.next (generated mid.number mid.count)) in
    let left : take (length c.as_slice.result.now - mid.given) (drop mid.given c.as_slice.result.now) ≡ drop mid.given line = ap (λ (l : List ℕ). take (length l - mid.given) (drop mid.given l)) c.as_slice.ensures ∙ take_rest line mid.given in
    let is : n ≡ min (length line - mid.given) (length into) = c.min-n.ensures ∙ ap (λ (l : List ℕ). min (length l) (length into)) left ∙ ap (λ (k : ℕ). min k (length into)) (length-drop mid.given line) in
    let new : Stream = record { bytes = Some (drop (mid.given + n) line ++ rest); faults = mid.faults } in
    let front : c.copy_from_slice.new.self ≡ take n (drop mid.given line) = c.copy_from_slice.ensures.after ∙ ap (λ (l : List ℕ). take n l) left in
    subst (λ (l : List ℕ). ReadsBytes (length into) (l ++ drop n into) (view_of c.args.self.now) new (Ok n)) (sym front)
    (subst (λ (s : Stream). ReadsBytes (length into) (take n (drop mid.given line) ++ drop n into) s new (Ok n)) c.in-Ok.ensures.same
    (reads_line line rest into mid.given n mid.within is mid.faults c.in-Ok.ensures.more))
