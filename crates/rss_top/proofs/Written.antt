-- Lines, while they are written one by one.
use Rattle.std.proofs.Common.{◌≡◌, ℕ, ◌+◌, ◌<◌, ◌≤◌, List, [], ◌∷◌, ◌++◌, length, take, drop, sym, ◌∙◌, ap, subst, arith, append_assoc}
use Rattle.std.specs.Prelude.{slice_index_or}
use Rattle.std.proofs.lemmas.List.{take_more, take-append-drop}
use Rattle.rss_base.specs.Faults.{Rises}
use Rattle.rss_base.specs.Streams.{Stream, Takes, TakesFront}
use Rattle.rss_base.proofs.Flows.{takes_then}
use Rattle.rss_base.proofs.Moments.{rises_since}
use Rattle.rss_model.specs.Script.{joined}
use Rattle.rss_top.specs.Generated.{WritesLines}
use Rattle.rss_top.specs.declared.status.Status.TheVariants.{WriteFault, NoMemory}
use Rattle.rss_top.proofs.Stories.{joined-append}

-- so many of the lines were written
pub record Wrote (lines : List (List ℕ)) (done : ℕ) (old now : Stream) : Type 0 where
  pub later : old.faults ≤ now.faults
  pub takes : Takes old.bytes (joined (take done lines)) now.bytes

pub wrote_lacks : {lines : List (List ℕ)} {old now : Stream} (done : ℕ) → Wrote lines done old now → WritesLines lines NoMemory old now
wrote_lacks {lines = lines} done wrote = record {
  later = wrote.later;
  ends = record { first = take done lines; others = drop done lines; parts = sym (take-append-drop done lines); takes = wrote.takes };
}

-- the next line
module _ {lines : List (List ℕ)} {old now : Stream} (done : ℕ) (low : done < length lines) (line : List ℕ) (is : line ≡ slice_index_or lines done [] ++ 10 ∷ []) (wrote : Wrote lines done old now) where
  joined_next : joined (take (done + 1) lines) ≡ joined (take done lines) ++ line
  joined_next = ap joined (take_more lines done [] low) ∙ joined-append (take done lines) (slice_index_or lines done [] ∷ []) ∙ ap (λ (l : List ℕ). joined (take done lines) ++ l) (sym is)

  pub wrote_more : {new : Stream} → now.faults ≤ new.faults → Takes now.bytes line new.bytes → Wrote lines (done + 1) old new
  wrote_more {new = new} later takes = record {
    later = omega (arith, wrote.later, later);
    takes = subst (λ (l : List ℕ). Takes old.bytes l new.bytes) (sym joined_next) (takes_then _ _ _ _ _ wrote.takes takes);
  }

  -- all lines, with the front and the back of this one
  cut_at : (front back : List ℕ) → line ≡ front ++ back → joined lines ≡ (joined (take done lines) ++ front) ++ (back ++ joined (drop (done + 1) lines))
  cut_at front back parts =
      let before = joined (take done lines) in
      let behind = joined (drop (done + 1) lines) in
      ap joined (sym (take-append-drop (done + 1) lines))
      ∙ joined-append (take (done + 1) lines) (drop (done + 1) lines)
      ∙ ap (λ (l : List ℕ). l ++ behind) (joined_next ∙ ap (λ (l : List ℕ). before ++ l) parts ∙ sym (append_assoc before front back))
      ∙ append_assoc (before ++ front) back behind

  pub wrote_cut : {new : Stream} → now.faults ≤ new.faults → TakesFront now.bytes line new.bytes → Rises now.faults new.faults → WritesLines lines WriteFault old new
  wrote_cut later cut rises = record {
    later = omega (arith, wrote.later, later);
    ends = (
      record {
        front = joined (take done lines) ++ cut.front;
        back = cut.back ++ joined (drop (done + 1) lines);
        parts = cut_at cut.front cut.back cut.parts;
        takes = takes_then _ _ _ _ _ wrote.takes cut.takes;
      },
      rises_since wrote.later rises,
    );
  }
