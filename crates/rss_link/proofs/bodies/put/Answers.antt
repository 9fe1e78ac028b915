use Rattle.std.proofs.Math.Logic.{∥∥₁_elim}
use mathlib.Core.HLevel.{⊥_prop}
use Rattle.std.proofs.Common.{◌≡◌, ℕ, sym, ◌∙◌, ap, List, length, rules, arith}
use Rattle.std.specs.Prelude.{Some}
use Rattle.std.proofs.lemmas.Grind.{common_steps}
use Rattle.rss_base.specs.Steps.{with_bytes}
use Rattle.rss_link.proofs.TupleSteps.{stepped, heaps_then, told_before, same_slots, untouched, then_call, widens, done, then, within, fails, fails_at, is_damaged}
use Rattle.rss_link.proofs.Lists.{some_one}
use Rattle.rss_link.proofs.Told.{live_by}
use Rattle.rss_link.proofs.Edited.{length-with_bytes, puts_after, takes_for}
use Rattle.rss_link.proofs.bodies.put.Goals as goal

pub read-requires : goal.read-requires
read-requires g c = record { heaps = c.requires.heaps; live = λ told. live_by _ (λ reaches. reaches.body) (λ reaches. reaches.there) (c.requires.reaches told) }

pub returns-in-Ok-clause-puts : goal.returns-in-Ok-clause-puts
returns-in-Ok-clause-puts g c =
    let is : c.as_slice.result.now ≡ with_bytes c.as_slice-old.result.now c.args.at c.args.bytes.now = grind (arith, common_steps) in
    puts_after (stepped c.in_ok-read.ensures.did) (g.T.Tuples.view c.replace.new.self) c.args.segment c.args.tid c.args.at c.args.bytes.now c.as_slice-old.result.now c.as_slice.result.now is c.if-old-end.false (λ told. c.in_ok-read.ensures.read told ∙ ap (λ (b : List ℕ). Some b) (sym c.as_slice-old.ensures.bytes)) c.in-Ok.ensures.puts.put

pub returns-in-Ok-clause-takes : goal.returns-in-Ok-clause-takes
returns-in-Ok-clause-takes g c =
    let is : c.as_slice.result.now ≡ with_bytes c.as_slice-old.result.now c.args.at c.args.bytes.now = grind (arith, common_steps) in
    takes_for (stepped c.in_ok-read.ensures.did) (g.T.Tuples.view c.replace.new.self) c.args.segment c.args.tid c.args.at c.args.bytes.now c.as_slice-old.result.now c.as_slice.result.now is c.if-old-end.false (λ told. c.in_ok-read.ensures.read told ∙ ap (λ (b : List ℕ). Some b) (sym c.as_slice-old.ensures.bytes)) c.in-Ok.ensures.no_page

pub returns-in-Ok-clause-did : goal.returns-in-Ok-clause-did
returns-in-Ok-clause-did g c =
    let step = stepped c.in_ok-read.ensures.did in
    done _ (within (λ key there. there) (λ segment tid there. there) (omega (arith, same_slots step)) (then (untouched step) (stepped c.in-Ok.ensures.puts.did)))

pub returns-in-Err-clause-did : goal.returns-in-Err-clause-did
returns-in-Err-clause-did g c =
    let step = stepped c.in_ok-read.ensures.did in
    widens _ (λ key there. there) (λ segment tid there. there) (omega (arith, same_slots step))
    (then_call _ (untouched step) (fails_at c.in-Err.fault c.fault_at.result c.args.segment c.args.tid c.fault_at.ensures.at c.fault_at.ensures.failed c.fault_at.ensures.damaged c.in-Err.ensures.puts.did))

pub returns-then-old-end-clause-did : goal.returns-then-old-end-clause-did
returns-then-old-end-clause-did g c = is_damaged c.damaged.result c.damaged.ensures
    (within (λ key none. absurd none) (λ segment tid none. absurd none) (omega arith) (stepped c.in_ok-read.ensures.did))
    (λ told. ∥∥₁_elim (c.requires.reaches told) ⊥_prop (λ reaches.
    let same = some_one _ _ (sym reaches.there ∙ c.in_ok-read.ensures.read told) ∙ sym c.as_slice-old.ensures.bytes in
    omega (arith, reaches.room, ap (λ (l : List ℕ). length l) same, c.if-old-end.true)))

pub replace-requires : goal.replace-requires
replace-requires g c =
    let step = stepped c.in_ok-read.ensures.did in
    let old = c.as_slice-old.result.now in
    let is : c.as_slice.result.now ≡ with_bytes old c.args.at c.args.bytes.now = grind (arith, common_steps) in
    let long : length c.as_slice.result.now ≡ length old = ap (λ (l : List ℕ). length l) is ∙ length-with_bytes old c.args.at c.args.bytes.now c.if-old-end.false in
    record {
      may = record {
        segment = c.requires.segment;
        length = record { some = omega (arith, long, c.if-old-end.false, c.requires.some); most = search rules };
      };
      there = record { heaps = heaps_then step; live = search rules };
      room = λ told bytes body less.
          let before = told_before step told in
          let same = some_one _ _ (sym body ∙ step.others before c.args.segment c.args.tid (λ none. none) ∙ c.in_ok-read.ensures.read before) ∙ sym c.as_slice-old.ensures.bytes in
          omega (arith, less, long, ap (λ (l : List ℕ). length l) same);
    }

pub returns-in_err-read-clause-did : goal.returns-in_err-read-clause-did
returns-in_err-read-clause-did g c = fails c.from_residual.result c.from_residual.ensures.1 (λ key none. absurd none) (omega arith) c.in_err-read.ensures.did
