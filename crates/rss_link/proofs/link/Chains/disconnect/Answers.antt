use Rattle.std.proofs.Math.Logic.{∥∥₁_elim, ∥∥₁_map}
use mathlib.Core.HLevel.{⊥_prop}
use Rattle.std.proofs.Common.{inr, sym, ◌∙◌, subst, arith}
use Rattle.rss_tuple.specs.Directory.{Bodies}
use Rattle.rss_link.specs.Edits.{SaysSome}
use Rattle.std.proofs.lemmas.Result.{on_ok_weaker}
use Rattle.rss_link.specs.declared.blocks.Standing.{Standing}
use Rattle.rss_link.specs.Blocks.{IsStanding}
use Rattle.rss_link.specs.Links.{Says}
use Rattle.rss_link.proofs.TupleSteps.{stepped, same_bodies, told_then, told_before, heaps_then, untouched, then, then_call, widens, within, fails, is_damaged, same_slots, takes_after, takes_then}
use Rattle.rss_link.proofs.Meaning.{says_some, stands_by}
use Rattle.rss_link.proofs.Connected.{disconnect_left, disconnect_right, disconnect_turns_left, disconnect_turns_right, disconnected}
use Rattle.std.proofs.lemmas.Result.{IfErr-weaker}
use Rattle.rss_link.proofs.TupleSteps.{fault_is}
use Rattle.rss_link.proofs.Failing.{child_fault, pointer_fault}
use Rattle.rss_link.specs.Calls.{IsLinkFault}
use Rattle.rss_link.proofs.Operations.{stands_under, taken_out, relists}
use Rattle.rss_link.proofs.link.Chains.disconnect.Goals as goal

pub standing-requires : goal.standing-requires
standing-requires g c = record {
  heaps = c.requires.heaps;
  some = λ told. ∥∥₁_map (c.requires.knows told) (λ knows. says_some knows.spells c.args.child (knows.spells.chains.children c.args.child knows.stands));
}

pub returns-in_default-clause-did : goal.returns-in_default-clause-did
returns-in_default-clause-did g c =
    let step0 = stepped c.in_ok-parent.ensures.did in
    is_damaged c.damaged.result c.damaged.ensures (within (λ key none. absurd none) (λ segment tid none. absurd none) (omega arith) step0)
    (λ told. ∥∥₁_elim (c.requires.knows told) ⊥_prop (λ knows.
    stands_by knows.spells c.args.child _ _ c.in_default.is (knows.spells.chains.children c.args.child knows.stands) (c.in_ok-parent.ensures.says told) knows.stands))

pub turn-requires-clause-may : goal.turn-requires-clause-may
turn-requires-clause-may g c =
    let step0 = stepped c.in_ok-parent.ensures.did in
    let step1 = stepped c.in_ok-restate.ensures.did in
    let fits = subst (λ (s : Standing). IsStanding c.args.self.now.unary s) c.in-Within.is c.in_ok-parent.ensures.fits in
    record {
      heaps = heaps_then step1;
      has = λ told.
          let told0 = told_before step0 (told_before step1 told) in
          ∥∥₁_map (c.requires.knows told0) (λ knows.
          disconnect_left step0 (λ told. subst (λ (s : Standing). Says c.args.self.now (g.T.Tuples.view c.args.tuples.now).bodies c.args.child s) c.in-Within.is (c.in_ok-parent.ensures.says told)) fits c.in_ok-restate.ensures.restates told0 knows.spells knows.stands);
    }

pub turn-requires-2-clause-may : goal.turn-requires-2-clause-may
turn-requires-2-clause-may g c =
    let step0 = stepped c.in_ok-parent.ensures.did in
    let step1 = stepped c.in_ok-restate.ensures.did in
    let step2 = stepped c.in_ok-turn.ensures.did in
    let fits = subst (λ (s : Standing). IsStanding c.args.self.now.unary s) c.in-Within.is c.in_ok-parent.ensures.fits in
    record {
      heaps = heaps_then step2;
      has = λ told.
          let told1 = told_before step1 (told_before step2 told) in
          let told0 = told_before step0 told1 in
          ∥∥₁_map (c.requires.knows told0) (λ knows.
          disconnect_right step0 (λ told. subst (λ (s : Standing). Says c.args.self.now (g.T.Tuples.view c.args.tuples.now).bodies c.args.child s) c.in-Within.is (c.in_ok-parent.ensures.says told)) fits c.in_ok-restate.ensures.restates told0 knows.spells knows.stands
          (c.in_ok-turn.ensures.turns (told_then step1 told1) knows.linkage knows.spells.apart (disconnect_turns_left step0 (λ told. subst (λ (s : Standing). Says c.args.self.now (g.T.Tuples.view c.args.tuples.now).bodies c.args.child s) c.in-Within.is (c.in_ok-parent.ensures.says told)) fits c.in_ok-restate.ensures.restates told0 knows.spells knows.stands)));
    }

pub returns-clause-disconnects : goal.returns-clause-disconnects
returns-clause-disconnects g c =
    let step0 = stepped c.in_ok-parent.ensures.did in
    let step1 = stepped c.in_ok-restate.ensures.did in
    let step2 = stepped c.in_ok-turn.ensures.did in
    let fits = subst (λ (s : Standing). IsStanding c.args.self.now.unary s) c.in-Within.is c.in_ok-parent.ensures.fits in
    on_ok_weaker c.turn-2.result (λ turns told linkage parent spells child_of.
    let stands = stands_under child_of in
    let told2 = told_then step1 (told_then step0 told) in
    relists (taken_out spells child_of)
    (disconnected step0 (λ told. subst (λ (s : Standing). Says c.args.self.now (g.T.Tuples.view c.args.tuples.now).bodies c.args.child s) c.in-Within.is (c.in_ok-parent.ensures.says told)) fits c.in_ok-restate.ensures.restates told spells stands
    (c.in_ok-turn.ensures.turns told2 linkage spells.apart (disconnect_turns_left step0 (λ told. subst (λ (s : Standing). Says c.args.self.now (g.T.Tuples.view c.args.tuples.now).bodies c.args.child s) c.in-Within.is (c.in_ok-parent.ensures.says told)) fits c.in_ok-restate.ensures.restates told spells stands))
    (turns (told_then step2 told2) linkage spells.apart (disconnect_turns_right step0 (λ told. subst (λ (s : Standing). Says c.args.self.now (g.T.Tuples.view c.args.tuples.now).bodies c.args.child s) c.in-Within.is (c.in_ok-parent.ensures.says told)) fits c.in_ok-restate.ensures.restates told spells stands)))) c.turn-2.ensures.turns

pub returns-clause-room : goal.returns-clause-room
returns-clause-room g c =
    let step0 = stepped c.in_ok-parent.ensures.did in
    let step1 = stepped c.in_ok-restate.ensures.did in
    let step2 = stepped c.in_ok-turn.ensures.did in
    let old = (g.T.Tuples.view c.args.tuples.now).pages in
    let first = (g.T.Tuples.view c.standing.new.tuples).pages in
    let second = (g.T.Tuples.view c.restate.new.tuples).pages in
    let third = (g.T.Tuples.view c.turn.new.tuples).pages in
    let fourth = (g.T.Tuples.view c.turn-2.new.tuples).pages in
    on_ok_weaker c.turn-2.result (λ room. record {
      takes = λ told.
          let told1 = told_then step0 told in
          let told2 = told_then step1 told1 in
          takes_then old third fourth (takes_after third step0 (takes_then first second third (c.in_ok-restate.ensures.takes told1) (c.in_ok-turn.ensures.room.takes told2))) (room.takes (told_then step2 told2));
      ends = λ kind. room.ends kind ∙ c.in_ok-turn.ensures.room.ends kind;
    }) c.turn-2.ensures.room

pub returns-clause-did : goal.returns-clause-did
returns-clause-did g c =
    let step0 = stepped c.in_ok-parent.ensures.did in
    let step1 = stepped c.in_ok-restate.ensures.did in
    let step2 = stepped c.in_ok-turn.ensures.did in
    widens c.turn-2.result (λ key there. there) (λ segment tid there. there) (omega (arith, same_slots step0, same_slots step1, same_slots step2))
    (then_call c.turn-2.result (then (then (untouched step0) step1) step2) c.turn-2.ensures.did)

pub returns-in_err-restate-clause-did : goal.returns-in_err-restate-clause-did
returns-in_err-restate-clause-did g c =
    let step0 = stepped c.in_ok-parent.ensures.did in
    fails c.from_residual-in_err-restate.result c.from_residual-in_err-restate.ensures.1 (λ key there. there) (omega (arith, same_slots step0))
    (then_call _ (untouched step0) c.in_err-restate.ensures.did)

pub returns-in_err-turn-clause-did : goal.returns-in_err-turn-clause-did
returns-in_err-turn-clause-did g c =
    let step0 = stepped c.in_ok-parent.ensures.did in
    let step1 = stepped c.in_ok-restate.ensures.did in
    fails c.from_residual-in_err-turn.result c.from_residual-in_err-turn.ensures.1 (λ key there. there) (omega (arith, same_slots step0, same_slots step1))
    (then_call _ (then (untouched step0) step1) c.in_err-turn.ensures.did)

pub returns-clause-faults : goal.returns-clause-faults
returns-clause-faults g c =
    let fits = subst (λ (s : Standing). IsStanding c.args.self.now.unary s) c.in-Within.is c.in_ok-parent.ensures.fits in
    IfErr-weaker c.turn-2.result _ _ (pointer_fault c.args.self.now _ _ fits.0) c.turn-2.ensures.faults

pub returns-in_err-restate-clause-faults : goal.returns-in_err-restate-clause-faults
returns-in_err-restate-clause-faults g c = fault_is (IsLinkFault c.args.self.now) _ c.from_residual-in_err-restate.ensures.1 (child_fault c.args.self.now c.args.child _ c.in_err-restate.ensures.faults)

pub returns-in_err-turn-clause-faults : goal.returns-in_err-turn-clause-faults
returns-in_err-turn-clause-faults g c =
    let fits = subst (λ (s : Standing). IsStanding c.args.self.now.unary s) c.in-Within.is c.in_ok-parent.ensures.fits in
    fault_is (IsLinkFault c.args.self.now) _ c.from_residual-in_err-turn.ensures.1 (pointer_fault c.args.self.now _ _ fits.0 _ c.in_err-turn.ensures.faults)

pub returns-in_default-clause-faults : goal.returns-in_default-clause-faults
returns-in_default-clause-faults g c = child_fault c.args.self.now c.args.child c.damaged.result (inr c.damaged.ensures)

pub restate-requires-clause-may : goal.restate-requires-clause-may
restate-requires-clause-may g c =
    let step0 = stepped c.in_ok-parent.ensures.did in
    record {
      heaps = heaps_then step0;
      some = λ told.
          let told0 = told_before step0 told in
          ∥∥₁_map (c.requires.knows told0) (λ knows.
          subst (λ (bodies : Bodies). SaysSome c.args.self.now bodies c.args.child) (sym (same_bodies step0 told0)) (says_some knows.spells c.args.child (knows.spells.chains.children c.args.child knows.stands)));
    }

pub returns-in_err-parent-clause-did : goal.returns-in_err-parent-clause-did
returns-in_err-parent-clause-did g c = fails c.from_residual.result c.from_residual.ensures.1 (λ key none. absurd none) (omega arith) c.in_err-parent.ensures.did
