use Rattle.std.proofs.Math.Logic.{∥∥₁_map}
use Rattle.std.proofs.Common.{sym, ◌∙◌, subst, arith}
use Rattle.rss_tuple.specs.Directory.{Bodies}
use Rattle.rss_link.specs.Edits.{SaysSome}
use Rattle.rss_link.proofs.Meaning.{says_some}
use Rattle.std.proofs.lemmas.Result.{on_ok_weaker}
use Rattle.rss_link.proofs.TupleSteps.{stepped, same_bodies, told_then, told_before, heaps_then, untouched, then, then_call, widens, fails, same_slots, takes_after, takes_then}
use Rattle.rss_link.proofs.Connected.{connect_left, connect_right, connect_turns_left, connect_turns_right, connected}
use Rattle.std.proofs.lemmas.Result.{IfErr-weaker}
use Rattle.rss_link.proofs.TupleSteps.{fault_is}
use Rattle.rss_link.proofs.Failing.{child_fault, pointer_fault}
use Rattle.rss_link.specs.Calls.{IsLinkFault}
use Rattle.rss_link.proofs.Operations.{free_at, relists}
use Rattle.rss_link.proofs.link.Chains.connect.Goals as goal

pub behind-requires : goal.behind-requires
behind-requires g c = record {
  heaps = c.requires.heaps;
  knows = λ told. ∥∥₁_map (c.requires.knows told) (λ knows.
      let place = free_at knows.spells knows.free in
      record { linkage = knows.linkage; before = place.before; after = place.after; spells = knows.spells; parted = place.at.parted });
}

pub turn-requires-clause-may : goal.turn-requires-clause-may
turn-requires-clause-may g c =
    let step0 = stepped c.in_ok-right.ensures.did in
    let step1 = stepped c.in_ok-restate.ensures.did in
    record {
      heaps = heaps_then step1;
      has = λ told.
          let told0 = told_before step0 (told_before step1 told) in
          ∥∥₁_map (c.requires.knows told0) (λ knows.
          connect_left step0 c.in_ok-right.ensures.finds c.in_ok-restate.ensures.restates told0 knows.spells (free_at knows.spells knows.free).at);
    }

pub turn-requires-2-clause-may : goal.turn-requires-2-clause-may
turn-requires-2-clause-may g c =
    let step0 = stepped c.in_ok-right.ensures.did in
    let step1 = stepped c.in_ok-restate.ensures.did in
    let step2 = stepped c.in_ok-turn.ensures.did in
    record {
      heaps = heaps_then step2;
      has = λ told.
          let told1 = told_before step1 (told_before step2 told) in
          let told0 = told_before step0 told1 in
          ∥∥₁_map (c.requires.knows told0) (λ knows.
          connect_right step0 c.in_ok-right.ensures.finds c.in_ok-restate.ensures.restates told0 knows.spells (free_at knows.spells knows.free).at
          (c.in_ok-turn.ensures.turns (told_then step1 told1) knows.linkage knows.spells.apart (connect_turns_left step0 c.in_ok-right.ensures.finds c.in_ok-restate.ensures.restates told0 knows.spells (free_at knows.spells knows.free).at)));
    }

pub returns-clause-connects : goal.returns-clause-connects
returns-clause-connects g c =
    let step0 = stepped c.in_ok-right.ensures.did in
    let step1 = stepped c.in_ok-restate.ensures.did in
    let step2 = stepped c.in_ok-turn.ensures.did in
    on_ok_weaker c.turn-2.result (λ turns told linkage spells free_one.
    let place = free_at spells free_one in
    let free = place.at in
    let told2 = told_then step1 (told_then step0 told) in
    relists place.list
    (connected step0 c.in_ok-right.ensures.finds c.in_ok-restate.ensures.restates told spells free
    (c.in_ok-turn.ensures.turns told2 linkage spells.apart (connect_turns_left step0 c.in_ok-right.ensures.finds c.in_ok-restate.ensures.restates told spells free))
    (turns (told_then step2 told2) linkage spells.apart (connect_turns_right step0 c.in_ok-right.ensures.finds c.in_ok-restate.ensures.restates told spells free)))) c.turn-2.ensures.turns

pub returns-clause-room : goal.returns-clause-room
returns-clause-room g c =
    let step0 = stepped c.in_ok-right.ensures.did in
    let step1 = stepped c.in_ok-restate.ensures.did in
    let step2 = stepped c.in_ok-turn.ensures.did in
    let old = (g.T.Tuples.view c.args.tuples.now).pages in
    let first = (g.T.Tuples.view c.behind.new.tuples).pages in
    let second = (g.T.Tuples.view c.restate.new.tuples).pages in
    let third = (g.T.Tuples.view c.turn.new.tuples).pages in
    let fourth = (g.T.Tuples.view c.turn-2.new.tuples).pages in
    on_ok_weaker c.turn-2.result (λ room. record {
      takes = λ told.
          let told1 = told_then step0 told in
          let told2 = told_then step1 told1 in
          takes_then old third fourth (takes_after third step0 (takes_then first second third (c.in_ok-restate.ensures.takes told1) (c.in_ok-turn.ensures.room.takes told2))) (room.takes (told_then step2 told2));
      ends = λ kind. room.ends kind ∙ c.in_ok-turn.ensures.room.ends kind;
    }) c.turn-2.ensures.room

pub returns-clause-did : goal.returns-clause-did
returns-clause-did g c =
    let step0 = stepped c.in_ok-right.ensures.did in
    let step1 = stepped c.in_ok-restate.ensures.did in
    let step2 = stepped c.in_ok-turn.ensures.did in
    widens c.turn-2.result (λ key there. there) (λ segment tid there. there) (omega (arith, same_slots step0, same_slots step1, same_slots step2))
    (then_call c.turn-2.result (then (then (untouched step0) step1) step2) c.turn-2.ensures.did)

pub returns-in_err-restate-clause-did : goal.returns-in_err-restate-clause-did
returns-in_err-restate-clause-did g c =
    let step0 = stepped c.in_ok-right.ensures.did in
    fails c.from_residual-in_err-restate.result c.from_residual-in_err-restate.ensures.1 (λ key there. there) (omega (arith, same_slots step0))
    (then_call _ (untouched step0) c.in_err-restate.ensures.did)

pub returns-in_err-turn-clause-did : goal.returns-in_err-turn-clause-did
returns-in_err-turn-clause-did g c =
    let step0 = stepped c.in_ok-right.ensures.did in
    let step1 = stepped c.in_ok-restate.ensures.did in
    fails c.from_residual-in_err-turn.result c.from_residual-in_err-turn.ensures.1 (λ key there. there) (omega (arith, same_slots step0, same_slots step1))
    (then_call _ (then (untouched step0) step1) c.in_err-turn.ensures.did)

pub returns-clause-faults : goal.returns-clause-faults
returns-clause-faults g c = IfErr-weaker c.turn-2.result _ _ (pointer_fault c.args.self.now c.args.parent c.in_ok-right.right c.requires.kind) c.turn-2.ensures.faults

pub returns-in_err-right-clause-faults : goal.returns-in_err-right-clause-faults
returns-in_err-right-clause-faults g c = fault_is (IsLinkFault c.args.self.now) _ c.from_residual.ensures.1 (pointer_fault c.args.self.now c.args.parent c.args.left c.requires.kind _ c.in_err-right.ensures.faults)

pub returns-in_err-restate-clause-faults : goal.returns-in_err-restate-clause-faults
returns-in_err-restate-clause-faults g c = fault_is (IsLinkFault c.args.self.now) _ c.from_residual-in_err-restate.ensures.1 (child_fault c.args.self.now c.args.child _ c.in_err-restate.ensures.faults)

pub returns-in_err-turn-clause-faults : goal.returns-in_err-turn-clause-faults
returns-in_err-turn-clause-faults g c = fault_is (IsLinkFault c.args.self.now) _ c.from_residual-in_err-turn.ensures.1 (pointer_fault c.args.self.now c.args.parent c.args.left c.requires.kind _ c.in_err-turn.ensures.faults)

pub returns-in_err-right-clause-did : goal.returns-in_err-right-clause-did
returns-in_err-right-clause-did g c = fails c.from_residual.result c.from_residual.ensures.1 (λ key none. absurd none) (omega arith) c.in_err-right.ensures.did

pub restate-requires-clause-may : goal.restate-requires-clause-may
restate-requires-clause-may g c =
    let step0 = stepped c.in_ok-right.ensures.did in
    record {
      heaps = heaps_then step0;
      some = λ told.
          let told0 = told_before step0 told in
          ∥∥₁_map (c.requires.knows told0) (λ knows.
          subst (λ (bodies : Bodies). SaysSome c.args.self.now bodies c.args.child) (sym (same_bodies step0 told0)) (says_some knows.spells c.args.child knows.free.child));
    }
