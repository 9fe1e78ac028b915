use Rattle.std.proofs.Math.Logic.{∥∥₁_map}
use Rattle.std.proofs.Common.{◌∙◌, ap, List, ℕ, length, arith}
use Rattle.std.proofs.lemmas.Result.{on_ok_weaker}
use Rattle.rss_link.proofs.BlockBytes.{length-standing_bytes}
use Rattle.rss_link.proofs.TupleSteps.{widens}
use Rattle.rss_link.proofs.Puts.{child_key, child_tuple, standing_room}
use Rattle.rss_link.proofs.Turned.{puts_same, restated}
use Rattle.rss_link.proofs.link.Chains.restate.Goals as goal

pub put-requires-clause-reaches : goal.put-requires-clause-reaches
put-requires-clause-reaches g c = λ told. ∥∥₁_map (c.requires.may.some told) (λ some.
    let long = ap (λ (l : List ℕ). length l) (c.as_slice.ensures.bytes ∙ c.standing_bytes-block.ensures) ∙ length-standing_bytes c.args.self.now.unary c.args.standing in
    record { body = some.says.body; there = some.says.there; room = omega (arith, long, c.from-at.ensures, standing_room c.args.self.now _ c.args.child some.standing some.says) })

pub returns-clause-restates : goal.returns-clause-restates
returns-clause-restates g c = on_ok_weaker c.put.result (λ puts told kept linkage apart is_child.
    restated c.args.self.now linkage apart (g.T.Tuples.view c.args.tuples.now) (g.T.Tuples.view c.put.new.tuples) kept c.args.child c.args.standing is_child
    (puts_same c.args.self.now.child_segment c.args.child _ _ _ _ _ _ c.from-at.ensures (c.as_slice.ensures.bytes ∙ c.standing_bytes-block.ensures) (puts told))) c.put.ensures.puts

pub returns-clause-did : goal.returns-clause-did
returns-clause-did g c = widens c.put.result (child_key c.args.self.now c.args.child) (child_tuple c.args.self.now c.args.child) (omega arith) c.put.ensures.did
