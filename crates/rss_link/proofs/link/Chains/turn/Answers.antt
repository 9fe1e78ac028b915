use Rattle.std.proofs.Math.Logic.{∥∥₁_map}
use Rattle.std.proofs.Common.{sym, ◌∙◌, ap, subst, List, ℕ, ◌+◌, Option, None, length, arith}
use Rattle.std.proofs.lemmas.Result.{on_ok_weaker}
use Rattle.rss_base.specs.declared.tid.Tid.{Tid}
use Rattle.rss_link.specs.Blocks.{HasKind, kept_ends}
use Rattle.rss_link.specs.Chains.{IsParent}
use Rattle.rss_link.specs.Calls.{seen}
use Rattle.rss_link.specs.Edits.{HasPointer, SaysSomeEnds, turn, Turns}
use Rattle.rss_link.proofs.Pointers.{long_pointer}
use Rattle.rss_link.proofs.TupleSteps.{widens}
use Rattle.rss_link.proofs.Puts.{child_key, child_tuple, parent_key, parent_tuple, kind_some, some_parent, standing_room, ends_room}
use Rattle.rss_link.proofs.Turned.{pointer_fits, end_fits, puts_same, turned_child, turned_parent}
use Rattle.rss_link.proofs.link.Chains.turn.Goals as goal

pub put-requires-clause-reaches : goal.put-requires-clause-reaches
put-requires-clause-reaches g c = λ told. ∥∥₁_map (c.requires.may.has told) (λ has.
    let old = g.T.Tuples.view c.args.tuples.now in
    let link = c.args.self.now in
    let some = subst (λ (from : Option Tid). HasPointer link (seen c.args.ends.now old) c.args.parent from) c.in-Some-default.is-0 has in
    let long = ap (λ (l : List ℕ). length l) c.pointer_bytes-bytes.ensures ∙ long_pointer c.args.to in
    record { body = some.says.body; there = some.says.there; room = omega (arith, long, c.from.ensures, c.pointer_in.ensures, pointer_fits link.unary c.args.which, standing_room link old.bodies c.in-Some-default.child some.standing some.says) })

pub returns-in-Some-default-clause-turns : goal.returns-in-Some-default-clause-turns
returns-in-Some-default-clause-turns g c = on_ok_weaker c.put.result (λ puts told linkage apart is.
    let old = g.T.Tuples.view c.args.tuples.now in
    let new = g.T.Tuples.view c.put.new.tuples in
    let link = c.args.self.now in
    let kept = c.args.ends.now in
    let some = subst (λ (from : Option Tid). ∥ HasPointer link (seen kept old) c.args.parent from ∥₁) c.in-Some-default.is-0 (c.requires.may.has told) in
    subst (λ (from : Option Tid). Turns link (turn c.args.which c.args.parent from c.args.to) linkage (seen kept old) (seen kept new)) (sym c.in-Some-default.is-0)
    (turned_child link linkage apart old new (kept_ends kept) c.args.which c.args.parent c.args.to c.in-Some-default.child (is.children c.in-Some-default.child c.in-Some-default.is-0)
    (puts_same link.child_segment c.in-Some-default.child _ _ _ _ _ _ (λ i. c.from.ensures i + c.pointer_in.ensures i) c.pointer_bytes-bytes.ensures (puts told)) some)) c.put.ensures.puts

pub returns-in-Some-default-clause-did : goal.returns-in-Some-default-clause-did
returns-in-Some-default-clause-did g c = widens c.put.result (child_key c.args.self.now c.in-Some-default.child) (child_tuple c.args.self.now c.in-Some-default.child) (omega arith) c.put.ensures.did

pub put-requires-in-None-Some-clause-reaches : goal.put-requires-in-None-Some-clause-reaches
put-requires-in-None-Some-clause-reaches g c = λ told. ∥∥₁_map (c.requires.may.has told) (λ has.
    let old = g.T.Tuples.view c.args.tuples.now in
    let link = c.args.self.now in
    let at_end = subst (λ (from : Option Tid). HasPointer link (seen c.args.ends.now old) c.args.parent from) c.in-None-Some.is-0 has in
    let some = subst (λ (parent : Option Tid). SaysSomeEnds link (seen c.args.ends.now old) parent) c.in-None-Some.is-1 at_end in
    let long = ap (λ (l : List ℕ). length l) c.pointer_bytes-bytes.ensures ∙ long_pointer c.args.to in
    record { body = some.says.body; there = some.says.there; room = omega (arith, long, c.from-in-None-Some.ensures, c.end_in.ensures, end_fits c.args.which, ends_room link old.bodies c.in-None-Some.parent some.ends some.says) })

pub returns-in-None-Some-clause-turns : goal.returns-in-None-Some-clause-turns
returns-in-None-Some-clause-turns g c = on_ok_weaker c.put-in-None-Some.result (λ puts told linkage apart is.
    let old = g.T.Tuples.view c.args.tuples.now in
    let new = g.T.Tuples.view c.put-in-None-Some.new.tuples in
    let link = c.args.self.now in
    let kept = c.args.ends.now in
    let at_end = subst (λ (from : Option Tid). ∥ HasPointer link (seen kept old) c.args.parent from ∥₁) c.in-None-Some.is-0 (c.requires.may.has told) in
    let some = subst (λ (parent : Option Tid). ∥ SaysSomeEnds link (seen kept old) parent ∥₁) c.in-None-Some.is-1 at_end in
    let parent = some_parent link.unary linkage.parents c.in-None-Some.parent (subst (λ (parent : Option Tid). IsParent link.unary linkage.parents parent) c.in-None-Some.is-1 is.is_parent) in
    subst (λ (from : Option Tid). Turns link (turn c.args.which c.args.parent from c.args.to) linkage (seen kept old) (seen kept new)) (sym c.in-None-Some.is-0)
    (subst (λ (parent : Option Tid). Turns link (turn c.args.which parent None c.args.to) linkage (seen kept old) (seen kept new)) (sym c.in-None-Some.is-1)
    (turned_parent link linkage apart old new (kept_ends kept) c.args.which c.args.to c.in-None-Some.parent parent.0 parent.1
    (puts_same link.parent_segment c.in-None-Some.parent _ _ _ _ _ _ (λ i. c.from-in-None-Some.ensures i + c.end_in.ensures i) c.pointer_bytes-bytes.ensures (puts told)) some))) c.put-in-None-Some.ensures.puts

pub returns-in-None-Some-clause-did : goal.returns-in-None-Some-clause-did
returns-in-None-Some-clause-did g c =
    let kind = kind_some c.args.self.now.unary c.in-None-Some.parent (subst (λ (parent : Option Tid). HasKind c.args.self.now.unary parent) c.in-None-Some.is-1 c.requires.kind) in
    widens c.put-in-None-Some.result (parent_key c.args.self.now c.in-None-Some.parent kind) (parent_tuple c.args.self.now c.in-None-Some.parent kind) (omega arith) c.put-in-None-Some.ensures.did
