use Rattle.std.proofs.Common.{◌+◌, refl}
use Rattle.std.proofs.lemmas.Result.{IfOk-weaker}
use Rattle.rss_link.specs.Blocks.{kept_ends}
use Rattle.rss_link.proofs.TupleSteps.{then_call, stepped, told_then}
use Rattle.rss_link.proofs.Checks.{ends_said, ends_had, is_upper, taken_below}
use Rattle.rss_link.proofs.link.Chains.walk_below.Goals as goal

pub returns-in-Some-clause-takes : goal.returns-in-Some-clause-takes
returns-in-Some-clause-takes g c = IfOk-weaker c.walk.result _ _ (λ found walks told.
    let finds = (rw c.if-not-branch.false at c.in_ok-find.ensures.finds) told in
    let step = stepped c.in_ok-find.ensures.did in
    taken_below c.args.self.now c.args.relations (kept_ends c.args.ends.now) step told c.args.most (is_upper c.args.self.now c.args.relations (g.T.Tuples.view c.args.tuples.now).bodies c.args.tid c.requires.binary finds.begins) (kept_ends c.in-Some.ends)
    (ends_said (finds.is refl) c.as_slice.ensures.bytes c.from.ensures _ c.in-Some.ensures) found (walks (told_then step told))) c.walk.ensures.walks

pub returns-in-Some-clause-did : goal.returns-in-Some-clause-did
returns-in-Some-clause-did g c = (2 + c.walk.ensures.did.0, then_call _ (stepped c.in_ok-find.ensures.did) c.walk.ensures.did.1)

pub returns-in-None-clause-takes : goal.returns-in-None-clause-takes
returns-in-None-clause-takes g c = λ told.
    let finds = (rw c.if-not-branch.false at c.in_ok-find.ensures.finds) told in
    record {
      is_parent = is_upper c.args.self.now c.args.relations (g.T.Tuples.view c.args.tuples.now).bodies c.args.tid c.requires.binary finds.begins;
      never = λ ends says list chain low. c.in-None.ensures (record { first = ends.first; last = ends.last })
          (ends_had (finds.is refl) c.as_slice.ensures.bytes c.from.ensures ends says);
    }
