use Rattle.std.proofs.Common.{◌+◌, arith}
use Rattle.std.proofs.lemmas.Result.{IfOk-weaker}
use Rattle.rss_link.specs.Blocks.{kept_ends}
use Rattle.rss_link.proofs.TupleSteps.{then_call, stepped, fails, told_then}
use Rattle.rss_link.proofs.Walked.{no_child}
use Rattle.rss_link.proofs.Checks.{checked_yes, checked_no}
use Rattle.rss_link.proofs.link.Chains.check.Goals as goal

pub returns-in_err-standing-clause-did : goal.returns-in_err-standing-clause-did
returns-in_err-standing-clause-did g c = (c.in_err-standing.ensures.did.0, fails _ c.from_residual.ensures.1 (λ key there. there) (omega arith) c.in_err-standing.ensures.did.1)

pub returns-in_default-clause-no : goal.returns-in_default-clause-no
returns-in_default-clause-no g c = λ is told has. no_child ((rw c.in_default.is at c.in_ok-standing.ensures.counts) told).1 has

pub returns-then-self-clause-yes : goal.returns-then-self-clause-yes
returns-then-self-clause-yes g c = IfOk-weaker c.walk_alone.result _ _ (λ spelled tally is told.
    let step = stepped c.in_ok-standing.ensures.did.1 in
    checked_yes c.args.self.now c.args.relations (kept_ends c.args.ends.now) step told ((rw c.in-Some.is at c.in_ok-standing.ensures.counts) told) ((tally (told_then step told)).yes is)) c.walk_alone.ensures.walks

pub returns-then-self-clause-no : goal.returns-then-self-clause-no
returns-then-self-clause-no g c = IfOk-weaker c.walk_alone.result _ _ (λ spelled tally is told.
    let step = stepped c.in_ok-standing.ensures.did.1 in
    checked_no c.args.self.now c.args.relations (kept_ends c.args.ends.now) step told ((rw c.in-Some.is at c.in_ok-standing.ensures.counts) told) ((tally (told_then step told)).no is)) c.walk_alone.ensures.walks

pub returns-then-self-clause-did : goal.returns-then-self-clause-did
returns-then-self-clause-did g c = (c.in_ok-standing.ensures.did.0 + c.walk_alone.ensures.did.0, then_call _ (stepped c.in_ok-standing.ensures.did.1) c.walk_alone.ensures.did.1)

pub returns-else-self-clause-yes : goal.returns-else-self-clause-yes
returns-else-self-clause-yes g c = IfOk-weaker c.walk_all.result _ _ (λ spelled tally is told.
    let step = stepped c.in_ok-standing.ensures.did.1 in
    checked_yes c.args.self.now c.args.relations (kept_ends c.args.ends.now) step told ((rw c.in-Some.is at c.in_ok-standing.ensures.counts) told) ((tally (told_then step told)).yes is)) c.walk_all.ensures.walks

pub returns-else-self-clause-no : goal.returns-else-self-clause-no
returns-else-self-clause-no g c = IfOk-weaker c.walk_all.result _ _ (λ spelled tally is told.
    let step = stepped c.in_ok-standing.ensures.did.1 in
    checked_no c.args.self.now c.args.relations (kept_ends c.args.ends.now) step told ((rw c.in-Some.is at c.in_ok-standing.ensures.counts) told) ((tally (told_then step told)).no is)) c.walk_all.ensures.walks

pub returns-else-self-clause-did : goal.returns-else-self-clause-did
returns-else-self-clause-did g c = (c.in_ok-standing.ensures.did.0 + c.walk_all.ensures.did.0, then_call _ (stepped c.in_ok-standing.ensures.did.1) c.walk_all.ensures.did.1)
