use Rattle.std.proofs.Common.{false, refl, arith}
use Rattle.std.specs.Cmp.{unsigned_Decides}
use Rattle.rss_link.proofs.Lists.{false_true}
use Rattle.rss_link.proofs.TupleSteps.{fails}
use Rattle.rss_link.proofs.Checks.{alone_done, alone_left, alone_refused}
use Rattle.rss_link.proofs.link.Chains.walk_alone.Goals as goal

pub returns-in_err-walked-clause-did : goal.returns-in_err-walked-clause-did
returns-in_err-walked-clause-did g c = (c.in_err-walked.ensures.did.0, fails _ c.from_residual.ensures.1 (λ key there. there) (omega arith) c.in_err-walked.ensures.did.1)

pub returns-in_default-clause-walks : goal.returns-in_default-clause-walks
returns-in_default-clause-walks g c = λ told. record {
  yes = λ never. absurd (false_true false refl never);
  no = λ is. alone_refused c.requires.unary ((rw c.in_default.is at c.in_ok-walked.ensures.walks) told);
}

pub returns-clause-walks : goal.returns-clause-walks
returns-clause-walks g c = λ told.
    let walked = (rw c.in-Some.is at c.in_ok-walked.ensures.walks) told in
    record {
      yes = λ same. alone_done c.requires.unary walked ((unsigned_Decides _ _).0 same);
      no = λ differ. alone_left c.requires.unary walked (λ same. false_true _ differ ((unsigned_Decides _ _).1 same));
    }
