use Rattle.std.proofs.Common.{arith, rules}
use Rattle.rss_check.proofs.Census.{seen_put}
use Rattle.rss_check.proofs.checking.CensusVisitor.see.Goals as goal

pub returns-then-relation-self-clause-saw : goal.returns-then-relation-self-clause-saw
returns-then-relation-self-clause-saw c = λ rows seen.
    seen_put c.args.self.now.live rows c.args._tid seen c.args.body.now c.in-Some.number.now c.in-Some.rest.now (search rules) (omega (arith, c.if-number-eq0.false)) (omega (arith, c.if-number-gt-RELATIONS_MOST.false)) c.from-place.result c.saturating_add.result (search rules) (search rules)
