use Rattle.std.proofs.Common.{refl}
use Rattle.rss_session.proofs.Behind.{looks_as}
use Rattle.rss_rsi.specs.Bodies.{below, lost}
use Rattle.rss_rsi.specs.Parts.{parts_of}
use Rattle.rss_rsi.proofs.Bodied.{fails_there, never_lacks}
use Rattle.rss_rsi.proofs.Looks.{ready_looked}
use Rattle.rss_rsi.proofs.engine.Rss.there.Goals as goal

pub returns-in_err-at-clause-ends : goal.returns-in_err-at-clause-ends
returns-in_err-at-clause-ends g c = fails_there c.from_residual.result c.from_residual.ensures.1 (λ up. absurd (cc (up))) (below (record { fault = _; is = refl; looks = c.in_err-at.ensures.looks }))

pub returns-in_err-at-clause-memory : goal.returns-in_err-at-clause-memory
returns-in_err-at-clause-memory g c = never_lacks c.from_residual.result c.from_residual.ensures.1 c.in_err-at.ensures.looks

pub returns-in_default-clause-ends : goal.returns-in_default-clause-ends
returns-in_default-clause-ends g c = record {
  by = (λ up. absurd (cc (up)), lost refl (looks_as (tt {0}) c.in_ok-at.ensures.looks) (rw c.in_default.is at c.in_ok-at.ensures.finds));
}

pub invariant_of-self-2 : goal.invariant_of-self-2
invariant_of-self-2 g c = record { ready = λ up. ready_looked (parts_of c.args.self.now) _ {found = c.in_ok-at.field-0} (c.args.self.now.ready c.requires.up) c.in_ok-at.ensures.looks (record { locks = refl; scans = refl }) }

pub returns-clause-ends : goal.returns-clause-ends
returns-clause-ends g c = record {
  by = (
    refl,
    record {
      looks = looks_as c.in-Some.at c.in_ok-at.ensures.looks;
      there = rw c.in-Some.is at c.in_ok-at.ensures.there;
      stands = rw c.in-Some.is at c.in_ok-at.ensures.finds;
    },
  );
}

pub returns-clause-costs : goal.returns-clause-costs
returns-clause-costs g c = let costs = c.in_ok-at.ensures.costs in record { asks_high = costs.0; writes_high = costs.1 }
