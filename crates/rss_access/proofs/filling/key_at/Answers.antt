-- The bytes behind the relation's number and the blocks are those of the tuple's values, and the key is theirs.
use Rattle.std.proofs.Common.{ℕ, List, sym, subst}
use Rattle.rss_tuple.proofs.Located.{said_of}
use Rattle.rss_access.specs.Bodies.{HoldsBytes}
use Rattle.rss_access.proofs.Gathering.{body_found}
use Rattle.rss_access.proofs.filling.key_at.Goals as goal

pub returns-in_err-key-clause-fault : goal.returns-in_err-key-clause-fault
returns-in_err-key-clause-fault g c = λ place is told.
    let lent = c.body.ensures.are (c.in_ok-at.ensures.did.step.passes.leaves.told.0 told) in
    let found = body_found (said_of ((rw c.in-Some.is at c.in_ok-at.ensures.finds) told) lent) in
    record {
      has = found.0;
      not = λ bytes holds spelled low. c.in_err-key.ensures.ill bytes (record {
        holds = subst (λ (b : List ℕ). HoldsBytes c.args.catalog.now.listing c.args.number b bytes) found.1 holds;
        spelled = spelled;
      }) low;
    }

pub returns-clause-long : goal.returns-clause-long
returns-clause-long g c = (c.in_ok-key.ensures.is.long, c.in_ok-key.ensures.slot)

pub returns-clause-finds : goal.returns-clause-finds
returns-clause-finds g c = λ told.
    let lent = c.body.ensures.are (c.in_ok-at.ensures.did.step.passes.leaves.told.0 told) in
    let found = body_found (said_of ((rw c.in-Some.is at c.in_ok-at.ensures.finds) told) lent) in
    let is = c.in_ok-key.ensures.is in
    record {
      has = found.0;
      bytes = is.bytes;
      holds = subst (λ (b : List ℕ). HoldsBytes c.args.catalog.now.listing c.args.number b is.bytes) (sym found.1) is.stands.holds;
      spelled = is.stands.spelled;
      is = is.is;
    }
