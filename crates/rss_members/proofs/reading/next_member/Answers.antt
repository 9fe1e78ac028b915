use Rattle.std.proofs.Common.{Some, ap, arith}
use Rattle.rss_base.specs.declared.tid.Tid.{Tid}
use Rattle.std.specs.Prelude.{Option}
use Rattle.rss_link.proofs.TupleSteps.{stepped, within, done}
use Rattle.rss_members.proofs.reading.next_member.Goals as goal

pub returns-in-Some-clause-next : goal.returns-in-Some-clause-next
returns-in-Some-clause-next g c = rw c.in-Some.is c.next_of.ensures.next

pub returns-in_ok-first-in-None-clause-next : goal.returns-in_ok-first-in-None-clause-next
returns-in_ok-first-in-None-clause-next g c = rw c.in-None.is (λ told tables link spells at. ap (λ (o : Option Tid). Some o) (c.in_ok-first-in-None.ensures.first told tables link spells at))

pub returns-in_ok-first-in-None-clause-did : goal.returns-in_ok-first-in-None-clause-did
returns-in_ok-first-in-None-clause-did g c = done _ (within (λ key none. absurd none) (λ segment tid none. absurd none) (omega arith) (stepped c.in_ok-first-in-None.ensures.did))
