-- What is said of a key by the fields that are lent is said by those of the relation.
use Rattle.std.proofs.Common.{arith}
use Rattle.rss_access.proofs.filling.key_of.Goals as goal

pub returns-then-from-ge-PAGE_ENTRIES-clause-ill : goal.returns-then-from-ge-PAGE_ENTRIES-clause-ill
returns-then-from-ge-PAGE_ENTRIES-clause-ill c = λ bytes stands low. omega (arith, low, c.if-from-ge-PAGE_ENTRIES.true, c.from.ensures)

pub returns-in-Some-clause-is : goal.returns-in-Some-clause-is
returns-in-Some-clause-is c = rw c.as_slice.ensures at (rw c.in-Some.is at c.key_in.ensures.some)

pub returns-in-None-clause-ill : goal.returns-in-None-clause-ill
returns-in-None-clause-ill c = λ bytes stands low. (rw c.as_slice.ensures at c.key_in.ensures.none) c.in-None.is bytes stands
