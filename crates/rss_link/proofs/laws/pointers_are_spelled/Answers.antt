use Rattle.std.proofs.Common.{arith}
use Rattle.rss_link.proofs.Pointers.{pointer_one, is_named}
use Rattle.rss_link.proofs.laws.pointers_are_spelled.Goals as goal

pub returns-clause-fits : goal.returns-clause-fits
returns-clause-fits c = λ tid page slot. is_named tid.page tid.slot (omega (arith, page)) (omega (arith, slot)) (λ is is_too. omega (arith, page, is))

pub returns-clause-once : goal.returns-clause-once
returns-clause-once c = λ one other fits fits_too same. pointer_one other one fits_too fits same
