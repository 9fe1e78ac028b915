use Rattle.std.proofs.Common.{inl, inr, arith}
use Rattle.std.proofs.lemmas.Bool.{cases_lt}
use Rattle.std.proofs.lemmas.List.{get_or_past}
use Rattle.rss_page.specs.Content.{Empty}
use Rattle.rss_page.specs.Slotted.{entries}
use Rattle.rss_page.proofs.Contents.{length-entries}
use Rattle.rss_tuple.proofs.entries.is_vacant.Goals as goal

pub returns-clause-vacant : goal.returns-clause-vacant
returns-clause-vacant c = λ is slot. elim (cases_lt slot 128) [
  | inl low ↦ c.loop-slot.invariant slot (omega arith)
  | inr high ↦ get_or_past (entries c.args.page.now) slot Empty (omega (arith, length-entries c.args.page.now))
]
