use Rattle.std.proofs.Common.{inl, inr, ap, arith}
use Rattle.std.proofs.lemmas.Bool.{cases_lt}
use Rattle.rss_lock.specs.Table.{is_of}
use Rattle.rss_lock.proofs.Holding.{none_anywhere}
use Rattle.rss_lock.proofs.places.Holders.place_of.Goals as goal

pub returns-clause-none : goal.returns-clause-none
returns-clause-none c = none_anywhere c.args.transaction c.args.self.now.places (λ k below. elim (cases_lt k c.args.self.now.end) [
  | inl used ↦ c.loop-place.invariant k (omega arith)
  | inr past ↦ ap (is_of c.args.transaction) (c.args.self.now.free k past)
])
