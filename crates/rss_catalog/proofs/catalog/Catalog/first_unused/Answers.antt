use Rattle.std.proofs.Common.{ℕ, ◌+◌, ◌∙◌, sym, ap, inl, inr, arith}
use Rattle.std.specs.Prelude.{is_some}
use Rattle.std.proofs.lemmas.Bool.{cases_eq}
use Rattle.rss_base.specs.Listings.{numbered, names_of}
use Rattle.rss_catalog.proofs.Numbered.{unused_none}
use Rattle.rss_catalog.proofs.catalog.Catalog.first_unused.Goals as goal

pub loop-place-preserved : goal.loop-place-preserved
loop-place-preserved c = λ k low high. elim (cases_eq k (c.loop-place.place + 1)) [
  | inl here ↦ ap (λ (n : ℕ). is_some (numbered (names_of c.args.kind c.args.self.now.listing) n)) here ∙ sym c.used.ensures ∙ c.if-not-used.false
  | inr off ↦ c.loop-place.invariant k low (omega arith)
]

pub returns-then-not-used-clause-some : goal.returns-then-not-used-clause-some
returns-then-not-used-clause-some c = record {
  low = omega arith;
  high = omega arith;
  free = unused_none _ (sym c.used.ensures ∙ c.if-not-used.true);
  lesser = λ k low less. c.loop-place.invariant k low (omega arith);
}
