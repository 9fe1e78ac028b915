use Rattle.std.proofs.Common.{refl, ◌∙◌, ap, eq-eqb, arith}
use Rattle.rss_lock.specs.Table.{is_of}
use Rattle.rss_lock.proofs.Holding.{all_of, some_of}
use Rattle.rss_lock.proofs.places.Holders.are_all_of.Goals as goal

pub returns-in-loop-place : goal.returns-in-loop-place
returns-in-loop-place c =
    let other = c.in-Some.holder.transaction in (
      λ no. absurd (cc),
      λ all. absurd (c.if-holder-transaction.true (all other (some_of other c.args.self.now.places c.loop-place.place (ap (is_of other) c.in-Some.is ∙ eq-eqb other other refl)))),
    )

pub returns : goal.returns
returns c = (
  λ yes. all_of c.args.transaction c.args.self.now.places c.args.self.now.end c.args.self.now.free (λ k holder below there. c.loop-place.invariant k holder (omega arith) there),
  λ all. refl,
)
