use Rattle.std.proofs.Common.{◌-◌, arith, sym, subst, ℕ, List}
use Rattle.rss_base.specs.Entries.{IsLess}
use Rattle.rss_levels.proofs.Spotted.{at_place}
use Rattle.rss_image.specs.Fitting.{IsUnderLimit}
use Rattle.rss_image.proofs.Passing.{rising_at}
use Rattle.rss_image.proofs.Tested.{some_between}
use Rattle.rss_image.proofs.fitting.are_between.Goals as goal

pub returns-then-not-is_less-clause-no : goal.returns-then-not-is_less-clause-no
returns-then-not-is_less-clause-no c = λ no between.
    c.is_less-in-loop-at.ensures.no c.if-not-is_less.true
    (subst (λ (p : List ℕ). IsLess p c.pair-in-loop-at-2.result.now) (sym c.pair-in-loop-at.ensures.pair)
    (subst (λ (p : List ℕ). IsLess (at_place c.args.node.now.entries (c.loop-at.at - 1)).pair p) (sym c.pair-in-loop-at-2.ensures.pair)
    (rising_at c.args.node.now.entries between.rises (c.loop-at.at - 1) c.loop-at.at (omega (arith, c.loop-at.auto.at)) (omega (arith, c.loop-at-test.true, c.count-count.ensures.count)))))

pub returns-clause-yes : goal.returns-clause-yes
returns-clause-yes c = λ yes.
    let es = c.args.node.now.entries in
    some_between c.args.low.now es c.args.limit.now (c.count-count.result - 1) (omega (arith, c.if-count-eq0.false, c.count-count.ensures.count))
    (λ less. c.is_less.ensures.no c.if-is_less.false (subst (λ (p : List ℕ). IsLess c.pair.result.now p) (sym c.as_slice-2.ensures.bytes) (subst (λ (p : List ℕ). IsLess p c.args.low.now) (sym c.pair.ensures.pair) less)))
    (λ k low. c.loop-at.invariant k (omega (arith, low, c.loop-at-test.false, c.count-count.ensures.count)))
    (subst (λ (p : List ℕ). IsUnderLimit c.args.limit.now p) c.pair-2.ensures.pair (c.is_under-2.ensures.yes yes))
