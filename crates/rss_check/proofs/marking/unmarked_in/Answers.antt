use Rattle.std.proofs.Common.{arith}
use Rattle.rss_base.specs.Paged.{page_key}
use Rattle.rss_base.specs.declared.key.Space.TheVariants.{Image as ImageSpace}
use Rattle.rss_check.proofs.Marks.{marked_next, unmarked_next, none_next}
use Rattle.rss_check.proofs.marking.unmarked_in.Goals as goal

pub returns-then-is_unused-clause-some : goal.returns-then-is_unused-clause-some
returns-then-is_unused-clause-some g c = unmarked_next c.loop-number.invariant.none c.in-Some.ensures.some
    (c.is_unused.ensures.yes c.if-is_unused.true)

pub loop-number-preserved : goal.loop-number-preserved
loop-number-preserved g c = record {
  low = let below = (g.met.P.Pages.allowed c.args.pages.now
      (page_key c.args.segment ImageSpace c.in-Some.number) c.in-Some.ensures.some.has).number in omega
      (arith, below);
  none = marked_next c.loop-number.invariant.none c.in-Some.ensures.some (c.is_unused.ensures.no c.if-is_unused.false);
}

pub returns-clause-none : goal.returns-clause-none
returns-clause-none g c = none_next c.loop-number.invariant.none c.in_default.ensures.none
