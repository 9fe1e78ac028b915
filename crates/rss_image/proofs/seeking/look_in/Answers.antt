use Rattle.std.proofs.Common.{ℕ, ◌+◌, ◌∙◌, ap, arith}
use Rattle.rss_image.proofs.seeking.look_in.Goals as goal

pub returns-then-at-count-clause-some : goal.returns-then-at-count-clause-some
returns-then-at-count-clause-some c = record {
  node = c.in_ok-node.node;
  spelled = c.in_ok-node.ensures.spelled;
  is = c.in_ok-node.ensures.is;
  at = c.place-at.result;
  within = c.place-at.ensures.within;
  before = c.place-at.ensures.before;
  here = c.place-at.ensures.here;
  found_is = (omega (arith, c.if-at-count.true, c.count.ensures.count), c.own_pair.ensures.pair);
}

pub returns-then-at-count-clause-long : goal.returns-then-at-count-clause-long
returns-then-at-count-clause-long c = c.own_pair.ensures.long ∙ ap (λ (w : ℕ). w + 6) c.in_ok-node.ensures.is.width

pub returns-clause-some : goal.returns-clause-some
returns-clause-some c = record {
  node = c.in_ok-node.node;
  spelled = c.in_ok-node.ensures.spelled;
  is = c.in_ok-node.ensures.is;
  at = c.place-at.result;
  within = c.place-at.ensures.within;
  before = c.place-at.ensures.before;
  here = c.place-at.ensures.here;
  found_is = (omega (arith, c.if-at-count.false, c.count.ensures.count), c.next.ensures);
}
