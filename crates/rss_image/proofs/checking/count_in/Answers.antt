use Rattle.rss_image.proofs.checking.count_in.Goals as goal

pub returns-clause-some : goal.returns-clause-some
returns-clause-some c = record {
  node = c.in_ok-node.node;
  spelled = c.in_ok-node.ensures.spelled;
  is = c.in_ok-node.ensures.is;
  fit = c.in_ok-node.ensures.fit;
  filled = c.in_ok-node.ensures.filled;
  count_is = c.count.ensures.count;
}
