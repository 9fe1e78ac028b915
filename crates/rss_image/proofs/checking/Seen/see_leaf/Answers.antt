use Rattle.std.proofs.Common.{◌-◌, ◌++◌, ◌∙◌, List, ap, sym, subst, arith, drop}
use Rattle.rss_base.specs.Entries.{Entry}
use Rattle.rss_levels.proofs.Spotted.{at_place}
use Rattle.rss_image.specs.Checking.{AreSeen}
use Rattle.rss_image.specs.declared.checking.Seen.{Seen}
use Rattle.rss_image.proofs.Sighted.{one_seen, drop_before, drop_none}
use Rattle.rss_image.proofs.checking.Seen.see_leaf.Goals as goal

pub loop-at-preserved : goal.loop-at-preserved
loop-at-preserved c =
    let es = c.args.node.now.entries in
    let at = c.loop-at.at in
    let is = c.see.ensures in
    record {
      within = omega (arith, c.loop-at.invariant.within);
      next = ap (λ (s : Seen). s.next) is ∙ c.loop-at.invariant.next;
      low = ap (λ (s : Seen). s.low) is ∙ c.loop-at.invariant.low;
      pages = ap (λ (s : Seen). s.pages) is ∙ c.loop-at.invariant.pages;
      pairs = let one = ap (λ (s : Seen). s.pairs) is in omega (arith, one, c.loop-at.invariant.pairs, c.loop-at-test.true);
      seen = λ entries all.
          let more = one_seen c.args.node.now.width (at_place es (at - 1)) (drop at es ++ entries) c.keyed_at-key.result.0 c.keyed_at-key.result.1 c.loop-at.self c.see.new.self c.keyed_at-key.ensures.key c.keyed_at-key.ensures.tid is (c.loop-at.invariant.seen entries all) in
          subst (λ (l : List Entry). AreSeen c.args.node.now.width (l ++ entries) c.see.new.self) (sym (drop_before es at (omega (arith, c.loop-at-test.true)) c.loop-at.invariant.within)) more;
    }

pub returns-clause-seen : goal.returns-clause-seen
returns-clause-seen c = λ entries all. subst (λ (l : List Entry). AreSeen c.args.node.now.width (l ++ entries) c.loop-at.self) (drop_none c.args.node.now.entries c.loop-at.at (omega (arith, c.loop-at-test.false))) (c.loop-at.invariant.seen entries all)
