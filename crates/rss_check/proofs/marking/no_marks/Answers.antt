use Rattle.std.proofs.Common.{◌≡◌, ℕ, subst, arith}
use Rattle.rss_check.specs.Marks.{AreZeros}
use Rattle.rss_check.proofs.Marks.{zeros_none, zeros_more, zeros_long}
use Rattle.rss_check.proofs.marking.no_marks.Goals as goal

pub loop-init : goal.loop-init
loop-init c = record {
  zeros = rw c.in_ok-rows.ensures.items (zeros_none c.args.words);
  room = omega (arith, c.in_ok-rows.ensures.capacity);
}

pub push_reserved-requires : goal.push_reserved-requires
push_reserved-requires c = omega
    (arith, zeros_long c.loop.counter c.args.words c.loop.rows.items c.loop.invariant.zeros, c.loop.invariant.room)

pub loop-preserved : goal.loop-preserved
loop-preserved c = record {
  zeros = rw c.push_reserved.ensures.items
      (zeros_more c.loop.counter c.args.words c.loop.rows.items c.in_ok-vec.field-0 c.loop.invariant.zeros
      (c.in_ok-vec.ensures.items_if_clones_equal (λ y same. same)));
  room = omega (arith, c.loop.invariant.room, c.push_reserved.ensures.capacity);
}

pub returns : goal.returns
returns c =
    let eight : c.loop.counter ≡ 8 = omega arith in
    subst (λ (n : ℕ). AreZeros n c.args.words c.loop.rows.items) eight c.loop.invariant.zeros
