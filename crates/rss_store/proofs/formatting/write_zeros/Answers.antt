use Rattle.std.proofs.Common.{ℕ, ◌≡◌, subst, rules, arith}
use Rattle.rss_store.specs.Formatted.{HoldsZeros}
use Rattle.rss_base.proofs.Moments.{wrote_as, wrote_among, wrote_then}
use Rattle.rss_pagemap.proofs.Written.{wrote_within}
use Rattle.rss_store.proofs.Formats.{more_zeros}
use Rattle.rss_store.proofs.formatting.write_zeros.Goals as goal

pub returns-in_err-write-clause-did : goal.returns-in_err-write-clause-did
returns-in_err-write-clause-did g c = wrote_within (omega arith) (wrote_as (λ is. search rules)
    (wrote_then c.loop-at.invariant.did (wrote_among (λ q is. (omega (arith, is), omega (arith, is))) c.write.ensures.did)))

pub loop-at-preserved : goal.loop-at-preserved
loop-at-preserved g c = record {
  zeros = λ pages told.
      let so_far = c.loop-at.invariant.zeros pages told in
      more_zeros pages c.args.first c.loop-at.at _ _ (omega (arith, g.met.D.Device.sized c.args.device.now pages told)) so_far (c.in_ok-write.ensures.written so_far.after so_far.told);
  did = wrote_as (λ is. absurd (cc (is))) (wrote_then c.loop-at.invariant.did (wrote_among (λ q is. (omega (arith, is), omega (arith, is))) c.write.ensures.did));
}

pub returns-clause-zeros : goal.returns-clause-zeros
returns-clause-zeros g c = λ pages told.
    let all : c.loop-at.at ≡ c.args.count = omega arith in
    subst (λ (n : ℕ). HoldsZeros pages c.args.first n (g.D.Device.view c.loop-at.device).disk.contents) all (c.loop-at.invariant.zeros pages told)
