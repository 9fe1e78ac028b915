use Rattle.std.proofs.Common.{◌≡◌, ◌≤◌, ◌<◌, ◌+◌, length, get_or, sym, ◌∙◌, subst, arith}
use Rattle.std.specs.Prelude.{bit_and}
use Rattle.rss_page.specs.Marks.{IsWithin, IsClaimed}
use Rattle.rss_page.proofs.Claimed.{claim_more, claim_met}
use Rattle.rss_page.proofs.marks.claim.Goals as goal

pub returns-then-marks-at-ne0-clause-taken : goal.returns-then-marks-at-ne0-clause-taken
returns-then-marks-at-ne0-clause-taken c =
    let some : 0 < bit_and (get_or c.loop-word.marks c.from-at.result 0) c.bits_of-bits.result = omega (arith, c.if-marks-at-ne0.true) in
    subst (IsClaimed c.args.marks.now) (sym c.in-Here.is) (claim_met _ _ _ _ _ _ c.loop-word.invariant c.bits_of-bits.ensures (omega arith) (rw c.from-at.ensures at some))

pub loop-word-preserved : goal.loop-word-preserved
loop-word-preserved c =
    let within : c.in-Here.place + c.in-Here.length ≤ 4096 = subst IsWithin c.in-Here.is c.requires in
    let size : length c.loop-word.marks ≡ 64 = c.loop-word.invariant.size ∙ c.told-marks in
    rw c.from-at.ensures (claim_more _ _ _ _ _ _ c.loop-word.invariant (omega arith) c.bits_of-bits.ensures (rw c.from-at.ensures at c.if-marks-at-ne0.false))
