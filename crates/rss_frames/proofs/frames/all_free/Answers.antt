use Rattle.std.proofs.Common.{inl, inr, arith}
use Rattle.rss_frames.proofs.frames.all_free.Goals as goal

pub push_front-requires-clause-absent : goal.push_front-requires-clause-absent
push_front-requires-clause-absent c = λ h. absurd (omega (arith, c.loop-frame.invariant.2 c.loop-frame.frame h))

pub loop-frame-preserved : goal.loop-frame-preserved
loop-frame-preserved c =
    let i = c.loop-frame.invariant in
    rw c.push_front.ensures (i.0, omega (arith, i.1), λ j h. elim h [ inl e ↦ omega (arith, e) | inr g ↦ omega (arith, i.2 j g) ], i.3, i.4)
