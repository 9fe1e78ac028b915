use Rattle.std.proofs.Common.{◌≡◌, None, inl, inr, arith, rules}
use Rattle.rss_link.proofs.BlockBytes.{none_some, member_within, member_outside, member_parts}
use Rattle.rss_link.proofs.blocks.member_at.Goals as goal
use Rattle.rss_link.proofs.blocks.member_at.Goals.{else-flag-eq0-via-then-flag-eq0+then-is_none+else-is_none-2, else-flag-eq0-via-then-flag-eq0+else-is_none, else-flag-eq0-via-else-flag-eq0}

pub returns-then-flag-eq1 : goal.returns-then-flag-eq1
returns-then-flag-eq1 c = member_within c.args.body.now c.args.at c.pointer_at-previous.result c.pointer_at-next.result c.pointer_at-previous.ensures.fits c.pointer_at-next.ensures.fits c.pointer_at-previous.ensures.spelled c.pointer_at-next.ensures.spelled (omega arith) c.if-flag-eq1.true

pub returns-then-is_none-2 : goal.returns-then-is_none-2
returns-then-is_none-2 c =
    let none : c.pointer_at-previous.result ≡ None = search rules in
    let none_too : c.pointer_at-next.result ≡ None = search rules in
    member_outside c.args.body.now c.args.at c.pointer_at-previous.result c.pointer_at-next.result c.pointer_at-previous.ensures.fits c.pointer_at-next.ensures.fits c.pointer_at-previous.ensures.spelled c.pointer_at-next.ensures.spelled (omega arith) c.if-flag-eq0.true none none_too

pub returns-else-flag-eq0 : goal.returns-else-flag-eq0
returns-else-flag-eq0 c = λ standing has.
    let parts = member_parts c.args.body.now c.args.at c.pointer_at-previous.result c.pointer_at-next.result c.pointer_at-previous.ensures.fits c.pointer_at-next.ensures.fits c.pointer_at-previous.ensures.spelled c.pointer_at-next.ensures.spelled (omega arith) standing has in
    elim parts [
      | inr one ↦ absurd (omega (arith, one, c.if-flag-eq1.false))
      | inl none ↦ elim c.else-flag-eq0.branch [
        | else-flag-eq0-via-then-flag-eq0+then-is_none+else-is_none-2 w ↦ none_some c.pointer_at-next.result none.2 (w.if-is_none-2.ensures)
        | else-flag-eq0-via-then-flag-eq0+else-is_none w ↦ none_some c.pointer_at-previous.result none.1 (w.if-is_none.ensures)
        | else-flag-eq0-via-else-flag-eq0 w ↦ omega (arith, none.0, w.if-flag-eq0.false)
      ]
    ]
