use Rattle.std.proofs.Common.{◌≡◌, ◌+◌, ◌-◌, subst, arith}
use Rattle.rss_page.specs.Slotted.{entries, body_bytes, EndBy}
use Rattle.rss_page.proofs.editing.make_room.Goals as goal

pub returns-clause-ends : goal.returns-clause-ends
returns-clause-ends c =
    let end : 1040 + body_bytes (entries c.args.page.now) ≡ 4096 - c.of-found.result.free = omega (arith, c.of-found.ensures.free) in
    subst (EndBy c.compact.new.page) end c.compact.ensures.close

pub returns-clause-high : goal.returns-clause-high
returns-clause-high c = omega (arith, c.of-found.ensures.free, c.requires.room)

pub returns-clause-low : goal.returns-clause-low
returns-clause-low c = omega (arith, c.of-found.ensures.free)

pub returns-clause-stay : goal.returns-clause-stay
returns-clause-stay c = λ end ends low high. absurd (omega (arith, c.of-found.ensures.least end low ends, c.if-found-length.false))
