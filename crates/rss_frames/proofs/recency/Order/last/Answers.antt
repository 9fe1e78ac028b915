use Rattle.std.proofs.Common.{◌<◌, length, refl, ◌∙◌, ap, arith, get_or, Some}
use Rattle.std.proofs.lemmas.List.{get_or_read}
use Rattle.rss_frames.specs.Links.{ring}
use Rattle.rss_frames.proofs.Ring.{length-walk, last_found, ring_none}
use Rattle.rss_frames.proofs.recency.Order.last.Goals as goal

pub returns-then-self-eq0 : goal.returns-then-self-eq0
returns-then-self-eq0 c =
    let o = c.self.inside in
    rw (← c.self.view_is) (rw c.if-self-eq0.true (rw ring_none refl))

pub returns : goal.returns
returns c =
    let o = c.self.inside in
    let some : 0 < length (ring o.next.items o.len o.room) = omega (arith, length-walk o.next.items o.len (get_or o.next.items o.room 0), c.if-self-eq0.false) in
    let read = get_or_read o.prev.items o.room c.index.result.now (omega (arith, c.self.invariant.0.prevs)) c.index.ensures 0 in
    rw (← c.self.view_is) (ap Some read ∙ last_found o.next.items o.prev.items o.room _ some c.self.invariant.0)
