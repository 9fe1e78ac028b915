use Rattle.std.proofs.Common.{◌≡◌, ◌+◌, sym, ◌∙◌, ap, subst, arith}
use Rattle.rss_frames.specs.Seated.{past}
use Rattle.rss_frames.specs.Recency.{Recency}
use Rattle.rss_frames.proofs.Moves.{past-past}
use Rattle.rss_frames.proofs.recency.Order.into_part.Goals as goal

pub give-rest-requires : goal.give-rest-requires
give-rest-requires c =
    let o = c.self.inside in let k = c.self.invariant.1 in
    let begins : c.args.rest.ptr ≡ past o.next_seat.ptr (o.next_seat.len + o.prev_seat.len) = subst
    (λ (r : Recency). c.args.rest.ptr ≡ past r.start r.units) (sym c.self.view_is) c.requires.next in (
      k.1,
      begins ∙ sym (past-past o.next_seat.ptr o.next_seat.len o.prev_seat.len)
          ∙ ap (λ p. past p o.prev_seat.len) (sym k.2),
      omega
          (arith, ap (λ (r : Recency). r.units) c.self.view_is, c.requires.small),
    )

pub give-requires : goal.give-requires
give-requires c =
    let o = c.self.inside in let k = c.self.invariant.1 in let g = c.give-rest.ensures in
    (k.0, g.0 ∙ k.2, omega (arith, g.1, ap (λ (r : Recency). r.units) c.self.view_is, c.requires.small))

pub returns : goal.returns
returns c =
    let o = c.self.inside in let g = c.give-rest.ensures in let h = c.give.ensures in
    rw (← c.self.view_is) (record { at = h.0; len = omega (arith, h.1, g.1) })
