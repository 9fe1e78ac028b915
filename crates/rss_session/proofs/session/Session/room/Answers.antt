use Rattle.std.proofs.Common.{ap, arith}
use Rattle.rss_trans.specs.declared.sums.Sums.{Sums}
use Rattle.rss_session.proofs.Traffic.{images_same}
use Rattle.rss_session.proofs.Weighed.{slots_are}
use Rattle.rss_session.proofs.session.Session.room.Goals as goal

pub returns-clause-states : goal.returns-clause-states
returns-clause-states g c = λ state shows.
    let counted = shows.counted in
    omega (
      arith,
      c.slots-slots.ensures,
      c.saturating_mul-survived.ensures,
      ap (λ (s : Sums). s.s) c.sums.ensures,
      c.saturating_mul-since.ensures,
      c.from.ensures,
      c.from-2.ensures,
      c.saturating_add.ensures,
      c.saturating_add-2.ensures,
      c.saturating_mul.ensures,
      c.saturating_add-3.ensures,
      c.images_bound-images.ensures.is,
      images_same shows (omega (arith, slots_are shows, c.slots-slots.ensures)),
      counted.heap,
      counted.surviving,
      counted.since.all,
      counted.rooms.metered.room,
      slots_are shows,
    )
