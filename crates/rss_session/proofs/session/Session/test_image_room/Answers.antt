use Rattle.std.proofs.Common.{◌≡◌, ◌∙◌, sym, arith}
use Rattle.std.specs.Prelude.{Some}
use Rattle.rss_base.specs.declared.refusal.Refusal.TheVariants.{Full}
use Rattle.rss_model.proofs.Lengths.{full_line}
use Rattle.rss_session.specs.Filling.{room_for}
use Rattle.rss_session.specs.Parts.{view}
use Rattle.rss_session.proofs.FilledRooms.{has_room_for, no_room_for}
use Rattle.rss_session.proofs.session.Session.test_image_room.Goals as goal

pub returns-then-needed-from-clause-tests : goal.returns-then-needed-from-clause-tests
returns-then-needed-from-clause-tests g c name relation is_unique fields plans =
    let now = view g.S.Pages.view c.args.self.now in
    let slots : c.slots-slots.result ≡ now.store.root.slots = c.slots-slots.ensures in
    let needed : c.room_for-needed.result ≡ room_for now c.args.image.now = c.room_for-needed.ensures in (
      λ told state shows.
          no_room_for c.requires.ready shows (g.met.S.Pages.holds c.args.self.now.store.tuples.pages told) plans (omega (arith, c.if-needed-from.true, c.from.ensures, slots, needed))
          ∙ sym (λ i. Some (Full (slots i) (needed i))),
      full_line c.slots-slots.result c.room_for-needed.result (omega arith) (omega arith),
    )

pub returns-clause-tests : goal.returns-clause-tests
returns-clause-tests g c name relation is_unique fields plans told state shows =
    has_room_for c.requires.ready shows (g.met.S.Pages.holds c.args.self.now.store.tuples.pages told) plans
    (omega (arith, c.if-needed-from.false, c.from.ensures, c.slots-slots.ensures, c.room_for-needed.ensures))
