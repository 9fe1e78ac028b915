use Rattle.std.proofs.Common.{◌+◌, ap, ◌∙◌, arith}
use Rattle.std.proofs.lemmas.Bool.{leb-true, le-leb}
use Rattle.rss_page.specs.Slotted.{length_of}
use Rattle.rss_page.proofs.Sums.{room_beside}
use Rattle.rss_page.proofs.surveying.Survey.has_room.Goals as goal

pub returns : goal.returns
returns c =
    let own = c.body_length.ensures ∙ ap length_of c.entry.ensures.spelled in
    let beside = room_beside c.args.page.now c.args.slot c.requires.slotted c.requires.slot in
    let free = c.requires.found.free in
    (λ is. omega (arith, leb-true c.args.length (c.args.self.now.free + c.body_length.result) is), λ has. le-leb c.args.length (c.args.self.now.free + c.body_length.result) (omega (arith, has)))
