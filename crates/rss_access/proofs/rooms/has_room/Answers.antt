-- Where there is room for all that images may need and two pages more, two pages can be taken.
use Rattle.std.proofs.Common.{arith}
use Rattle.std.proofs.lemmas.Bool.{leb-false}
use Rattle.rss_access.proofs.ImageMoves.{held_low}
use Rattle.rss_entries.proofs.Places.{two_spare}
use Rattle.rss_access.proofs.rooms.has_room.Goals as goal

pub returns-else-spare-ge-PAGES_TAKEN-clause-none : goal.returns-else-spare-ge-PAGES_TAKEN-clause-none
returns-else-spare-ge-PAGES_TAKEN-clause-none g c = λ few disk tables room.
    let pages = c.args.pages.now in
    let holds = g.met.P.Pages.holds pages disk in
    let two = two_spare c.args.number (g.P.Pages.view pages) (held_low (g.P.Pages.view pages) (g.met.P.Pages.few_slots pages) holds (g.met.P.Pages.allowed pages)) holds
    tables.spells.listed tables.tuples tables.spells.counts tables.spells.images room in
    omega (arith, two, leb-false 2 c.spare-spare.result few, c.spare-spare.ensures)
