-- The image is that of the catalog's entry, which shows the tables that the pages spell.
use Rattle.std.proofs.Common.{◌+◌, ℕ, sym, subst}
use Rattle.std.proofs.Math.Logic.{∥∥₁_map}
use Rattle.std.proofs.lemmas.Result.{IfOk-weaker}
use Rattle.rss_base.specs.Steps.{PagesCall, no_page}
use Rattle.rss_image.specs.declared.image.Image.{Image}
use Rattle.rss_image.specs.Images.{HasImage}
use Rattle.rss_tuple.proofs.Seen.{on_ok}
use Rattle.rss_access.proofs.Looking.{shows_fit, has_image, heaps_looked, key_long, pair_long, pair_wide, levels_passed}
use Rattle.rss_access.proofs.imaging.next_entry.Goals as goal

pub next_pair-requires-clause-long : goal.next_pair-requires-clause-long
next_pair-requires-clause-long g c = key_long c.image_of-image.ensures.listed c.image_of-image.ensures.is c.args.start.now c.requires.long

pub next_pair-requires-clause-last_long : goal.next_pair-requires-clause-last_long
next_pair-requires-clause-last_long g c = pair_long c.image_of-image.ensures.listed c.image_of-image.ensures.is c.args.last.now c.requires.last_long

pub next_pair-requires-clause-there : goal.next_pair-requires-clause-there
next_pair-requires-clause-there g c = λ told.
    let view = g.P.Pages.view c.args.tuples.now.pages in
    let listed = c.image_of-image.ensures.listed in
    ∥∥₁_map (c.requires.may.tables told) (λ has.
    subst (λ (i : Image). HasImage i view.held) (sym (c.image_of-image.ensures.is listed.image listed.relation listed.at))
    (has_image (g.met.P.Pages.few_slots c.args.tuples.now.pages) (g.met.P.Pages.holds c.args.tuples.now.pages told) (g.met.P.Pages.allowed c.args.tuples.now.pages) listed.at has))

pub returns-clause-next : goal.returns-clause-next
returns-clause-next g c = IfOk-weaker c.next_pair.result _ _ (λ found next told tables spells fit image relation listed.
    let view = g.P.Pages.view c.args.tuples.now.pages in
    next told c.args.catalog.now.listing tables c.args.number image relation (shows_fit view spells listed (g.met.P.Pages.few_slots c.args.tuples.now.pages) fit)
    (c.image_of-image.ensures.is image relation listed)) c.next_pair.ensures.next

pub returns-clause-heaps : goal.returns-clause-heaps
returns-clause-heaps g c = on_ok c.next_pair.result (λ told. heaps_looked c.next_pair.ensures.did.step told (c.requires.may.heaps told))

pub returns-clause-did : goal.returns-clause-did
returns-clause-did g c = λ image at.
    subst (λ (n : ℕ). PagesCall no_page (n + 1) (n + 1) (g.P.Pages.view c.args.tuples.now.pages) (g.P.Pages.view c.next_pair.new.pages) c.next_pair.result)
    (levels_passed c.image_of-image.ensures.listed c.image_of-image.ensures.is at) c.next_pair.ensures.did

pub returns-clause-wide : goal.returns-clause-wide
returns-clause-wide g c = IfOk-weaker c.next_pair.result _ _ (λ found wide. pair_wide c.image_of-image.ensures.listed c.image_of-image.ensures.is found wide) c.next_pair.ensures.wide
