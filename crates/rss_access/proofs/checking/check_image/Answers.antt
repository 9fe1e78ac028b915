-- Where tuples show tables, an image has the rows of its relation if it shows them, and the other way round.
use Rattle.std.proofs.lemmas.Result.{IfOk-weaker}
use Rattle.rss_access.specs.Changes.{both}
use Rattle.rss_access.proofs.Checked.{low_at}
use Rattle.rss_access.proofs.RowsHad.{rows_had, sound_in}
use Rattle.rss_access.proofs.checking.check_image.Goals as goal

pub returns-clause-shows : goal.returns-clause-shows
returns-clause-shows g c = IfOk-weaker c.check_rows.result _ _ (λ count rows told tables image relation shows listed.
    let pages = c.args.tuples.now.pages in
    let at = both (g.P.Pages.view pages) c.args.catalog.now in
    sound_in (g.met.P.Pages.few_slots pages) shows listed (low_at at (g.met.P.Pages.few_slots pages) (g.met.P.Pages.holds pages told) (g.met.P.Pages.allowed pages)) (rows told image relation listed)) c.check_rows.ensures.rows

pub returns-clause-none : goal.returns-clause-none
returns-clause-none g c = λ place is told tables image relation shows listed sound.
    c.check_rows.ensures.none place is told image relation sound.pages listed (rows_had (g.met.P.Pages.few_slots c.args.tuples.now.pages) shows listed sound)
