-- What was read is compared with the page.
use Rattle.std.proofs.Common.{ap, length, arith}
use Rattle.rss_base.proofs.Looking.{passed_on}
use Rattle.std.proofs.lemmas.List.{length-map}
use Rattle.rss_catalog.proofs.Pieces.{length-pieces}
use Rattle.rss_catalog.specs.Reading.{pieces, segment_of}
use Rattle.rss_catalog.proofs.PagesRead.{seen, loads_segments}
use Rattle.rss_catalog.proofs.loading.load_segments.Goals as goal

pub returns-in_err-load_page-clause-unread : goal.returns-in_err-load_page-clause-unread
returns-in_err-load_page-clause-unread g c = λ place is. c.in_err-load_page.ensures.unread place (passed_on _ c.from_residual.ensures.1 is)

pub segments_page-requires : goal.segments_page-requires
segments_page-requires g c = omega (arith, ap length c.deref.ensures.value, ap length c.in-Ok.ensures, length-map (pieces 16 8 c.loaded-page.result.now) segment_of, length-pieces 16 8 c.loaded-page.result.now)

pub returns-clause-loads : goal.returns-clause-loads
returns-clause-loads g c =
    loads_segments _ _ _ _ _ _ _ (seen 0 _ _ c.in_ok-load_page.ensures.did (c.requires.mapped 0 (omega arith)) c.key_of.ensures c.loaded-page.ensures) c.in-Ok.ensures c.deref.ensures.value c.eq-is_right.ensures c.segments_page.ensures c.with_page.ensures
