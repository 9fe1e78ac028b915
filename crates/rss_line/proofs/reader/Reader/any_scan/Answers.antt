use Rattle.std.proofs.Common.{refl}
use Rattle.std.specs.Prelude.{codes}
use Rattle.rss_line.specs.Owners.{any_scans}
use Rattle.rss_line.proofs.Choosing.{no_first, with_first, reads_row, no_row, sole}
use Rattle.rss_line.proofs.reader.Reader.any_scan.Goals as goal

pub returns-in_err-word-clause-reads : goal.returns-in_err-word-clause-reads
returns-in_err-word-clause-reads c = no_first any_scans refl _ c.in_err-word.ensures.reads c.from_residual.ensures.1

pub returns-in-relation-clause-reads : goal.returns-in-relation-clause-reads
returns-in-relation-clause-reads c = with_first any_scans refl _ c.in_ok-word.ensures.reads
    (reads_row any_scans (codes "relation") _ c.in-relation.is (sole _ c.any_named.ensures.reads))

pub returns-in-image-clause-reads : goal.returns-in-image-clause-reads
returns-in-image-clause-reads c = with_first any_scans refl _ c.in_ok-word.ensures.reads
    (reads_row any_scans (codes "image") _ c.in-image.is (sole _ c.any_image_scan.ensures.reads))

pub returns-in-link-clause-reads : goal.returns-in-link-clause-reads
returns-in-link-clause-reads c = with_first any_scans refl _ c.in_ok-word.ensures.reads
    (reads_row any_scans (codes "link") _ c.in-link.is (sole _ c.any_link_scan.ensures.reads))

pub returns-in_default-clause-reads : goal.returns-in_default-clause-reads
returns-in_default-clause-reads c = with_first any_scans refl _ c.in_ok-word.ensures.reads
    (no_row any_scans _ (c.in_default.not-relation, (c.in_default.not-image, (c.in_default.not-link, tt))))
