use Rattle.std.proofs.Common.{refl}
use Rattle.std.specs.Prelude.{codes}
use Rattle.rss_model.specs.Forms.{drops}
use Rattle.rss_line.proofs.Choosing.{no_first, with_first, reads_row, no_row, sole}
use Rattle.rss_line.proofs.reader.Reader.drop_definition.Goals as goal

pub returns-in_err-word-clause-reads : goal.returns-in_err-word-clause-reads
returns-in_err-word-clause-reads c = no_first (drops) refl _ c.in_err-word.ensures.reads c.from_residual.ensures.1

pub returns-in-segment-clause-reads : goal.returns-in-segment-clause-reads
returns-in-segment-clause-reads c = with_first (drops) refl _ c.in_ok-word.ensures.reads
    (reads_row (drops) (codes "segment") _ c.in-segment.is (sole _ c.drop_segment.ensures.reads))

pub returns-in-relation-clause-reads : goal.returns-in-relation-clause-reads
returns-in-relation-clause-reads c = with_first (drops) refl _ c.in_ok-word.ensures.reads
    (reads_row (drops) (codes "relation") _ c.in-relation.is (sole _ c.drop_relation.ensures.reads))

pub returns-in-image-clause-reads : goal.returns-in-image-clause-reads
returns-in-image-clause-reads c = with_first (drops) refl _ c.in_ok-word.ensures.reads
    (reads_row (drops) (codes "image") _ c.in-image.is (sole _ c.drop_image.ensures.reads))

pub returns-in-link-clause-reads : goal.returns-in-link-clause-reads
returns-in-link-clause-reads c = with_first (drops) refl _ c.in_ok-word.ensures.reads
    (reads_row (drops) (codes "link") _ c.in-link.is (sole _ c.drop_link.ensures.reads))

pub returns-in_default-clause-reads : goal.returns-in_default-clause-reads
returns-in_default-clause-reads c = with_first (drops) refl _ c.in_ok-word.ensures.reads
    (no_row (drops) _ (c.in_default.not-segment, (c.in_default.not-relation, (c.in_default.not-image, (c.in_default.not-link, tt)))))
