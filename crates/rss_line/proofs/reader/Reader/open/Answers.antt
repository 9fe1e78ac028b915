use Rattle.std.proofs.Common.{refl}
use Rattle.std.specs.Prelude.{codes}
use Rattle.rss_model.specs.Forms.{scans}
use Rattle.rss_line.proofs.Combining.{stops_word, then_word}
use Rattle.rss_line.proofs.Choosing.{no_first, with_first, reads_row, no_row, sole}
use Rattle.rss_line.proofs.reader.Reader.open.Goals as goal

pub returns-in_err-transaction : goal.returns-in_err-transaction
returns-in_err-transaction c = stops_word _ c.in_err-transaction.ensures.reads c.from_residual.ensures.1

pub returns-in_err-word : goal.returns-in_err-word
returns-in_err-word c = then_word _ c.in_ok-transaction.ensures.reads
    (no_first (scans c.args.names.now.variables c.in_ok-transaction.transaction) refl _ c.in_err-word.ensures.reads c.from_residual-in_err-word.ensures.1)

pub returns-in-relation : goal.returns-in-relation
returns-in-relation c = then_word _ c.in_ok-transaction.ensures.reads
    (with_first (scans c.args.names.now.variables c.in_ok-transaction.transaction) refl _ c.in_ok-word.ensures.reads
    (reads_row (scans c.args.names.now.variables c.in_ok-transaction.transaction) (codes "relation") _ c.in-relation.is (sole _ c.open_relation.ensures.reads)))

pub returns-in-image : goal.returns-in-image
returns-in-image c = then_word _ c.in_ok-transaction.ensures.reads
    (with_first (scans c.args.names.now.variables c.in_ok-transaction.transaction) refl _ c.in_ok-word.ensures.reads
    (reads_row (scans c.args.names.now.variables c.in_ok-transaction.transaction) (codes "image") _ c.in-image.is (sole _ c.open_image.ensures)))

pub returns-in-link : goal.returns-in-link
returns-in-link c = then_word _ c.in_ok-transaction.ensures.reads
    (with_first (scans c.args.names.now.variables c.in_ok-transaction.transaction) refl _ c.in_ok-word.ensures.reads
    (reads_row (scans c.args.names.now.variables c.in_ok-transaction.transaction) (codes "link") _ c.in-link.is (sole _ c.open_link.ensures.reads)))

pub returns-in_default : goal.returns-in_default
returns-in_default c = then_word _ c.in_ok-transaction.ensures.reads
    (with_first (scans c.args.names.now.variables c.in_ok-transaction.transaction) refl _ c.in_ok-word.ensures.reads
    (no_row (scans c.args.names.now.variables c.in_ok-transaction.transaction) _ (c.in_default.not-relation, (c.in_default.not-image, (c.in_default.not-link, tt)))))
