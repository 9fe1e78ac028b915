use Rattle.std.specs.Prelude.{codes}
use Rattle.rss_line.specs.Owners.{arguments}
use Rattle.rss_line.proofs.Choosing.{reads_row, no_row, sole}
use Rattle.rss_line.proofs.reader.Reader.arguments.Goals as goal

pub returns-in-begin-clause-reads : goal.returns-in-begin-clause-reads
unfolding arguments
returns-in-begin-clause-reads c = reads_row arguments (codes "begin") _ c.in-begin.is (sole _ c.ended.ensures.reads)

pub returns-in-save-clause-reads : goal.returns-in-save-clause-reads
unfolding arguments
returns-in-save-clause-reads c = reads_row arguments (codes "save") _ c.in-save.is (sole _ c.ended-in-save.ensures.reads)

pub returns-in-restore-clause-reads : goal.returns-in-restore-clause-reads
unfolding arguments
returns-in-restore-clause-reads c = reads_row arguments (codes "restore") _ c.in-restore.is (sole _ c.any_numbered.ensures.reads)

pub returns-in-end-clause-reads : goal.returns-in-end-clause-reads
unfolding arguments
returns-in-end-clause-reads c = reads_row arguments (codes "end") _ c.in-end.is (sole _ c.ended-in-end.ensures.reads)

pub returns-in-abort-clause-reads : goal.returns-in-abort-clause-reads
unfolding arguments
returns-in-abort-clause-reads c = reads_row arguments (codes "abort") _ c.in-abort.is (sole _ c.ended-in-abort.ensures.reads)

pub returns-in-insert-clause-reads : goal.returns-in-insert-clause-reads
unfolding arguments
returns-in-insert-clause-reads c = reads_row arguments (codes "insert") _ c.in-insert.is (sole _ c.any_insert.ensures.reads)

pub returns-in-fetch-clause-reads : goal.returns-in-fetch-clause-reads
unfolding arguments
returns-in-fetch-clause-reads c = reads_row arguments (codes "fetch") _ c.in-fetch.is (sole _ c.on_any_tuple.ensures.reads)

pub returns-in-update-clause-reads : goal.returns-in-update-clause-reads
unfolding arguments
returns-in-update-clause-reads c = reads_row arguments (codes "update") _ c.in-update.is (sole _ c.any_update.ensures.reads)

pub returns-in-delete-clause-reads : goal.returns-in-delete-clause-reads
unfolding arguments
returns-in-delete-clause-reads c = reads_row arguments (codes "delete") _ c.in-delete.is (sole _ c.on_any_tuple-in-delete.ensures.reads)

pub returns-in-connect-clause-reads : goal.returns-in-connect-clause-reads
unfolding arguments
returns-in-connect-clause-reads c = reads_row arguments (codes "connect") _ c.in-connect.is (sole _ c.any_connect.ensures.reads)

pub returns-in-disconnect-clause-reads : goal.returns-in-disconnect-clause-reads
unfolding arguments
returns-in-disconnect-clause-reads c = reads_row arguments (codes "disconnect") _ c.in-disconnect.is (sole _ c.on_any_tuple-in-disconnect.ensures.reads)

pub returns-in-parent-clause-reads : goal.returns-in-parent-clause-reads
unfolding arguments
returns-in-parent-clause-reads c = reads_row arguments (codes "parent") _ c.in-parent.is (sole _ c.on_any_tuple-in-parent.ensures.reads)

pub returns-in-open-clause-reads : goal.returns-in-open-clause-reads
unfolding arguments
returns-in-open-clause-reads c = reads_row arguments (codes "open") _ c.in-open.is (sole _ c.any_scan.ensures.reads)

pub returns-in-next-clause-reads : goal.returns-in-next-clause-reads
unfolding arguments
returns-in-next-clause-reads c = reads_row arguments (codes "next") _ c.in-next.is (sole _ c.any_numbered-in-next.ensures.reads)

pub returns-in-close-clause-reads : goal.returns-in-close-clause-reads
unfolding arguments
returns-in-close-clause-reads c = reads_row arguments (codes "close") _ c.in-close.is (sole _ c.any_numbered-in-close.ensures.reads)

pub returns-in-lock-clause-reads : goal.returns-in-lock-clause-reads
unfolding arguments
returns-in-lock-clause-reads c = reads_row arguments (codes "lock") _ c.in-lock.is (sole _ c.any_item.ensures.reads)

pub returns-in_default-clause-reads : goal.returns-in_default-clause-reads
unfolding arguments
returns-in_default-clause-reads c = no_row arguments _ (c.in_default.not-begin, (c.in_default.not-save, (c.in_default.not-restore, (c.in_default.not-end, (c.in_default.not-abort, (c.in_default.not-insert, (c.in_default.not-fetch, (c.in_default.not-update, (c.in_default.not-delete, (c.in_default.not-connect, (c.in_default.not-disconnect, (c.in_default.not-parent, (c.in_default.not-open, (c.in_default.not-next, (c.in_default.not-close, (c.in_default.not-lock, tt))))))))))))))))
