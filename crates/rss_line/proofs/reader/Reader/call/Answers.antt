use Rattle.std.specs.Prelude.{codes}
use Rattle.rss_model.specs.Forms.{calls}
use Rattle.rss_line.proofs.Choosing.{reads_row, no_row, sole}
use Rattle.rss_line.proofs.reader.Reader.call.Goals as goal

pub returns-in-segment : goal.returns-in-segment
unfolding calls
returns-in-segment c = reads_row (calls c.args.names.now.variables) (codes "segment") _ c.in-segment.is (sole _ c.make_segment.ensures.reads)

pub returns-in-relation : goal.returns-in-relation
unfolding calls
returns-in-relation c = reads_row (calls c.args.names.now.variables) (codes "relation") _ c.in-relation.is (sole _ c.make_relation.ensures)

pub returns-in-image : goal.returns-in-image
unfolding calls
returns-in-image c = reads_row (calls c.args.names.now.variables) (codes "image") _ c.in-image.is (sole _ c.make_image.ensures)

pub returns-in-unique : goal.returns-in-unique
unfolding calls
returns-in-unique c = reads_row (calls c.args.names.now.variables) (codes "unique") _ c.in-unique.is (sole _ c.make_image-in-unique.ensures)

pub returns-in-link : goal.returns-in-link
unfolding calls
returns-in-link c = reads_row (calls c.args.names.now.variables) (codes "link") _ c.in-link.is (sole _ c.make_link.ensures.reads)

pub returns-in-drop : goal.returns-in-drop
unfolding calls
returns-in-drop c = reads_row (calls c.args.names.now.variables) (codes "drop") _ c.in-drop.is (sole _ c.drop_definition.ensures.reads)

pub returns-in-begin : goal.returns-in-begin
unfolding calls
returns-in-begin c = reads_row (calls c.args.names.now.variables) (codes "begin") _ c.in-begin.is (sole _ c.begin.ensures.reads)

pub returns-in-save : goal.returns-in-save
unfolding calls
returns-in-save c = reads_row (calls c.args.names.now.variables) (codes "save") _ c.in-save.is (sole _ c.save.ensures.reads)

pub returns-in-restore : goal.returns-in-restore
unfolding calls
returns-in-restore c = reads_row (calls c.args.names.now.variables) (codes "restore") _ c.in-restore.is (sole _ c.restore.ensures.reads)

pub returns-in-end : goal.returns-in-end
unfolding calls
returns-in-end c = reads_row (calls c.args.names.now.variables) (codes "end") _ c.in-end.is (sole _ c.end.ensures.reads)

pub returns-in-abort : goal.returns-in-abort
unfolding calls
returns-in-abort c = reads_row (calls c.args.names.now.variables) (codes "abort") _ c.in-abort.is (sole _ c.abort.ensures.reads)

pub returns-in-checkpoint : goal.returns-in-checkpoint
unfolding calls
returns-in-checkpoint c = reads_row (calls c.args.names.now.variables) (codes "checkpoint") _ c.in-checkpoint.is (sole _ c.ended.ensures.reads)

pub returns-in-insert : goal.returns-in-insert
unfolding calls
returns-in-insert c = reads_row (calls c.args.names.now.variables) (codes "insert") _ c.in-insert.is (sole _ c.insert.ensures)

pub returns-in-fetch : goal.returns-in-fetch
unfolding calls
returns-in-fetch c = reads_row (calls c.args.names.now.variables) (codes "fetch") _ c.in-fetch.is (sole _ c.fetch.ensures.reads)

pub returns-in-update : goal.returns-in-update
unfolding calls
returns-in-update c = reads_row (calls c.args.names.now.variables) (codes "update") _ c.in-update.is (sole _ c.update.ensures)

pub returns-in-delete : goal.returns-in-delete
unfolding calls
returns-in-delete c = reads_row (calls c.args.names.now.variables) (codes "delete") _ c.in-delete.is (sole _ c.delete.ensures.reads)

pub returns-in-connect : goal.returns-in-connect
unfolding calls
returns-in-connect c = reads_row (calls c.args.names.now.variables) (codes "connect") _ c.in-connect.is (sole _ c.connect.ensures.reads)

pub returns-in-disconnect : goal.returns-in-disconnect
unfolding calls
returns-in-disconnect c = reads_row (calls c.args.names.now.variables) (codes "disconnect") _ c.in-disconnect.is (sole _ c.disconnect.ensures.reads)

pub returns-in-parent : goal.returns-in-parent
unfolding calls
returns-in-parent c = reads_row (calls c.args.names.now.variables) (codes "parent") _ c.in-parent.is (sole _ c.parent.ensures.reads)

pub returns-in-open : goal.returns-in-open
unfolding calls
returns-in-open c = reads_row (calls c.args.names.now.variables) (codes "open") _ c.in-open.is (sole _ c.open.ensures)

pub returns-in-next : goal.returns-in-next
unfolding calls
returns-in-next c = reads_row (calls c.args.names.now.variables) (codes "next") _ c.in-next.is (sole _ c.next.ensures.reads)

pub returns-in-close : goal.returns-in-close
unfolding calls
returns-in-close c = reads_row (calls c.args.names.now.variables) (codes "close") _ c.in-close.is (sole _ c.close.ensures.reads)

pub returns-in-lock : goal.returns-in-lock
unfolding calls
returns-in-lock c = reads_row (calls c.args.names.now.variables) (codes "lock") _ c.in-lock.is (sole _ c.lock.ensures.reads)

pub returns-in_default : goal.returns-in_default
unfolding calls
returns-in_default c = no_row (calls c.args.names.now.variables) _ (c.in_default.not-segment, (c.in_default.not-relation, (c.in_default.not-image, (c.in_default.not-unique, (c.in_default.not-link, (c.in_default.not-drop, (c.in_default.not-begin, (c.in_default.not-save, (c.in_default.not-restore, (c.in_default.not-end, (c.in_default.not-abort, (c.in_default.not-checkpoint, (c.in_default.not-insert, (c.in_default.not-fetch, (c.in_default.not-update, (c.in_default.not-delete, (c.in_default.not-connect, (c.in_default.not-disconnect, (c.in_default.not-parent, (c.in_default.not-open, (c.in_default.not-next, (c.in_default.not-close, (c.in_default.not-lock, tt)))))))))))))))))))))))
