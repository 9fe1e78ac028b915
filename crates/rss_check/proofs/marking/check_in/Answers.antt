use Rattle.std.proofs.lemmas.Result.{IfOk-weaker}
use Rattle.rss_check.proofs.Marks.{row_written, row_size}
use Rattle.rss_check.proofs.marking.check_in.Goals as goal

pub returns-clause-rows : goal.returns-clause-rows
returns-clause-rows g c = IfOk-weaker c.check_rows.result _ _ (λ count rows told image relation listed.
    row_written c.args.row.now c.as_mut_slice.ensures.value (rows told image relation listed)) c.check_rows.ensures.rows

pub returns-clause-size : goal.returns-clause-size
returns-clause-size g c = row_size c.args.row.now c.check_rows.new.marks
