use Rattle.rss_line.proofs.Combining.{stops_word, then_word, stops_rest, then_rest, as_form}
use Rattle.rss_line.specs.Owners.{arguments}
use Rattle.rss_line.proofs.Owned.{row_owned, owned_row}
use Rattle.rss_line.proofs.reader.Reader.owner_behind.Goals as goal

pub returns-in_err-transaction-clause-reads : goal.returns-in_err-transaction-clause-reads
returns-in_err-transaction-clause-reads c = as_form _ (row_owned arguments c.args.verb.now) (owned_row arguments c.args.verb.now)
    (stops_word _ c.in_err-transaction.ensures.reads c.from_residual.ensures.1)

pub returns-in_err-arguments-clause-reads : goal.returns-in_err-arguments-clause-reads
returns-in_err-arguments-clause-reads c = as_form _ (row_owned arguments c.args.verb.now) (owned_row arguments c.args.verb.now)
    (then_word _ c.in_ok-transaction.ensures.reads (stops_rest (λ done. c.in_ok-transaction.transaction) _ c.in_err-arguments.ensures.reads c.from_residual-in_err-arguments.ensures.1))

pub returns-clause-reads : goal.returns-clause-reads
returns-clause-reads c = as_form _ (row_owned arguments c.args.verb.now) (owned_row arguments c.args.verb.now)
    (then_word _ c.in_ok-transaction.ensures.reads (then_rest (λ done. c.in_ok-transaction.transaction) c.in_ok-arguments.ensures.reads))
