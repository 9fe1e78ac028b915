use Rattle.rss_line.proofs.Combining.{no_transaction, no_relation, the_target}
use Rattle.rss_line.proofs.reader.Reader.target.Goals as goal

pub returns-in_err-transaction-clause-reads : goal.returns-in_err-transaction-clause-reads
returns-in_err-transaction-clause-reads c = no_transaction c.from_residual.result c.in_err-transaction.ensures.reads c.from_residual.ensures.1

pub returns-in_err-name-clause-reads : goal.returns-in_err-name-clause-reads
returns-in_err-name-clause-reads c = no_relation c.in_ok-transaction.ensures.reads c.from_residual-in_err-name.result c.in_err-name.ensures.reads c.from_residual-in_err-name.ensures.1

pub returns-clause-reads : goal.returns-clause-reads
returns-clause-reads c = the_target c.in_ok-transaction.ensures.reads c.in_ok-name.ensures.reads
