use Rattle.rss_line.proofs.Combining.{stops_target, stops_word, then_target, then_word}
use Rattle.rss_line.proofs.reader.Reader.parent.Goals as goal

pub returns-in_err-target-clause-reads : goal.returns-in_err-target-clause-reads
returns-in_err-target-clause-reads c = stops_target _ c.in_err-target.ensures.reads c.from_residual.ensures.1

pub returns-in_err-child-clause-reads : goal.returns-in_err-child-clause-reads
returns-in_err-child-clause-reads c = then_target _ c.in_ok-target.ensures.reads
    (stops_word _ c.in_err-child.ensures.reads c.from_residual-in_err-child.ensures.1)

pub returns-clause-reads : goal.returns-clause-reads
returns-clause-reads c = then_target _ c.in_ok-target.ensures.reads
    (then_word _ c.in_ok-child.ensures.reads
    (c.ended.ensures.reads))
