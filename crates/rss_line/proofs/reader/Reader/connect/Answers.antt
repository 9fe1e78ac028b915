use Rattle.rss_base.specs.declared.call.Call.TheVariants.{Connect}
use Rattle.rss_line.proofs.Combining.{stops_target, then_target, stops_word, then_word, stops_rest, then_rest}
use Rattle.rss_line.proofs.reader.Reader.connect.Goals as goal

pub returns-in_err-target-clause-reads : goal.returns-in_err-target-clause-reads
returns-in_err-target-clause-reads c = stops_target _ c.in_err-target.ensures.reads c.from_residual.ensures.1

pub returns-in_err-child-clause-reads : goal.returns-in_err-child-clause-reads
returns-in_err-child-clause-reads c = then_target _ c.in_ok-target.ensures.reads
    (stops_word _ c.in_err-child.ensures.reads c.from_residual-in_err-child.ensures.1)

pub returns-in_err-parent-clause-reads : goal.returns-in_err-parent-clause-reads
returns-in_err-parent-clause-reads c = then_target _ c.in_ok-target.ensures.reads
    (then_word _ c.in_ok-child.ensures.reads
    (stops_rest (λ place. Connect c.in_ok-target.target.transaction c.in_ok-target.target.name c.in_ok-child.child place.0 place.1) _ c.in_err-parent.ensures.reads c.from_residual-in_err-parent.ensures.1))

pub returns-clause-reads : goal.returns-clause-reads
returns-clause-reads c = then_target _ c.in_ok-target.ensures.reads
    (then_word _ c.in_ok-child.ensures.reads
    (then_rest (λ place. Connect c.in_ok-target.target.transaction c.in_ok-target.target.name c.in_ok-child.child place.0 place.1) c.in_ok-parent.ensures.reads))
