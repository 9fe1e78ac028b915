use Rattle.rss_base.specs.declared.call.Call.TheVariants.{Insert}
use Rattle.rss_line.proofs.Combining.{stops_rest, stops_target, then_rest, then_target}
use Rattle.rss_line.proofs.reader.Reader.insert.Goals as goal

pub returns-in_err-target : goal.returns-in_err-target
returns-in_err-target c = stops_target _ c.in_err-target.ensures.reads c.from_residual.ensures.1

pub returns-in_err-values : goal.returns-in_err-values
returns-in_err-values c = then_target _ c.in_ok-target.ensures.reads
    (stops_rest (Insert c.in_ok-target.target.transaction c.in_ok-target.target.name) _ c.in_err-values.ensures c.from_residual-in_err-values.ensures.1)

pub returns : goal.returns
returns c = then_target _ c.in_ok-target.ensures.reads
    (then_rest (Insert c.in_ok-target.target.transaction c.in_ok-target.target.name) c.in_ok-values.ensures)
