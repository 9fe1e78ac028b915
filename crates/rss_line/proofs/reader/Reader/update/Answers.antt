use Rattle.rss_base.specs.declared.call.Call.TheVariants.{Update}
use Rattle.rss_line.proofs.Combining.{stops_rest, stops_target, stops_word, then_rest, then_target, then_word}
use Rattle.rss_line.proofs.reader.Reader.update.Goals as goal

pub returns-in_err-target : goal.returns-in_err-target
returns-in_err-target c = stops_target _ c.in_err-target.ensures.reads c.from_residual.ensures.1

pub returns-in_err-tid : goal.returns-in_err-tid
returns-in_err-tid c = then_target _ c.in_ok-target.ensures.reads
    (stops_word _ c.in_err-tid.ensures.reads c.from_residual-in_err-tid.ensures.1)

pub returns-in_err-values : goal.returns-in_err-values
returns-in_err-values c = then_target _ c.in_ok-target.ensures.reads
    (then_word _ c.in_ok-tid.ensures.reads
    (stops_rest (Update c.in_ok-target.target.transaction c.in_ok-target.target.name c.in_ok-tid.tid) _ c.in_err-values.ensures c.from_residual-in_err-values.ensures.1))

pub returns : goal.returns
returns c = then_target _ c.in_ok-target.ensures.reads
    (then_word _ c.in_ok-tid.ensures.reads
    (then_rest (Update c.in_ok-target.target.transaction c.in_ok-target.target.name c.in_ok-tid.tid) c.in_ok-values.ensures))
