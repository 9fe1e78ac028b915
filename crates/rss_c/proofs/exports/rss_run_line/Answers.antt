use Rattle.std.proofs.Common.{rules}
use Rattle.rss_c.specs.Handles.{over, none}
use Rattle.rss_c.proofs.exports.rss_run_line.Goals as goal

pub returns-in_default : goal.returns-in_default
returns-in_default c = none (search rules) c.take.ensures.none c.clear.ensures c.number.ensures

pub returns : goal.returns
returns c =
    over c.deref_mut.result.now c.run-end.new.self c.run-end.result (search rules) c.put.ensures
    c.run-end.ensures c.number_of.ensures
