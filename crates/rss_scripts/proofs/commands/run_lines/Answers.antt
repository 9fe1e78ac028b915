use Rattle.rss_scripts.proofs.commands.run_lines.Goals as goal

pub loop-done-init : goal.loop-done-init
loop-done-init g c = c.requires

pub line-requires-clause-up : goal.line-requires-clause-up
line-requires-clause-up g c = c.loop-done.invariant

pub loop-done-preserved : goal.loop-done-preserved
loop-done-preserved g c = c.in_default.ensures.outcome.0
