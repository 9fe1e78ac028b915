use Rattle.std.proofs.Common.{◌∙◌, ap, arith}
use Rattle.std.proofs.lemmas.List.{take_all}
use Rattle.rss_notes.specs.Maxima.{greatest}
use Rattle.rss_notes.proofs.Trees.{greatest_more, group_is}
use Rattle.rss_notes.proofs.maxima.greatest_in.Goals as goal

pub loop-number-preserved : goal.loop-number-preserved
loop-number-preserved c = omega (arith, c.max-most.ensures, c.loop-number.invariant, greatest_more _ c.loop-number.number-index c.loop-number-test.true)

pub returns : goal.returns
returns c = c.loop-number.invariant ∙ ap greatest (take_all c.loop-number.number-index _ c.loop-number-test.false ∙ group_is c.args.tree.now c.args.first c.min-end.result c.requires c.min-end.ensures)
