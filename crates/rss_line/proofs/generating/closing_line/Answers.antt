use Rattle.std.proofs.Common.{refl, arith, sym}
use Rattle.std.proofs.lemmas.Option.{slice_get_past}
use Rattle.rss_model.specs.Generator.{closing_lines}
use Rattle.rss_line.proofs.Generated.{closing_next, closing_end}
use Rattle.rss_line.proofs.generating.closing_line.Goals as goal

pub returns-in-0 : goal.returns-in-0
unfolding closing_lines
returns-in-0 c = rw c.in-0.is refl

pub returns-in-1 : goal.returns-in-1
unfolding closing_lines
returns-in-1 c = rw c.in-1.is refl

pub returns-in-5 : goal.returns-in-5
unfolding closing_lines
returns-in-5 c = rw c.in-5.is refl

pub returns-in-2-to-4 : goal.returns-in-2-to-4
returns-in-2-to-4 c = sym (closing_next c.args.line (omega arith) (omega arith))

pub returns-in-6-to-8 : goal.returns-in-6-to-8
returns-in-6-to-8 c = sym (closing_end c.args.line (omega arith) (omega arith))

pub returns-in_default : goal.returns-in_default
unfolding closing_lines
returns-in_default c = sym (slice_get_past closing_lines c.args.line (omega arith))
