use Rattle.std.proofs.Common.{arith, subst, sym, List, ℕ}
use Rattle.rss_line.proofs.Lengths.{Counts, counts_none, counts_more, counts_less, counts_end, counts_stops}
use Rattle.rss_line.proofs.values.text_length.Goals as goal

pub loop-length-init : goal.loop-length-init
loop-length-init c = subst (λ (left : List ℕ). Counts c.args.bytes.now 0 left) (sym c.new-reader.ensures) (counts_none c.args.bytes.now)

pub returns-in_err-text_byte-clause-length : goal.returns-in_err-text_byte-clause-length
returns-in_err-text_byte-clause-length c = counts_stops c.loop-length.invariant c.text_byte.new.self _ c.from_residual.result c.in_err-text_byte.ensures c.from_residual.ensures.1

pub overflow_add-length : goal.overflow_add-length
overflow_add-length c = omega (arith, c.loop-length.invariant.within, counts_less c.loop-length.invariant _ _ c.in_ok-text_byte.ensures c.if-is_some.ensures)

pub loop-length-smaller : goal.loop-length-smaller
loop-length-smaller c = counts_less c.loop-length.invariant _ _ c.in_ok-text_byte.ensures c.if-is_some.ensures

pub loop-length-preserved : goal.loop-length-preserved
loop-length-preserved c = counts_more c.loop-length.invariant _ _ c.in_ok-text_byte.ensures c.if-is_some.ensures

pub returns-clause-length : goal.returns-clause-length
returns-clause-length c = counts_end c.loop-length.invariant _ _ c.in_ok-text_byte.ensures c.if-is_some.ensures
