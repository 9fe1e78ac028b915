use Rattle.std.proofs.Common.{[], refl}
use Rattle.rss_line.proofs.Skipped.{text_skipped, text_shorter, text_over, text_stops}
use Rattle.rss_line.proofs.reader.Reader.skip_text.Goals as goal

pub loop-init : goal.loop-init
loop-init c = ([], refl)

pub returns-in_err-text_byte-clause-skips : goal.returns-in_err-text_byte-clause-skips
returns-in_err-text_byte-clause-skips c = text_stops c.loop.invariant c.text_byte.new.self _ c.from_residual.result c.in_err-text_byte.ensures c.from_residual.ensures.1

pub loop-smaller : goal.loop-smaller
loop-smaller c = text_shorter c.loop.invariant _ _ c.in_ok-text_byte.ensures c.if-is_some.ensures

pub loop-preserved : goal.loop-preserved
loop-preserved c = text_skipped c.loop.invariant _ _ c.in_ok-text_byte.ensures c.if-is_some.ensures

pub returns-clause-skips : goal.returns-clause-skips
returns-clause-skips c = text_over c.loop.invariant _ _ c.in_ok-text_byte.ensures c.if-is_some.ensures
