use Rattle.std.proofs.Common.{◌∙◌, sym, arith}
use Rattle.std.specs.Prelude.{codes}
use Rattle.rss_line.proofs.Combining.{stops_word, then_word, stops_fixed, then_fixed, needs_fixed, at_end, goes_on}
use Rattle.rss_line.proofs.reader.Reader.any_image_scan.Goals as goal

pub returns-in_err-_image-clause-reads : goal.returns-in_err-_image-clause-reads
returns-in_err-_image-clause-reads c = stops_word _ c.in_err-_image.ensures.reads c.from_residual.ensures.1

pub returns-then-is_at_end-clause-reads : goal.returns-then-is_at_end-clause-reads
returns-then-is_at_end-clause-reads c = then_word _ c.in_ok-_image.ensures.reads
    (at_end (needs_fixed _ (codes "from") (λ is. omega (arith, is))) (sym c.is_at_end.ensures ∙ c.if-is_at_end.true))

pub returns-in_err-fixed-clause-reads : goal.returns-in_err-fixed-clause-reads
returns-in_err-fixed-clause-reads c = then_word _ c.in_ok-_image.ensures.reads
    (goes_on _ (sym c.is_at_end.ensures ∙ c.if-is_at_end.false) (stops_fixed _ c.in_err-fixed.ensures.reads c.from_residual-in_err-fixed.ensures.1))

pub returns-clause-reads : goal.returns-clause-reads
returns-clause-reads c = then_word _ c.in_ok-_image.ensures.reads
    (goes_on _ (sym c.is_at_end.ensures ∙ c.if-is_at_end.false) (then_fixed _ c.in_ok-fixed.ensures.reads c.any_values.ensures.reads))
