use Rattle.std.proofs.Common.{◌∙◌, sym, arith}
use Rattle.std.specs.Prelude.{codes}
use Rattle.rss_base.specs.declared.call.Call.TheVariants.{OpenImage}
use Rattle.std.specs.Prelude.{Some}
use Rattle.rss_line.proofs.Combining.{stops_word, then_word, stops_fixed, then_fixed, stops_rest, then_rest, needs_fixed, at_end, goes_on}
use Rattle.rss_line.proofs.reader.Reader.open_image.Goals as goal

pub returns-in_err-image : goal.returns-in_err-image
returns-in_err-image c = stops_word _ c.in_err-image.ensures.reads c.from_residual.ensures.1

pub returns-then-is_at_end : goal.returns-then-is_at_end
returns-then-is_at_end c = then_word _ c.in_ok-image.ensures.reads
    (at_end (needs_fixed _ (codes "from") (λ is. omega (arith, is))) (sym c.is_at_end.ensures ∙ c.if-is_at_end.true))

pub returns-in_err-fixed : goal.returns-in_err-fixed
returns-in_err-fixed c = then_word _ c.in_ok-image.ensures.reads
    (goes_on _ (sym c.is_at_end.ensures ∙ c.if-is_at_end.false) (stops_fixed _ c.in_err-fixed.ensures.reads c.from_residual-in_err-fixed.ensures.1))

pub returns-in_err-values : goal.returns-in_err-values
returns-in_err-values c = then_word _ c.in_ok-image.ensures.reads
    (goes_on _ (sym c.is_at_end.ensures ∙ c.if-is_at_end.false)
    (then_fixed _ c.in_ok-fixed.ensures.reads
    (stops_rest (λ values. OpenImage c.args.transaction c.in_ok-image.image (Some values)) _ c.in_err-values.ensures c.from_residual-in_err-values.ensures.1)))

pub returns : goal.returns
returns c = then_word _ c.in_ok-image.ensures.reads
    (goes_on _ (sym c.is_at_end.ensures ∙ c.if-is_at_end.false)
    (then_fixed _ c.in_ok-fixed.ensures.reads
    (then_rest (λ values. OpenImage c.args.transaction c.in_ok-image.image (Some values)) c.in_ok-values.ensures)))
