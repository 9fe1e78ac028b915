use Rattle.std.proofs.Common.{◌∙◌, sym}
use Rattle.std.proofs.lemmas.Bool.{false≢true}
use Rattle.rss_line.proofs.ValueTexts.{quoted_missing, quoted_read, quoted_other}
use Rattle.rss_line.proofs.reader.Reader.quoted.Goals as goal

pub returns-in_err-text : goal.returns-in_err-text
returns-in_err-text c = quoted_missing _ c.from_residual.result c.in_err-text.ensures c.from_residual.ensures.1

pub returns-then-is_apart : goal.returns-then-is_apart
returns-then-is_apart c = quoted_read c.in_ok-text.text c.in_ok-text.ensures (c.is_apart.ensures.0 c.if-is_apart.true)

pub returns-else-is_apart : goal.returns-else-is_apart
returns-else-is_apart c = quoted_other c.in_ok-text.text c.in_ok-text.ensures (λ apart. false≢true (sym c.if-is_apart.false ∙ c.is_apart.ensures.1 apart))
