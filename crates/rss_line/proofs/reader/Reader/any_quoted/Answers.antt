use Rattle.std.proofs.Common.{◌∙◌, sym}
use Rattle.std.proofs.lemmas.Bool.{false≢true}
use Rattle.rss_line.proofs.Skipped.{skips_missing, skips_read, skips_other}
use Rattle.rss_line.proofs.reader.Reader.any_quoted.Goals as goal

pub returns-in_err-skip_text-clause-reads : goal.returns-in_err-skip_text-clause-reads
returns-in_err-skip_text-clause-reads c = skips_missing _ c.from_residual.result c.in_err-skip_text.ensures.skips c.from_residual.ensures.1

pub returns-then-is_apart-clause-reads : goal.returns-then-is_apart-clause-reads
returns-then-is_apart-clause-reads c = skips_read c.in_ok-skip_text.ensures.skips (c.is_apart.ensures.0 c.if-is_apart.true)

pub returns-else-is_apart-clause-reads : goal.returns-else-is_apart-clause-reads
returns-else-is_apart-clause-reads c = skips_other c.in_ok-skip_text.ensures.skips (λ apart. false≢true (sym c.if-is_apart.false ∙ c.is_apart.ensures.1 apart))
