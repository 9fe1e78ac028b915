use Rattle.std.proofs.Common.{◌∙◌, sym}
use Rattle.std.proofs.lemmas.Bool.{false≢true}
use Rattle.rss_line.proofs.Digits.{decimal_read, decimal_other}
use Rattle.rss_line.proofs.decimal.read_decimal.Goals as goal

pub returns-then-has_one_spelling : goal.returns-then-has_one_spelling
returns-then-has_one_spelling c = decimal_read c.args.word.now c.number_of.result (c.has_one_spelling.ensures.0 c.if-has_one_spelling.true) c.number_of.ensures

pub returns-else-has_one_spelling : goal.returns-else-has_one_spelling
returns-else-has_one_spelling c = decimal_other c.args.word.now (λ one. false≢true (sym c.if-has_one_spelling.false ∙ c.has_one_spelling.ensures.1 one))
