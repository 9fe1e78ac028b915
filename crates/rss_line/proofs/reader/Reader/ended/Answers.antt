use Rattle.std.proofs.Common.{◌∙◌, sym}
use Rattle.std.proofs.lemmas.Bool.{false≢true}
use Rattle.rss_line.proofs.Cuts.{spaces_from, spaces_test}
use Rattle.rss_line.proofs.Combining.{ends_here, goes_beyond}
use Rattle.rss_line.proofs.reader.Reader.ended.Goals as goal

pub returns-then-is_at_end-clause-reads : goal.returns-then-is_at_end-clause-reads
returns-then-is_at_end-clause-reads g c = ends_here (spaces_from _ (sym c.is_at_end.ensures ∙ c.if-is_at_end.true))

pub returns-else-is_at_end-clause-reads : goal.returns-else-is_at_end-clause-reads
returns-else-is_at_end-clause-reads g c = goes_beyond (λ spaces. false≢true (sym c.if-is_at_end.false ∙ (c.is_at_end.ensures ∙ spaces_test _ spaces)))
