use Rattle.std.proofs.Common.{◌∙◌, [], ◌∷◌, ◌++◌, sym}
use Rattle.std.proofs.lemmas.Bool.{false≢true}
use Rattle.rss_line.specs.Owners.{IsAnyValue}
use Rattle.rss_line.proofs.Cuts.{shorter, spaces_from, spaces_test}
use Rattle.rss_line.proofs.Sequences.{goes_start, goes_more}
use Rattle.rss_line.proofs.Skipped.{any_solid, values_end, values_stop}
use Rattle.rss_line.proofs.reader.Reader.any_values.Goals as goal

pub loop-self-init : goal.loop-self-init
loop-self-init c = ([], goes_start IsAnyValue c.args.self.now)

pub returns-in_err-any_value-clause-reads : goal.returns-in_err-any_value-clause-reads
returns-in_err-any_value-clause-reads c = values_stop c.from_residual.result c.loop-self.invariant.1
    (λ spaces. false≢true (sym c.loop-self-test.true ∙ (c.is_at_end.ensures ∙ spaces_test c.loop-self.self spaces))) c.in_err-any_value.ensures.reads c.from_residual.ensures.1

pub loop-self-smaller : goal.loop-self-smaller
loop-self-smaller c = let (word, begins, is) = c.in_ok-any_value.ensures.reads.ok in shorter (any_solid word _ is) begins

pub loop-self-preserved : goal.loop-self-preserved
loop-self-preserved c = (c.loop-self.invariant.0 ++ tt ∷ [], goes_more IsAnyValue any_solid c.loop-self.invariant.1 c.in_ok-any_value.ensures.reads)

pub returns-clause-reads : goal.returns-clause-reads
returns-clause-reads c = values_end c.loop-self.invariant.1 (spaces_from _ (sym c.loop-self-test.ensures))
