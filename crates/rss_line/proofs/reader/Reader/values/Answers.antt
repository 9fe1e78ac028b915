use Rattle.std.proofs.Common.{◌∙◌, List, sym, subst}
use Rattle.std.proofs.lemmas.Bool.{false≢true}
use Rattle.rss_base.specs.declared.value.Value.{Value}
use Rattle.rss_model.specs.Script.{IsValue}
use Rattle.rss_line.proofs.Cuts.{shorter, spaces_from, spaces_test}
use Rattle.rss_line.proofs.ValueTexts.{value_solid}
use Rattle.rss_line.proofs.Sequences.{GoesOn, goes_more, goes_end, goes_stops}
use Rattle.rss_line.proofs.reader.Reader.values.Goals as goal

pub returns-in_err-value : goal.returns-in_err-value
returns-in_err-value c = goes_stops IsValue value_solid c.from_residual-in_err-value.result c.loop-alloc.invariant
    (λ spaces. false≢true (sym c.loop-alloc-test.true ∙ (c.is_at_end.ensures ∙ spaces_test c.loop-alloc.self spaces))) c.in_err-value.ensures c.from_residual-in_err-value.ensures.1

pub loop-alloc-smaller : goal.loop-alloc-smaller
loop-alloc-smaller c = let (word, begins, is) = c.in_ok-value.ensures.ok in shorter (value_solid word _ is) begins

pub loop-alloc-preserved : goal.loop-alloc-preserved
loop-alloc-preserved c = subst (λ (values : List Value). GoesOn IsValue c.args.self.now values c.value.new.self) (sym c.in_ok-push.ensures.ok)
    (goes_more IsValue value_solid c.loop-alloc.invariant c.in_ok-value.ensures)

pub returns : goal.returns
returns c = goes_end IsValue value_solid c.loop-alloc.invariant (spaces_from _ (sym c.loop-alloc-test.ensures))
