use Rattle.std.proofs.Common.{◌∙◌, List, sym, subst}
use Rattle.std.proofs.lemmas.Bool.{false≢true}
use Rattle.rss_base.specs.declared.name.Name.{Name}
use Rattle.rss_model.specs.Script.{IsNameWord}
use Rattle.rss_line.proofs.Cuts.{shorter, spaces_from, spaces_test}
use Rattle.rss_line.proofs.Plain.{name_solid}
use Rattle.rss_line.proofs.Sequences.{GoesOn, goes_more, goes_end, goes_stops}
use Rattle.rss_line.proofs.reader.Reader.name_list.Goals as goal

pub returns-in_err-name : goal.returns-in_err-name
returns-in_err-name c = goes_stops IsNameWord name_solid c.from_residual.result c.loop-self.invariant
    (λ spaces. false≢true (sym c.loop-self-test.true ∙ (c.is_at_end.ensures ∙ spaces_test c.loop-self.self spaces))) c.in_err-name.ensures.reads c.from_residual.ensures.1

pub loop-self-smaller : goal.loop-self-smaller
loop-self-smaller c = let (word, begins, is) = c.in_ok-name.ensures.reads.ok in shorter (name_solid word _ is) begins

pub loop-self-preserved : goal.loop-self-preserved
loop-self-preserved c = subst (λ (names : List Name). GoesOn IsNameWord c.args.self.now names c.name.new.self) (sym c.in_ok-push.ensures.ok)
    (goes_more IsNameWord name_solid c.loop-self.invariant c.in_ok-name.ensures.reads)

pub returns : goal.returns
returns c = goes_end IsNameWord name_solid c.loop-self.invariant (spaces_from _ (sym c.loop-self-test.ensures))
