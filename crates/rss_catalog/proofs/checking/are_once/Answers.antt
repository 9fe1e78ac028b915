use Rattle.std.proofs.Common.{◌∙◌, sym, refl, arith}
use Rattle.std.proofs.lemmas.Bool.{false≢true}
use Rattle.rss_catalog.proofs.Tested.{once_all, once_more, taken_twice}
use Rattle.rss_catalog.proofs.checking.are_once.Goals as goal

pub returns-then-is_taken : goal.returns-then-is_taken
returns-then-is_taken c = (λ it. absurd (cc), λ once. absurd (taken_twice c.args.items.now c.loop-place.place c.loop-place-test.true (c.is_taken.ensures.0 c.if-is_taken.true) once))

pub loop-place-preserved : goal.loop-place-preserved
loop-place-preserved c = once_more c.args.items.now c.loop-place.place c.loop-place-test.true (λ taken. false≢true (sym c.if-is_taken.false ∙ c.is_taken.ensures.1 taken)) c.loop-place.invariant

pub returns : goal.returns
returns c = (λ it. once_all c.args.items.now c.loop-place.place (omega arith) c.loop-place.invariant, λ once. refl)
