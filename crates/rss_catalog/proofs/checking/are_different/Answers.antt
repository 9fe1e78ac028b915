-- A number that stands before its place stands twice, and otherwise none does.
use Rattle.std.proofs.Common.{◌∙◌, sym, refl}
use Rattle.std.proofs.lemmas.Bool.{false≢true}
use Rattle.rss_catalog.proofs.Keyed.{stands_before, different_more, different_all, not_different}
use Rattle.rss_catalog.proofs.checking.are_different.Goals as goal

pub returns-then-contains : goal.returns-then-contains
returns-then-contains c = (
  λ it. absurd (cc),
  λ different. absurd (not_different c.args.numbers.now c.loop-place.place c.loop-place-test.true ((stands_before c.args.numbers.now c.loop-place.place _ c.loop-place-test.true c.contains.ensures.cases).0 c.if-contains.true) different),
)

pub loop-place-preserved : goal.loop-place-preserved
loop-place-preserved c = different_more c.args.numbers.now c.loop-place.place (λ found. false≢true (sym c.if-contains.false ∙ (stands_before c.args.numbers.now c.loop-place.place _ c.loop-place-test.true c.contains.ensures.cases).1 found)) c.loop-place.invariant

pub returns : goal.returns
returns c = (λ it. different_all c.args.numbers.now c.loop-place.place c.loop-place-test.false c.loop-place.invariant, λ different. refl)
