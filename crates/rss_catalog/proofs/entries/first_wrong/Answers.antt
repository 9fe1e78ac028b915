-- The one that was found is the first, and where none was, all are right.
use Rattle.std.proofs.Common.{◌≡◌, ◌∙◌, None, sym, arith, true}
use Rattle.std.proofs.lemmas.List.{get_or_default}
use Rattle.rss_catalog.proofs.Tested.{each_more, each_all, fine_then, wrong_at}
use Rattle.rss_catalog.proofs.entries.first_wrong.Goals as goal

pub loop-place-preserved : goal.loop-place-preserved
loop-place-preserved g c =
    let right = g.E.Placed.right in
    each_more (λ item. right item ≡ true) c.args.entries.now c.loop-place.place c.index-entries-place.result (c.index-entries-place.is ∙ get_or_default c.args.entries.now c.loop-place.place c.index-entries-place.result None c.loop-place-test.true) (fine_then right c.index-entries-place.result (sym c.is_fine.ensures ∙ c.if-not-is_fine.false)) c.loop-place.invariant

pub returns-then-not-is_fine-clause-some : goal.returns-then-not-is_fine-clause-some
returns-then-not-is_fine-clause-some g c =
    wrong_at g.E.Placed.right c.args.entries.now c.loop-place.place c.index-entries-place.result c.loop-place-test.true (c.index-entries-place.is ∙ get_or_default c.args.entries.now c.loop-place.place c.index-entries-place.result None c.loop-place-test.true) (sym c.is_fine.ensures ∙ c.if-not-is_fine.true) c.loop-place.invariant

pub returns-clause-none : goal.returns-clause-none
returns-clause-none g c = each_all (λ item. g.E.Placed.right item ≡ true) c.args.entries.now c.loop-place.place (omega arith) c.loop-place.invariant
