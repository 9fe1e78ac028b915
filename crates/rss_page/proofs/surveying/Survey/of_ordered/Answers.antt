use Rattle.std.proofs.Common.{◌≡◌, ℕ, refl, sym, subst, arith}
use Rattle.std.proofs.lemmas.Bool.{false≢true}
use Rattle.rss_page.specs.Slotted.{entry_of}
use Rattle.rss_page.specs.Surveyed.{StandsFrom}
use Rattle.rss_page.proofs.Walks.{walk_more, walk_all}
use Rattle.rss_page.proofs.Ordered.{IsOrderedSurveyOf, ordered_more, ordered_all, ordered_no_more}
use Rattle.rss_page.proofs.surveying.Survey.of_ordered.Goals as goal

pub returns-then-not-stands_from-clause-ordered : goal.returns-then-not-stands_from-clause-ordered
returns-then-not-stands_from-clause-ordered c =
    let not = λ (stands : StandsFrom c.loop-slot.found.end (entry_of c.args.page.now c.loop-slot.slot)). false≢true (c.if-not-stands_from.ensures.1 (subst (StandsFrom c.loop-slot.found.end) (sym c.in_ok-entry.ensures.spelled) stands)) in
    (λ is. absurd (false≢true is), λ ordered. absurd (ordered_no_more c.args.page.now c.loop-slot.slot c.loop-slot.found c.loop-slot-test.true c.loop-slot.invariant not ordered))

pub loop-slot-preserved : goal.loop-slot-preserved
loop-slot-preserved c =
    let stands = subst (StandsFrom c.loop-slot.found.end) c.in_ok-entry.ensures.spelled (c.if-not-stands_from.ensures.0 refl) in
    ordered_more c.args.page.now c.loop-slot.slot c.loop-slot.found c.with-found.result c.told-page c.loop-slot-test.true (c.in_ok-entry.ensures.exact.0 refl) stands c.loop-slot.invariant (walk_more c.args.page.now c.loop-slot.slot c.in_ok-entry.entry c.loop-slot.found c.with-found.result c.told-page (c.in_ok-entry.ensures.exact.0 refl).allowed c.loop-slot-test.true c.in_ok-entry.ensures.spelled c.loop-slot.invariant.survey c.with-found.ensures)

-- the walk came to the end
done : (c : goal.After-loop-slot) → IsOrderedSurveyOf c.args.page.now 128 c.loop-slot.found
done c =
    let all : c.loop-slot.slot ≡ 128 = omega arith in
    subst (λ (n : ℕ). IsOrderedSurveyOf c.args.page.now n c.loop-slot.found) all c.loop-slot.invariant

pub returns-clause-ordered : goal.returns-clause-ordered
returns-clause-ordered c = (λ is. ordered_all c.args.page.now c.loop-slot.found c.told-page (done c), λ ordered. refl)

pub returns-clause-found : goal.returns-clause-found
returns-clause-found c = walk_all c.args.page.now c.loop-slot.found (done c).survey
