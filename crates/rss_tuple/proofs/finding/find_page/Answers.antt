use Rattle.std.proofs.Common.{◌<◌, subst, arith}
use Rattle.rss_base.specs.Paged.{Held, page_key}
use Rattle.rss_base.proofs.Steps.{done}
use Rattle.rss_tuple.specs.Directory.{contents}
use Rattle.rss_tuple.specs.Spots.{HasNoSpot}
use Rattle.rss_tuple.proofs.Spots.{low_number, none_found, kept_too, found_spot, searched_more, search_step, search_fails}
use Rattle.rss_tuple.proofs.finding.find_page.Goals as goal
use Rattle.rss_tuple.proofs.finding.find_page.Goals.{In-Some}

pub try_page-requires-clause-formed : goal.try_page-requires-clause-formed
try_page-requires-clause-formed g c = λ told. c.loop-number.invariant.kept.formed (c.loop-number.invariant.step.passes.leaves.told.1 told)

-- the page that is looked at has a number below the slots
low : (g : _) (c : In-Some g) → c.in-Some.number < (g.P.Pages.view c.args.pages.now).slots
low g c =
    let below = low_number (g.P.Pages.view c.loop-number.pages).slots c.args.segment c.args.space c.in-Some.number c.requires.noted (g.met.P.Pages.allowed c.loop-number.pages (page_key c.args.segment c.args.space c.in-Some.number) c.in-Some.ensures.some.has.mapped) in
    omega (arith, below, c.loop-number.invariant.step.passes.slots)

pub returns-in_err-spot-clause-kept : goal.returns-in_err-spot-clause-kept
returns-in_err-spot-clause-kept g c = kept_too _ _ _ _ c.loop-number.invariant (λ told key. g.met.P.Pages.holds c.loop-number.pages told key) c.requires.noted _ c.in_err-spot.ensures.kept

pub returns-in_err-spot-clause-did : goal.returns-in_err-spot-clause-did
returns-in_err-spot-clause-did g c =
    let first = c.in-Some.ensures.some in
    search_fails _ _ _ _ _ c.in-Some.number _ c.from_residual.ensures.1 c.loop-number.invariant first.later (low g (goal.at.returns-in_err-spot-clause-did g c).In-Some) c.in_err-spot.ensures.did

pub returns-in-Some-2-clause-found : goal.returns-in-Some-2-clause-found
returns-in-Some-2-clause-found g c =
    let first = c.in-Some.ensures.some in
    let told = λ (told : _). c.in_ok-spot.ensures.did.step.passes.leaves.told.0 (c.loop-number.invariant.step.passes.leaves.told.0 told) in
    found_spot _ _ _ _ c.loop-number.invariant (λ told key. g.met.P.Pages.holds c.loop-number.pages told key) c.requires.noted _ c.in-Some.number c.try_page.new.into c.in-Some-2.spot first c.in_ok-spot.ensures.kept told (rw c.in-Some-2.is at c.in_ok-spot.ensures.found)

pub returns-in-Some-2-clause-kept : goal.returns-in-Some-2-clause-kept
returns-in-Some-2-clause-kept g c = kept_too _ _ _ _ c.loop-number.invariant (λ told key. g.met.P.Pages.holds c.loop-number.pages told key) c.requires.noted _ c.in_ok-spot.ensures.kept

pub returns-in-Some-2-clause-did : goal.returns-in-Some-2-clause-did
returns-in-Some-2-clause-did g c =
    let first = c.in-Some.ensures.some in
    done _ (search_step _ _ _ _ _ c.in-Some.number c.loop-number.invariant first.later (low g (goal.at.returns-in-Some-2-clause-did g c).In-Some) c.in_ok-spot.ensures.did.step)

pub loop-number-preserved : goal.loop-number-preserved
loop-number-preserved g c =
    let so = c.loop-number.invariant in
    searched_more _ _ _ _ so (λ told key. g.met.P.Pages.holds c.loop-number.pages told key) c.requires.noted _ c.in-Some.number c.in-Some.ensures.some c.in_ok-spot.ensures.kept (low g (goal.at.loop-number-preserved g c).In-Some)
    (λ told. subst (λ (h : Held). HasNoSpot (contents h (page_key c.args.segment c.args.space c.in-Some.number)) c.args.length c.args.barred.now c.in-Some.number) (so.kept.held told) ((rw c.in_default-2.is at c.in_ok-spot.ensures.found) (so.step.passes.leaves.told.0 told)))
    c.in_ok-spot.ensures.did

pub returns-clause-found : goal.returns-clause-found
returns-clause-found g c = none_found _ _ _ _ c.loop-number.invariant (λ told key. g.met.P.Pages.holds c.loop-number.pages told key) c.requires.noted c.in_default.ensures.none
