use Rattle.std.proofs.Common.{◌*◌, arith}
use Rattle.rss_base.specs.Paged.{page_key}
use Rattle.rss_base.specs.Steps.{pages_in, PagesStep}
use Rattle.rss_base.specs.declared.key.Space.TheVariants.{Home}
use Rattle.rss_base.proofs.Steps.{then, then_call, within, done, fails}
use Rattle.rss_tuple.specs.Edits.{KeepsEntries}
use Rattle.rss_tuple.proofs.Chosen.{picked_room, picked_new, picked_entry, none_picked, kept_then}
use Rattle.rss_tuple.proofs.choosing.choose.Goals as goal
use Rattle.rss_tuple.proofs.choosing.choose.Goals.{After-find_page-2}

pub find_page-requires-clause-formed : goal.find_page-requires-clause-formed
find_page-requires-clause-formed g c = c.requires.formed

pub returns-in-Some-clause-picks : goal.returns-in-Some-clause-picks
returns-in-Some-clause-picks g c =
    let found = rw c.in-Some.is at c.in_ok-spot.ensures.found in
    picked_room c.args.segment c.args.length c.args.barred.now c.find_page.new.into c.in-Some.spot _ (g.P.Pages.view c.find_page.new.pages) found
    (g.met.P.Pages.allowed c.find_page.new.pages (page_key c.args.segment Home c.in-Some.spot.tid.page) found.there.read.mapped) c.find_page.ensures.did.step.passes.slots

pub returns-in-Some-first_new-clause-picks : goal.returns-in-Some-first_new-clause-picks
returns-in-Some-first_new-clause-picks g c =
    picked_new c.args.segment c.args.length c.args.barred.now _ _ c.find_page.ensures.kept c.find_page.ensures.did.step.passes.slots (rw c.in_default.is at c.in_ok-spot.ensures.found) c.in-Some-first_new.tid c.in-Some-first_new.ensures

pub find_page-requires-2-clause-formed : goal.find_page-requires-2-clause-formed
find_page-requires-2-clause-formed g c = λ told. c.find_page.ensures.kept.formed (c.find_page.ensures.did.step.passes.leaves.told.1 told)

-- ---- in a mapped page that has no room for the body

-- the second search, behind the first
kept_again : (g : _) (c : After-find_page-2 g) → KeepsEntries (g.P.Pages.view c.args.pages.now) (g.P.Pages.view c.find_page-2.new.pages)
kept_again g c = kept_then c.find_page.ensures.did.step.passes.leaves.told.0 c.find_page.ensures.kept c.find_page-2.ensures.kept

step_again : (g : _) (c : After-find_page-2 g) → PagesStep (pages_in c.args.segment Home) (2 * (g.P.Pages.view c.args.pages.now).slots) (2 * (g.P.Pages.view c.args.pages.now).slots) (g.P.Pages.view c.args.pages.now) (g.P.Pages.view c.find_page-2.new.pages)
step_again g c =
    let same = c.find_page.ensures.did.step.passes.slots in
    within (λ key there. there) (omega (arith, same)) (omega (arith, same)) (then c.find_page.ensures.did.step c.find_page-2.ensures.did.step)

pub returns-in_err-spot-2-clause-kept : goal.returns-in_err-spot-2-clause-kept
returns-in_err-spot-2-clause-kept g c = kept_again g (goal.at.returns-in_err-spot-2-clause-kept g c).After-find_page-2

pub returns-in_err-spot-2-clause-did : goal.returns-in_err-spot-2-clause-did
returns-in_err-spot-2-clause-did g c =
    let same = c.find_page.ensures.did.step.passes.slots in
    fails _ c.from_residual-in_err-spot-2.ensures.1 (λ key there. there) (omega (arith, same)) (omega (arith, same)) (then_call c.find_page.ensures.did.step c.in_err-spot-2.ensures.did)

pub returns-in-Some-2-clause-picks : goal.returns-in-Some-2-clause-picks
returns-in-Some-2-clause-picks g c =
    let found = rw c.in-Some-2.is at c.in_ok-spot-2.ensures.found in
    picked_entry c.args.segment c.args.length c.args.barred.now _ _ c.find_page.ensures.kept c.find_page.ensures.did.step.passes.slots (rw c.in_default.is at c.in_ok-spot.ensures.found) c.find_page-2.new.into c.in-Some-2.spot (g.P.Pages.view c.find_page-2.new.pages) c.in_default-first_new.ensures c.find_page.ensures.did.step.passes.leaves.told.0 found
    (g.met.P.Pages.allowed c.find_page-2.new.pages (page_key c.args.segment Home c.in-Some-2.spot.tid.page) found.there.read.mapped) c.find_page-2.ensures.did.step.passes.slots

pub returns-in-None-clause-picks : goal.returns-in-None-clause-picks
returns-in-None-clause-picks g c =
    let step = c.find_page.ensures.did.step in
    let no_spot = rw c.in-None.is at c.in_ok-spot-2.ensures.found in
    none_picked c.args.segment c.args.length c.args.barred.now _ _ c.find_page.ensures.kept step.passes.slots (rw c.in_default.is at c.in_ok-spot.ensures.found) c.in_default-first_new.ensures (λ told. no_spot (step.passes.leaves.told.0 told))

pub returns-in-Some-2-clause-kept : goal.returns-in-Some-2-clause-kept
returns-in-Some-2-clause-kept g c = kept_again g (goal.at.returns-in-Some-2-clause-kept g c).After-find_page-2

pub returns-in-Some-2-clause-did : goal.returns-in-Some-2-clause-did
returns-in-Some-2-clause-did g c = done _ (step_again g (goal.at.returns-in-Some-2-clause-did g c).After-find_page-2)

pub returns-in-None-clause-kept : goal.returns-in-None-clause-kept
returns-in-None-clause-kept g c = kept_again g (goal.at.returns-in-None-clause-kept g c).After-find_page-2

pub returns-in-None-clause-did : goal.returns-in-None-clause-did
returns-in-None-clause-did g c = done _ (step_again g (goal.at.returns-in-None-clause-did g c).After-find_page-2)
