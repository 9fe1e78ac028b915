use Rattle.std.proofs.Common.{◌<◌, ◌^◌, ap, refl, sym, ◌∙◌, subst, arith}
use Rattle.std.specs.Prelude.{is_some, Err}
use Rattle.std.proofs.lemmas.Result.{err_from_is_err_and, on_ok_weaker}
use Rattle.rss_base.specs.Listings.{IsUnlisted}
use Rattle.rss_base.specs.declared.name.Name.{Name}
use Rattle.rss_base.specs.declared.place.Place.TheVariants.{Room}
use Rattle.rss_base.specs.declared.refusal.Kind.TheVariants.{Image as ImageKind}
use Rattle.rss_base.proofs.Moments.{started}
use Rattle.rss_session.specs.Calls.{GoesOn}
use Rattle.rss_session.specs.Parts.{view}
use Rattle.rss_session.proofs.FilledEntries.{slots_low, keys_long, listed_within}
use Rattle.rss_session.proofs.FilledLists.{image_listed}
use Rattle.rss_session.proofs.FilledPages.{spare_listed}
use Rattle.rss_session.proofs.FilledRooms.{planned_fits}
use Rattle.rss_session.proofs.FilledTables.{builds_makes}
use Rattle.rss_session.proofs.Looked.{keeps_looked}
use Rattle.rss_session.proofs.Passing.{fault_same, goes_damaged}
use Rattle.rss_session.proofs.Touched.{goes_touched}
use Rattle.rss_session.proofs.session.Session.fill_image.Goals as goal

-- the images are found damaged
pub returns-in_err-check_image_pages-clause-sound : goal.returns-in_err-check_image_pages-clause-sound
returns-in_err-check_image_pages-clause-sound g c = λ place is. c.in_err-check_image_pages.ensures.sound place (fault_same refl c.from_residual.ensures.1 is)

pub returns-in_err-check_image_pages-clause-moments : goal.returns-in_err-check_image_pages-clause-moments
returns-in_err-check_image_pages-clause-moments g c = λ told state kept shows. started _ _

pub returns-in_err-check_image_pages-clause-goes : goal.returns-in_err-check_image_pages-clause-goes
returns-in_err-check_image_pages-clause-goes g c =
    let now = view g.S.Pages.view c.args.self.now in
    let why = err_from_is_err_and c.from_residual.result c.from_residual.ensures.1 in
    subst (GoesOn now now) (sym (why.1 ∙ ap Err (why.2 ∙ c.in_err-check_image_pages.ensures.fault))) (goes_damaged now Room)

-- it may be listed
pub add_image-number-requires-clause-entry : goal.add_image-number-requires-clause-entry
add_image-number-requires-clause-entry g c = planned_fits c.requires.planned.plans

pub add_image-number-requires-clause-fresh : goal.add_image-number-requires-clause-fresh
add_image-number-requires-clause-fresh g c =
    let plans = c.requires.planned.plans in
    subst (λ (n : Name). IsUnlisted ImageKind c.args.self.now.store.catalog.listing n) (sym plans.named) plans.fresh

pub add_image-number-requires-clause-room : goal.add_image-number-requires-clause-room
add_image-number-requires-clause-room g c = c.requires.planned.plans.room

-- and be built
pub fill_image-requires-clause-there : goal.fill_image-requires-clause-there
fill_image-requires-clause-there g c = ap is_some (image_listed c.add_image-number.ensures.least c.add_image-number.ensures.lists)

pub fill_image-requires-clause-long : goal.fill_image-requires-clause-long
fill_image-requires-clause-long g c = keys_long c.requires.entries 0 1 c.add_image-number.ensures.least c.add_image-number.ensures.lists

pub fill_image-requires-clause-slots : goal.fill_image-requires-clause-slots
fill_image-requires-clause-slots g c = let plans = c.requires.planned.plans in slots_low c.requires.entries plans.within plans.at

pub fill_image-requires-clause-room : goal.fill_image-requires-clause-room
fill_image-requires-clause-room g c =
    let added = c.add_image-number.ensures in
    spare_listed c.requires.ready c.requires.room c.in_ok-check_image_pages.ensures.few 0 1 added.least added.lists _ (λ relation at. (c.requires.entries.of relation at).few)

pub returns-clause-makes : goal.returns-clause-makes
returns-clause-makes g c =
    let added = c.add_image-number.ensures in
    let plans = c.requires.planned.plans in
    let pages = c.args.self.now.store.tuples.pages in
    let did = c.fill_image.ensures.did _ _ (listed_within c.requires.entries 0 1 added.least added.lists plans.within plans.at) in
    let few : (g.S.Pages.view pages).slots < 2 ^ 32 = omega (arith, c.requires.ready.store.size, c.requires.ready.store.formed.slots_most) in
    on_ok_weaker c.fill_image.result (λ fills.
    builds_makes (record {
      number = c.add_image-number.result;
      mid = _;
      least = added.least;
      lists = added.lists;
      fits = added.fits;
      fills = fills;
      relation = plans.within;
      within = plans.at;
      asks = _;
      outs = _;
      step = did.step;
      before = record { small = few; holds = g.met.S.Pages.holds pages; allowed = g.met.S.Pages.allowed pages; counted = g.met.S.Pages.are_counted pages };
      after = record { small = omega (arith, few, did.step.passes.slots); holds = g.met.S.Pages.holds c.fill_image.new.pages; allowed = g.met.S.Pages.allowed c.fill_image.new.pages; counted = g.met.S.Pages.are_counted c.fill_image.new.pages };
    }) c.requires.ready (c.requires.entries.of plans.within plans.at).are c.requires.closed)
    c.fill_image.ensures.fills

pub returns-clause-sound : goal.returns-clause-sound
returns-clause-sound g c = λ place is told.
    let plans = c.requires.planned.plans in
    let added = c.add_image-number.ensures in
    absurd ((c.fill_image.ensures.did _ _ (listed_within c.requires.entries 0 1 added.least added.lists plans.within plans.at)).sound place is told)

pub returns-clause-moments : goal.returns-clause-moments
returns-clause-moments g c =
    let plans = c.requires.planned.plans in
    let added = c.add_image-number.ensures in
    keeps_looked (c.fill_image.ensures.did _ _ (listed_within c.requires.entries 0 1 added.least added.lists plans.within plans.at)).step.passes c.requires.ready.store.settled_now

pub returns-clause-goes : goal.returns-clause-goes
returns-clause-goes g c =
    let plans = c.requires.planned.plans in
    let added = c.add_image-number.ensures in
    let did = c.fill_image.ensures.did _ _ (listed_within c.requires.entries 0 1 added.least added.lists plans.within plans.at) in
    goes_touched (view g.S.Pages.view c.args.self.now) did.step _ c.requires.ready.store.settled_now did.failed did.memory

pub returns-clause-costs : goal.returns-clause-costs
returns-clause-costs g c =
    let plans = c.requires.planned.plans in
    let added = c.add_image-number.ensures in
    let passes = (c.fill_image.ensures.did _ _ (listed_within c.requires.entries 0 1 added.least added.lists plans.within plans.at)).step.passes in
    (passes.asks_high, passes.writes_high)
