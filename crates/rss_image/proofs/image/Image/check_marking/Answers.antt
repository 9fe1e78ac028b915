use Rattle.std.proofs.Common.{◌-◌, ◌≤◌, ◌+◌, ℕ, List, [], length, sym, subst, arith}
use Rattle.rss_base.proofs.Steps.{fails}
use Rattle.rss_levels.specs.Entries.{zeros}
use Rattle.rss_image.specs.Images.{nodes_of}
use Rattle.rss_image.specs.Checking.{IsSeenUnder}
use Rattle.rss_image.proofs.Laid.{census_is}
use Rattle.rss_image.specs.Marks.{IsMappedIn}
use Rattle.rss_image.proofs.Marked.{image_marked, only_none}
use Rattle.rss_image.proofs.Numbered.{numbered}
use Rattle.rss_image.proofs.Standing.{HasRoot, below_slots, stands_held, sound_stands}
use Rattle.rss_image.proofs.Walked.{own_pages}
use Rattle.rss_image.proofs.image.Image.check_marking.Goals as goal

pub returns-then-not-fits-clause-none : goal.returns-then-not-fits-clause-none
returns-then-not-fits-clause-none g c = λ is told has.
    let image = c.args.self.now in
    let view = g.P.Pages.view c.args.pages.now in
    let root = sound_stands image view c.fewest_of-fewest.result (g.met.P.Pages.holds c.args.pages.now told) (g.met.P.Pages.allowed c.args.pages.now) c.fewest_of-fewest.ensures.leaf c.fewest_of-fewest.ensures.inner has in
    let there = subst (λ (l : List ℕ). HasRoot (nodes_of image) view.slots view.held (image.levels - 1) image.root l c.fewest_of-fewest.result) (sym c.zeros-low.ensures) root in
    let room : c.none-seen.result.pages + length there.stands.ns ≤ view.slots = omega (arith, there.room, c.none-seen.ensures.pages) in
    c.in_ok-fits.ensures.never c.if-not-fits.true told [] (own_pages image.width [] 0 c.none-seen.result (c.none-seen.ensures.seen image.width)) there.stands room

pub returns-clause-sound : goal.returns-clause-sound
returns-clause-sound g c = λ told.
    let image = c.args.self.now in
    let view = g.P.Pages.view c.args.pages.now in
    let of = nodes_of image in
    let holds = g.met.P.Pages.holds c.args.pages.now told in
    let allowed = g.met.P.Pages.allowed c.args.pages.now in
    let fewest = c.fewest_of-fewest.result in
    let seen = c.check_under.new.seen in
    let passed = c.in_ok-fits.ensures.sees c.if-not-fits.false told [] (own_pages image.width [] 0 c.none-seen.result (c.none-seen.ensures.seen image.width)) tt in
    let from_none = subst (λ (n : ℕ). IsSeenUnder of view.slots view.held (image.levels - 1) image.root c.zeros-low.result fewest [] n seen) c.none-seen.ensures.pages passed in
    let whole = subst (λ (l : List ℕ). IsSeenUnder of view.slots view.held (image.levels - 1) image.root l fewest [] 0 seen) c.zeros-low.ensures from_none in
    let low = below_slots view holds allowed of image.root (stands_held of view.slots view.held (image.levels - 1) image.root (zeros image.width) fewest [] whole.stands) in
    census_is image view seen fewest c.requires.of (numbered view (g.met.P.Pages.few_slots c.args.pages.now) holds allowed of) (omega (arith, low)) (omega (arith, c.if-self-eq0.false)) c.fewest_of-fewest.ensures.inner whole

pub returns-in_err-fits-clause-did : goal.returns-in_err-fits-clause-did
returns-in_err-fits-clause-did g c = (c.in_err-fits.ensures.did.0, fails _ c.from_residual.ensures.1 (λ key there. there) (omega arith) (omega arith) c.in_err-fits.ensures.did.1)

pub returns-clause-marked : goal.returns-clause-marked
returns-clause-marked g c = λ told.
    let is = returns-clause-sound g c told in
    image_marked c.args.self.now (g.P.Pages.view c.args.pages.now) c.args.marks.now c.check_under.new.marks (record { pairs = is.pairs; tree = is.tree; within = is.within }) (c.in_ok-fits.ensures.marked c.if-not-fits.false told)

pub returns-then-self-eq0-clause-reached : goal.returns-then-self-eq0-clause-reached
returns-then-self-eq0-clause-reached g c = only_none (IsMappedIn (nodes_of c.args.self.now) (g.P.Pages.view c.args.pages.now)) c.args.marks.now
