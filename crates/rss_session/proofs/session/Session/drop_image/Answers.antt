use Rattle.std.proofs.Common.{◌<◌, ◌^◌, refl, arith}
use Rattle.rss_session.specs.Parts.{view}
use Rattle.rss_session.proofs.Dropped.{image_taken}
use Rattle.rss_session.proofs.Looked.{keeps_looked}
use Rattle.rss_session.proofs.Passing.{fault_same}
use Rattle.rss_session.proofs.Touched.{goes_touched}
use Rattle.rss_session.proofs.session.Session.drop_image.Goals as goal

pub take_image-requires-clause-may : goal.take_image-requires-clause-may
take_image-requires-clause-may g c = record { heaps = c.requires.ready.store.heaps; tables = c.requires.ready.store.tables }

-- it was not taken away
pub returns-in_err-take_image-clause-sound : goal.returns-in_err-take_image-clause-sound
returns-in_err-take_image-clause-sound g c = λ place is.
    let known = c.in-Ok.ensures.known in
    (c.in_err-take_image.ensures.did known.image known.relation known.at).sound place (fault_same refl c.from_residual.ensures.1 is)

pub returns-in_err-take_image-clause-moments : goal.returns-in_err-take_image-clause-moments
returns-in_err-take_image-clause-moments g c =
    let known = c.in-Ok.ensures.known in
    keeps_looked (c.in_err-take_image.ensures.did known.image known.relation known.at).step.passes c.requires.ready.store.settled_now

pub returns-in_err-take_image-clause-goes : goal.returns-in_err-take_image-clause-goes
returns-in_err-take_image-clause-goes g c =
    let known = c.in-Ok.ensures.known in
    let did = c.in_err-take_image.ensures.did known.image known.relation known.at in
    let same = c.from_residual.ensures.1 in
    goes_touched (view g.S.Pages.view c.args.self.now) did.step c.take_image.new.catalog c.requires.ready.store.settled_now (λ is. did.failed (fault_same refl same is)) (λ is. did.memory (fault_same refl same is))

-- it was
pub returns-clause-takes : goal.returns-clause-takes
returns-clause-takes g c =
    let known = c.in-Ok.ensures.known in
    let pages = c.args.self.now.store.tuples.pages in
    let did = c.in_ok-take_image.ensures.did known.image known.relation known.at in
    let few : (g.S.Pages.view pages).slots < 2 ^ 32 = omega (arith, c.requires.ready.store.size, c.requires.ready.store.formed.slots_most) in
    image_taken {old = view g.S.Pages.view c.args.self.now} (record {
      at = known.at;
      takes = c.in_ok-take_image.ensures.takes;
      asks = _;
      outs = _;
      step = did.step;
      before = record { small = few; holds = g.met.S.Pages.holds pages; allowed = g.met.S.Pages.allowed pages; counted = g.met.S.Pages.are_counted pages };
      after = record { small = omega (arith, few, did.step.passes.slots); holds = g.met.S.Pages.holds c.take_image.new.pages; allowed = g.met.S.Pages.allowed c.take_image.new.pages; counted = g.met.S.Pages.are_counted c.take_image.new.pages };
    }) known.named c.requires.ready c.in-Ok.ensures.closed

pub returns-clause-moments : goal.returns-clause-moments
returns-clause-moments g c =
    let known = c.in-Ok.ensures.known in
    keeps_looked (c.in_ok-take_image.ensures.did known.image known.relation known.at).step.passes c.requires.ready.store.settled_now

pub returns-clause-goes : goal.returns-clause-goes
returns-clause-goes g c =
    let known = c.in-Ok.ensures.known in
    let did = c.in_ok-take_image.ensures.did known.image known.relation known.at in
    goes_touched (view g.S.Pages.view c.args.self.now) did.step c.take_image.new.catalog c.requires.ready.store.settled_now (λ is. absurd (cc (is))) (λ is. absurd (cc (is)))
