use Rattle.std.proofs.Common.{arith}
use Rattle.rss_session.specs.Filling.{HasFewPages}
use Rattle.rss_session.specs.Parts.{view}
use Rattle.rss_session.proofs.FilledStates.{few_pages}
use Rattle.rss_session.proofs.session.Session.check_image_pages.Goals as goal

pub returns-then-from-images_bound-clause-sound : goal.returns-then-from-images_bound-clause-sound
returns-then-from-images_bound-clause-sound g c place is told state kept shows =
    let few : HasFewPages (view g.S.Pages.view c.args.self.now) = few_pages c.requires.ready c.requires.closed shows (g.met.S.Pages.holds c.args.self.now.store.tuples.pages told) in
    omega (arith, few, c.if-from-images_bound.true, c.from.ensures, c.image_pages.ensures, c.images_bound.ensures.is)
