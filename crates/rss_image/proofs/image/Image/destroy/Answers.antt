use Rattle.std.proofs.Math.Logic.{∥∥₁_map}
use Rattle.rss_image.proofs.Counted.{counts}
use Rattle.rss_image.proofs.Giving.{has_under, destroyed}
use Rattle.rss_image.proofs.Mending.{on_done}
use Rattle.rss_image.proofs.image.Image.destroy.Goals as goal

pub give_under-requires-clause-there : goal.give_under-requires-clause-there
give_under-requires-clause-there g c = λ told. ∥∥₁_map (c.requires.there told) (has_under c.args.self (g.P.Pages.view c.args.pages.now).held)

pub returns-clause-destroyed : goal.returns-clause-destroyed
returns-clause-destroyed g c = on_done c.give_under.result (λ gives told pairs tree.
    let old = g.P.Pages.view c.args.pages.now in
    let new = g.P.Pages.view c.give_under.new.pages in
    let counted = counts c.args.self old new pairs tree told c.give_under.ensures.did.step (g.met.P.Pages.holds c.args.pages.now told) (g.met.P.Pages.holds c.give_under.new.pages (c.give_under.ensures.did.step.passes.leaves.told.0 told)) (g.met.P.Pages.are_counted c.args.pages.now) (g.met.P.Pages.are_counted c.give_under.new.pages) (g.met.P.Pages.allowed c.args.pages.now) (g.met.P.Pages.allowed c.give_under.new.pages) in
    destroyed c.args.self old new pairs tree (gives told) counted) c.give_under.ensures.gives
