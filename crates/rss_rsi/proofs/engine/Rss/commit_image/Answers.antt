use Rattle.std.proofs.Common.{refl, ◌∙◌, sym}
use Rattle.std.specs.Prelude.{Ok}
use Rattle.std.proofs.lemmas.Bool.{true≢false}
use Rattle.rss_rsi.proofs.Imaging.{image_closed, image_early, image_done, image_ready, image_fails}
use Rattle.rss_rsi.proofs.Ways.{fault_of_memory}
use Rattle.rss_rsi.proofs.engine.Rss.commit_image.Goals as goal

pub redefine-requires-clause-ready : goal.redefine-requires-clause-ready
redefine-requires-clause-ready g c = c.requires.some.1.lists.saves

pub redefine-requires-clause-closed : goal.redefine-requires-clause-closed
redefine-requires-clause-closed g c = image_closed g.S.Pages.view c.requires.some.1

pub redefine-requires-clause-early : goal.redefine-requires-clause-early
redefine-requires-clause-early g c = image_early g.S.Pages.view c.requires.some.1

pub returns-in_err-redefine-clause-did : goal.returns-in_err-redefine-clause-did
returns-in_err-redefine-clause-did g c = λ to is.
    let redefine = c.in_err-redefine.ensures in
    image_fails g.S.Pages.view is c.from_residual.result c.from_residual.ensures.1 (λ up. true≢false (sym c.requires.down ∙ up)) redefine.goes redefine.moments redefine.sound

pub returns-in_err-redefine-clause-memory : goal.returns-in_err-redefine-clause-memory
returns-in_err-redefine-clause-memory g c = fault_of_memory c.from_residual.result c.from_residual.ensures.1 c.in_err-redefine.ensures.goes

pub invariant_of-self-2 : goal.invariant_of-self-2
invariant_of-self-2 g c =
    let redefine = c.in_ok-redefine.ensures in
    record { ready = λ up. image_ready g.S.Pages.view c.requires.some.1 {result = Ok tt} redefine.goes redefine.moments redefine.ready redefine.appends redefine.anew.transactions }

pub returns-clause-did : goal.returns-clause-did
returns-clause-did g c = λ to is.
    let redefine = c.in_ok-redefine.ensures in
    image_done g.S.Pages.view is {result = Ok tt} redefine.goes redefine.moments refl refl redefine.shows
