use Rattle.std.proofs.Common.{refl, ◌∙◌, sym}
use Rattle.std.proofs.lemmas.Bool.{true≢false}
use Rattle.rss_rsi.proofs.Defining.{made_ok, refused_define, refused_ready, listed_saves, listed_closed, listed_early, redefining_fails, redefined_done, redefined_ready}
use Rattle.rss_rsi.proofs.Ways.{fault_of_memory}
use Rattle.rss_rsi.proofs.engine.Rss.redefine.Goals as goal

-- ---- it was refused

pub returns-in-Err-clause-did : goal.returns-in-Err-clause-did
returns-in-Err-clause-did g c = λ to is. refused_define g.S.Pages.view is c.in-Err.why c.in-Err.is refl

pub invariant_of-self : goal.invariant_of-self
invariant_of-self g c = record { ready = λ up. refused_ready g.S.Pages.view c.requires.some.1 c.in-Err.why c.in-Err.is }

-- ---- it is committed

pub redefine-requires-clause-ready : goal.redefine-requires-clause-ready
redefine-requires-clause-ready g c =
    listed_saves g.S.Pages.view c.requires.some.1 (made_ok c.args.made c.in_default.not-Err)

pub redefine-requires-clause-closed : goal.redefine-requires-clause-closed
redefine-requires-clause-closed g c =
    listed_closed g.S.Pages.view c.requires.some.1 (made_ok c.args.made c.in_default.not-Err)

pub redefine-requires-clause-early : goal.redefine-requires-clause-early
redefine-requires-clause-early g c =
    listed_early g.S.Pages.view c.requires.some.1 (made_ok c.args.made c.in_default.not-Err)

pub returns-in_err-redefine-clause-did : goal.returns-in_err-redefine-clause-did
returns-in_err-redefine-clause-did g c = λ to is.
    let so = made_ok c.args.made c.in_default.not-Err in
    let redefine = c.in_err-redefine.ensures in
    redefining_fails g.S.Pages.view is so c.from_residual.result c.from_residual.ensures.1 (λ up. true≢false (sym c.requires.down ∙ up)) redefine.goes redefine.moments redefine.asks redefine.sound

pub returns-in_err-redefine-clause-memory : goal.returns-in_err-redefine-clause-memory
returns-in_err-redefine-clause-memory g c = fault_of_memory c.from_residual.result c.from_residual.ensures.1 c.in_err-redefine.ensures.goes

pub invariant_of-self-2 : goal.invariant_of-self-2
invariant_of-self-2 g c =
    let redefine = c.in_ok-redefine.ensures in
    record { ready = λ up. redefined_ready g.S.Pages.view c.requires.some.1 (made_ok c.args.made c.in_default.not-Err) redefine.goes redefine.moments redefine.asks redefine.ready redefine.appends redefine.anew.transactions }

pub returns-clause-did : goal.returns-clause-did
returns-clause-did g c = λ to is.
    let redefine = c.in_ok-redefine.ensures in
    redefined_done g.S.Pages.view is (made_ok c.args.made c.in_default.not-Err) redefine.goes redefine.moments redefine.asks refl refl redefine.shows
