use Rattle.std.proofs.Common.{◌≡◌, true, false, ap, ◌∙◌, arith}
use Rattle.rss_base.specs.declared.key.PageKey.{PageKey}
use Rattle.rss_base.proofs.Steps.{rests, done, fails}
use Rattle.rss_image.proofs.Calls.{damage}
use Rattle.rss_image.proofs.store.load_page.Goals as goal

pub returns-then-not-has-clause-did : goal.returns-then-not-has-clause-did
returns-then-not-has-clause-did g c =
    let view = g.P.Pages.view c.args.pages.now in
    damage (rests view) c.damaged.ensures (λ told.
    let never : false ≡ true = c.if-not-has.ensures ∙ ap (λ (k : PageKey). view.mapped k) c.node_key-key.ensures ∙ c.requires.mapped told in
    absurd (cc))

pub returns-in_err-load-clause-did : goal.returns-in_err-load-clause-did
returns-in_err-load-clause-did g c = fails _ c.from_residual.ensures.1 (λ key there. there) (omega arith) (omega arith) c.in_err-load.ensures.did

pub returns-clause-did : goal.returns-clause-did
returns-clause-did g c = done _ c.in_ok-load.ensures.did.step
