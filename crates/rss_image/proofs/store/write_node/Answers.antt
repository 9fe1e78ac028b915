use Rattle.std.proofs.Common.{◌≡◌, true, false, ap, ◌∙◌, arith}
use Rattle.rss_base.specs.declared.key.PageKey.{PageKey}
use Rattle.rss_base.proofs.Steps.{rests, done, fails, widens, is_in}
use Rattle.rss_image.proofs.Calls.{damage, node_written, spare_kept}
use Rattle.rss_image.proofs.store.write_node.Goals as goal

pub returns-then-not-has-clause-did : goal.returns-then-not-has-clause-did
returns-then-not-has-clause-did g c =
    let view = g.P.Pages.view c.args.pages.now in
    damage (rests view) c.damaged.ensures (λ told.
    let never : false ≡ true = c.if-not-has.ensures ∙ ap (λ (k : PageKey). view.mapped k) c.node_key-key.ensures ∙ c.requires.mapped told in
    absurd (cc))

pub returns-in_err-write-clause-did : goal.returns-in_err-write-clause-did
returns-in_err-write-clause-did g c = fails _ c.from_residual.ensures.1 (λ key none. absurd none) (omega arith) (omega arith) c.in_err-write.ensures.did

pub returns-clause-writes : goal.returns-clause-writes
returns-clause-writes g c = λ told. node_written c.args.of c.args.level c.args.number c.node_key-key.result c.page.result.now c.args.node.now _ _ c.node_key-key.ensures c.page.ensures c.requires.is c.in_ok-write.ensures.written told

pub returns-clause-mapped : goal.returns-clause-mapped
returns-clause-mapped g c = c.in_ok-write.ensures.written.mapped

pub returns-clause-did : goal.returns-clause-did
returns-clause-did g c = widens (is_in c.node_key-key.result c.node_key-key.ensures) (omega arith) (omega arith) (done _ c.in_ok-write.ensures.did.step)

pub returns-clause-spare : goal.returns-clause-spare
returns-clause-spare g c = let step = c.in_ok-write.ensures.did.step in spare_kept (g.P.Pages.view c.args.pages.now) (g.P.Pages.view c.write.new.self) (g.met.P.Pages.are_counted c.args.pages.now) (g.met.P.Pages.are_counted c.write.new.self) step.passes.slots step.passes.backing c.in_ok-write.ensures.written.mapped
