use Rattle.std.proofs.Common.{◌≡◌, true, sym, arith}
use Rattle.rss_base.specs.Paged.{page_key}
use Rattle.rss_base.specs.declared.key.Space.TheVariants.{Image}
use Rattle.rss_base.proofs.Steps.{done, fails, widens, is_in}
use Rattle.rss_image.proofs.Calls.{given_unmapped, given_loses, spare_given}
use Rattle.rss_image.proofs.store.give_page.Goals as goal

pub returns-clause-given : goal.returns-clause-given
returns-clause-given g c = given_unmapped (g.P.Pages.view c.args.pages.now) (g.P.Pages.view c.give.new.self) (page_key c.args.of.segment Image c.args.number) c.node_key-key.result c.node_key-key.ensures c.in_ok-give.ensures.given

pub returns-clause-loses_none : goal.returns-clause-loses_none
returns-clause-loses_none g c = given_loses c.args.of c.args.number c.node_key-key.result (g.P.Pages.view c.args.pages.now) (g.P.Pages.view c.give.new.self) c.node_key-key.ensures c.in_ok-give.ensures.given

pub returns-clause-spare : goal.returns-clause-spare
returns-clause-spare g c =
    let old = g.P.Pages.view c.args.pages.now in
    let new = g.P.Pages.view c.give.new.self in
    let step = c.in_ok-give.ensures.did.step in
    let there : old.mapped c.node_key-key.result ≡ true = sym c.if-not-has.ensures in
    spare_given old new c.node_key-key.result (g.met.P.Pages.are_counted c.args.pages.now) (g.met.P.Pages.are_counted c.give.new.self) step.passes.slots step.passes.backing (g.met.P.Pages.allowed c.args.pages.now c.node_key-key.result there) there c.in_ok-give.ensures.given

pub returns-clause-did : goal.returns-clause-did
returns-clause-did g c = widens (is_in c.node_key-key.result c.node_key-key.ensures) (omega arith) (omega arith) (done _ c.in_ok-give.ensures.did.step)

pub returns-in_err-give-clause-did : goal.returns-in_err-give-clause-did
returns-in_err-give-clause-did g c = fails _ c.from_residual.ensures.1 (λ key none. absurd none) (omega arith) (omega arith) c.in_err-give.ensures.did
