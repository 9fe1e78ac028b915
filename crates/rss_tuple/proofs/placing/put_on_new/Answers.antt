use Rattle.std.proofs.Common.{refl, inr, arith}
use Rattle.rss_base.specs.Paged.{page_key}
use Rattle.rss_base.specs.declared.key.Space.TheVariants.{Overflow}
use Rattle.rss_base.proofs.Steps.{then, then_call, among, widens, done, fails, is_in}
use Rattle.rss_tuple.proofs.Placed.{step_at, taken_away}
use Rattle.rss_tuple.proofs.Taken.{takes_step}
use Rattle.rss_tuple.proofs.placing.put_on_new.Goals as goal

pub returns-in_err-number-clause-did : goal.returns-in_err-number-clause-did
returns-in_err-number-clause-did g c = fails _ c.from_residual.ensures.1 (λ key none. absurd none) (omega arith) (omega arith) c.in_err-number.ensures.did

pub returns-in_err-fill-clause-did : goal.returns-in_err-fill-clause-did
returns-in_err-fill-clause-did g c =
    let key = page_key c.args.segment Overflow c.in_ok-number.number in
    fails _ c.from_residual-in_err-fill.ensures.1 (λ key there. there) (omega arith) (omega arith) (then_call {asks_then = 0} {outs_then = 1} (among (is_in key refl) c.in_ok-number.ensures.did.step) (widens (is_in c.overflow.result c.overflow.ensures) (omega arith) (omega arith) c.in_err-fill.ensures.did))

pub returns-clause-takes : goal.returns-clause-takes
returns-clause-takes g c = λ told.
    let key = page_key c.args.segment Overflow c.in_ok-number.number in
    taken_away c.args.segment c.in_ok-number.number c.args.body.now c.overflow.result _ _ _ c.overflow.ensures c.in_ok-number.ensures.least.free (g.met.P.Pages.holds c.args.pages.now told key) c.in_ok-number.ensures.did.step c.in_ok-fill.ensures.fills c.in_ok-fill.ensures.did.step (c.requires.formed told) told

pub returns-clause-one : goal.returns-clause-one
returns-clause-one g c =
    let key = page_key c.args.segment Overflow c.in_ok-number.number in
    takes_step (then c.in_ok-number.ensures.did.step (step_at c.overflow.ensures c.in_ok-fill.ensures.did.step)) (inr refl)

pub returns-clause-did : goal.returns-clause-did
returns-clause-did g c =
    let key = page_key c.args.segment Overflow c.in_ok-number.number in
    done _ (then (among (is_in key refl) c.in_ok-number.ensures.did.step) (among (is_in c.overflow.result c.overflow.ensures) c.in_ok-fill.ensures.did.step))
