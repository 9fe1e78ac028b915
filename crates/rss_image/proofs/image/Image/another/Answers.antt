use Rattle.std.proofs.Common.{false, refl, sym, subst, arith}
use Rattle.std.proofs.Math.Logic.{∥∥₁_map}
use Rattle.rss_base.specs.Paged.{Held}
use Rattle.rss_base.proofs.Steps.{all_held, done, fails, then, then_call, widens}
use Rattle.rss_node.specs.Pairs.{pair_bytes}
use Rattle.rss_image.specs.Images.{ImageTree, least_tid}
use Rattle.rss_image.proofs.Others.{pairs_rise, none_has, is_there, another_is}
use Rattle.rss_image.proofs.image.Image.another.Goals as goal

pub returns-in_default-clause-found : goal.returns-in_default-clause-found
returns-in_default-clause-found g c = λ told pairs tree tid has.
    absurd (none_has c.args.key.now c.args.self.now.width c.requires.long pairs (pairs_rise tree) c.in_ok-seek.field-0 (c.in_ok-seek.ensures.found told pairs tree) c.in_ok-seek.ensures.wide (c.in_default.ensures.none refl) tid has)

pub returns-then-not-is_own-clause-found : goal.returns-then-not-is_own-clause-found
returns-then-not-is_own-clause-found g c = λ told pairs tree.
    ((is_there c.args.key.now c.args.self.now.width c.requires.long pairs (pairs_rise tree) false (pair_bytes c.args.key.now least_tid) c.in_ok-seek.field-0 c.in-Some.first (c.in_ok-seek.ensures.found told pairs tree) c.in-Some.ensures.some).there, c.is_own.ensures.no c.if-not-is_own.true)

pub after-requires-clause-there : goal.after-requires-clause-there
after-requires-clause-there g c = λ told.
    let step = c.in_ok-seek.ensures.did.step in
    let before = step.passes.leaves.told.1 told in
    ∥∥₁_map (c.requires.there before) (λ has. record { pairs = has.pairs; tree = subst (λ (h : Held). ImageTree c.args.self.now h has.pairs) (sym (all_held step before)) has.tree })

pub returns-in_err-after-clause-did : goal.returns-in_err-after-clause-did
returns-in_err-after-clause-did g c = fails _ c.from_residual-in_err-after.ensures.1 (λ key there. there) (omega arith) (omega arith) (then_call c.in_ok-seek.ensures.did.step c.in_err-after.ensures.did)

pub returns-clause-found : goal.returns-clause-found
returns-clause-found g c = λ told pairs tree.
    let step = c.in_ok-seek.ensures.did.step in
    let now = subst (λ (h : Held). ImageTree c.args.self.now h pairs) (sym (all_held step told)) tree in
    let rises = pairs_rise tree in
    let key = c.args.key.now in
    another_is key c.args.self.now.width c.requires.long pairs rises c.in-Some.first
    (is_there key c.args.self.now.width c.requires.long pairs rises false (pair_bytes key least_tid) c.in_ok-seek.field-0 c.in-Some.first (c.in_ok-seek.ensures.found told pairs tree) c.in-Some.ensures.some)
    c.args.own c.in_ok-after.field-0 c.having-2.result (c.is_own.ensures.yes c.if-not-is_own.false)
    (c.in_ok-after.ensures.found (step.passes.leaves.told.0 told) pairs now) c.in_ok-after.ensures.wide c.having-2.ensures.some c.having-2.ensures.none

pub returns-clause-did : goal.returns-clause-did
returns-clause-did g c = widens (λ key there. there) (omega arith) (omega arith) (done _ (then c.in_ok-seek.ensures.did.step c.in_ok-after.ensures.did.step))
