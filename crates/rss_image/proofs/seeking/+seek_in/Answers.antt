use Rattle.std.proofs.Common.{◌-◌, ℕ, sym, subst, arith}
use Rattle.std.proofs.Math.Logic.{∥∥₁_map}
use Rattle.rss_base.specs.Paged.{Held}
use Rattle.rss_base.proofs.Steps.{then_call, widens, all_held}
use Rattle.rss_image.specs.Seeking.{MaySeek, HasPlace}
use Rattle.rss_image.proofs.Halves.{many}
use Rattle.rss_image.proofs.Places.{place_spot, seeks_below}
use Rattle.rss_image.proofs.Results.{on_ok}
use Rattle.rss_image.proofs.seeking.+seek_in.Goals as goal

pub first_in-requires-clause-there : goal.first_in-requires-clause-there
first_in-requires-clause-there g t c = λ told. ∥∥₁_map (c.requires.there told) (subst (λ (l : ℕ). HasPlace c.args.of (g.P.Pages.view c.args.pages.now).held l c.args.number c.args.pair.now) c.if-level-eq0.true)

pub returns-then-level-eq0-clause-found : goal.returns-then-level-eq0-clause-found
returns-then-level-eq0-clause-found g t c = on_ok c.first_in.result (λ found does told pairs may. does told pairs (subst (λ (l : ℕ). MaySeek c.args.of (g.P.Pages.view c.args.pages.now).held l c.args.number c.args.pair.now pairs) c.if-level-eq0.true may)) c.first_in.ensures.found

pub returns-then-level-eq0-clause-did : goal.returns-then-level-eq0-clause-did
returns-then-level-eq0-clause-did g t c = widens (λ key there. there) (omega arith) (omega arith) c.first_in.ensures.did

pub find_below-requires-clause-there : goal.find_below-requires-clause-there
find_below-requires-clause-there g t c = λ told. ∥∥₁_map (c.requires.there told) (place_spot c.args.of (g.P.Pages.view c.args.pages.now).held c.args.level c.args.number c.args.pair.now)

pub seek_in-requires : goal.seek_in-requires
seek_in-requires g t c = λ κs lives. (
  omega (arith, c.decreases),
  (
    lives,
    (
      c.requires.of,
      (
        c.requires.long,
        (λ told_one.
            let step = c.in_ok-child.ensures.did.step in
            let told = step.passes.leaves.told.1 told_one in
            let of = c.args.of in
            let held = (g.P.Pages.view c.args.pages.now).held in
            let room = many of.width c.requires.of.narrow in
            ∥∥₁_map (c.requires.there told) (λ has. record { pairs = has.pairs; may = subst (λ (h : Held). MaySeek of h (c.args.level - 1) c.in_ok-child.child c.args.pair.now has.pairs) (sym (all_held step told)) (seeks_below of held c.args.level c.args.number c.args.pair.now has.pairs c.in_ok-child.child has.may (c.in_ok-child.ensures.below told) (omega arith) (omega arith)) })),
      ),
    ),
  ),
)

pub returns-clause-found : goal.returns-clause-found
returns-clause-found g t c = on_ok c.seek_in.result (λ found does told pairs may.
    let step = c.in_ok-child.ensures.did.step in
    let of = c.args.of in
    let held = (g.P.Pages.view c.args.pages.now).held in
    let room = many of.width c.requires.of.narrow in
    does (step.passes.leaves.told.0 told) pairs (subst (λ (h : Held). MaySeek of h (c.args.level - 1) c.in_ok-child.child c.args.pair.now pairs) (sym (all_held step told)) (seeks_below of held c.args.level c.args.number c.args.pair.now pairs c.in_ok-child.child may (c.in_ok-child.ensures.below told) (omega arith) (omega arith)))) c.seek_in.ensures.found

pub returns-clause-did : goal.returns-clause-did
returns-clause-did g t c = widens (λ key there. there) (omega arith) (omega arith) (then_call c.in_ok-child.ensures.did.step c.seek_in.ensures.did)
