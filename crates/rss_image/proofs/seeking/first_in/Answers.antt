use Rattle.std.proofs.Common.{sym, subst, arith}
use Rattle.std.proofs.Math.Logic.{∥∥₁_map}
use Rattle.rss_base.specs.PageMap.{IsKey}
use Rattle.rss_base.specs.Paged.{Held, page_key}
use Rattle.rss_base.specs.declared.key.Space.TheVariants.{Image}
use Rattle.rss_base.proofs.Steps.{then, then_call, done, fails, widens, all_held}
use Rattle.rss_image.specs.Seeking.{HasEntries, HasPage, LooksIn, IsAsLong}
use Rattle.rss_image.specs.Trees.{HoldsNode}
use Rattle.rss_image.specs.declared.seeking.InLeaf.{InLeaf}
use Rattle.rss_image.proofs.Calls.{held_mapped}
use Rattle.rss_image.proofs.Places.{spot_node, place_spot}
use Rattle.rss_image.proofs.Seeks.{looked_here, looked_none, looked_next, next_looked}
use Rattle.rss_image.proofs.seeking.first_in.Goals as goal

pub look-requires-clause-there : goal.look-requires-clause-there
look-requires-clause-there g c = λ told. ∥∥₁_map (c.requires.there told) (λ has.
    let held = (g.P.Pages.view c.args.pages.now).held in
    spot_node c.args.of held 0 c.args.number c.args.pair.now (place_spot c.args.of held 0 c.args.number c.args.pair.now has))

pub returns-in_err-looked-clause-did : goal.returns-in_err-looked-clause-did
returns-in_err-looked-clause-did g c = fails _ c.from_residual.ensures.1 (λ key there. there) (omega arith) (omega arith) c.in_err-looked.ensures.did

pub returns-in-Here-clause-found : goal.returns-in-Here-clause-found
returns-in-Here-clause-found g c = λ told pairs may.
    let of = c.args.of in
    let held = (g.P.Pages.view c.args.pages.now).held in
    let has = subst (λ (f : InLeaf). HasPage of held c.args.number (λ page. LooksIn of c.args.number page c.args.pair.now c.args.beyond f)) c.in-Here.is (c.in_ok-looked.ensures.looks told) in
    looked_here of held c.args.number c.args.pair.now c.args.beyond pairs may c.in-Here.found has

pub returns-in-Here-clause-long : goal.returns-in-Here-clause-long
returns-in-Here-clause-long g c = subst (IsAsLong c.args.of.width) c.in-Here.is c.in_ok-looked.ensures.long

pub returns-in-Here-clause-did : goal.returns-in-Here-clause-did
returns-in-Here-clause-did g c = widens (λ key there. there) (omega arith) (omega arith) (done _ c.in_ok-looked.ensures.did.step)

pub returns-then-next-slots-clause-found : goal.returns-then-next-slots-clause-found
returns-then-next-slots-clause-found g c = λ told pairs may.
    let of = c.args.of in
    let view = g.P.Pages.view c.args.pages.now in
    let step = c.in_ok-looked.ensures.did.step in
    let has = subst (λ (f : InLeaf). HasPage of view.held c.args.number (λ page. LooksIn of c.args.number page c.args.pair.now c.args.beyond f)) c.in-Next.is (c.in_ok-looked.ensures.looks told) in
    looked_none of view.held c.args.number c.args.pair.now c.args.beyond pairs may c.in-Next.next has c.slots.result (omega (arith, c.if-next-slots.true))
    (λ n bytes held. let key = page_key of.segment Image n in let allowed : IsKey view.slots key = g.met.P.Pages.allowed c.args.pages.now key (held_mapped view (g.met.P.Pages.holds c.args.pages.now told) key bytes held) in omega (arith, allowed.number, c.slots.ensures, step.passes.slots))

pub returns-then-next-slots-clause-did : goal.returns-then-next-slots-clause-did
returns-then-next-slots-clause-did g c = widens (λ key there. there) (omega arith) (omega arith) (done _ c.in_ok-looked.ensures.did.step)

pub front-requires-clause-there : goal.front-requires-clause-there
front-requires-clause-there g c = λ told_one.
    let of = c.args.of in
    let held = (g.P.Pages.view c.args.pages.now).held in
    let step = c.in_ok-looked.ensures.did.step in
    let told = step.passes.leaves.told.1 told_one in
    let looks = subst (λ (f : InLeaf). HasPage of held c.args.number (λ page. LooksIn of c.args.number page c.args.pair.now c.args.beyond f)) c.in-Next.is (c.in_ok-looked.ensures.looks told) in
    ∥∥₁_map (c.requires.there told) (λ has.
    subst (λ (h : Held). HasEntries of h c.in-Next.next) (sym (all_held step told))
    (next_looked of held c.args.number c.args.pair.now c.args.beyond has.pairs has.may c.in-Next.next looks c.slots.result c.slots.type_inv (omega (arith, c.if-next-slots.false))))

pub returns-in_err-first-in-Next-clause-did : goal.returns-in_err-first-in-Next-clause-did
returns-in_err-first-in-Next-clause-did g c = fails _ c.from_residual-in_err-first-in-Next.ensures.1 (λ key there. there) (omega arith) (omega arith) (then_call c.in_ok-looked.ensures.did.step c.in_err-first-in-Next.ensures.did)

pub returns-in_ok-first-in-Next-clause-found : goal.returns-in_ok-first-in-Next-clause-found
returns-in_ok-first-in-Next-clause-found g c = λ told pairs may.
    let of = c.args.of in
    let held = (g.P.Pages.view c.args.pages.now).held in
    let step = c.in_ok-looked.ensures.did.step in
    let has = subst (λ (f : InLeaf). HasPage of held c.args.number (λ page. LooksIn of c.args.number page c.args.pair.now c.args.beyond f)) c.in-Next.is (c.in_ok-looked.ensures.looks told) in
    looked_next of held c.args.number c.args.pair.now c.args.beyond pairs may c.in-Next.next has c.slots.result c.slots.type_inv (omega (arith, c.if-next-slots.false)) c.in_ok-first-in-Next.first
    (λ end entries holds. c.in_ok-first-in-Next.ensures.found (step.passes.leaves.told.0 told) end entries (subst (λ (h : Held). HoldsNode of h 0 c.in-Next.next end entries) (sym (all_held step told)) holds))

pub returns-in_ok-first-in-Next-clause-did : goal.returns-in_ok-first-in-Next-clause-did
returns-in_ok-first-in-Next-clause-did g c = done _ (then c.in_ok-looked.ensures.did.step c.in_ok-first-in-Next.ensures.did.step)
