use Rattle.std.proofs.Common.{length, sym, ap, arith}
use Rattle.std.proofs.Math.Logic.{∥∥₁_elim, ∥∥₁_map}
use mathlib.Core.HLevel.{⊥_prop}
use Rattle.rss_base.proofs.Steps.{then, then_call, done, fails, widens, untouched}
use Rattle.rss_node.specs.Nodes.{NodeView}
use Rattle.rss_image.specs.Trees.{cells_of}
use Rattle.rss_image.proofs.Calls.{damage, keeps_none, held_is_mapped, spare_rests}
use Rattle.rss_image.proofs.Evened.{was_holding}
use Rattle.rss_image.proofs.Insertion.{same_node}
use Rattle.rss_image.proofs.Cut.{root_given}
use Rattle.rss_node.proofs.Lent.{lent_child, lent_count}
use Rattle.rss_image.proofs.rooting.drop_root.Goals as goal

pub read_node-requires-clause-there : goal.read_node-requires-clause-there
read_node-requires-clause-there g c = λ told. ∥∥₁_map (c.requires.there told) (λ has. record { next = has.next; entries = has.entries; holds = has.holds })

pub returns-then-count-eq0-clause-did : goal.returns-then-count-eq0-clause-did
returns-then-count-eq0-clause-did g c = damage (untouched c.in_ok-read_node.ensures.did.step) c.damaged.ensures (λ told. ∥∥₁_elim (c.requires.there told) ⊥_prop (λ has.
    let same = ap (λ (n : NodeView). length n.entries) (same_node c.args.of (cells_of c.args.of (g.P.Pages.view c.args.pages.now).held) c.args.level c.args.root c.read_node.new.into.next has.next c.read_node.new.into.entries has.entries (c.in_ok-read_node.ensures.holds told) has.holds) in
    omega (arith, same, has.some, (lent_count c.lent.ensures c.count.ensures.count), c.if-count-eq0.true)))

pub give_page-requires : goal.give_page-requires
give_page-requires g c = record {
  mapped = λ told_one.
      let of = c.args.of in
      let old = g.P.Pages.view c.args.pages.now in
      let one = g.P.Pages.view c.read_node.new.pages in
      let step = c.in_ok-read_node.ensures.did.step in
      let told = step.passes.leaves.told.1 told_one in
      held_is_mapped of one c.args.level c.args.root c.read_node.new.into.next c.read_node.new.into.entries (g.met.P.Pages.holds c.read_node.new.pages told_one)
      (was_holding of c.args.level c.args.root c.read_node.new.into.next c.read_node.new.into.entries one old (sym (keeps_none of old one step told)) (c.in_ok-read_node.ensures.holds told));
}

pub returns-in_err-give_page-clause-did : goal.returns-in_err-give_page-clause-did
returns-in_err-give_page-clause-did g c = fails _ c.from_residual-in_err-give_page.ensures.1 (λ key there. there) (omega arith) (omega arith) (then_call (untouched c.in_ok-read_node.ensures.did.step) c.in_err-give_page.ensures.did)

pub returns-clause-dropped : goal.returns-clause-dropped
returns-clause-dropped g c = λ told.
    let of = c.args.of in
    let old = g.P.Pages.view c.args.pages.now in
    let one = g.P.Pages.view c.read_node.new.pages in
    let new = g.P.Pages.view c.give_page.new.pages in
    let step = c.in_ok-read_node.ensures.did.step in
    let told_one = step.passes.leaves.told.0 told in
    root_given of c.args.level c.args.root c.child-child.result old one new c.read_node.new.into (keeps_none of old one step told) (c.in_ok-read_node.ensures.holds told) (c.in_ok-give_page.ensures.keeps told_one) (c.in_ok-give_page.ensures.loses_none told_one) (lent_child c.lent-2.ensures 0 c.child-child.ensures)

pub returns-clause-did : goal.returns-clause-did
returns-clause-did g c = widens (λ key there. there) (omega arith) (omega arith) (done _ (then (untouched c.in_ok-read_node.ensures.did.step) c.in_ok-give_page.ensures.did.step))

pub returns-clause-given : goal.returns-clause-given
returns-clause-given g c = c.in_ok-give_page.ensures.given

pub returns-clause-spare : goal.returns-clause-spare
returns-clause-spare g c =
    let same = spare_rests (g.P.Pages.view c.args.pages.now) (g.P.Pages.view c.read_node.new.pages) c.in_ok-read_node.ensures.did.step (g.met.P.Pages.are_counted c.args.pages.now) (g.met.P.Pages.are_counted c.read_node.new.pages) in
    omega (arith, same, c.in_ok-give_page.ensures.spare)

pub returns-in_err-read_node-clause-did : goal.returns-in_err-read_node-clause-did
returns-in_err-read_node-clause-did g c = fails _ c.from_residual.ensures.1 (λ key none. absurd none) (omega arith) (omega arith) c.in_err-read_node.ensures.did
