use Rattle.std.proofs.Common.{sym, subst, arith}
use Rattle.std.proofs.Math.Logic.{∥∥₁_elim}
use Rattle.std.proofs.Math.Bool.{Bool-set}
use mathlib.Core.HLevel.{⊥_prop}
use Rattle.rss_base.proofs.Steps.{done, fails}
use Rattle.rss_node.specs.Nodes.{NodeView, IsNodeOf}
use Rattle.rss_image.specs.Trees.{HoldsNode}
use Rattle.rss_image.proofs.Calls.{damage, held_is_mapped, lent_page, read_holds, never_ill}
use Rattle.rss_image.proofs.store.read_node.Goals as goal

pub load_page-requires : goal.load_page-requires
load_page-requires g c = record {
  mapped = λ told. ∥∥₁_elim (c.requires.there told) (Bool-set _ _) (λ has. held_is_mapped c.args.of (g.P.Pages.view c.args.pages.now) c.args.level c.args.number has.next has.entries (g.met.P.Pages.holds c.args.pages.now told) has.holds);
}

pub returns-in_err-key-clause-did : goal.returns-in_err-key-clause-did
returns-in_err-key-clause-did g c = fails _ c.from_residual.ensures.1 (λ key there. there) (omega arith) (omega arith) c.in_err-key.ensures.did

pub returns-in-Some-clause-holds : goal.returns-in-Some-clause-holds
returns-in-Some-clause-holds g c = λ told.
    let old = g.P.Pages.view c.args.pages.now in
    let there = lent_page c.args.of c.args.number c.in_ok-key.key c.loaded.result.now old (g.P.Pages.view c.load_page.new.pages) c.in_ok-key.ensures.did.step c.in_ok-key.ensures.is c.loaded.ensures told in
    subst (λ (n : NodeView). HoldsNode c.args.of old.held c.args.level c.args.number n.next n.entries) (sym c.fill_from.ensures)
    (read_holds c.args.of c.args.level c.args.number old.held c.loaded.result.now c.in-Some.node there c.in-Some.ensures.spelled c.in-Some.ensures.is)

pub returns-in-Some-clause-is : goal.returns-in-Some-clause-is
returns-in-Some-clause-is g c = subst (IsNodeOf c.args.of c.args.level c.args.number) (sym c.fill_from.ensures) c.in-Some.ensures.is

pub returns-in-Some-clause-did : goal.returns-in-Some-clause-did
returns-in-Some-clause-did g c = done _ c.in_ok-key.ensures.did.step

pub returns-in-None-clause-did : goal.returns-in-None-clause-did
returns-in-None-clause-did g c = damage c.in_ok-key.ensures.did.step c.damaged.ensures (λ told. ∥∥₁_elim (c.requires.there told) ⊥_prop (λ has.
    let old = g.P.Pages.view c.args.pages.now in
    let there = lent_page c.args.of c.args.number c.in_ok-key.key c.loaded.result.now old (g.P.Pages.view c.load_page.new.pages) c.in_ok-key.ensures.did.step c.in_ok-key.ensures.is c.loaded.ensures told in
    never_ill c.args.of c.args.level c.args.number old.held c.loaded.result.now there has c.in-None.ensures.none))
