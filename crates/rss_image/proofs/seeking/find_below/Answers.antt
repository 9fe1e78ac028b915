use Rattle.std.proofs.Common.{refl}
use Rattle.std.proofs.Math.Logic.{∥∥₁_elim}
use Rattle.std.proofs.Math.Bool.{Bool-set}
use mathlib.Core.HLevel.{⊥_prop}
use Rattle.rss_base.proofs.Steps.{done}
use Rattle.rss_node.specs.Nodes.{NodeView}
use Rattle.rss_image.specs.Trees.{cells_of, node_of}
use Rattle.rss_image.proofs.Calls.{damage, held_is_mapped, is_node_of, lent_page, page_spells}
use Rattle.rss_image.proofs.Insertion.{never_first}
use Rattle.rss_image.proofs.Places.{spot_node}
use Rattle.rss_image.proofs.seeking.find_below.Goals as goal

pub load_page-requires : goal.load_page-requires
load_page-requires g c = record {
  mapped = λ told. ∥∥₁_elim (c.requires.there told) (Bool-set _ _) (λ has.
      let view = g.P.Pages.view c.args.pages.now in
      let node = spot_node c.args.of view.held c.args.level c.args.number c.args.pair.now has in
      held_is_mapped c.args.of view c.args.level c.args.number node.next node.entries (g.met.P.Pages.holds c.args.pages.now told) node.holds);
}

pub returns-in-Some-clause-below : goal.returns-in-Some-clause-below
returns-in-Some-clause-below g c = λ told. record {
  page = c.loaded.result.now;
  held_is = lent_page c.args.of c.args.number c.in_ok-key.key c.loaded.result.now (g.P.Pages.view c.args.pages.now) (g.P.Pages.view c.load_page.new.pages) c.in_ok-key.ensures.did.step c.in_ok-key.ensures.is c.loaded.ensures told;
  such = c.in-Some.ensures.some;
}

pub returns-in-Some-clause-did : goal.returns-in-Some-clause-did
returns-in-Some-clause-did g c = done _ c.in_ok-key.ensures.did.step

pub returns-in-None-clause-did : goal.returns-in-None-clause-did
returns-in-None-clause-did g c = damage c.in_ok-key.ensures.did.step c.damaged.ensures (λ told. ∥∥₁_elim (c.requires.there told) ⊥_prop (λ has.
    let of = c.args.of in
    let old = g.P.Pages.view c.args.pages.now in
    let there = lent_page of c.args.number c.in_ok-key.key c.loaded.result.now old (g.P.Pages.view c.load_page.new.pages) c.in_ok-key.ensures.did.step c.in_ok-key.ensures.is c.loaded.ensures told in
    let had = spot_node of old.held c.args.level c.args.number c.args.pair.now has in
    let node : NodeView = node_of of c.args.level c.args.number had.next had.entries in
    never_first of (cells_of of old.held) c.args.level c.args.number c.args.pair.now has.pairs has.spot node had.holds c.requires.inner c.requires.long
    (λ some passed. c.in-None.ensures.none refl node (is_node_of of c.args.level c.args.number had.next had.entries) (page_spells of c.args.level c.args.number had.next had.entries old.held c.loaded.result.now there had.holds) some passed)))
