use Rattle.std.proofs.Common.{refl}
use Rattle.rss_base.proofs.Steps.{done}
use Rattle.rss_image.specs.Trees.{node_of}
use Rattle.rss_image.proofs.Calls.{damage, held_is_mapped, is_node_of, lent_page, page_spells}
use Rattle.rss_image.proofs.checking.find_child.Goals as goal

pub load_page-requires : goal.load_page-requires
load_page-requires g c = record {
  mapped = λ told.
      let has = c.requires.there told in
      held_is_mapped c.args.of (g.P.Pages.view c.args.pages.now) c.args.level c.args.number has.next has.entries (g.met.P.Pages.holds c.args.pages.now told) has.holds;
}

pub returns-in-Some-clause-child : goal.returns-in-Some-clause-child
returns-in-Some-clause-child g c = λ told next entries holds.
    let of = c.args.of in
    let old = g.P.Pages.view c.args.pages.now in
    let there = lent_page of c.args.number c.in_ok-key.key c.loaded.result.now old _ c.in_ok-key.ensures.did.step c.in_ok-key.ensures.is c.loaded.ensures told in
    c.in-Some.ensures.some (node_of of c.args.level c.args.number next entries) (is_node_of of c.args.level c.args.number next entries) (page_spells of c.args.level c.args.number next entries old.held c.loaded.result.now there holds)

pub returns-in-Some-clause-did : goal.returns-in-Some-clause-did
returns-in-Some-clause-did g c = done _ c.in_ok-key.ensures.did.step

pub returns-in-None-clause-did : goal.returns-in-None-clause-did
returns-in-None-clause-did g c = damage c.in_ok-key.ensures.did.step c.damaged.ensures (λ told.
    let of = c.args.of in
    let old = g.P.Pages.view c.args.pages.now in
    let there = lent_page of c.args.number c.in_ok-key.key c.loaded.result.now old _ c.in_ok-key.ensures.did.step c.in_ok-key.ensures.is c.loaded.ensures told in
    let has = c.requires.there told in
    c.in-None.ensures.none refl (node_of of c.args.level c.args.number has.next has.entries) (is_node_of of c.args.level c.args.number has.next has.entries) (page_spells of c.args.level c.args.number has.next has.entries old.held c.loaded.result.now there has.holds) has.low)
