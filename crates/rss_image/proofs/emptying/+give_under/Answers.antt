use Rattle.std.proofs.Common.{◌≡◌, ℕ, ◌+◌, ◌-◌, ◌*◌, ◌≤◌, length, List, ◌∷◌, [], sym, subst, arith}
use Rattle.std.proofs.Math.Logic.{∥∥₁_elim, ∥∥₁_map}
use Rattle.std.proofs.Math.Bool.{Bool-set}
use Rattle.rss_base.proofs.Steps.{then, then_call, fails, widens, within}
use Rattle.rss_base.specs.Nodes.{node_most}
use Rattle.rss_node.specs.Nodes.{entry_at}
use Rattle.rss_image.specs.Emptied.{inner_most, HasUnder, GivesUnder, Gives}
use Rattle.rss_image.proofs.Calls.{keeps_none, held_is_mapped}
use Rattle.rss_image.proofs.Results.{on_both}
use Rattle.rss_image.proofs.Giving.{inner_up, times_up, open_node, under_node, empty_first, child_under, empty_next, empty_last, still_there, gives_node, gives_leaf}
use Rattle.rss_node.proofs.Lent.{lent_child, lent_count, lent_few}
use Rattle.rss_image.proofs.emptying.+give_under.Goals as goal

pub returns-then-level-eq0-clause-gives : goal.returns-then-level-eq0-clause-gives
returns-then-level-eq0-clause-gives g t c = on_both c.give_page.result (λ keeps loses told. gives_leaf c.args.of c.args.level c.args.number (g.P.Pages.view c.args.pages.now) (g.P.Pages.view c.give_page.new.pages) c.if-level-eq0.true (record { keeps = keeps told; loses_none = loses told })) c.give_page.ensures.keeps c.give_page.ensures.loses_none

pub give_page-requires : goal.give_page-requires
give_page-requires g t c = record {
  mapped = λ told. ∥∥₁_elim (c.requires.there told) (Bool-set _ _) (λ has.
      let view = g.P.Pages.view c.args.pages.now in
      let node = under_node c.args.of view.held c.args.level c.args.number has in
      held_is_mapped c.args.of view c.args.level c.args.number node.next node.entries (g.met.P.Pages.holds c.args.pages.now told) node.holds);
}

pub read_node-requires-clause-there : goal.read_node-requires-clause-there
read_node-requires-clause-there g t c = λ told. ∥∥₁_map (c.requires.there told) (under_node c.args.of (g.P.Pages.view c.args.pages.now).held c.args.level c.args.number)

pub loop-at-init : goal.loop-at-init
loop-at-init g t c = record {
  low = omega arith;
  step = within (λ key none. absurd none) (omega arith) (omega arith) c.in_ok-read_node.ensures.did.step;
  emptying = λ told ns opened. empty_first c.args.of (c.args.level - 1) c.args.number c.read_node.new.into.entries ns (g.P.Pages.view c.args.pages.now) (g.P.Pages.view c.read_node.new.pages) opened (keeps_none c.args.of (g.P.Pages.view c.args.pages.now) (g.P.Pages.view c.read_node.new.pages) c.in_ok-read_node.ensures.did.step told);
}

pub give_under-requires : goal.give_under-requires
give_under-requires g t c κs lives = (
  omega (arith, c.decreases),
  (
    lives,
    (
      c.requires.of,
      (λ told_now.
          let of = c.args.of in
          let old = g.P.Pages.view c.args.pages.now in
          let now = g.P.Pages.view c.loop-at.pages in
          let told = c.loop-at.invariant.step.passes.leaves.told.1 told_now in
          ∥∥₁_map (c.requires.there told) (λ has.
          let opened = open_node of old.held c.args.level c.args.number has.pages c.read_node.new.into (omega arith) (c.in_ok-read_node.ensures.holds told) has.stands in
          let state = c.loop-at.invariant.emptying told opened.ns opened.opened in
          subst (λ (n : ℕ). HasUnder of now.held (c.args.level - 1) n) (sym (lent_child c.lent-in-loop-at.ensures c.loop-at.at c.child.ensures))
          (child_under of (c.args.level - 1) c.read_node.new.into.entries c.loop-at.at opened.ns old now state (omega (arith, c.loop-at-test.true, (lent_count c.lent.ensures c.count-at-end.ensures.count)))))),
    ),
  ),
)

pub returns-in_err-give_under-clause-did : goal.returns-in_err-give_under-clause-did
returns-in_err-give_under-clause-did g t c =
    let m : ℕ = inner_most c.args.of.width (c.args.level - 1) in
    let up = inner_up c.args.of.width c.args.level (omega arith) in
    let few : length c.read_node.new.into.entries ≤ node_most c.args.of.width = subst (λ (w : ℕ). length c.read_node.new.into.entries ≤ node_most w) c.in_ok-read_node.ensures.is.width (lent_few c.lent.ensures c.count-at-end.ensures.few) in
    let all = times_up c.args.of.width (c.loop-at.at + 1) m (omega (arith, few, c.loop-at-test.true, (lent_count c.lent.ensures c.count-at-end.ensures.count))) in
    let next : (c.loop-at.at + 1) * m ≡ c.loop-at.at * m + m = omega arith in
    fails _ c.from_residual-in_err-give_under.ensures.1 (λ key there. there) (omega (arith, up, all, next)) (omega (arith, up, all, next)) (then_call c.loop-at.invariant.step c.in_err-give_under.ensures.did)

pub loop-at-preserved : goal.loop-at-preserved
loop-at-preserved g t c =
    let of = c.args.of in
    let m : ℕ = inner_most of.width (c.args.level - 1) in
    let old = g.P.Pages.view c.args.pages.now in
    let now = g.P.Pages.view c.loop-at.pages in
    let new = g.P.Pages.view c.give_under.new.pages in
    let next : (c.loop-at.at + 1) * m ≡ c.loop-at.at * m + m = omega arith in
    record {
      low = omega (arith, c.loop-at-test.true);
      step = within (λ key there. there) (omega (arith, next)) (omega (arith, next)) (then c.loop-at.invariant.step c.in_ok-give_under.ensures.did.step);
      emptying = λ told ns opened.
          let state = c.loop-at.invariant.emptying told ns opened in
          let told_now = c.loop-at.invariant.step.passes.leaves.told.0 told in
          let gives : GivesUnder of (c.args.level - 1) (entry_at c.read_node.new.into.entries c.loop-at.at).child now new = subst (λ (n : ℕ). GivesUnder of (c.args.level - 1) n now new) (lent_child c.lent-in-loop-at.ensures c.loop-at.at c.child.ensures) (c.in_ok-give_under.ensures.gives told_now) in
          empty_next of (c.args.level - 1) c.read_node.new.into.entries c.loop-at.at ns old now state (omega (arith, c.loop-at-test.true, (lent_count c.lent.ensures c.count-at-end.ensures.count))) new gives;
    }

pub give_page-requires-2 : goal.give_page-requires-2
give_page-requires-2 g t c = record {
  mapped = λ told_now.
      let of = c.args.of in
      let old = g.P.Pages.view c.args.pages.now in
      let now = g.P.Pages.view c.loop-at.pages in
      let told = c.loop-at.invariant.step.passes.leaves.told.1 told_now in
      ∥∥₁_elim (c.requires.there told) (Bool-set _ _) (λ has.
      let holds = c.in_ok-read_node.ensures.holds told in
      let opened = open_node of old.held c.args.level c.args.number has.pages c.read_node.new.into (omega arith) holds has.stands in
      let state = c.loop-at.invariant.emptying told opened.ns opened.opened in
      let there = still_there of (c.args.level - 1) c.args.number c.read_node.new.into.next c.loop-at.at c.read_node.new.into.entries c.read_node.new.into.entries opened.ns old now state opened.opened.off c.args.level holds in
      held_is_mapped of now c.args.level c.args.number c.read_node.new.into.next c.read_node.new.into.entries (g.met.P.Pages.holds c.loop-at.pages told_now) there);
}

pub returns-clause-gives : goal.returns-clause-gives
returns-clause-gives g t c = on_both c.give_page-2.result (λ keeps loses told ns at.
    let of = c.args.of in
    let old = g.P.Pages.view c.args.pages.now in
    let now = g.P.Pages.view c.loop-at.pages in
    let new = g.P.Pages.view c.give_page-2.new.pages in
    let told_now = c.loop-at.invariant.step.passes.leaves.told.0 told in
    let opened = open_node of old.held c.args.level c.args.number ns c.read_node.new.into (omega arith) (c.in_ok-read_node.ensures.holds told) at in
    let state = c.loop-at.invariant.emptying told opened.ns opened.opened in
    let below = empty_last of (c.args.level - 1) c.read_node.new.into.entries c.loop-at.at opened.ns old now state (omega (arith, c.loop-at-test.false, (lent_count c.lent.ensures c.count-at-end.ensures.count))) in
    let own : Gives of (c.args.number ∷ []) now new = record { keeps = keeps told_now; loses_none = loses told_now } in
    subst (λ (l : List ℕ). Gives of l old new) (sym opened.all_is) (gives_node of c.args.number opened.ns old now new below own)) c.give_page-2.ensures.keeps c.give_page-2.ensures.loses_none

pub returns-clause-did : goal.returns-clause-did
returns-clause-did g t c =
    let m : ℕ = inner_most c.args.of.width (c.args.level - 1) in
    let up = inner_up c.args.of.width c.args.level (omega arith) in
    let few : length c.read_node.new.into.entries ≤ node_most c.args.of.width = subst (λ (w : ℕ). length c.read_node.new.into.entries ≤ node_most w) c.in_ok-read_node.ensures.is.width (lent_few c.lent.ensures c.count-at-end.ensures.few) in
    let all = times_up c.args.of.width c.loop-at.at m (omega (arith, few, c.loop-at.invariant.low, (lent_count c.lent.ensures c.count-at-end.ensures.count))) in
    widens (λ key there. there) (omega (arith, up, all)) (omega (arith, up, all)) (then_call c.loop-at.invariant.step c.give_page-2.ensures.did)

pub returns-in_err-read_node-clause-did : goal.returns-in_err-read_node-clause-did
returns-in_err-read_node-clause-did g t c =
    let up = inner_up c.args.of.width c.args.level (omega arith) in
    fails _ c.from_residual.ensures.1 (λ key none. absurd none) (omega (arith, up)) (omega (arith, up)) c.in_err-read_node.ensures.did
