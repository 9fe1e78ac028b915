use Rattle.std.proofs.Common.{◌≡◌, ◌∙◌, ℕ, List, [], ap, subst, arith}
use Rattle.std.proofs.lemmas.List.{take_all}
use Rattle.rss_base.specs.declared.key.PageKey.{PageKey}
use Rattle.rss_base.specs.declared.key.Space.TheVariants.{Image as ImageSpace}
use Rattle.rss_base.specs.Steps.{pages_in}
use Rattle.rss_base.proofs.Steps.{then, then_call, within, fails, widens}
use Rattle.rss_node.specs.declared.pair.Nodes.{Nodes}
use Rattle.rss_image.specs.Images.{nodes_of, Becomes}
use Rattle.rss_image.specs.declared.image.Image.{Image}
use Rattle.rss_entries.specs.Building.{pair_list, BuildsMade}
use Rattle.rss_entries.proofs.Built.{Built, starts_built, may_put_next, spare_next, built_next, below_next, list_more, list_long}
use Rattle.rss_entries.proofs.building.build.Goals as goal

-- the pages of an image are those of its segment
same_pages : (image : Image) {of : Nodes} → nodes_of image ≡ of → (key : PageKey) → pages_in image.segment ImageSpace key → pages_in of.segment ImageSpace key
same_pages image same key touched = subst (λ (of : Nodes). pages_in of.segment ImageSpace key) same touched

pub loop-key-init : goal.loop-key-init
loop-key-init g c = record {
  of = c.in_ok-image.ensures.is;
  low = c.in_ok-image.ensures.low;
  step = c.in_ok-image.ensures.did.step;
  built = λ told. starts_built (c.in_ok-image.ensures.created told) (c.in_ok-image.ensures.made told);
}

pub insert-requires-clause-may : goal.insert-requires-clause-may
insert-requires-clause-may g c = λ told.
    let pairs = c.args.pairs.now in
    let i = c.loop-key.key-index in
    let next = c.loop-key-item.result in
    let before = c.loop-key.invariant.built (c.loop-key.invariant.step.passes.leaves.told.1 told) in
    ∣ may_put_next before _ (below_next pairs i next c.loop-key-test.true c.loop-key-item.is c.requires.rising) (omega (arith, c.requires.few, list_long pairs i (omega arith))) ∣₁

pub insert-requires-clause-room : goal.insert-requires-clause-room
insert-requires-clause-room g c = λ told.
    let pairs = c.args.pairs.now in
    let i = c.loop-key.key-index in
    let before = c.loop-key.invariant.built (c.loop-key.invariant.step.passes.leaves.told.1 told) in
    spare_next before c.args.width _ (ap (λ (of : Nodes). of.width) c.loop-key.invariant.of) (omega (arith, list_long pairs i (omega arith), c.loop-key-test.true)) c.requires.room

pub returns-in_err-insert-clause-did : goal.returns-in_err-insert-clause-did
returns-in_err-insert-clause-did g c =
    fails _ c.from_residual-in_err-insert.ensures.1 (λ key touched. touched) (omega arith) (omega arith)
    (then_call {asks_then = 255} {outs_then = 1022} c.loop-key.invariant.step (widens (same_pages c.loop-key.image c.loop-key.invariant.of) (omega arith) (omega arith) c.in_err-insert.ensures.did))

pub loop-key-preserved : goal.loop-key-preserved
loop-key-preserved g c =
    let pairs = c.args.pairs.now in
    let i = c.loop-key.key-index in
    let next = c.loop-key-item.result in
    let before = c.loop-key.invariant in
    let does = c.in_ok-insert.ensures in
    record {
      of = does.of ∙ before.of;
      low = does.low;
      step = within (λ key touched. touched) (omega arith) (omega arith) (then {asks_then = 255} {outs_then = 1022} before.step (within (same_pages c.loop-key.image before.of) (omega arith) (omega arith) does.did.step));
      built = λ told.
          let told_mid = before.step.passes.leaves.told.0 told in
          subst (Built c.insert.new.self (g.P.Pages.view c.args.pages.now) (g.P.Pages.view c.insert.new.pages)) (list_more pairs i next c.loop-key-test.true c.loop-key-item.is)
          (built_next (before.built told) _ (below_next pairs i next c.loop-key-test.true c.loop-key-item.is c.requires.rising) does.of (does.puts told_mid) (does.made told_mid));
    }

-- all pairs were passed
pub returns-clause-built : goal.returns-clause-built
returns-clause-built g c = λ told. subst (λ (ps : List (List ℕ)). Becomes c.loop-key.image c.loop-key.image (g.P.Pages.view c.args.pages.now) (g.P.Pages.view c.loop-key.pages) [] ps)
    (ap pair_list (take_all c.loop-key.key-index c.args.pairs.now (omega arith))) (c.loop-key.invariant.built told).becomes

pub returns-clause-made : goal.returns-clause-made
returns-clause-made g c = λ told. subst (λ (ps : List (List ℕ)). BuildsMade c.loop-key.image ps (g.P.Pages.view c.loop-key.pages))
    (ap pair_list (take_all c.loop-key.key-index c.args.pairs.now (omega arith))) (c.loop-key.invariant.built told).made
